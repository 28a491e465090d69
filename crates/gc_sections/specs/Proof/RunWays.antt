-- The ways through the functions of Sweep and Run.
-- Assumes nothing.
use Rattle.link.specs.declared.SymbolId.{SymbolId}
use Rattle.std.specs.Prelude.{ℕ, ◌+◌, ◌≤◌, ◌≡◌, refl, Bool, true, false, cond, List, eqb, ltb, get_or, set, Option, None, Some, Ok, Err}
use Rattle.std.proofs.Common.{arith, sym, ◌∙◌}
use borrow.Author.Tests.{eq-eqb, ne_eqb, eqb-true, ltb-false}
use Rattle.cells.specs.Proof.Split.{by-test}
use Rattle.link.specs.declared.Link.{Link}
use Rattle.link.specs.declared.Lent.{Lent}
use Rattle.link.specs.declared.cause.Refusal.{Refusal}
use Rattle.link.specs.declared.SectionId.{SectionId}
use Rattle.link.specs.Bounds.{lesser, section_rows, symbol_rows}
use Rattle.link.specs.Judge as Link
use Rattle.link.specs.Judge.{refused, change_of, judged}
use Rattle.link.specs.Proof.Judged.{judged-err, judged-refused, judged-fine}
use Rattle.link.specs.Proof.Passed.{passed-sections, passed-slots, passed-symbols}
use Rattle.symbols.specs.Remove.{remove_row_of}
use Rattle.sections.specs.Rows.{dropped_of, is_built}
use Rattle.gc_sections.specs.Roots.{symbol_id, section_id, lead_of}
use Rattle.gc_sections.specs.Reach.{Walk, walked}
use Rattle.gc_sections.specs.Sweep.{Swept, swept_of, Purged, purged_of, unreached, falls, drop_unreached, purge_lead, purge_symbol, dropped_mark}
use Rattle.gc_sections.specs.Run.{Left, left, Lists, judge_of, judged as judgement, finish_of, finished, collect_of, run_of}

-- ---- the pass over the sections

module _ (n i : ℕ) (s t : Swept) (b : Bool) (e : b ≡ unreached n s.sections s.work i) where
  pub drop-stays : b ≡ false → t ≡ s → t ≡ drop_unreached n i s
  unfolding drop_unreached
  drop-stays f q = go (is_built s.sections n i) (eqb (get_or s.work i 0) 0) (sym e ∙ f)
    where
      go : (u v : Bool) → cond u (cond v true false) false ≡ false → t ≡ cond u (cond v (swept_of (dropped_of s.sections (section_id i)) (set s.work i dropped_mark) (s.count + 1)) s) s
      go true true k = absurd (cc)
      go true false k = q
      go false v k = q

  pub drop-goes : b ≡ true → t ≡ swept_of (dropped_of s.sections (section_id i)) (set s.work i dropped_mark) (s.count + 1) → t ≡ drop_unreached n i s
  unfolding drop_unreached
  drop-goes f q = go (is_built s.sections n i) (eqb (get_or s.work i 0) 0) (sym e ∙ f)
    where
      go : (u v : Bool) → cond u (cond v true false) false ≡ true → t ≡ cond u (cond v (swept_of (dropped_of s.sections (section_id i)) (set s.work i dropped_mark) (s.count + 1)) s) s
      go true true k = q
      go true false k = absurd (cc)
      go false v k = absurd (cc)

-- ---- the pass over the symbols

module _ (l : Link) (work : List ℕ) (i : ℕ) (s t : Purged) (b : Bool) (e : b ≡ falls work l.sections (lead_of s.rows.symbols l.symbols (symbol_id i))) where
  pub purge-stays : b ≡ false → t ≡ s → t ≡ purge_symbol l work i s
  unfolding purge_symbol
  purge-stays f q = go (lead_of s.rows.symbols l.symbols (symbol_id i)) (sym e ∙ f)
    where
      go : (k : Option SectionId) → falls work l.sections k ≡ false → t ≡ purge_lead l work i k s
      go None g = q
      go (Some x) g = rw g q

  pub purge-goes : b ≡ true → t ≡ purged_of (remove_row_of l s.rows (symbol_id i)) (s.count + 1) → t ≡ purge_symbol l work i s
  unfolding purge_symbol
  purge-goes f q = go (lead_of s.rows.symbols l.symbols (symbol_id i)) (sym e ∙ f)
    where
      go : (k : Option SectionId) → falls work l.sections k ≡ true → t ≡ purge_lead l work i k s
      go None g = absurd (cc)
      go (Some x) g = rw g q

-- ---- the call

module _ (l : Link) (x : Lists) (symbols sections work : List ℕ) (entry : Option SymbolId) (t : Left) where
  pub run-refused : (r : Refusal) → judged (judgement l x symbols sections work) ≡ Err r → t ≡ left symbols sections work l (Err r)
      → t ≡ run_of l x symbols sections entry work
  unfolding run_of
  run-refused r e q =
      simp (ne_eqb _ _ (judged-refused _ r e), ← judged-err _ r e) q

  pub run-done : (u : Unit {0}) (w : Walk) → judged (judgement l x symbols sections work) ≡ Ok u → w ≡ walked l x.bytes x.names symbols sections x.lists x.marks entry work
      → t ≡ finish_of l symbols sections w.work w.visitor.unbuilt → t ≡ run_of l x symbols sections entry work
  unfolding run_of collect_of finished
  run-done u w e f q = simp (eq-eqb _ _ (judged-fine _ u e), ← f) q

-- ---- what passing the head gives

pub never : (b : Bool) (x y : Refusal) → (x.number ≡ 0 → ⊥) → (cond b x y).number ≡ 0 → (b ≡ false) × (y.number ≡ 0)
never true x y n e = absurd (n e)
never false x y n e = (refl, e)

pub judge-change : (l : Link) (n : Lent) (marks work : ℕ) → (judge_of l n marks work).number ≡ 0 → (change_of l n).number ≡ 0
unfolding judge_of
judge-change l n marks work e =
    by-test (eqb (change_of l n).number 0) (λ t. eqb-true _ _ t) (λ t. rw t at e)

lesser-left : (a b : ℕ) → lesser a b ≤ a
unfolding lesser
lesser-left a b = by-test (ltb a b) (λ t. rw t (omega arith)) (λ t. rw t (ltb-false a b t))

module _ (l : Link) (n : Lent) (marks work : ℕ) (head : Refusal) (e : head ≡ judge_of l n marks work) (z : head.number ≡ 0) where
  pub counts-lent : (l.sections ≤ section_rows l.slots) × (l.slots ≤ n.sections) × (l.symbols ≤ symbol_rows n.symbols)
  unfolding change_of
  counts-lent =
      let a = judge-change l n marks work (rw (← e) z) in
      let b = never l.broken (refused 22 0) (Link.judge_of l n) (λ q. omega arith) a in
      (passed-sections l n b.1, passed-slots l n b.1, passed-symbols l n b.1)

  pub few-sections : l.sections ≤ 65535
  few-sections = omega (arith, counts-lent.0, lesser-left 65535 l.slots)
