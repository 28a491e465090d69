-- "A collection that drops nothing removes nothing": it leaves the link as it was. So does a refused one.
-- Assumes nothing.
use Rattle.link.specs.declared.cause.Refusal.{Refusal}
use Rattle.gc_sections.specs.declared.Dropped.{Dropped}
use Rattle.link.specs.declared.SectionId.{SectionId}
use Rattle.link.specs.declared.SymbolId.{SymbolId}
use Prim.Native.Nat.{ℕ, zero, suc, ◌+◌, ◌≤◌}
use Rattle.std.proofs.Common.{arith, sym, ap, ◌∙◌, subst}
use Rattle.std.proofs.Math.Decide.{ℕ_discrete}
use Rattle.std.specs.Prelude.{◌≡◌, List, ◌≢◌, eqb, get_or, Option, Result, None, Some, Ok, Err}
use Rattle.std.proofs.Math.Path.{refl}
use Rattle.cells.specs.Proof.Split.{by-test}
use Rattle.byte_slices.specs.Proof.Ways.{pick}
use Rattle.link.specs.declared.Link.{Link}
use Rattle.symbols.specs.Remove.{Rows, rows_of}
use Rattle.sections.specs.Rows.{is_built}
use Rattle.gc_sections.specs.Each.{each}
use Rattle.gc_sections.specs.Roots.{symbol_id, lead_of}
use Rattle.gc_sections.specs.Reach.{Walk, walked}
use Rattle.gc_sections.specs.Sweep.{Swept, swept_of, Purged, purged_of, drop_unreached, dropped_now, purge_lead, purge_symbol, sweep_sections, purge_symbols}
use Rattle.gc_sections.specs.Run.{Left, Lists, number_of, judged, purge_of, sweep_of, finish_of, finished, collect_of, run_of}
use Rattle.symbol_laws.specs.History.{with_rows}
use Rattle.merge_laws.specs.Calls.{Linked, linked}
use Rattle.link_laws.specs.Calls.{Drops, collect, plain_collect, lists_in, call_left, call_next, Removes}
use Rattle.link_laws.proofs.PlainCalls.{Compared, alike, many, compared, many-next}

-- ---- a loop whose turns either leave all or count one more

module _ {S : Type 0} (count : S → ℕ) where
  pub data Turn (s t : S) : Type 0 where
    idle : t ≡ s → Turn s t
    counts : count t ≡ count s + 1 → Turn s t

  record Counted (s t : S) : Type 0 where
    more : count s ≤ count t
    same : count t ≡ count s → t ≡ s

  turn-counted : (s t u : S) → Turn s t → Counted t u → Counted s u
  turn-counted s t u (idle e) c =
      record { more = omega (arith, c.more, ap count e); same = λ h. c.same (h ∙ ap count (sym e)) ∙ e }
  turn-counted s t u (counts e) c = record { more = omega (arith, c.more, e); same = λ h. absurd (omega (arith, c.more, e, h)) }

  loop-counted : (f : ℕ → S → S) → ((i : ℕ) (s : S) → Turn s (f i s)) → (n i : ℕ) (s : S) → Counted s (each f n i s)
  unfolding each
  loop-counted f turn zero i s = record { more = omega arith; same = λ h. refl }
  loop-counted f turn (suc n) i s = turn-counted s (f i s) (each f n (i + 1) (f i s)) (turn i s) (loop-counted f turn n (i + 1) (f i s))

  pub loop-idle : (f : ℕ → S → S) → ((i : ℕ) (s : S) → Turn s (f i s)) → (n i : ℕ) (s : S) → count (each f n i s) ≡ count s → each f n i s ≡ s
  loop-idle f turn n i s e = (loop-counted f turn n i s).same e

-- ---- the two passes of the sweep

abbrev swept_count : Swept → ℕ
swept_count s = s.count

abbrev purged_count : Purged → ℕ
purged_count s = s.count

drop-turn : (n i : ℕ) (s : Swept) → Turn swept_count s (drop_unreached n i s)
unfolding drop_unreached
drop-turn n i s =
    pick (Turn swept_count s) (is_built s.sections n i) _ _
    (λ a. pick (Turn swept_count s) (eqb (get_or s.work i 0) 0) _ _ (λ b. counts refl) (λ b. idle refl)) (λ a. idle refl)

purge-turn : (l : Link) (work : List ℕ) (i : ℕ) (s : Purged) → Turn purged_count s (purge_symbol l work i s)
unfolding purge_symbol
purge-turn l work i s = go (lead_of s.rows.symbols l.symbols (symbol_id i))
  where
    go : (k : Option SectionId) → Turn purged_count s (purge_lead l work i k s)
    go None = idle refl
    go (Some x) = pick (Turn purged_count s) (dropped_now work l.sections x.0) _ _ (λ a. counts refl) (λ a. idle refl)

sections-idle : (n : ℕ) (sections work : List ℕ) → (sweep_sections n sections work).count ≡ 0 → sweep_sections n sections work ≡ swept_of sections work 0
unfolding sweep_sections
sections-idle n sections work e = loop-idle swept_count (drop_unreached n) (drop-turn n) n 0 (swept_of sections work 0) e

symbols-idle : (l : Link) (work : List ℕ) (rows : Rows) → (purge_symbols l work rows).count ≡ 0 → purge_symbols l work rows ≡ purged_of rows 0
unfolding purge_symbols
symbols-idle l work rows e = loop-idle purged_count (purge_symbol l work) (purge-turn l work) l.symbols 0 (purged_of rows 0) e

-- ---- the call

module _ (l : Link) (symbols sections : List ℕ) where
  -- rows and link as they were
  abbrev Same : Left → Type 0
  Same r = (r.symbols ≡ symbols) × (r.sections ≡ sections) × (r.link ≡ l)

  sweep-idle : (work : List ℕ) → (Drops (sweep_of l symbols sections work).answer → ⊥) → Same (sweep_of l symbols sections work)
  unfolding sweep_of purge_of
  sweep-idle work q = go (sweep_sections l.sections sections work) (sections-idle l.sections sections work) q
    where
      go : (s : Swept) → (s.count ≡ 0 → s ≡ swept_of sections work 0) → (Drops (purge_of l symbols s).answer → ⊥) → Same (purge_of l symbols s)
      go s f q = rest (purge_symbols l s.work (rows_of symbols s.sections)) (symbols-idle l s.work (rows_of symbols s.sections)) none
        where
          p : Purged
          p = purge_symbols l s.work (rows_of symbols s.sections)

          none : s.count + p.count ≡ 0
          none = settled (ℕ_discrete (s.count + p.count) 0)
            where
              settled : Dec (s.count + p.count ≡ 0) → s.count + p.count ≡ 0
              settled (yes e) = e
              settled (no e) = absurd (q e)

          rest : (p : Purged) → (p.count ≡ 0 → p ≡ purged_of (rows_of symbols s.sections) 0) → s.count + p.count ≡ 0
              → (p.rows.symbols ≡ symbols) × (p.rows.sections ≡ sections) × (l ≡ l)
          rest p g z =
              let a : s ≡ swept_of sections work 0 = f (omega arith) in
              let b : p ≡ purged_of (rows_of symbols s.sections) 0 = g (omega arith) in
              (ap (λ (p : Purged). p.rows.symbols) b, ap (λ (p : Purged). p.rows.sections) b ∙ ap (λ (s : Swept). s.sections) a, refl)

  module _ (x : Lists) (entry : Option SymbolId) (work : List ℕ) where
    abbrev w : Walk
    w = walked l x.bytes x.names symbols sections x.lists x.marks entry work

    pub run-idle : (Drops (run_of l x symbols sections entry work).answer → ⊥) → Same (run_of l x symbols sections entry work)
    unfolding run_of collect_of finished
    run-idle q =
        by-test (eqb (judged l x symbols sections work).number 0) (λ t. rw t (go w.visitor.unbuilt (rw t at q))) (λ t. rw t (refl, refl, refl))
      where
        go : (u : Option SectionId) → (Drops (finish_of l symbols sections w.work u).answer → ⊥) → Same (finish_of l symbols sections w.work u)
        go None q = sweep-idle w.work q
        go (Some id) q = (refl, refl, refl)

    -- a refused one drops nothing
    said-number : (run_of l x symbols sections entry work).said.number ≡ number_of (run_of l x symbols sections entry work).answer
    unfolding run_of collect_of finished sweep_of purge_of
    said-number =
        pick (λ (r : Left). r.said.number ≡ number_of r.answer) (eqb (judged l x symbols sections work).number 0) _ _ (λ t. go w.visitor.unbuilt) (λ t. refl)
      where
        go : (u : Option SectionId) → (finish_of l symbols sections w.work u).said.number ≡ number_of (finish_of l symbols sections w.work u).answer
        go None = refl
        go (Some id) = refl

    pub refused-drops : (run_of l x symbols sections entry work).said.number ≢ 0 → Drops (run_of l x symbols sections entry work).answer → ⊥
    refused-drops u = go (run_of l x symbols sections entry work).answer (λ e. u (said-number ∙ e))
      where
        go : (a : Result Dropped Refusal) → number_of a ≢ 0 → Drops a → ⊥
        go (Ok e) z d = z refl
        go (Err r) z d = d

pub drops-nothing : (marks : List ℕ) (entry : Option SymbolId) (work : List ℕ) (s : Linked) → (Removes (collect marks entry work) s → ⊥)
    → call_next (collect marks entry work) s ≡ s
drops-nothing marks entry work s q =
    let r : Left = run_of s.table.link (lists_in s marks) s.table.symbols s.table.sections entry work in
    let (a, b, c) = run-idle s.table.link s.table.symbols s.table.sections (lists_in s marks) entry work q in
    ap (λ (y : List ℕ). linked (with_rows s.table (rows_of y r.sections) r.link) s.inputs s.lists) a
    ∙ ap (λ (y : List ℕ). linked (with_rows s.table (rows_of s.table.symbols y) r.link) s.inputs s.lists) b
    ∙ ap (λ (l : Link). linked (with_rows s.table (rows_of s.table.symbols s.table.sections) l) s.inputs s.lists) c

pub plain-drops-nothing : (marks : List ℕ) (entry : Option SymbolId) (work : List ℕ) (s : Linked) → (Removes (plain_collect marks entry work) s → ⊥)
    → call_next (plain_collect marks entry work) s ≡ s
plain-drops-nothing marks entry work s q = go (compared marks entry work s)
  where
    go : Compared marks entry work s → call_next (plain_collect marks entry work) s ≡ s
    go (alike r t a) = t ∙ drops-nothing marks entry work s (λ (d : Drops (call_left (collect marks entry work) s).answer). q (subst Drops (sym a) d))
    go (many m u v e) = many-next marks entry work s e
