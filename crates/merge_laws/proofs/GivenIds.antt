-- The ids that a merge gives the symbols of an object: what each add is answered; 0 for the first symbol, if it is null.
-- Assumes nothing.
use Prim.Native.Nat.{ℕ, suc, ◌+◌, ◌<◌, ◌≤◌}
use Rattle.std.proofs.Common.{arith, zero-add, sym, ◌∙◌, length-set, get_or-set_other}
use Rattle.std.proofs.Math.Path.{◌≡◌, refl, ap, subst}
use Rattle.std.specs.Prelude.{Bool, ◌≢◌, eqb, length, None}
use Rattle.std.proofs.Math.Bool.{true, false, cond}
use Rattle.std.proofs.lemmas.Bool.{false≢true}
use mathlib.Core.List.{List}
use Rattle.std.proofs.Math.ListN.{get_or}
use Rattle.std.proofs.Math.Seq.{get_or-set_same}
use borrow.Author.Tests.{lt-ltb, ne_eqb}
use Rattle.cells.specs.Proof.Split.{by-test}
use Rattle.link.specs.Said.{value_in}
use Rattle.interner.specs.Names.{store_of, fits_of}
use Rattle.symbol.specs.declared.Row.{Row}
use Rattle.symbol.specs.Codes.{successor}
use Rattle.symbol_resolution.specs.Decision.{Decision, Refuse, Nothing, Keep}
use Rattle.symbol_resolution.specs.Decide.{refusal_of}
use Rattle.symbols.specs.Calls.{Left}
use Rattle.symbols.specs.Add.{committed_of, add_row_of}
use Rattle.elf_object.specs.Rows.{rows_in}
use Rattle.merge_symbols.specs.Plan.{Input, input_of, defines_of, rule_of, judged_of, rowed_of, read_of, planned_of, filtered_at}
use Rattle.merge_symbols.specs.Stage as Symbols
use Rattle.merge_symbols.specs.Stage.{cell_of, accept_row, kept_of, commit_of, view, symbol_named, looked_of, symbol_of, symbols_from, symbols_of}
use Rattle.merge_build.specs.Relocations.{id_in}
use Rattle.symbol_laws.proofs.View as Views
use Rattle.symbol_laws.proofs.View.{View, refused, kept, amended, replaced, appended, local, decided}
use Rattle.symbol_laws.specs.History.{State, table, issue, part_next, put_of}
use Rattle.symbol_laws.specs.Below.{Below}
use Rattle.symbol_laws.proofs.BelowLemmas.{part-below}
use Rattle.merge_laws.proofs.Loop.{loop, loop-holds, loop-going, loop-next}
use Rattle.merge_laws.specs.MergeSteps.{adds_of, adds}
use Rattle.merge_laws.specs.SymbolStage as SymbolStage
use Rattle.merge_laws.specs.SymbolStage.{number_of}
use Rattle.merge_laws.proofs.SymbolStageLemmas.{symbols-loop}
use Rattle.merge_laws.specs.SymbolIds.{is_dropped, name_of, plan_of}
use Rattle.merge_laws.proofs.SymbolIds.{commit-number, ids_set}
use Rattle.merge_laws.proofs.SymbolIdsLemmas.{symbol-id}
use Rattle.merge_laws.proofs.Built.{loop-since}
use Rattle.merge_laws.specs.GivenIds.{x, p, first, answer}

-- ---- one symbol

module _ (o : Symbols.Object) (s : Symbols.State) (i : ℕ) where
  pub ids-other : (k : ℕ) → k ≢ i → get_or (symbol_of o s i).ids k 0 ≡ get_or s.ids k 0
  unfolding symbol_of looked_of symbol_named commit_of kept_of accept_row
  ids-other k u =
      by-test (is_dropped o s i) (λ d. rw d (get_or-set_other s.ids i k 0 0 u))
      (λ d.
      by-test (x o s i).found
      (λ a.
      by-test (eqb (refusal_of (p o s i).decision) 2) (λ b. rw (d, a, b))
      (λ b. by-test (eqb (refusal_of (p o s i).decision) 0) (λ c. rw (d, a, b, c) (get_or-set_other s.ids i k _ 0 u)) (λ c. rw (d, a, b, c))))
      (λ a. rw (d, a)))

  ids-long : length (symbol_of o s i).ids ≡ length s.ids
  unfolding symbol_of looked_of symbol_named commit_of kept_of accept_row
  ids-long =
      by-test (is_dropped o s i) (λ d. rw d (length-set s.ids i 0))
      (λ d.
      by-test (x o s i).found
      (λ a.
      by-test (eqb (refusal_of (p o s i).decision) 2) (λ b. rw (d, a, b))
      (λ b. by-test (eqb (refusal_of (p o s i).decision) 0) (λ c. rw (d, a, b, c) (length-set s.ids i _)) (λ c. rw (d, a, b, c))))
      (λ a. rw (d, a)))

  abbrev o' : Input
  o' = input_of o.entries o.work

  -- one that is dropped has no id
  pub dropped-cell : is_dropped o s i ≡ true → i < length s.ids → get_or (symbol_of o s i).ids i 0 ≡ 0
  unfolding symbol_of
  dropped-cell d h = rw d (get_or-set_same s.ids i 0 0 h)

  module _ (kept : is_dropped o s i ≡ false) where
    found-by : (symbol_of o s i).stage.number ≡ 0 → (x o s i).found ≡ true
    unfolding symbol_of looked_of
    found-by e = by-test (x o s i).found (λ t. t) (λ t. let z : ◌≡◌ {A = ℕ} 9 0 = rw (kept, t) at e in absurd (omega arith))

    named-number : (symbol_of o s i).stage.number ≡ 0 → (symbol_named o' s (x o s i).name i).stage.number ≡ 0
    unfolding symbol_of looked_of
    named-number e = rw (kept, found-by e) at e

    -- a symbol that isn't added: id 0 for the first one, else none
    other-decision : adds o' (x o s i).name i ≡ false → refusal_of (p o s i).decision ≡ 0 → (p o s i).decision ≡ cond (first o s i) (Keep (record { 0 = 0 })) Nothing
    unfolding planned_of read_of rowed_of judged_of rule_of adds_of
    other-decision b z =
        by-test (fits_of (store_of s.bytes s.names s.stage.link) (p o s i).row.name (length (x o s i).name))
        (λ f.
        rw f
        (by-test (first o s i) (λ t. rw t)
        (λ t.
        by-test (eqb (filtered_at o.entries o.work i).kind 4) (λ u. rw (t, u))
        (λ u.
        by-test (defines_of o.work (filtered_at o.entries o.work i).section) (λ v. rw (t, u, v)) (λ v. absurd (false≢true (sym (rw (t, u, v) at b))))))))
        (λ f. let q : ◌≡◌ {A = ℕ} 2 0 = rw f at z in absurd (omega arith))

    other-cell : adds o' (x o s i).name i ≡ false → (symbol_of o s i).stage.number ≡ 0 → i < length s.ids → get_or (symbol_of o s i).ids i 0 ≡ cond (first o s i) 1 0
    unfolding symbol_of looked_of successor
    other-cell b e h =
        let z : refusal_of (p o s i).decision ≡ 0 = commit-number o' s (x o s i).name i (named-number e) in
        rw (kept, found-by e)
        (ap (λ (l : List ℕ). get_or l i 0) (ids_set o' s (x o s i).name i z) ∙ get_or-set_same s.ids i _ 0 h
        ∙ ap (λ (d : Decision). cell_of d (part_next (issue (x o s i).name) (SymbolStage.table_in s)).link.symbols) (other-decision b z) ∙ pick (first o s i))
      where
        pick : (t : Bool) → cell_of (cond t (Keep (record { 0 = 0 })) Nothing) (part_next (issue (x o s i).name) (SymbolStage.table_in s)).link.symbols ≡ cond t 1 0
        pick true = refl
        pick false = refl

    added-cell : adds o' (x o s i).name i ≡ true → (symbol_of o s i).stage.number ≡ 0 → i < length s.ids → get_or (symbol_of o s i).ids i 0 ≡ successor (answer o s i)
    added-cell b e h = ap (λ (l : List ℕ). get_or l i 0) (symbol-id o s i kept (found-by e) b e) ∙ get_or-set_same s.ids i (successor (answer o s i)) 0 h

-- ---- an answered id is small

module _ (s : State) (b : Below s) (r : Row) where
  Small : Left → Type 0
  Small x = value_in x.said ≤ 65535

  decides : (d : Decision) → decided (table s) r ≡ d → Small (committed_of (table s) r None d) → Small (put_of s r)
  unfolding add_row_of
  decides d e h = subst (λ (d : Decision). Small (committed_of (table s) r None d)) (sym e) h

  small_by : View (table s) r → Small (put_of s r)
  unfolding Small committed_of
  small_by (refused n e u) =
      decides (Refuse n) e (by-test (eqb n 21) (λ a. rw a (omega arith)) (λ a. rw (a, ne_eqb n 0 u) (omega arith)))
  small_by (kept e k z w q p) = decides _ e (omega (arith, b.few, b.held r.name.0 k.issued z))
  small_by (amended e k z w q) = decides _ e (omega (arith, b.few, b.held r.name.0 k.issued z))
  small_by (replaced e k z w) = decides _ e (omega (arith, b.few, b.held r.name.0 k.issued z))
  small_by (appended e f k z) = decides _ e (omega (arith, f.few))
  small_by (local e f v) = decides _ e (omega (arith, f.few))

  pub small : value_in (put_of s r).said ≤ 65535
  unfolding Small
  small = small_by (Views.view (table s) r)

-- ---- the symbols of a table

module _ (o : Symbols.Object) (s : Symbols.State) (z : s.stage.number ≡ 0) (ok : (symbols_of o s).stage.number ≡ 0) (k : ℕ) (low : k < rows_in o.entries) (room : k < length s.ids) where
  abbrev before : Symbols.State
  before = symbols_from o k 0 s

  going : (symbols_from o (suc k) 0 s).stage.number ≡ 0
  unfolding symbols_of
  going =
      ap number_of (symbols-loop o (suc k) 0 s)
      ∙ loop-going number_of (symbol_of o) (rows_in o.entries) 0 (suc k) s z (ap number_of (sym (symbols-loop o (rows_in o.entries) 0 s)) ∙ ok) low

  -- the cell of symbol k at the end is what it was given
  cell_stays : (v : ℕ) → ((symbol_of o before k).stage.number ≡ 0 → get_or (symbol_of o before k).ids k 0 ≡ v) → get_or (symbols_of o s).ids k 0 ≡ v
  unfolding symbols_of
  cell_stays v f =
      rw (symbols-loop o (rows_in o.entries) 0 s)
      (loop-since number_of (symbol_of o) (λ (t : Symbols.State). get_or t.ids k 0 ≡ v) k (λ t j h e. ids-other o t j k (λ q. omega arith) ∙ e)
      (rows_in o.entries) 0 k s (zero-add k) z (ap number_of (sym (symbols-loop o (rows_in o.entries) 0 s)) ∙ ok) low
      (λ e. rw (← symbols-loop o k 0 s) (f (rw (← symbols-loop o k 0 s) at e))))

  before-long : length before.ids ≡ length s.ids
  before-long =
      rw (symbols-loop o k 0 s)
      (loop-holds number_of (symbol_of o) (λ (t : Symbols.State). length t.ids ≡ length s.ids) (λ t j e. ids-long o t j ∙ e) k 0 s refl)

  -- the id that a cell with one holds
  abbrev given : ℕ
  given = id_in (symbols_of o s).ids k

  pub data IdOf : Type 0 where
    -- "The first symbol, if named empty, undefined and of type 0, maps to id 0"
    null : first o before k ≡ true → given ≡ 0 → IdOf
    -- the answer to its add
    answered : is_dropped o before k ≡ false → (name_of o k).found ≡ true → adds (input_of o.entries o.work) (name_of o k).name k ≡ true → (symbol_of o before k).stage.number ≡ 0 → given ≡ answer o before k → IdOf

  here-going : (symbol_of o before k).stage.number ≡ 0
  here-going =
      let e : before ≡ loop number_of (symbol_of o) k 0 s = symbols-loop o k 0 s in
      let g : number_of (loop number_of (symbol_of o) k 0 s) ≡ 0 =
      loop-going number_of (symbol_of o) (suc k) 0 k s z (ap number_of (sym (symbols-loop o (suc k) 0 s)) ∙ going) (omega arith) in
      ap (λ (t : Symbols.State). number_of (symbol_of o t k)) e
      ∙ ap (λ (j : ℕ). number_of (symbol_of o (loop number_of (symbol_of o) k 0 s) j)) (sym (zero-add k))
      ∙ ap number_of (sym (loop-next number_of (symbol_of o) k 0 s g)) ∙ ap number_of (sym (symbols-loop o (suc k) 0 s)) ∙ going

  pub dropped-none : is_dropped o before k ≡ true → get_or (symbols_of o s).ids k 0 ≡ 0
  dropped-none r = cell_stays 0 (λ e. dropped-cell o before k r (omega (arith, before-long)))

  pub id-given : Below (SymbolStage.table_in before) → get_or (symbols_of o s).ids k 0 ≢ 0 → IdOf
  unfolding id_in successor
  id-given b u =
      by-test (is_dropped o before k)
      (λ r. absurd (u (dropped-none r)))
      (λ r.
      by-test (adds (input_of o.entries o.work) (name_of o k).name k)
      (λ t.
      let v : ℕ = answer o before k in
      let c : get_or (symbols_of o s).ids k 0 ≡ successor v = cell_stays (successor v) (λ e. added-cell o before k r t e (omega (arith, before-long))) in
      let h : v ≤ 65535 = small (part_next (issue (name_of o k).name) (SymbolStage.table_in before)) (part-below (issue (name_of o k).name) (SymbolStage.table_in before) b) (plan_of o before k).row in
      let n : successor v ≡ v + 1 = rw (lt-ltb v 0xffffffffffffffff (omega arith)) in
      let d : get_or (symbols_of o s).ids k 0 ≡ v + 1 = c ∙ n in
      answered r (found-by o before k r here-going) t here-going (rw (d, ne_eqb (v + 1) 0 (λ q. omega arith)) (omega arith)))
      (λ t.
      let c : get_or (symbols_of o s).ids k 0 ≡ cond (first o before k) 1 0 = cell_stays _ (λ e. other-cell o before k r t e (omega (arith, before-long))) in
      by-test (first o before k) (λ f. let d : get_or (symbols_of o s).ids k 0 ≡ 1 = c ∙ rw f in null f (rw d)) (λ f. absurd (u (c ∙ rw f)))))
