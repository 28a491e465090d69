-- A lookup by halving answers as the one by the names' rows.
-- Assumes nothing.
use Rattle.std.specs.Prelude.{ℕ, ◌<◌, ◌≤◌, ◌≡◌, refl, ◌≢◌, List, eqb, leb, ltb, get_or, length, Result, Ok, Err}
use Rattle.std.proofs.Common.{arith, sym, ap, ◌∙◌, length-take, length-take-le, eq-eqb, ne_eqb, le-ltb}
use Rattle.std.proofs.lemmas.List.{get_or-take}
use borrow.Author.Tests.{le-leb, lt-leb, eqb-true, eqb-false, leb-true, leb-false, ltb-false}
use Rattle.cells.specs.Proof.Split.{by-test}
use Rattle.link.specs.declared.Interned.{Interned}
use Rattle.link.specs.declared.Link.{Link}
use Rattle.link.specs.Bounds.{lesser}
use Rattle.link.specs.Judge.{judge_of}
use Rattle.symbol_laws.proofs.View.{lesser-first}
use Rattle.interner.specs.Names.{name_at}
use Rattle.interner_laws.specs.Good.{Good}
use Rattle.symbol.specs.Row.{state_at}
use Rattle.symbol_resolution.specs.declared.rows.Holder.{Holder}
use Rattle.symbol_resolution.specs.declared.rows.Holder.TheVariants.{Nobody}
use Rattle.symbol_resolution.specs.Holder.{global_at, held_by, holder_of}
use Rattle.symbols.specs.Lookup.{held_of}
use Rattle.symbol_laws.specs.History.{State, store}
use Rattle.link_laws.specs.LocalRows.{Shown}
use Rattle.name_index.specs.Named.{Rows, name_of_row}
use Rattle.name_index.specs.Seek.{seek_of}
use Rattle.name_index.specs.Index.{Index, used, judge_index}
use Rattle.name_index_laws.specs.InOrder.{name_in}
use Rattle.name_index_laws.proofs.Terms as Laws
use Rattle.indexed_table.specs.Lookup.{lent, held_at, held_in, judge_lookup, get_global_of}
use Rattle.index_laws.specs.Bearing.{name_id, Bears}
use Rattle.index_laws.specs.Listed.{rows_at, Placed, Listed}

module _ (t : State) (x : Index) (b : Bears t) (shown : Shown t) (names : Good (store t)) (l : Listed t x) (n : ℕ) (issued : n < t.link.names) where
  abbrev id : Interned
  id = record { 0 = n }

  abbrev bytes : List ℕ
  bytes = name_at t.bytes t.names n

  abbrev holder : Holder
  holder = holder_of t.link t.names t.symbols id

  used-long : length (used x) ≡ x.count
  used-long = length-take-le x.count x.places l.room

  nobody : global_at t.names n ≡ 0 → holder ≡ Nobody
  unfolding holder_of held_by
  nobody z = rw (lt-leb _ _ issued, z)

  late : t.link.symbols ≤ global_at t.names n → holder ≡ Nobody
  unfolding holder_of held_by
  late h = by-test (eqb (global_at t.names n) 0) (λ a. rw (lt-leb _ _ issued, a)) (λ a. rw (lt-leb _ _ issued, a, le-leb _ _ h))

  present : (i : ℕ) → global_at t.names n ≡ i → i ≢ 0 → i < t.link.symbols → held_of t.symbols id holder ≡ held_at t.symbols id (record { 0 = i })
  unfolding holder_of held_by held_at
  present i e u h =
      by-test (eqb (state_at t.symbols i) 2) (λ a. rw (lt-leb _ _ issued, e, ne_eqb _ _ u, lt-leb _ _ h, a))
      (λ a. rw (lt-leb _ _ issued, e, ne_eqb _ _ u, lt-leb _ _ h, a))

  met : (k : ℕ) → (seek_of (rows_at t) (used x) bytes).place ≡ Ok k → held_in t.symbols x.places id (Ok k) ≡ held_of t.symbols id holder
  met k e =
      let m = Laws.met-is (rows_at t) (used x) l.sorted bytes k e in
      let low : k < x.count = omega (arith, m.0, used-long) in
      let i : ℕ = get_or (used x) k 0 in
      let o = b.borne i (l.counted k low) (l.global k low) in
      let same : name_id t i ≡ n = names.chained.distinct (name_id t i) n o.issued issued m.1 in
      let found : global_at t.names n ≡ i = ap (global_at t.names) (sym same) ∙ o.found in
      let at : get_or x.places k 0 ≡ i = sym (get_or-take x.count x.places k 0 low) in
      ap (λ (j : ℕ). held_at t.symbols id (record { 0 = j })) at ∙ sym (present i found o.some (l.counted k low))

  missed : (k : ℕ) → (seek_of (rows_at t) (used x) bytes).place ≡ Err k → holder ≡ Nobody
  missed k e =
      by-test (eqb (global_at t.names n) 0) (λ a. nobody (eqb-true _ _ a))
      (λ a.
      by-test (leb t.link.symbols (global_at t.names n)) (λ c. late (leb-true _ _ c))
      (λ c.
      let some : global_at t.names n ≢ 0 = eqb-false _ _ a in
      let i : ℕ = global_at t.names n in
      let p : Placed x i = l.all i (leb-false _ _ c) (shown n issued some) in
      let q : name_in (rows_at t) (used x) p.place ≡ bytes =
      ap (name_of_row (rows_at t)) p.is ∙ ap (name_at t.bytes t.names) (b.named n issued some) in
      absurd (Laws.missed-none (rows_at t) (used x) l.sorted bytes k e p.place (let h = p.low in omega (arith, used-long)) q)))

  pub by-place : (p : Result ℕ ℕ) → (seek_of (rows_at t) (used x) bytes).place ≡ p → held_in t.symbols x.places id p ≡ held_of t.symbols id holder
  by-place (Ok k) e = met k e
  by-place (Err k) e = ap (held_of t.symbols id) (sym (missed k e))

-- ---- the call

module _ (t : State) (x : Index) (b : Bears t) (shown : Shown t) (names : Good (store t)) (l : Listed t x) (n : ℕ) where
  abbrev asked : Interned
  asked = record { 0 = n }

  pub answer-is : (judge_lookup t.link (rows_at t) x).number ≡ 0
      → (get_global_of t.link (rows_at t) x asked).answer ≡ held_of t.symbols asked (holder_of t.link t.names t.symbols asked)
  unfolding get_global_of holder_of
  answer-is z =
      by-test (leb t.link.names n) (λ a. rw (eq-eqb _ _ z, a))
      (λ a.
      let q : held_in t.symbols x.places asked (seek_of (rows_at t) (used x) (name_at t.bytes t.names n)).place
      ≡ held_of t.symbols asked (holder_of t.link t.names t.symbols asked) =
      by-place t x b shown names l n (leb-false _ _ a) (seek_of (rows_at t) (used x) (name_at t.bytes t.names n)).place refl in
      rw (eq-eqb _ _ z, a) (rw a at q))

-- the index's count passes
pub index-passes : (t : State) (x : Index) → t.link.symbols ≤ 65535 → Listed t x → judge_index x ≡ record { number = 0; place = 0 }
unfolding lesser
index-passes t x few l =
    let f = l.few in
    let r = l.room in
    by-test (ltb 65535 (length x.places)) (λ a. rw (a, le-ltb 65535 x.count (omega arith))) (λ a. rw (a, le-ltb (length x.places) x.count r))

-- ---- the places read, whatever the cells hold

counted-low : (i : Index) → (judge_index i).number ≡ 0 → i.count ≤ 65535
counted-low i e =
    by-test (ltb (lesser 65535 (length i.places)) i.count) (λ a. let q : ◌≡◌ {A = ℕ} 1 0 = rw a at e in absurd (omega arith))
    (λ a. omega (arith, ltb-false (lesser 65535 (length i.places)) i.count a, lesser-first 65535 (length i.places)))

judged-index : (l : Link) (r : Rows) (i : Index) → (judge_lookup l r i).number ≡ 0 → (judge_index i).number ≡ 0
unfolding judge_lookup
judged-index l r i e =
    by-test (eqb (judge_of l (lent l r)).number 0) (λ a. rw a at e) (λ a. absurd (eqb-false _ _ a (rw a at e)))

pub reads-most : (l : Link) (r : Rows) (i : Index) (name : Interned) → (get_global_of l r i name).reads ≤ 16
unfolding get_global_of
reads-most l r i name =
    by-test (eqb (judge_lookup l r i).number 0)
    (λ a.
    by-test (leb l.names name.0) (λ b. rw (a, b) (omega arith))
    (λ b.
    let c : i.count ≤ 65535 = counted-low i (judged-index l r i (eqb-true _ _ a)) in
    rw (a, b) (Laws.reads-16 r (used i) (omega (arith, length-take i.count i.places)) (name_at r.bytes r.names name.0))))
    (λ a. rw a (omega arith))
