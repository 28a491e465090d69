-- An accepted collection moves sections and their bytes from kept to dropped, and loses none: a row keeps its size when it is dropped.
-- Assumes nothing.
use Rattle.std.specs.Prelude.{ℕ, zero, suc, ◌+◌, ◌<◌, ◌≤◌, ◌≡◌, refl, Bool, true, false, cond, List, eqb, Option, Ok}
use Rattle.std.proofs.Common.{arith, sym, ap, ◌∙◌, eqb-true}
use Rattle.std.proofs.lemmas.Bool.{eqb-false}
use borrow.Author.Tests.{eq-eqb}
use Rattle.cells.specs.Proof.Split.{by-test}
use Rattle.link.specs.declared.Link.{Link}
use Rattle.link.specs.declared.SymbolId.{SymbolId}
use Rattle.sections.specs.Rows.{state_at, size_at}
use Rattle.gc_sections.specs.Run.{Left, Lists, run_of, dropped}
use Rattle.gc_laws.specs.Reached.{Reached}
use Rattle.gc_laws.proofs.Terms as Gc
use Rattle.lot_report.specs.Count.{count_below, sum_below}
use Rattle.report_laws.proofs.Counts.{count-none, count-suc, sum-none, sum-suc}
use Rattle.archive_walk.specs.declared.Walk.{Walk}
use Rattle.lot_report.specs.Figures.{Title, is_in_state, size_in}
use Rattle.report_laws.specs.Lot.{figure}

-- a row stays in its state, or falls from built to dropped
data Moves (u v : ℕ) : Type 0 where
  same : v ≡ u → Moves u v
  fell : u ≡ 2 → v ≡ 3 → Moves u v

moved : (u v k j : ℕ) → j ≡ k → Moves u v → cond (eqb v 2) j 0 + cond (eqb v 3) j 0 ≡ cond (eqb u 2) k 0 + cond (eqb u 3) k 0
moved u v k j q (same e) = rw (e, q) refl
moved u v k j q (fell e f) = rw (e, f, q) (omega arith)

module _ (l : Link) (x : Lists) (symbols sections : List ℕ) (entry : Option SymbolId) (work : List ℕ) (a b : ℕ) where
  abbrev r : Left
  r = run_of l x symbols sections entry work

  module _ (ok : r.answer ≡ Ok (dropped a b)) (slots : l.sections ≤ l.slots) where
    kept : Gc.Kept l x symbols sections entry work
    kept = Gc.keeps l x symbols sections entry work a b ok

    removed : Gc.Removed l x symbols sections entry work
    removed = Gc.removes l x symbols sections entry work a b ok

    pub size-stays : (y : ℕ) → y < l.sections → size_at r.sections y ≡ size_at sections y
    size-stays y h = removed.section_stays y 7 (omega arith) (omega arith) (λ z. absurd (omega (arith, z)))

    moves : (y : ℕ) → y < l.sections → Moves (state_at sections y) (state_at r.sections y)
    moves y h =
        by-test (eqb (state_at r.sections y) 2)
        (λ t. same (removed.section_stays y 0 (omega arith) (omega arith) (λ z q. kept.reached y (record { issued = h; state = eqb-true _ _ t }))))
        (λ t.
        by-test (eqb (state_at sections y) 2)
        (λ u. fell (eqb-true _ _ u) (kept.dropped y (record { issued = h; state = eqb-true _ _ u }) (λ q. eqb-false _ _ t (kept.kept y q).state)))
        (λ u. same (removed.section_stays y 0 (omega arith) (omega arith) (λ z q. absurd (eqb-false _ _ u q.state)))))

    counts : (n : ℕ) → n ≤ l.sections
        → count_below (is_in_state r.sections 2) n + count_below (is_in_state r.sections 3) n ≡ count_below (is_in_state sections 2) n + count_below (is_in_state sections 3) n
    unfolding is_in_state
    counts zero h = omega (arith, count-none (is_in_state r.sections 2), count-none (is_in_state r.sections 3), count-none (is_in_state sections 2), count-none (is_in_state sections 3))
    counts (suc n) h =
        omega (
          arith,
          counts n (omega arith),
          moved (state_at sections n) (state_at r.sections n) 1 1 refl (moves n (omega arith)),
          count-suc (is_in_state r.sections 2) n,
          count-suc (is_in_state r.sections 3) n,
          count-suc (is_in_state sections 2) n,
          count-suc (is_in_state sections 3) n,
        )

    abbrev bytes_in : List ℕ → ℕ → ℕ → ℕ
    bytes_in rows state n = sum_below (is_in_state rows state) (size_in rows) n

    bytes-none : (rows : List ℕ) (state : ℕ) → bytes_in rows state 0 ≡ 0
    bytes-none rows state = sum-none (is_in_state rows state) (size_in rows)

    bytes-more : (rows : List ℕ) (state n : ℕ) → bytes_in rows state (suc n) ≡ bytes_in rows state n + cond (eqb (state_at rows n) state) (size_at rows n) 0
    unfolding is_in_state
    bytes-more rows state n = sum-suc (is_in_state rows state) (size_in rows) n

    bytes : (n : ℕ) → n ≤ l.sections → bytes_in r.sections 2 n + bytes_in r.sections 3 n ≡ bytes_in sections 2 n + bytes_in sections 3 n
    bytes zero h = omega (arith, bytes-none r.sections 2, bytes-none r.sections 3, bytes-none sections 2, bytes-none sections 3)
    bytes (suc n) h =
        let m = moved (state_at sections n) (state_at r.sections n) (size_at sections n) (size_at r.sections n) (size-stays n (omega arith)) (moves n (omega arith)) in
        omega (arith, bytes n (omega arith), m, bytes-more r.sections 2 n, bytes-more r.sections 3 n, bytes-more sections 2 n, bytes-more sections 3 n)

    -- of the sections that the link counts
    pub sections-kept : count_below (is_in_state r.sections 2) l.sections + count_below (is_in_state r.sections 3) l.sections
        ≡ count_below (is_in_state sections 2) l.sections + count_below (is_in_state sections 3) l.sections
    sections-kept = counts l.sections (omega arith)

    pub bytes-kept : bytes_in r.sections 2 l.sections + bytes_in r.sections 3 l.sections ≡ bytes_in sections 2 l.sections + bytes_in sections 3 l.sections
    bytes-kept = bytes l.sections (omega arith)

    -- the sections that are kept are those that relocations reach from the roots
    pub kept-reached : (y : ℕ) → y < l.sections → is_in_state r.sections 2 y ≡ true → Reached l x symbols sections entry y
    unfolding is_in_state
    kept-reached y h e = kept.reached y (record { issued = h; state = eqb-true _ _ e })

    pub reached-kept : (y : ℕ) → Reached l x symbols sections entry y → is_in_state r.sections 2 y ≡ true
    unfolding is_in_state
    reached-kept y q = eq-eqb _ _ (kept.kept y q).state

    -- the figures of the link before it and after it
    abbrev title : Link → List ℕ → List ℕ → Walk → Title
    title k us ss w = record { link = k; symbols = us; sections = ss; walk = w }

    module _ (w : Walk) where
      pub sections-after : figure 9 (title r.link r.symbols r.sections w) + figure 10 (title r.link r.symbols r.sections w)
          ≡ figure 9 (title l symbols sections w) + figure 10 (title l symbols sections w)
      sections-after = rw (Gc.link_stays l x symbols sections entry work) sections-kept

      pub bytes-after : figure 11 (title r.link r.symbols r.sections w) + figure 12 (title r.link r.symbols r.sections w)
          ≡ figure 11 (title l symbols sections w) + figure 12 (title l symbols sections w)
      bytes-after = rw (Gc.link_stays l x symbols sections entry work) bytes-kept
