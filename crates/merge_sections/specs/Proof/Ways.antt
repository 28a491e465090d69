-- The ways through the functions.
-- Assumes nothing.
use Rattle.std.specs.Prelude.{ℕ, ◌+◌, ◌-◌, ◌<◌, ◌≤◌, ◌≡◌, List, Some}
use Rattle.std.proofs.Math.Nat.{sub-zero}
use native.Mathlib.Omega.{arith}
use Rattle.std.proofs.Common.{ap, ◌∙◌}
use Rattle.std.proofs.Math.Path.{sym}
use borrow.Author.Tests.{lt-ltb, eq-eqb, ne_eqb}
use Rattle.elf_object.specs.Proof.Ways.{one_less}
use Rattle.symbol.specs.Codes.{successor}
use Rattle.merge_sections.specs.Reserve.{table_cell, State, reserve_one_of, reserve_from}
use Rattle.merge_sections.specs.Notes.{each_from}

-- ---- the loops: what they give from the n-th row on is what they give from the start

module _ (headers : List ℕ) (rows : ℕ) where
  pub sections-start : (s : State) → reserve_from headers rows 0 s ≡ reserve_from headers (rows - 0) 0 s
  sections-start s = rw (sub-zero rows)

  module _ (w s : State) (n : ℕ) where
    pub sections-end : w ≡ reserve_from headers (rows - n) n s → rows ≤ n → s ≡ w
    unfolding reserve_from
    sections-end q h = let z : rows - n ≡ 0 = omega arith in sym (q ∙ rw z)

    module _ (t : State) where
      pub sections-stop : w ≡ reserve_from headers (rows - n) n s → n < rows → t ≡ reserve_one_of headers s n → (t.reserved.number ≡ 0 → ⊥) → t ≡ w
      unfolding reserve_from
      sections-stop q h e f = sym (q ∙ rw (one_less rows n h) (simp (← e, ne_eqb _ _ f)))

      pub sections-on : w ≡ reserve_from headers (rows - n) n s → n < rows → t ≡ reserve_one_of headers s n → t.reserved.number ≡ 0
          → w ≡ reserve_from headers (rows - (n + 1)) (n + 1) t
      unfolding reserve_from
      sections-on q h e f = q ∙ rw (one_less rows n h) (simp (← e, eq-eqb _ _ f))

module _ (step : List ℕ → ℕ → List ℕ) (rows : ℕ) where
  pub each_start : (work : List ℕ) → each_from step rows 0 work ≡ each_from step (rows - 0) 0 work
  each_start work = rw (sub-zero rows)

  module _ (w work : List ℕ) (i : ℕ) where
    pub each-end : w ≡ each_from step (rows - i) i work → rows ≤ i → work ≡ w
    unfolding each_from
    each-end q h = let z : rows - i ≡ 0 = omega arith in sym (q ∙ rw z)

    pub each_on : (x : List ℕ) → w ≡ each_from step (rows - i) i work → i < rows → x ≡ step work i → w ≡ each_from step (rows - (i + 1)) (i + 1) x
    unfolding each_from
    each_on x q h e = q ∙ rw (one_less rows i h) (ap (each_from step (rows - (i + 1)) (i + 1)) (sym e))

-- the cell of a table is one more, where there is such a number
pub table_cell-some : (n : ℕ) → n < 0xffffffffffffffff → table_cell (Some n) ≡ n + 1
unfolding successor
table_cell-some n h = simp (lt-ltb _ _ h)
