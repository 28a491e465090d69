-- The ways through the loop over the dependencies.
-- Assumes nothing.
use Rattle.std.specs.Prelude.{ℕ, ◌+◌, ◌-◌, ◌<◌, ◌≤◌, ◌≡◌, List, length}
use Rattle.std.proofs.Math.Nat.{sub-zero}
use native.Mathlib.Omega.{arith}
use Rattle.std.proofs.Math.Path.{sym}
use Rattle.std.proofs.Common.{◌∙◌}
use borrow.Author.Tests.{eq-eqb, ne_eqb}
use Rattle.elf_object.specs.Proof.Ways.{one_less}
use Rattle.shared_objects.specs.Record.{Recorded, dependency_of, dependencies_from, dependencies_of}

-- the loop: s is what j dependencies left of s₀. Shut, so that a search tells two of them apart at once
unfoldable pub Listed : ℕ → List ℕ → List ℕ → ℕ → Recorded → Recorded → Type 0
Listed j file needs rows s₀ s = dependencies_of file needs s₀ ≡ dependencies_from file needs (rows - j) j s

module _ (file needs : List ℕ) (s₀ : Recorded) where
  pub listed_start : Listed 0 file needs (length needs) s₀ s₀
  unfolding Listed dependencies_of
  listed_start = rw (sub-zero (length needs))

  module _ (rows j : ℕ) (s : Recorded) where
    pub listed-end : Listed j file needs rows s₀ s → rows ≤ j → s ≡ dependencies_of file needs s₀
    unfolding Listed dependencies_from
    listed-end q h = let z : rows - j ≡ 0 = omega arith in sym (q ∙ rw z)

    module _ (t : Recorded) where
      pub listed-stop : Listed j file needs rows s₀ s → j < rows → t ≡ dependency_of file needs s j → (t.stage.number ≡ 0 → ⊥)
          → t ≡ dependencies_of file needs s₀
      unfolding Listed dependencies_from
      listed-stop q h e f = sym (q ∙ rw (one_less rows j h) (simp (← e, ne_eqb _ _ f)))

      pub listed-on : Listed j file needs rows s₀ s → j < rows → t ≡ dependency_of file needs s j → t.stage.number ≡ 0
          → Listed (j + 1) file needs rows s₀ t
      unfolding Listed dependencies_from
      listed-on q h e f = q ∙ rw (one_less rows j h) (simp (← e, eq-eqb _ _ f))
