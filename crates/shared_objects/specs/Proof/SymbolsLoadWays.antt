-- The ways through the loop over the symbols.
-- Assumes nothing.
use Rattle.std.specs.Prelude.{ℕ, ◌+◌, ◌-◌, ◌<◌, ◌≤◌, ◌≡◌, List}
use Rattle.std.proofs.Math.Nat.{sub-zero}
use native.Mathlib.Omega.{arith}
use Rattle.std.proofs.Math.Path.{sym}
use Rattle.std.proofs.Common.{◌∙◌}
use borrow.Author.Tests.{eq-eqb, ne_eqb}
use Rattle.elf_object.specs.Rows.{rows_in}
use Rattle.elf_object.specs.Proof.Ways.{one_less}
use Rattle.shared_objects.specs.SymbolsLoad.{State, symbol_of, symbols_from, symbols_of}

-- the loop: s is what i symbols left of s₀, and the rest gives from s what all give from s₀. Shut, so that a search tells two of them apart at once
unfoldable pub Reached : ℕ → List ℕ → List ℕ → ℕ → State → State → Type 0
Reached i entries file rows s₀ s = symbols_of entries file s₀ ≡ symbols_from entries file (rows - i) i s

module _ (entries file : List ℕ) (s₀ : State) where
  pub reached-start : (rows : ℕ) → rows ≡ rows_in entries → Reached 0 entries file rows s₀ s₀
  unfolding Reached symbols_of
  reached-start rows e = rw (sub-zero rows, e)

  module _ (rows i : ℕ) (s : State) where
    pub reached-end : Reached i entries file rows s₀ s → rows ≤ i → s ≡ symbols_of entries file s₀
    unfolding Reached symbols_from
    reached-end q h = let z : rows - i ≡ 0 = omega arith in sym (q ∙ rw z)

    module _ (t : State) where
      pub reached-stop : Reached i entries file rows s₀ s → i < rows → t ≡ symbol_of entries file s i → (t.stage.number ≡ 0 → ⊥) → t ≡ symbols_of entries file s₀
      unfolding Reached symbols_from
      reached-stop q h e f = sym (q ∙ rw (one_less rows i h) (simp (← e, ne_eqb _ _ f)))

      pub reached-on : Reached i entries file rows s₀ s → i < rows → t ≡ symbol_of entries file s i → t.stage.number ≡ 0
          → Reached (i + 1) entries file rows s₀ t
      unfolding Reached symbols_from
      reached-on q h e f = q ∙ rw (one_less rows i h) (simp (← e, eq-eqb _ _ f))
