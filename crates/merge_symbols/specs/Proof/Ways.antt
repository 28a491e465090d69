-- The ways through the loop, and the numbers of refusals.
-- Assumes nothing.
use Rattle.std.specs.Prelude.{ℕ, ◌+◌, ◌-◌, ◌<◌, ◌≤◌, ◌≡◌, ◌≢◌, List, Result, Ok, Err}
use Rattle.std.proofs.Math.Nat.{sub-zero}
use native.Mathlib.Omega.{arith}
use Rattle.std.proofs.Math.Path.{sym}
use Rattle.std.proofs.Common.{◌∙◌}
use borrow.Author.Tests.{eq-eqb, ne_eqb}
use Rattle.link.specs.declared.Link.{Link}
use Rattle.symbol.specs.declared.Row.{Row}
use Rattle.symbol_resolution.specs.declared.rows.Holder.{Holder}
use Rattle.symbol_resolution.specs.declared.rows.Resolution.{Resolution}
use Rattle.symbol_resolution.specs.Decision.{Refuse, Keep, Append, Replace, Amend}
use Rattle.symbol_resolution.specs.Decide.{decision_of, decide_of}
use Rattle.symbol_resolution.specs.Proof.Outcomes.{Ended, ended, refused, kept, appended, replaced, amended}
use Rattle.elf_object.specs.Rows.{rows_in}
use Rattle.elf_object.specs.Proof.Ways.{one_less}
use Rattle.merge_symbols.specs.Plan.{Numbered}
use Rattle.merge_symbols.specs.Stage.{State, Object, symbol_of, symbols_from, symbols_of}

-- the loop: s is what i symbols left of s₀, and the rest gives from s what all give from s₀. Shut, so that a search tells two of them apart at once
unfoldable pub Reached : ℕ → Object → ℕ → State → State → Type 0
Reached i o rows s₀ s = symbols_of o s₀ ≡ symbols_from o (rows - i) i s

module _ (o : Object) (s₀ : State) where
  pub reached-start : (rows : ℕ) → rows ≡ rows_in o.entries → Reached 0 o rows s₀ s₀
  unfolding Reached symbols_of
  reached-start rows e = rw (sub-zero rows, e)

  module _ (rows i : ℕ) (s : State) where
    pub reached-end : Reached i o rows s₀ s → rows ≤ i → s ≡ symbols_of o s₀
    unfolding Reached symbols_from
    reached-end q h = let z : rows - i ≡ 0 = omega arith in sym (q ∙ rw z)

    module _ (t : State) where
      pub reached-stop : Reached i o rows s₀ s → i < rows → t ≡ symbol_of o s i → (t.stage.number ≡ 0 → ⊥) → t ≡ symbols_of o s₀
      unfolding Reached symbols_from
      reached-stop q h e f = sym (q ∙ rw (one_less rows i h) (simp (← e, ne_eqb _ _ f)))

      pub reached-on : Reached i o rows s₀ s → i < rows → t ≡ symbol_of o s i → t.stage.number ≡ 0 → Reached (i + 1) o rows s₀ t
      unfolding Reached symbols_from
      reached-on q h e f = q ∙ rw (one_less rows i h) (simp (← e, eq-eqb _ _ f))

-- an add is refused with a number
pub add_numbered : (l : Link) (symbols sections : List ℕ) (r : Row) (h : Holder) (t : Result Resolution ℕ) → decision_of t ≡ decide_of l symbols sections r h → Numbered t
add_numbered l symbols sections r h (Ok x) e = tt
add_numbered l symbols sections r h (Err n) e = λ z. by (ended l symbols sections r h) z
  where
    by : Ended l symbols sections r (decide_of l symbols sections r h) → n ≢ 0
    by (refused m u q) = λ z. let w : Refuse n ≡ Refuse m = e ∙ q in let v : n ≡ m = cc in u (sym v ∙ z)
    by (kept id p q) = λ z. let w : Refuse n ≡ Keep id = e ∙ q in absurd (cc)
    by (appended p m q) = λ z. let w : Refuse n ≡ Append = e ∙ q in absurd (cc)
    by (replaced id p q) = λ z. let w : Refuse n ≡ Replace id = e ∙ q in absurd (cc)
    by (amended id p q) = λ z. let w : Refuse n ≡ Amend id = e ∙ q in absurd (cc)
