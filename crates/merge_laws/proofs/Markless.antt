-- Steps that mark no group's signature, and steps that add no row.
-- Assumes nothing.
use Rattle.std.specs.Prelude.{ℕ, zero, suc, ◌+◌, ◌≡◌, refl, Bool, List, [], ◌∷◌, ◌++◌, eqb}
use Rattle.std.proofs.Common.{sym, ap, ◌∙◌, append_assoc}
use Rattle.cells.specs.Proof.Split.{by-test}
use Rattle.symbol.specs.declared.Row.{Row}
use Rattle.symbol_resolution.specs.Decision.{Decision}
use Rattle.symbol_resolution.specs.Decide.{refusal_of}
use Rattle.symbol_laws.specs.History.{State, Source}
use Rattle.merge_laws.specs.Steps.{Step, part, mark, others, step_next}
use Rattle.merge_laws.specs.Loop.{loop_steps}
use Rattle.merge_laws.specs.MergeSteps.{row_steps}
use Rattle.merge_laws.specs.Kept.{part_rows, added_rows}
use Rattle.merge_laws.specs.Marked.{marks_of}

-- no step marks a name's row
abbrev pub Markless : List Step → Type 0
Markless [] = Unit {0}
Markless (part p ∷ ks) = Markless ks
Markless (mark n ∷ ks) = ⊥
Markless (others x l ∷ ks) = Markless ks

pub marks-none : (ks : List Step) (s : State) → Markless ks → marks_of ks s ≡ []
marks-none [] s m = refl
marks-none (part p ∷ ks) s m = marks-none ks (step_next (part p) s) m
marks-none (mark n ∷ ks) s m = absurd m
marks-none (others x l ∷ ks) s m = marks-none ks (step_next (others x l) s) m

pub both : (ks ls : List Step) → Markless ks → Markless ls → Markless (ks ++ ls)
both [] ls a b = b
both (part p ∷ ks) ls a b = both ks ls a b
both (mark n ∷ ks) ls a b = absurd a
both (others x l ∷ ks) ls a b = both ks ls a b

module _ {S : Type 0} (number : S → ℕ) (next : S → ℕ → S) (steps : S → ℕ → List Step) (one : (s : S) (i : ℕ) → Markless (steps s i)) where
  pub loop-markless : (n i : ℕ) (s : S) → Markless (loop_steps number next steps n i s)
  loop-markless zero i s = tt
  loop-markless (suc n) i s =
      by-test (eqb (number (next s i)) 0)
      (λ t. rw t (both (steps s i) (loop_steps number next steps n (i + 1) (next s i)) (one s i) (loop-markless n (i + 1) (next s i))))
      (λ t. rw t (one s i))

pub row-markless : (from : Source) (adds : Bool) (x : List ℕ) (r : Row) (d : Decision) → Markless (row_steps from adds x r d)
unfolding row_steps
row-markless from adds x r d =
    by-test (eqb (refusal_of d) 2) (λ a. rw a tt)
    (λ a. by-test (eqb (refusal_of d) 0) (λ b. by-test adds (λ c. rw (a, b, c) tt) (λ c. rw (a, b, c) tt)) (λ b. rw (a, b) tt))

-- ---- rows

pub added-append : (ks ls : List Step) → added_rows (ks ++ ls) ≡ added_rows ks ++ added_rows ls
added-append [] ls = refl
added-append (part p ∷ ks) ls = ap (◌++◌ (part_rows p)) (added-append ks ls) ∙ sym (append_assoc (part_rows p) (added_rows ks) (added_rows ls))
added-append (mark n ∷ ks) ls = added-append ks ls
added-append (others x l ∷ ks) ls = added-append ks ls

pub both-none : (ks ls : List Step) → added_rows ks ≡ [] → added_rows ls ≡ [] → added_rows (ks ++ ls) ≡ []
both-none ks ls a b = added-append ks ls ∙ rw (a, b)

module _ {S : Type 0} (number : S → ℕ) (next : S → ℕ → S) (steps : S → ℕ → List Step) (one : (s : S) (i : ℕ) → added_rows (steps s i) ≡ []) where
  pub loop-none : (n i : ℕ) (s : S) → added_rows (loop_steps number next steps n i s) ≡ []
  loop-none zero i s = refl
  loop-none (suc n) i s =
      by-test (eqb (number (next s i)) 0)
      (λ t. rw t (both-none (steps s i) (loop_steps number next steps n (i + 1) (next s i)) (one s i) (loop-none n (i + 1) (next s i))))
      (λ t. rw t (one s i))
