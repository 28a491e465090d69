-- Theorems over specs/Histories.antt.
-- Assumes nothing.
use Rattle.std.specs.Prelude.{ℕ, ◌<◌, ◌≡◌, refl}
use Rattle.std.proofs.Common.{le_trans, le_refl, ap, sym, ◌∙◌}
use mathlib.Core.List.{List, [], ◌∷◌}
use Rattle.interner_laws.specs.Histories as Base
use Rattle.interner_laws.specs.HistoriesWords.{history}

module _ {S X : Type 0} (next : S → X → S) where
  module _ (Good : S → Type 0) (step : (s : S) (x : X) → Good s → Good (next s x)) where
    pub always : (xs : List X) (s : S) → Good s → Good (history next xs s)
    unfolding history
    always [] s g = g
    always (x ∷ xs) s g = always xs (next s x) (step s x g)

    module _ (Keeps : S → S → Type 0) (none : (s : S) → Keeps s s) (both : (s t u : S) → Keeps s t → Keeps t u → Keeps s u)
        (one : (s : S) (x : X) → Good s → Keeps s (next s x)) where
      pub kept : (xs : List X) (s : S) → Good s → Keeps s (history next xs s)
      unfolding history
      kept [] s g = none s
      kept (x ∷ xs) s g = both s (next s x) (history next xs (next s x)) (one s x g) (kept xs (next s x) (step s x g))

-- ids of what a state has issued
module _ {S X : Type 0} (count : S → ℕ) (name : S → ℕ → X) where
  abbrev IssuedIn : (s : S) (i : ℕ) (x : X) → Type 0
  IssuedIn = Base.IssuedIn {S = S} {X = X} count name

  abbrev StaysIn : (s t : S) → Type 0
  StaysIn = Base.StaysIn {S = S} {X = X} count name

  pub stays-none : (s : S) → StaysIn s s
  stays-none s = record { grows = le_refl _; olds = λ i h. refl }

  pub stays-both : (s t u : S) → StaysIn s t → StaysIn t u → StaysIn s u
  stays-both s t u p q = record { grows = le_trans p.grows q.grows; olds = λ i h. q.olds i (le_trans h p.grows) ∙ p.olds i h }

  pub issued-stays : (s t : S) (i : ℕ) (x : X) → StaysIn s t → IssuedIn s i x → IssuedIn t i x
  issued-stays s t i x p q = record { low = le_trans q.low p.grows; right = p.olds i q.low ∙ q.right }

  -- where no two ids stand for the same
  module _ (s : S) (distinct : (i j : ℕ) → i < count s → j < count s → name s i ≡ name s j → i ≡ j) (i j : ℕ) (x y : X)
      (p : IssuedIn s i x) (q : IssuedIn s j y) where
    pub one-id : x ≡ y → i ≡ j
    one-id e = distinct i j p.low q.low (p.right ∙ e ∙ sym q.right)

    pub one_name : i ≡ j → x ≡ y
    one_name e = sym p.right ∙ ap (name s) e ∙ q.right
