-- The first row of the greatest rank, for any rank, the documents' wording of it in each profile, and the commons of a name joined.
-- Assumes nothing.
use Rattle.std.specs.Prelude.{ℕ, zero, suc, ◌<◌, ◌≤◌, ◌≡◌, Bool, cond, not, ◌&&◌, List, [], ◌∷◌, ◌++◌, eqb, ltb, max}
use Rattle.std.proofs.Math.Bool.{true, false}
use Rattle.symbol.specs.declared.Row.{Row}
use Rattle.symbol_resolution.specs.Decide.{weak_of, rank_of}

abbrev pub All : (Row → Type 0) → List Row → Type 0
All P [] = Unit {0}
All P (x ∷ xs) = P x × All P xs

-- the first that passes, else d
abbrev pub first : (Row → Bool) → List Row → Row → Row
first p [] d = d
first p (x ∷ xs) d = cond (p x) x (first p xs d)

-- how many pass
abbrev pub count : (Row → Bool) → List Row → ℕ
count p [] = 0
count p (x ∷ xs) = cond (p x) (suc (count p xs)) (count p xs)

-- ---- any rank

module _ (rank : Row → ℕ) where
  -- the later of two rows takes the place where its rank is greater
  abbrev pub best : Row → List Row → Row
  best c [] = c
  best c (x ∷ xs) = best (cond (ltb (rank c) (rank x)) x c) xs

  -- in words: the first row of rank k, else of the rank below, and so on; of no rank above 0 the first row
  abbrev pub highest : ℕ → Row → List Row → Row
  highest zero c xs = c
  highest (suc k) c xs = first (λ x. eqb (rank x) (suc k)) (c ∷ xs) (highest k c xs)

  pub record FirstOfGreatestRank (l : List Row) (r : Row) : Type 0 where
    pub before : List Row
    pub after : List Row
    pub place : l ≡ before ++ r ∷ after
    pub lower : All (λ x. rank x < rank r) before
    pub no-higher : All (λ x. rank x ≤ rank r) after

-- ---- the documents' wording

abbrev pub ranked : Bool → Row → ℕ
ranked gabi r = rank_of gabi r.scope r.value.kind

-- "A definition is any value but `Undefined`"
abbrev pub defines : Row → Bool
defines r = not (eqb r.value.kind 7)

abbrev pub weak : Row → Bool
weak r = weak_of r.scope

-- 2026-06: a common, whose binding doesn't count
abbrev pub common : Row → Bool
common r = eqb r.value.kind 8

-- a definition "that is no common"
abbrev pub plain : Row → Bool
plain r = defines r && not (common r)

abbrev pub strong_definition : Row → Bool
strong_definition r = plain r && not (weak r)

abbrev pub weak_definition : Row → Bool
weak_definition r = plain r && weak r

abbrev pub strong_reference : Row → Bool
strong_reference r = not (defines r) && not (weak r)

abbrev pub weak_reference : Row → Bool
weak_reference r = not (defines r) && weak r

-- of a name without a definition, the terms: its first add; 2026-07: it "holds its first accepted strong reference, if there is one"
abbrev pub reference_of : Bool → Row → List Row → Row
reference_of false c xs = c
reference_of true c xs = first strong_reference (c ∷ xs) c

-- "its first accepted strong definition, else weak definition, else add"; 2026-06: "the first strong definition that is no common, else the commons
-- joined, else as before"
abbrev pub first_by_rank : Bool → Row → List Row → Row
first_by_rank gabi c xs = first strong_definition (c ∷ xs) (first common (c ∷ xs) (first weak_definition (c ∷ xs) (reference_of gabi c xs)))

-- ---- "the commons joined": "the first common's other content, the larger size and the larger alignment"

-- the largest number that a common of the list has, 0 where it has no common
abbrev pub largest : (Row → ℕ) → List Row → ℕ
largest f [] = 0
largest f (x ∷ xs) = cond (common x) (max (f x) (largest f xs)) (largest f xs)

abbrev pub size : Row → ℕ
size r = r.size

-- "a common's value field, as in gABI"
abbrev pub alignment : Row → ℕ
alignment r = r.value.a

abbrev pub sized : Row → ℕ → ℕ → Row
sized r s a =
    record {
      name = r.name;
      kind = r.kind;
      file = r.file;
      scope = r.scope;
      value = record { kind = r.value.kind; a = a; b = r.value.b };
      size = s;
    }

-- r, which holds the name of the rows l: a common has the largest size and alignment of them, any other its own
abbrev pub joined_in : List Row → Row → Row
joined_in l r = cond (common r) (sized r (largest size l) (largest alignment l)) r
