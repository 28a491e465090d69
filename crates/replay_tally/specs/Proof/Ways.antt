-- Answers and lines in std's words.
-- Assumes nothing.
use Rattle.std.specs.Prelude.{◌≡◌, refl, ℕ, ◌+◌, ◌-◌, ◌<◌, true, false, List, [], ◌∷◌, ◌++◌, eqb, length, take, get_or, Option, MatchOption, unwrap_or, nat_eq}
use Rattle.std.proofs.Common.{arith, add-one, ap, sym, ◌∙◌}
use Rattle.std.specs.List.{starts_with, AllWithin, HoldsAt}
use Rattle.std.specs.Cmp.Lexicographic.{pointwise}
use Rattle.std.proofs.lemmas.Iterator.{index_from_first}
use borrow.Author.Tests.{eq-eqb, ne_eqb}
use Rattle.cells.specs.Proof.Split.{by-test}
use Rattle.byte_slices.specs.Bytes.{same}
use Rattle.replay_tally.specs.declared.Tally.{Tally}
use Rattle.replay_tally.specs.Answer.{line_length, first_line, meets}

-- ---- a line

line-hit : (b : ℕ) (l : List ℕ) → b ≡ 10 → line_length (b ∷ l) ≡ 0
unfolding line_length
line-hit b l e = simp (eq-eqb _ _ e)

line-miss : (b : ℕ) (l : List ℕ) → (b ≡ 10 → ⊥) → line_length (b ∷ l) ≡ line_length l + 1
unfolding line_length
line-miss b l n = simp (ne_eqb _ _ n, add-one)

line-none : line_length [] ≡ 0
unfolding line_length
line-none = refl

-- the place of the first line end, or how many bytes there are
pub line-at : (l : List ℕ) (r : Option ℕ) → MatchOption r (AllWithin (λ b. b ≡ 10 → ⊥) l 0 (length l)) (λ i. (i < length l) × HoldsAt (λ b. b ≡ 10) l i × AllWithin (λ b. b ≡ 10 → ⊥) l 0 i)
    → line_length l ≡ unwrap_or r (length l)
line-at l r m = index_from_first line_length (λ b. b ≡ 10) (λ b. b ≡ 10 → ⊥) line-none line-hit line-miss l r m

pub first-line : (l : List ℕ) (n : ℕ) → line_length l ≡ n → first_line l ≡ take n l
unfolding first_line
first-line l n e = rw e

-- ---- an answer

pub same-pointwise : (a b : List ℕ) → pointwise nat_eq a b ≡ same a b
unfolding same
same-pointwise [] [] = refl
same-pointwise [] (y ∷ ys) = refl
same-pointwise (x ∷ xs) [] = refl
same-pointwise (x ∷ xs) (y ∷ ys) = by-test (eqb x y) (λ e. rw e (same-pointwise xs ys)) (λ e. rw e)

last-of : (s : List ℕ) (x : ℕ) → get_or (s ++ (x ∷ [])) (length s) 0 ≡ x
last-of [] x = refl
last-of (y ∷ s) x = last-of s x

front-of : (s t : List ℕ) → take (length s) (s ++ t) ≡ s
front-of [] t = refl
front-of (y ∷ s) t = ap (λ (l : List ℕ). y ∷ l) (front-of s t)

module _ (e s g : List ℕ) (x : ℕ) (is : e ≡ s ++ (x ∷ [])) (long : length s + 1 ≡ length e) where
  one_less : length e - 1 ≡ length s
  one_less = omega arith

  ends : get_or e (length s) 0 ≡ x
  ends = ap (λ (l : List ℕ). get_or l (length s) 0) is ∙ last-of s x

  front : take (length s) e ≡ s
  front = ap (take (length s)) is ∙ front-of s (x ∷ [])

  pub meets_any : x ≡ 63 → starts_with nat_eq g s ≡ meets e g
  unfolding meets
  meets_any q = same-pointwise s (take (length s) g) ∙ sym (simp (one_less, ends, eq-eqb _ _ q, front))

  pub meets-same : (x ≡ 63 → ⊥) → same e g ≡ meets e g
  unfolding meets
  meets-same n = sym (simp (one_less, ends, ne_eqb _ _ n))

none-same : (g : List ℕ) → eqb (length g) 0 ≡ same [] g
unfolding same
none-same [] = refl
none-same (y ∷ ys) = ne_eqb (length (y ∷ ys)) 0 (λ e. omega arith)

pub meets-empty : (e g : List ℕ) → length e ≡ 0 → eqb (length g) 0 ≡ meets e g
unfolding meets
meets-empty [] g h = none-same g
meets-empty (b ∷ e) g h = absurd (omega arith)

-- ---- a tally

abbrev tally : ℕ → ℕ → ℕ → ℕ → ℕ → ℕ → ℕ → Tally
tally a b c d e f g = record { line = a; links = b; operations = c; answers = d; differences = e; from = f; to = g }

-- a tally is its numbers
pub tally-is : (r x : Tally)
    → r.line ≡ x.line → r.links ≡ x.links → r.operations ≡ x.operations → r.answers ≡ x.answers → r.differences ≡ x.differences → r.from ≡ x.from → r.to ≡ x.to → r ≡ x
tally-is r x a b c d e f g =
    let t : tally r.line r.links r.operations r.answers r.differences r.from r.to ≡ x = rw (a, b, c, d, e, f, g) refl in t
