-- Laws of StringTable.antt.
-- Assumes nothing.
use Prim.Native.Nat.{ℕ, zero, suc, ◌+◌, ◌≤◌, ◌<◌}
use Rattle.std.specs.Prelude.{◌≡◌, refl, true, List, [], ◌∷◌, eqb, get_or, take, drop}
use Rattle.std.proofs.Math.Path.{sym}
use Rattle.std.proofs.Common.{ap, ap₂, ◌∙◌, arith, le_of_suc-le-suc, get_or-take, get_or-drop, drop-drop, drop_at, take-add, length-take-le}
use Rattle.std.proofs.lemmas.Bool.{false≢true}
use Rattle.std.proofs.Math.Nat.{not-suc-le-zero}
use Rattle.std.proofs.Math.ListN.{length, length-take, length-drop}
use borrow.Author.Tests.{eqb-true, eq-eqb, ne_eqb, ltb-true, lt-ltb}
use Rattle.gabi.proofs.Split.{by-test, both}
use Rattle.gabi.specs.StringTable.{before_zero, ended, has_name, name_at, same_name}

-- ---- laws: the bytes before the first zero byte

before-none : (s : List ℕ) (i : ℕ) → i < before_zero s → get_or s i 0 ≡ 0 → ⊥
unfolding before_zero
before-none [] i h e = not-suc-le-zero h
before-none (x ∷ xs) zero h e = not-suc-le-zero (rw (eq-eqb x 0 e) at h)
before-none (x ∷ xs) (suc i) h e = by-test (eqb x 0) (λ t. not-suc-le-zero (rw t at h)) (λ t. before-none xs i (le_of_suc-le-suc (rw t at h)) e)

before-zero : (s : List ℕ) → before_zero s < length s → get_or s (before_zero s) 1 ≡ 0
unfolding before_zero
before-zero [] h = absurd (not-suc-le-zero h)
before-zero (x ∷ xs) h = by-test (eqb x 0) (λ t. rw t (eqb-true x 0 t)) (λ t. rw t (before-zero xs (le_of_suc-le-suc (rw t at h))))

before-drop : (s : List ℕ) (i : ℕ) → i ≤ before_zero s → i + before_zero (drop i s) ≡ before_zero s
unfolding before_zero
before-drop s zero h = omega arith
before-drop [] (suc i) h = absurd (not-suc-le-zero h)
before-drop (x ∷ xs) (suc i) h =
    by-test (eqb x 0) (λ t. absurd (not-suc-le-zero (rw t at h)))
    (λ t. let r = before-drop xs i (le_of_suc-le-suc (rw t at h)) in rw t (omega arith))

drop-take : (s : List ℕ) (i n : ℕ) → i ≤ length s → drop i (take (i + n) s) ≡ take n (drop i s)
drop-take s i n h = rw (take-add i n s) (drop_at (take i s) (take n (drop i s)) i (length-take-le i s h))

-- ---- laws: the same name

pub same-eq : (a b : List ℕ) → same_name a b ≡ true → a ≡ b
unfolding same_name
same-eq [] [] e = refl
same-eq [] (y ∷ ys) e = absurd (false≢true e)
same-eq (x ∷ xs) [] e = absurd (false≢true e)
same-eq (x ∷ xs) (y ∷ ys) e = let (p, q) = both (eqb x y) (same_name xs ys) e in ap₂ ◌∷◌ (eqb-true x y p) (same-eq xs ys q)

pub same_refl : (a : List ℕ) → same_name a a ≡ true
unfolding same_name
same_refl [] = refl
same_refl (x ∷ xs) = rw (eq-eqb x x refl) (same_refl xs)

-- ---- laws: which offsets have a name

-- in a table that isn't empty just those whose name a zero byte ends
pub has_ended : (t : List ℕ) (o : ℕ) → (length t ≡ 0 → ⊥) → has_name t o ≡ ended t o
unfolding has_name
has_ended t o n = rw (ne_eqb (length t) 0 n)

-- in an empty table index 0 alone, and it has the empty name
pub has-empty : (o : ℕ) → has_name [] o ≡ eqb o 0
unfolding has_name
has-empty o = refl

pub name-empty : (o : ℕ) → name_at [] o ≡ []
unfolding name_at ended before_zero
name-empty zero = refl
name-empty (suc o) = refl

-- ---- laws: the name at an offset

module _ (t : List ℕ) (o : ℕ) where
  -- no zero byte is in a name
  pub name-no-zero : (i : ℕ) → i < length (name_at t o) → get_or (name_at t o) i 0 ≡ 0 → ⊥
  unfolding name_at
  name-no-zero i h e =
      by-test (ended t o)
      (λ f.
      let k : i < length (take (before_zero (drop o t)) (drop o t)) = rw f at h in
      let l : i < before_zero (drop o t) = omega (arith, length-take (before_zero (drop o t)) (drop o t)) in
      before-none (drop o t) i l (rw (get_or-take _ _ _ _ l) at (rw f at e)))
      (λ f. not-suc-le-zero (rw f at h))

  module _ (f : ended t o ≡ true) where
    in_table : before_zero (drop o t) < length (drop o t)
    unfolding ended
    in_table = ltb-true _ _ f

    name-is : name_at t o ≡ take (before_zero (drop o t)) (drop o t)
    unfolding name_at
    name-is = rw f

    pub length-name : length (name_at t o) ≡ before_zero (drop o t)
    length-name = rw name-is (length-take-le (before_zero (drop o t)) (drop o t) (omega (arith, in_table)))

    -- a name is what stands in the table from the offset on
    pub name-part : name_at t o ≡ take (length (name_at t o)) (drop o t)
    name-part = rw length-name name-is

    -- the byte after a name is in the table, and is zero
    pub name-inside : o + length (name_at t o) < length t
    name-inside = rw length-name (omega (arith, in_table, length-drop o t))

    pub name-ended : get_or t (o + length (name_at t o)) 1 ≡ 0
    name-ended = rw length-name (rw (← (get_or-drop o t (before_zero (drop o t)) 1)) (before-zero (drop o t) in_table))

    -- an offset in the middle of a name, or on its zero byte, has the rest of that name
    module _ (i : ℕ) (h : i ≤ length (name_at t o)) where
      rest-before : i + before_zero (drop (o + i) t) ≡ before_zero (drop o t)
      rest-before = rw (← (drop-drop i o t)) (before-drop (drop o t) i (omega (arith, length-name)))

      pub has_rest : ended t (o + i) ≡ true
      unfolding ended
      has_rest =
          let k : before_zero (drop (o + i) t) < length (drop (o + i) t) = omega (arith, rest-before, in_table, length-drop o t, length-drop (o + i) t) in
          lt-ltb _ _ k

      pub name-rest : name_at t (o + i) ≡ drop i (name_at t o)
      unfolding name_at
      name-rest =
          let b : ℕ = before_zero (drop (o + i) t) in
          rw (has_rest, f, ← rest-before)
          (ap (take b) (sym (drop-drop i o t)) ∙ sym (drop-take (drop o t) i b (omega (arith, length-name, in_table))))
