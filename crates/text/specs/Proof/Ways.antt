-- The ways through the functions.
-- Assumes nothing.
use Prim.Native.Nat.{ℕ, suc, ◌+◌, ◌-◌, ◌<◌, ◌≤◌}
use Rattle.std.proofs.Common.{add-one, ap, ◌∙◌, drop_of_length-le, drop-cons}
use native.Mathlib.Omega.{arith}
use Rattle.std.specs.Prelude.{◌≡◌, refl, List, [], ◌∷◌, length, drop, get_or, Bool, true, false, Option, Some, None}
use Rattle.std.proofs.Math.Bool.{beq}
use Rattle.byte_slices.specs.Bytes.{part}
use Rattle.text.specs.Fields.{is_separator, run_length, run_end, next_field, start_of, field_at, field_of}
use Rattle.text.specs.Decimal.{digit_of, decimal_from, decimal_of}

-- ---- fields

module _ (l : List ℕ) (i : ℕ) (c : Bool) where
  pub run_on : i < length l → beq (is_separator (get_or l i 0)) c ≡ true → run_end l i c ≡ run_end l (i + 1) c
  unfolding run_end run_length
  run_on h e =
      let more : run_length c (drop i l) ≡ suc (run_length c (drop (i + 1) l)) = rw (drop-cons l i 0 h, e) (simp add-one) in
      omega arith

  pub run-stop : i < length l → beq (is_separator (get_or l i 0)) c ≡ false → run_end l i c ≡ i
  unfolding run_end run_length
  run-stop h e =
      let none : run_length c (drop i l) ≡ 0 = rw (drop-cons l i 0 h, e) refl in
      omega arith

  pub run_out : length l ≤ i → run_end l i c ≡ i
  unfolding run_end run_length
  run_out h =
      let none : run_length c (drop i l) ≡ 0 = simp (drop_of_length-le l h) in
      omega arith

module _ (l t : List ℕ) (s e : ℕ) where
  pub run-forward : e ≡ run_end l s false → s ≤ e
  unfolding run_end
  run-forward q = omega arith

  pub field-part : (k : ℕ) → s ≡ start_of l (run_end l 0 true) k → e ≡ run_end l s false → t ≡ part l s (e - s) → t ≡ field_of l k
  unfolding run_end field_at field_of
  field-part k a q p = let n : e - s ≡ run_length false (drop s l) = omega arith in rw (← a) (p ∙ rw n)

module _ (l : List ℕ) (at k i : ℕ) where
  one_less : i < k → k - i ≡ suc (k - (i + 1))
  one_less h = omega arith

  pub start-on : i < k → start_of l at (k - i) ≡ start_of l (next_field l at) (k - (i + 1))
  unfolding start_of
  start-on h = rw (one_less h)

  pub start-end : k ≤ i → start_of l at (k - i) ≡ at
  unfolding start_of
  start-end h = let e : k - i ≡ 0 = omega arith in rw e

-- ---- numbers

module _ (x : List ℕ) (i n : ℕ) (h : i < length x) where
  pub decimal-on : decimal_from (Some n) (drop i x) ≡ decimal_from (digit_of n (get_or x i 0)) (drop (i + 1) x)
  unfolding decimal_from
  decimal-on = rw (drop-cons x i 0 h) (simp add-one)

none-from : (l : List ℕ) → decimal_from None l ≡ None
unfolding decimal_from
none-from [] = refl
none-from (b ∷ l) = none-from l

pub decimal-fails : (x : List ℕ) (i n : ℕ) → i < length x → digit_of n (get_or x i 0) ≡ None → decimal_from (Some n) (drop i x) ≡ None
decimal-fails x i n h e = decimal-on x i n h ∙ ap (λ (m : Option ℕ). decimal_from m (drop (i + 1) x)) e ∙ none-from (drop (i + 1) x)

pub decimal-end : (x : List ℕ) (i n : ℕ) → length x ≤ i → decimal_from (Some n) (drop i x) ≡ Some n
unfolding decimal_from
decimal-end x i n h = simp (drop_of_length-le x h)

pub decimal-none : (x : List ℕ) → length x ≡ 0 → decimal_of x ≡ None
unfolding decimal_of
decimal-none [] h = refl
decimal-none (b ∷ l) h = absurd (omega arith)

pub decimal-some : (x : List ℕ) → (length x ≡ 0 → ⊥) → decimal_of x ≡ decimal_from (Some 0) x
unfolding decimal_of
decimal-some [] h = absurd (h refl)
decimal-some (b ∷ l) h = refl
