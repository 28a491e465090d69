-- A line's fields: what stands between runs of spaces (32) and tabs (9).
-- Assumes nothing.
use Rattle.std.proofs.Math.Bool.{beq}
use Rattle.std.specs.Prelude.{ℕ, zero, suc, ◌+◌, ◌-◌, Bool, true, false, cond, List, [], ◌∷◌, eqb, length, take, drop, get_or}

-- else a byte of a field
unfoldable pub is_separator : ℕ → Bool
is_separator b = cond (eqb b 32) true (eqb b 9)

-- how many separators, or bytes of a field, the list begins with
unfoldable pub run_length : Bool → List ℕ → ℕ
run_length c [] = 0
run_length c (b ∷ l) = cond (beq (is_separator b) c) (suc (run_length c l)) 0

unfoldable pub run_end : List ℕ → ℕ → Bool → ℕ
run_end l at c = at + run_length c (drop at l)

-- from where a field begins to where the next does
unfoldable pub next_field : List ℕ → ℕ → ℕ
next_field l at = run_end l (run_end l at false) true

unfoldable pub start_of : List ℕ → ℕ → ℕ → ℕ
start_of l at zero = at
start_of l at (suc k) = start_of l (next_field l at) k

unfoldable pub field_at : List ℕ → ℕ → List ℕ
field_at l at = take (run_length false (drop at l)) (drop at l)

-- field k, behind the separators that the line begins with
unfoldable pub field_of : List ℕ → ℕ → List ℕ
field_of l k = field_at l (start_of l (run_end l 0 true) k)

unfoldable pub without_cr : List ℕ → List ℕ
without_cr l = cond (eqb (get_or l (length l - 1) 0) 13) (take (length l - 1) l) l
