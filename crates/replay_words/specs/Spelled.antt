-- Bytes that a word spells, two hexadecimal digits each.
-- Assumes nothing.
use Rattle.std.specs.Prelude.{ℕ, zero, suc, ◌+◌, ◌-◌, ◌*◌, ◌/◌, ◌%◌, ◌^◌, cond, List, length, nat_lt, slice_index, slice_set}

-- a to f
unfoldable pub letter_of : ℕ → ℕ
letter_of b = cond (nat_lt b 97) 0 (cond (nat_lt 102 b) 0 (b - 87))

unfoldable pub digit_of : ℕ → ℕ
digit_of b = cond (nat_lt b 48) (letter_of b) (cond (nat_lt 57 b) (letter_of b) (b - 48))

unfoldable pub spelled_of : List ℕ → ℕ → ℕ
spelled_of word k =
    cond (nat_lt k (length word / 2)) (digit_of (slice_index word (2 * k)) * 16 + digit_of (slice_index word (2 * k + 1))) 0

-- the n bytes from the k-th on, each at its place from `at` on
unfoldable pub put_from : ℕ → List ℕ → ℕ → List ℕ → ℕ → List ℕ
put_from zero to at word k = to
put_from (suc n) to at word k = put_from n (slice_set to ((at + k) % 2 ^ 64) (spelled_of word k)) at word (k + 1)

-- the bytes, and how many were put
pub record Spelled : Type 0 where
  pub to : List ℕ
  pub count : ℕ

abbrev pub spelled : List ℕ → ℕ → Spelled
spelled to n = record { to = to; count = n }

unfoldable pub put_bytes : List ℕ → ℕ → List ℕ → Spelled
put_bytes to at word = spelled (put_from (length word / 2) to at word 0) (length word / 2)
