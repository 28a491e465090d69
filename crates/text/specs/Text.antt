-- Text that is put together in a buffer, piece by piece.
-- Assumes nothing.
use Rattle.std.specs.Prelude.{ℕ, ◌+◌, ◌≡◌, cond, List, leb, length}
use Rattle.std.proofs.Math.Seq.{paste}
use Rattle.io.specs.Digits.{last_digits, IsDigitCount}

-- the buffer, and how many of its bytes are text
pub record Text : Type 0 where
  pub bytes : List ℕ
  pub len : ℕ

abbrev pub text_of : List ℕ → ℕ → Text
text_of b n = record { bytes = b; len = n }

-- x behind the text; nothing where not all of it has room
unfoldable pub put_of : List ℕ → ℕ → List ℕ → Text
put_of b n x = cond (leb (n + length x) (length b)) (text_of (paste b n x (length x)) (n + length x)) (text_of b n)

-- t is that text with v behind it, in decimal digits without leading zeros
pub record PutDecimal (b : List ℕ) (n v : ℕ) (t : Text) : Type 0 where
  pub count : ℕ
  pub fewest : IsDigitCount 10 1 v count
  pub put : t ≡ put_of b n (last_digits 10 count v)
