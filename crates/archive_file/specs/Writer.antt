-- An archive file as it is written: what the reader's definitions are held against. Words for statements: no function and no contract has them.
-- Assumes nothing.
use Rattle.std.specs.Prelude.{ℕ, ◌+◌, ◌-◌, ◌%◌, ◌^◌, ◌<◌, ◌≤◌, ◌≡◌, false, cond, List, [], ◌∷◌, ◌++◌, eqb, length, map, replicate}
use Rattle.std.specs.Int.Digits.{digits_of}
use Rattle.archive_file.specs.Members.{magic, blank, slash, line_end}

-- text in a field of n bytes, filled up with blanks
abbrev pub padded : ℕ → List ℕ → List ℕ
padded n x = x ++ replicate (n - length x) blank

-- a number in decimal digits
abbrev pub digits : ℕ → List ℕ
digits n = cond (eqb n 0) (48 ∷ []) (map (λ d. 48 + d) (digits_of 10 n))

-- the text of the name field, the 32 bytes behind it (date, owner, group, mode), the member's bytes
pub record Written : Type 0 where
  pub name : List ℕ
  pub middle : List ℕ
  pub bytes : List ℕ

-- a line end after an odd number of bytes
abbrev pub fill : ℕ → List ℕ
fill n = cond (eqb (n % 2) 0) [] (line_end ∷ [])

-- a member, and what stands behind it
abbrev pub member_then : Written → List ℕ → List ℕ
member_then m rest = padded 16 m.name ++ (m.middle ++ (padded 10 (digits (length m.bytes)) ++ ((96 ∷ line_end ∷ []) ++ (m.bytes ++ (fill (length m.bytes) ++ rest)))))

unfoldable pub members : List Written → List ℕ
members [] = []
members (m ∷ ms) = member_then m (members ms)

abbrev pub archive_bytes : List Written → List ℕ
archive_bytes ms = magic ++ members ms

-- what a header has room for
pub record Fits (m : Written) : Type 0 where
  pub name : length m.name ≤ 16
  pub middle : length m.middle ≡ 32
  pub bytes : length m.bytes < 10 ^ 10

abbrev pub AllFit : List Written → Type 0
AllFit [] = Unit {0}
AllFit (m ∷ ms) = Fits m × AllFit ms

-- a text without that byte
abbrev pub Without : ℕ → List ℕ → Type 0
Without b [] = Unit {0}
Without b (x ∷ xs) = (eqb x b ≡ false) × Without b xs

-- a name in its header; one that stands at byte k of the long names; and there
abbrev pub short_text : List ℕ → List ℕ
short_text x = x ++ slash ∷ []

abbrev pub long_text : ℕ → List ℕ
long_text k = slash ∷ digits k

abbrev pub long_line : List ℕ → List ℕ
long_line x = x ++ slash ∷ line_end ∷ []
