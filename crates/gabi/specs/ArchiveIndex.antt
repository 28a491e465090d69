-- An archive's symbol table in the System V format: the bytes of the first member, whose name is empty ("/"). The chapters on object files don't have it;
-- document 01 names it. Held against an index that ar of GNU binutils 2.40 wrote.
-- Assumes nothing.
use Rattle.std.specs.Prelude.{ℕ, ◌/◌, ◌%◌, ◌<◌, List, [], ◌∷◌, ◌++◌, ◌≢◌, length}

-- a symbol's name, and the offset in the archive of the member that defines it
pub record Entry : Type 0 where
  pub name : List ℕ
  pub offset : ℕ

-- a number of 32 bits: four bytes, the highest first
unfoldable pub word : ℕ → List ℕ
word n = n / 16777216 % 256 ∷ n / 65536 % 256 ∷ n / 256 % 256 ∷ n % 256 ∷ []

unfoldable pub offsets : List Entry → List ℕ
offsets [] = []
offsets (e ∷ es) = word e.offset ++ offsets es

-- each name ends in a zero byte
unfoldable pub names : List Entry → List ℕ
names [] = []
names (e ∷ es) = e.name ++ 0 ∷ names es

-- the count, that many offsets, as many names
unfoldable pub index_bytes : List Entry → List ℕ
index_bytes es = word (length es) ++ (offsets es ++ names es)

-- what the format has room for: numbers of 32 bits, and names without a zero byte
abbrev pub NoZero : List ℕ → Type 0
NoZero [] = Unit {0}
NoZero (b ∷ bs) = (b ≢ 0) × NoZero bs

abbrev pub AllFit : List Entry → Type 0
AllFit [] = Unit {0}
AllFit (e ∷ es) = (e.offset < 4294967296) × NoZero e.name × AllFit es
