-- Words of an operation's line, and the numbers and names that they are.
-- Assumes nothing.
use Rattle.std.specs.Prelude.{ℕ, Bool, cond, List, [], ◌∷◌, eqb, length, Option, Some, None}
use Rattle.byte_slices.specs.Bytes.{same}
use Rattle.text.specs.Fields.{field_of}
use Rattle.text.specs.Decimal.{decimal_of}

unfoldable pub word_is : List ℕ → ℕ → List ℕ → Bool
word_is line k word = same (field_of line k) word

-- a word that is no number is one that no list holds
abbrev pub value_of : Option ℕ → ℕ
value_of None = 0xffffffffffffffff
value_of (Some v) = v

unfoldable pub number_in : List ℕ → ℕ
number_in x = value_of (decimal_of x)

unfoldable pub number_at : List ℕ → ℕ → ℕ
number_at line k = number_in (field_of line k)

-- of a word that a line may lack: 0 then
unfoldable pub optional_at : List ℕ → ℕ → ℕ
optional_at line k = cond (eqb (length (field_of line k)) 0) 0 (number_at line k)

-- `-`, `0`, `1` and `none`
abbrev pub dash_word : List ℕ
dash_word = 45 ∷ []

abbrev pub zero_word : List ℕ
zero_word = 48 ∷ []

abbrev pub one_word : List ℕ
one_word = 49 ∷ []

abbrev pub none_word : List ℕ
none_word = 110 ∷ 111 ∷ 110 ∷ 101 ∷ []

unfoldable pub name_at : List ℕ → ℕ → List ℕ
name_at line k = cond (same (field_of line k) dash_word) [] (field_of line k)
