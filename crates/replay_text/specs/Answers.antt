-- Answers as the oracle's lists write them: the pieces that are put one behind the other.
-- Assumes nothing.
use Rattle.link.specs.declared.Interned.{Interned}
use Rattle.std.specs.Prelude.{ℕ, ◌+◌, ◌-◌, Bool, true, false, cond, List, [], ◌∷◌, ◌++◌, eqb, ltb, length, Option, None, Some}
pub use Rattle.text.specs.Writing.{Pieces, put_all}
use Rattle.link.specs.declared.cause.Refusal.{Refusal}
use Rattle.interner.specs.Names.{name_at}
use Rattle.symbol.specs.Offset.{word_of}
use Rattle.symbol.specs.declared.Symbol.{Symbol}
use Rattle.symbol.specs.declared.SymbolType.{SymbolType}
use Rattle.symbol.specs.declared.SymbolType.TheVariants as Kind
use Rattle.symbol.specs.declared.SymbolVisibility.{SymbolVisibility}
use Rattle.symbol.specs.declared.SymbolVisibility.TheVariants as Visibility
use Rattle.symbol.specs.declared.SymbolValue.{SymbolValue}
use Rattle.symbol.specs.declared.SymbolValue.TheVariants as Value
pub use Rattle.text.specs.Digits.{decimal}
use Rattle.replay_words.specs.Words.{dash_word, zero_word, one_word}

-- ---- words

-- `refused `
abbrev pub refused_word : List ℕ
refused_word = 114 ∷ 101 ∷ 102 ∷ 117 ∷ 115 ∷ 101 ∷ 100 ∷ 32 ∷ []

-- ` `
abbrev pub space_word : List ℕ
space_word = 32 ∷ []

-- ` + `
abbrev pub plus_word : List ℕ
plus_word = 32 ∷ 43 ∷ 32 ∷ []

-- ` - `
abbrev pub minus_word : List ℕ
minus_word = 32 ∷ 45 ∷ 32 ∷ []

-- ` null`
abbrev pub null_word : List ℕ
null_word = 32 ∷ 110 ∷ 117 ∷ 108 ∷ 108 ∷ []

-- ` abs `
abbrev pub abs_word : List ℕ
abs_word = 32 ∷ 97 ∷ 98 ∷ 115 ∷ 32 ∷ []

-- ` sec `
abbrev pub sec_word : List ℕ
sec_word = 32 ∷ 115 ∷ 101 ∷ 99 ∷ 32 ∷ []

-- ` rel `
abbrev pub rel_word : List ℕ
rel_word = 32 ∷ 114 ∷ 101 ∷ 108 ∷ 32 ∷ []

-- ` addr `
abbrev pub addr_word : List ℕ
addr_word = 32 ∷ 97 ∷ 100 ∷ 100 ∷ 114 ∷ 32 ∷ []

-- ` notloaded`
abbrev pub not_loaded_word : List ℕ
not_loaded_word = 32 ∷ 110 ∷ 111 ∷ 116 ∷ 108 ∷ 111 ∷ 97 ∷ 100 ∷ 101 ∷ 100 ∷ []

-- ` external`
abbrev pub external_word : List ℕ
external_word = 32 ∷ 101 ∷ 120 ∷ 116 ∷ 101 ∷ 114 ∷ 110 ∷ 97 ∷ 108 ∷ []

-- ` undef 1`
abbrev pub undef_one : List ℕ
undef_one = 32 ∷ 117 ∷ 110 ∷ 100 ∷ 101 ∷ 102 ∷ 32 ∷ 49 ∷ []

-- ` undef 0`
abbrev pub undef_zero : List ℕ
undef_zero = 32 ∷ 117 ∷ 110 ∷ 100 ∷ 101 ∷ 102 ∷ 32 ∷ 48 ∷ []

-- ` com `
abbrev pub com_word : List ℕ
com_word = 32 ∷ 99 ∷ 111 ∷ 109 ∷ 32 ∷ []

-- ` size `
abbrev pub size_word : List ℕ
size_word = 32 ∷ 115 ∷ 105 ∷ 122 ∷ 101 ∷ 32 ∷ []

-- ` local 0`
abbrev pub local_word : List ℕ
local_word = 32 ∷ 108 ∷ 111 ∷ 99 ∷ 97 ∷ 108 ∷ 32 ∷ 48 ∷ []

-- ` weak `
abbrev pub weak_word : List ℕ
weak_word = 32 ∷ 119 ∷ 101 ∷ 97 ∷ 107 ∷ 32 ∷ []

-- ` global `
abbrev pub global_word : List ℕ
global_word = 32 ∷ 103 ∷ 108 ∷ 111 ∷ 98 ∷ 97 ∷ 108 ∷ 32 ∷ []

-- ` 0 -`
abbrev pub no_file_word : List ℕ
no_file_word = 32 ∷ 48 ∷ 32 ∷ 45 ∷ []

-- ` 1 `
abbrev pub file_word : List ℕ
file_word = 32 ∷ 49 ∷ 32 ∷ []

-- `symbol `
abbrev pub symbol_word : List ℕ
symbol_word = 115 ∷ 121 ∷ 109 ∷ 98 ∷ 111 ∷ 108 ∷ 32 ∷ []

-- ---- numbers and names

-- a word and a number
unfoldable pub numbered : List ℕ → ℕ → Pieces
numbered word v = word ∷ decimal v ∷ []

-- `refused NUMBER PLACE`
unfoldable pub refusal_text : Refusal → Pieces
refusal_text r = numbered refused_word r.number ++ numbered space_word r.place

-- the empty name is written as `-`
unfoldable pub shown : List ℕ → List ℕ
shown x = cond (eqb (length x) 0) dash_word x

unfoldable pub name_text : List ℕ → List ℕ → ℕ → Pieces
name_text bytes names id = shown (name_at bytes names id) ∷ []

-- ---- a symbol

-- an offset by its word: below 2^63 itself, else what it lacks to 2^64
unfoldable pub signed_text : ℕ → Pieces
signed_text word = cond (ltb word 0x8000000000000000) (numbered plus_word word) (numbered minus_word (0xffffffffffffffff - word + 1))

abbrev pub undef_word : Bool → List ℕ
undef_word true = undef_one
undef_word false = undef_zero

unfoldable pub value_text : SymbolValue → Pieces
value_text Value.Null = null_word ∷ []
value_text (Value.Absolute v) = numbered abs_word v
value_text (Value.Section s) = numbered sec_word s.0
value_text (Value.SectionRelative s z) = numbered rel_word s.0 ++ signed_text (word_of z)
value_text (Value.SectionVirtualAddress s a) = numbered addr_word s.0 ++ numbered space_word a
value_text Value.SectionNotLoaded = not_loaded_word ∷ []
value_text Value.ExternallyDefined = external_word ∷ []
value_text (Value.Undefined z) = undef_word z ∷ []
value_text (Value.Common alignment) = numbered com_word alignment

-- a size of 0 isn't told
unfoldable pub size_text : ℕ → Pieces
size_text size = cond (eqb size 0) [] (numbered size_word size)

unfoldable pub held_text : Symbol → Pieces
held_text s = value_text s.value ++ size_text s.size

abbrev pub digit_of : Bool → List ℕ
digit_of true = one_word
digit_of false = zero_word

unfoldable pub flagged : List ℕ → Bool → Pieces
flagged word flag = word ∷ digit_of flag ∷ []

abbrev pub weak_of : Bool → List ℕ
weak_of true = weak_word
weak_of false = global_word

-- class and hidden
unfoldable pub visibility_text : SymbolVisibility → Pieces
visibility_text Visibility.Local = local_word ∷ []
visibility_text (Visibility.Global weak hidden) = flagged (weak_of weak) hidden

-- ` 0` to ` 3`
unfoldable pub type_text : SymbolType → Pieces
type_text Kind.NoType = (32 ∷ 48 ∷ []) ∷ []
type_text Kind.Object = (32 ∷ 49 ∷ []) ∷ []
type_text Kind.Function = (32 ∷ 50 ∷ []) ∷ []
type_text Kind.Section = (32 ∷ 51 ∷ []) ∷ []

unfoldable pub kind_text : Symbol → Pieces
kind_text s = visibility_text s.visibility ++ type_text s.kind

unfoldable pub file_text : List ℕ → List ℕ → Option Interned → Pieces
file_text bytes names None = no_file_word ∷ []
file_text bytes names (Some id) = file_word ∷ name_text bytes names id.0

-- `symbol ID NAME`
unfoldable pub head_text : List ℕ → List ℕ → Symbol → Pieces
head_text bytes names s = numbered symbol_word s.id.0 ++ (space_word ∷ name_text bytes names s.name.0)

-- `symbol ID NAME CLASS HIDDEN TYPE OPTNAME VALUE`, and ` size N`
unfoldable pub symbol_text : List ℕ → List ℕ → Symbol → Pieces
symbol_text bytes names s = head_text bytes names s ++ (kind_text s ++ (file_text bytes names s.file ++ held_text s))
