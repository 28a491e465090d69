-- What changing calls and lookups answer, as the lists write it.
-- Assumes nothing.
use Rattle.link.specs.declared.cause.Refusal.{Refusal}
use Rattle.symbol.specs.declared.Symbol.{Symbol}
use Rattle.link.specs.declared.SymbolId.{SymbolId}
use Rattle.std.specs.Prelude.{ℕ, Bool, true, false, cond, List, [], ◌∷◌, ◌++◌, Option, Result, None, Some, Ok, Err}
use Rattle.link.specs.declared.Link.{Link}
use Rattle.interner.specs.Names.{find_of}
use Rattle.symbols.specs.Lookup.{get_of, get_global_of, section_symbol_of}
use Rattle.replay_words.specs.Words.{word_is, number_at, name_at, none_word}
use Rattle.replay_text.specs.Answers.{Pieces, space_word, numbered, refusal_text, symbol_text}
use Rattle.replay_text.specs.declared.replies.Reply.{Reply}

-- `id `
abbrev pub id_word : List ℕ
id_word = 105 ∷ 100 ∷ 32 ∷ []

-- `ok`
abbrev pub ok_word : List ℕ
ok_word = 111 ∷ 107 ∷ []

-- `merged`
abbrev pub merged_word : List ℕ
merged_word = 109 ∷ 101 ∷ 114 ∷ 103 ∷ 101 ∷ 100 ∷ []

-- `loaded`
abbrev pub loaded_word : List ℕ
loaded_word = 108 ∷ 111 ∷ 97 ∷ 100 ∷ 101 ∷ 100 ∷ []

-- `notneeded`
abbrev pub not_needed_word : List ℕ
not_needed_word = 110 ∷ 111 ∷ 116 ∷ 110 ∷ 101 ∷ 101 ∷ 100 ∷ 101 ∷ 100 ∷ []

-- `counts `
abbrev pub counts_word : List ℕ
counts_word = 99 ∷ 111 ∷ 117 ∷ 110 ∷ 116 ∷ 115 ∷ 32 ∷ []

-- ` 1`
abbrev pub broken_word : List ℕ
broken_word = 32 ∷ 49 ∷ []

-- ` 0`
abbrev pub whole_word : List ℕ
whole_word = 32 ∷ 48 ∷ []

-- `counts`
abbrev pub counts_key : List ℕ
counts_key = 99 ∷ 111 ∷ 117 ∷ 110 ∷ 116 ∷ 115 ∷ []

-- `get`
abbrev pub get_key : List ℕ
get_key = 103 ∷ 101 ∷ 116 ∷ []

-- `global`
abbrev pub global_key : List ℕ
global_key = 103 ∷ 108 ∷ 111 ∷ 98 ∷ 97 ∷ 108 ∷ []

unfoldable pub reply_text : Result Reply Refusal → Pieces
reply_text (Ok Reply.Silent) = []
reply_text (Ok (Reply.Id id)) = numbered id_word id.0
reply_text (Ok Reply.Done) = ok_word ∷ []
reply_text (Ok Reply.Merged) = merged_word ∷ []
reply_text (Ok Reply.Loaded) = loaded_word ∷ []
reply_text (Ok Reply.NotNeeded) = not_needed_word ∷ []
reply_text (Err r) = refusal_text r

-- ---- lookups

unfoldable pub found_text : List ℕ → List ℕ → Result Symbol Refusal → Pieces
found_text bytes names (Ok symbol) = symbol_text bytes names symbol
found_text bytes names (Err r) = refusal_text r

unfoldable pub section_symbol_text : Option SymbolId → Pieces
section_symbol_text None = none_word ∷ []
section_symbol_text (Some id) = numbered id_word id.0

unfoldable pub broken_text : Bool → Pieces
broken_text true = broken_word ∷ []
broken_text false = whole_word ∷ []

unfoldable pub pair_text : ℕ → ℕ → Pieces
pair_text a b = numbered space_word a ++ numbered space_word b

unfoldable pub end_text : ℕ → Bool → Pieces
end_text lists broken = numbered space_word lists ++ broken_text broken

-- `counts NAMES BYTES SYMBOLS`
unfoldable pub front_text : Link → Pieces
front_text l = numbered counts_word l.names ++ pair_text l.bytes l.symbols

-- ` SECTIONS INPUTS LISTS BROKEN`
unfoldable pub back_text : Link → Pieces
back_text l = pair_text l.sections l.inputs ++ end_text l.lists l.broken

unfoldable pub counts_text : Link → Pieces
counts_text l = front_text l ++ back_text l

-- `counts`, `get ID`, `global NAME`, `sectionsymbol SECTION`
unfoldable pub look_text : Link → List ℕ → List ℕ → List ℕ → List ℕ → List ℕ → Pieces
look_text l bytes names symbols sections line =
    cond (word_is line 0 counts_key) (counts_text l)
    (cond (word_is line 0 get_key) (found_text bytes names (get_of l symbols (record { 0 = number_at line 1 })))
    (cond (word_is line 0 global_key)
    (found_text bytes names (get_global_of l names symbols (record { 0 = find_of bytes names l (name_at line 1) })))
    (section_symbol_text (section_symbol_of l sections (record { 0 = number_at line 1 })))))
