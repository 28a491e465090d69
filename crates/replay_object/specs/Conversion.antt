-- The conversion of direct adds as a list tells it: 64 words, each in its cell.
-- Assumes nothing.
use Rattle.std.specs.Prelude.{ℕ, zero, suc, ◌+◌, ◌%◌, ◌^◌, cond, List, [], ◌∷◌, length, ◌==◌, slice_set}
use Rattle.byte_slices.specs.Bytes.{same}
use Rattle.text.specs.Fields.{field_of}
use Rattle.replay_words.specs.Words.{number_in, none_word}

-- `unloaded`
abbrev pub unloaded_word : List ℕ
unloaded_word = 117 ∷ 110 ∷ 108 ∷ 111 ∷ 97 ∷ 100 ∷ 101 ∷ 100 ∷ []

-- 0 nothing, also where there is no word; 1 not loaded; else the id and 2
unfoldable pub cell_of : List ℕ → ℕ
cell_of word =
    cond (length word == 0) 0 (cond (same word none_word) 0 (cond (same word unloaded_word) 1 ((number_in word + 2) % 2 ^ 64)))

unfoldable pub convert_from : ℕ → List ℕ → List ℕ → ℕ → List ℕ
convert_from zero c line i = c
convert_from (suc n) c line i = convert_from n (slice_set c (6144 + i) (cell_of (field_of line (i + 1)))) line (i + 1)

unfoldable pub convert_of : List ℕ → List ℕ → List ℕ
convert_of c line = convert_from 64 c line 0
