-- A shared object as a list tells it: its bytes and cells, and how far they are told.
-- Assumes nothing.
use Rattle.std.specs.Prelude.{ℕ, ◌+◌, ◌-◌, ◌*◌, ◌%◌, ◌^◌, true, false, cond, List, [], ◌∷◌, slice_set}
use Rattle.cells.specs.Rows.{put_row}
use Rattle.symbol.specs.Codes.{successor}
use Rattle.text.specs.Fields.{field_of}
use Rattle.text.specs.Text.{Text, put_of}
use Rattle.replay_words.specs.Words.{word_is, number_at, name_at, zero_word, one_word}
use Rattle.replay_words.specs.Spelled.{Spelled, put_bytes}
use Rattle.cells.specs.Slice.{SliceMut}
use Rattle.replay_load.specs.declared.Library.{Library}

-- an archived library without soname
abbrev pub nothing_told : Library
nothing_told =
    record { asneeded = false; archived = true; sonamed = false; path = 0; soname = 0; entries = 0; needs = 0; bytes = 0 }

-- with a zero byte behind it
unfoldable pub ended_of : Text → Text
ended_of t = put_of t.bytes t.len (0 ∷ [])

unfoldable pub put_ended : List ℕ → ℕ → List ℕ → Text
put_ended b n x = ended_of (put_of b n x)

-- the soname, if there is one
unfoldable pub soname_in : List ℕ → ℕ → List ℕ → Text
soname_in b n line = cond (word_is line 2 one_word) (put_ended b n (name_at line 3)) (record { bytes = b; len = n })

-- ---- what is told

pub record Bytes : Type 0 where
  pub bytes : List ℕ
  pub library : Library

abbrev pub bytes_of : List ℕ → Library → Bytes
bytes_of b l = record { bytes = b; library = l }

pub record Cells : Type 0 where
  pub cells : List ℕ
  pub library : Library

abbrev pub cells_of : List ℕ → Library → Cells
cells_of c l = record { cells = c; library = l }

pub record Told : Type 0 where
  pub cells : List ℕ
  pub bytes : List ℕ
  pub library : Library

abbrev pub told_of : List ℕ → List ℕ → Library → Told
told_of c b l = record { cells = c; bytes = b; library = l }

-- of lent slices after the call
abbrev pub told_after : SliceMut → SliceMut → Library → Told
told_after c b l = told_of c.exit.now b.exit.now l

abbrev pub more_of : Library → ℕ → ℕ → ℕ → Library
more_of l entries needs bytes =
    record {
      asneeded = l.asneeded;
      archived = l.archived;
      sonamed = l.sonamed;
      path = l.path;
      soname = l.soname;
      entries = entries;
      needs = needs;
      bytes = bytes;
    }

-- path: the end of the library name; end: of the soname behind it
abbrev pub announced_as : List ℕ → ℕ → ℕ → Library
announced_as line path end =
    record {
      asneeded = word_is line 1 one_word;
      archived = word_is line 4 zero_word;
      sonamed = word_is line 2 one_word;
      path = path;
      soname = end - path;
      entries = 0;
      needs = 0;
      bytes = end;
    }

abbrev pub soname_after : List ℕ → ℕ → Text → Bytes
soname_after line path t = bytes_of t.bytes (announced_as line path t.len)

unfoldable pub path_after : List ℕ → Text → Bytes
path_after line t = soname_after line t.len (soname_in t.bytes t.len line)

-- the library name, then the soname
unfoldable pub announce_of : List ℕ → List ℕ → Bytes
announce_of b line = path_after line (put_of b 0 (name_at line 5))

abbrev pub strings_after : Library → Spelled → Bytes
strings_after l s = bytes_of s.to (more_of l l.entries l.needs ((l.bytes + s.count) % 2 ^ 64))

-- the string table, behind them
unfoldable pub strings_of : List ℕ → Library → List ℕ → Bytes
strings_of b l line = strings_after l (put_bytes b l.bytes (field_of line 1))

-- a symbol's row; the name's offset counts from the soname
unfoldable pub symbol_of : List ℕ → Library → List ℕ → Cells
symbol_of c l line =
    cells_of
    (put_row c l.entries
    ((number_at line 1 + l.soname) % 2 ^ 64
    ∷ number_at line 2
    ∷ number_at line 3
    ∷ number_at line 4
    ∷ number_at line 5
    ∷ number_at line 6
    ∷ 0
    ∷ 0
    ∷ []))
    (more_of l (successor l.entries) l.needs l.bytes)

abbrev pub need_after : List ℕ → Library → Text → Told
need_after c l t = told_of c t.bytes (more_of l l.entries (successor l.needs) t.len)

-- a dependency's name behind all, and its offset among the needs, which begin at row 256
unfoldable pub need_of : List ℕ → List ℕ → Library → List ℕ → Told
need_of c b l line = need_after (slice_set c (256 * 8 + l.needs) (l.bytes - l.path)) l (put_ended b l.bytes (name_at line 1))
