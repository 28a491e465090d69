-- Request 2026-01: the rows of a file, as lists: what the reader hands over. "A file read and merged must equal its rows merged by hand": these.
-- Assumes nothing.
use Rattle.std.specs.Prelude.{ℕ, zero, suc, ◌+◌, ◌*◌, List, [], ◌∷◌, ◌++◌, length, drop}
use Rattle.merge_stages.specs.Stages.{Object, object_of}
use Rattle.gabi.specs.File.{section_count, header_table, name_section, symbol_at}
use Rattle.elf_file.specs.File.{header_at}
use Rattle.elf_file.specs.Rows.{entries_in, contents_in, entry_count, content_count, names_of, strings_number, header_row_of}
use Rattle.elf_file.specs.Read.{symbol_row, bytes_of, element_at}

-- of k sections from i on
unfoldable pub headers_from : List ℕ → List ℕ → List ℕ → ℕ → ℕ → ℕ → ℕ → List ℕ
headers_from file names table i e c zero = []
headers_from file names table i e c (suc k) =
    header_row_of file names (header_at table i) e c
    ++ headers_from file names table (i + 1) (e + entries_in (header_at table i)) (c + contents_in (header_at table i)) k

-- of k symbols from j on
unfoldable pub symbols_from : List ℕ → ℕ → ℕ → List ℕ
symbols_from bytes j zero = []
symbols_from bytes j (suc k) = symbol_row (symbol_at bytes j) ++ symbols_from bytes (j + 1) k

unfoldable pub all_symbols_from : List ℕ → List ℕ → ℕ → ℕ → List ℕ
all_symbols_from file table i zero = []
all_symbols_from file table i (suc k) =
    symbols_from (bytes_of file (header_at table i)) 0 (entries_in (header_at table i)) ++ all_symbols_from file table (i + 1) k

unfoldable pub elements_from : ℕ → List ℕ → ℕ → ℕ → List ℕ
elements_from type bytes j zero = []
elements_from type bytes j (suc k) = element_at type bytes j ∷ elements_from type bytes (j + 1) k

unfoldable pub all_elements_from : List ℕ → List ℕ → ℕ → ℕ → List ℕ
all_elements_from file table i zero = []
all_elements_from file table i (suc k) =
    elements_from (header_at table i).kind (bytes_of file (header_at table i)) 0 (contents_in (header_at table i)) ++ all_elements_from file table (i + 1) k

-- an object as a merge takes it; the string tables are parts of the file
abbrev pub object_in : List ℕ → List ℕ → ℕ → ℕ → Object
object_in file table n s =
    object_of (headers_from file (names_of file table s n) table 0 0 0 n) (all_symbols_from file table 0 n) (all_elements_from file table 0 n) file
    (strings_number s n)

-- the rows of a file that isn't refused
unfoldable pub rows_of : List ℕ → Object
rows_of file = object_in file (header_table file) (section_count file) (name_section file)

-- the cells that its rows need
unfoldable pub cells_of : List ℕ → ℕ
cells_of file =
    section_count file * 8 + entry_count (header_table file) 0 (section_count file) * 8 + content_count (header_table file) 0 (section_count file)

-- the lent cells with them: headers, entries, contents, and behind them what was there
abbrev pub laid : Object → List ℕ → List ℕ
laid o l = ((o.headers ++ o.entries) ++ o.contents) ++ drop (length ((o.headers ++ o.entries) ++ o.contents)) l
