-- What the calls return, and every lent cell after them.
-- Assumes nothing.
use Rattle.std.specs.Prelude.{ℕ, cond, List, [], ◌∷◌, ltb, length, Result, Ok, Err}
use Rattle.cells.specs.Rows.{put_row}
use Rattle.link.specs.declared.cause.Refusal.{Refusal}
use Rattle.elf_file.specs.declared.counts.Counts.{Counts}
use Rattle.elf_file.specs.Counts.{counted_of}
use Rattle.elf_file.specs.Read.{Done, read_of}
use Rattle.merge_file.specs.MergeFile as File
use Rattle.merge_file.specs.MergeFile.{merge_file_of}
use Rattle.ffi_cells.specs.Header.{is_short, link_in, refused_of, Told, told, tell_of}
use Rattle.ffi_merge.specs.Calls.{Rows, rows_in, with_link}

-- ---- a count

-- the number returned and the answer's cells: the place, or sections, symbols, relocations, listed sections and work rows
pub record CountLeft : Type 0 where
  pub number : ℕ
  pub answer : List ℕ

abbrev pub count_left : ℕ → List ℕ → CountLeft
count_left n a = record { number = n; answer = a }

unfoldable pub count_told : List ℕ → Result Counts Refusal → CountLeft
count_told a (Ok c) = count_left 0 (put_row a 0 (0 ∷ c.sections ∷ c.symbols ∷ c.relocations ∷ c.listed ∷ c.work_rows ∷ 0 ∷ 0 ∷ []))
count_told a (Err r) = count_left r.number (put_row a 0 (r.place ∷ 0 ∷ 0 ∷ 0 ∷ 0 ∷ 0 ∷ 0 ∷ 0 ∷ []))

unfoldable pub count_call : List ℕ → List ℕ → CountLeft
count_call a file = cond (ltb (length a) 8) (count_left 1 a) (count_told a (counted_of file))

-- ---- a read

pub record ReadLeft : Type 0 where
  pub number : ℕ
  pub answer : List ℕ
  pub rows : List ℕ

abbrev pub read_left : ℕ → List ℕ → List ℕ → ReadLeft
read_left n a r = record { number = n; answer = a; rows = r }

abbrev pub read_told : List ℕ → Done → ReadLeft
read_told a d =
    read_left d.answer.number
    (put_row a 0 (d.answer.place ∷ d.answer.sections ∷ d.answer.entries ∷ d.answer.contents ∷ d.answer.strings ∷ 0 ∷ 0 ∷ 0 ∷ [])) d.cells

unfoldable pub read_call : List ℕ → List ℕ → List ℕ → ReadLeft
read_call a file rows = cond (ltb (length a) 8) (read_left 1 a rows) (read_told a (read_of file rows))

-- ---- a merge

-- the link's rows with the work cells, and the cells for the file's rows
pub record Lent : Type 0 where
  pub link : Rows
  pub rows : List ℕ

abbrev pub lent_of : Rows → List ℕ → Lent
lent_of m r = record { link = m; rows = r }

pub record FileLeft : Type 0 where
  pub told : Told
  pub lent : Lent

abbrev pub file_left : Told → Lent → FileLeft
file_left t l = record { told = t; lent = l }

abbrev pub file_told : List ℕ → File.FileLeft → FileLeft
file_told h w = file_left (tell_of h w.merged.cells.stage.link (refused_of w.merged.said)) (lent_of (rows_in w.merged.cells) w.rows)

unfoldable pub file_call : List ℕ → List ℕ → Lent → FileLeft
file_call h file m = cond (is_short h) (file_left (told 1 h) m) (file_told h (merge_file_of file m.rows (with_link m.link (link_in h))))
