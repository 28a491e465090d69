-- Document 02, 2026-01: the merge of a file. "A file read and merged must equal its rows merged by hand": the merge is `mergeOf` of `rows_of`.
-- Assumes nothing.
use Rattle.std.specs.Prelude.{ℕ, ◌+◌, ◌*◌, Bool, cond, List, eqb, ltb, length, take, drop, Err}
use Rattle.cells.specs.Rows.{row_width}
use Rattle.link.specs.declared.cause.Refusal.{Refusal}
use Rattle.link.specs.Judge.{refused}
use Rattle.merge_stages.specs.Stages.{All, Object, object_of}
use Rattle.merge_elf.specs.Merge.{Left, leave, merge_of}
use Rattle.elf_file.specs.Check.{file_refusal}
use Rattle.elf_file.specs.Read.{Reading, read_as}
use Rattle.elf_file.specs.declared.reading.Written.{Written}
use Rattle.elf_laws.specs.Object.{rows_of, cells_of, laid}

-- what a merge leaves and answers, and the cells that were lent for the rows
pub record FileLeft : Type 0 where
  pub rows : List ℕ
  pub merged : Left

abbrev pub file_left : List ℕ → Left → FileLeft
file_left rows left = record { rows = rows; merged = left }

-- 22; "26, [..] right after 22"; "27, after 26"; "then 2, place 0, too few lent rows": that many cells are lent
unfoldable pub file_head_of : Bool → List ℕ → ℕ → Refusal
file_head_of broken image cells =
    cond broken (refused 22 0)
    (cond (eqb (file_refusal image).number 0) (cond (ltb cells (cells_of image)) (refused 2 0) (refused 0 0)) (file_refusal image))

abbrev pub file_head_in : List ℕ → List ℕ → All → Refusal
file_head_in image rows a = file_head_of a.stage.link.broken image (length rows)

-- "all leave everything, the link unbroken"
abbrev pub unread : List ℕ → All → Refusal → FileLeft
unread rows a r = file_left rows (leave a a.stage.link (Err r))

-- then the merge of the file's rows
unfoldable pub merge_file_of : List ℕ → List ℕ → All → FileLeft
merge_file_of image rows a =
    cond (eqb (file_head_in image rows a).number 0) (file_left (laid (rows_of image) rows) (merge_of (rows_of image) a)) (unread rows a (file_head_in image rows a))

-- ---- as the code has it: the merge of the cells that a read wrote, by its counts

abbrev pub reading_of : Written → Reading
reading_of w = read_as 0 0 w.sections w.entries w.contents w.strings

abbrev pub cut_of : List ℕ → List ℕ → Reading → Object
cut_of image rows r =
    object_of (take (r.sections * row_width) (drop 0 rows)) (take (r.entries * row_width) (drop (r.sections * row_width) rows))
    (take r.contents (drop ((r.sections + r.entries) * row_width) rows))
    image
    r.strings

unfoldable pub merge_read_of : List ℕ → List ℕ → Reading → All → Left
merge_read_of image rows r a =
    cond (eqb r.number 0) (merge_of (cut_of image rows r) a) (leave a a.stage.link (Err (refused r.number r.place)))
