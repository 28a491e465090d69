-- The start over some indexes: 1 of the ends, 20, 1 of the contents, 2, then the rows. Nothing is written by a refusal.
-- Assumes nothing.
use Rattle.std.specs.Prelude.{ℕ, zero, suc, ◌+◌, ◌-◌, ◌/◌, Bool, false, cond, List, Result, Ok, Err, eqb, leb, ltb, length}
use Rattle.link.specs.Bounds.{lesser}
use Rattle.link.specs.Judge.{refused, none, within}
use Rattle.link.specs.Proof.Judged.{first}
use Rattle.link.specs.declared.cause.Refusal.{Refusal}
use Rattle.archive_index.specs.Index.{count_of, names_at, cut_of, word_bytes}
use Rattle.archive_index.specs.Archives.{Archives, start_at, end_at, index_at, count_at, entries_in}
use Rattle.archive_index.specs.Rows.{rows_of, rows_in}

-- number 0: the rows are made; else there are no entries
pub record Opened : Type 0 where
  pub entries : ℕ
  pub refusal : Refusal

abbrev pub answer_in : Opened → Result ℕ Refusal
answer_in o = cond (eqb o.refusal.number 0) (Ok o.entries) (Err o.refusal)

pub record Left : Type 0 where
  pub cells : List ℕ
  pub opened : Opened

abbrev pub left : List ℕ → Opened → Left
left l o = record { cells = l; opened = o }

abbrev pub opened_as : ℕ → Refusal → Opened
opened_as c r = record { entries = c; refusal = r }

-- ---- the ends

-- as many indexes are walked as one, and no more
abbrev pub archive_bound : ℕ
archive_bound = 16

-- of n numbers from j on the first that f doesn't hold of, else j + n
unfoldable pub first_not : (ℕ → Bool) → ℕ → ℕ → ℕ
first_not f zero j = j
first_not f (suc n) j = cond (f j) (first_not f n (j + 1)) j

-- the first of n that f doesn't hold of is refused
unfoldable pub judge_each : (ℕ → Bool) → ℕ → ℕ → Refusal
judge_each f n number = cond (ltb (first_not f n 0) n) (refused number (first_not f n 0)) none

-- an end is not below the one before it, nor past the slice
unfoldable pub end_fits : Archives → ℕ → Bool
end_fits a j = cond (leb (start_at a j) (end_at a j)) (leb (end_at a j) (length a.bytes)) false

-- an index has a byte at least, else 20
unfoldable pub is_filled : Archives → ℕ → Bool
is_filled a j = ltb 0 (length (index_at a j))

-- ---- the contents of an index, of which the first entry is entry b of all

-- as many entries, of all indexes together, and no more
abbrev pub entry_bound : ℕ
entry_bound = 65535

-- how many offsets the bytes after the count have room for
abbrev pub offsets_in : ℕ → ℕ
offsets_in n = (n - word_bytes) / word_bytes

abbrev pub cut_in : List ℕ → ℕ
cut_in s = cut_of s (names_at (count_of s)) (count_of s) 0

-- of c entries the first whose name is cut short is x, of all entries b + x
abbrev pub judge_cut : ℕ → ℕ → ℕ → Refusal
judge_cut x c b = cond (ltb x c) (refused 1 (b + x)) none

-- fewer bytes than the count takes give 1 at the index's first entry; then the first offset that is cut short does, or the bound where that comes first; then the first
-- name that is cut short. The bound is judged with the offsets, so that no name of an unbounded list is read; entries count over all indexes
unfoldable pub judge_index : List ℕ → ℕ → Refusal
judge_index s b =
    cond (ltb (length s) word_bytes) (refused 1 b)
    (cond (ltb (offsets_in (length s)) (count_of s)) (refused 1 (lesser entry_bound (b + offsets_in (length s))))
    (cond (ltb entry_bound (b + count_of s)) (refused 1 entry_bound) (judge_cut (cut_in s) (count_of s) b)))

-- the n indexes from j on, index by index
unfoldable pub judge_from : Archives → ℕ → ℕ → ℕ → Refusal
judge_from a zero j b = none
judge_from a (suc n) j b = first (judge_index (index_at a j) b) (judge_from a n (j + 1) (b + count_at a j))

-- ---- the start

-- a row for each entry, else 2
abbrev pub judge_rows : ℕ → ℕ → Refusal
judge_rows rows entries = cond (ltb rows entries) (refused 2 0) none

unfoldable pub judge_archives : Archives → ℕ → Refusal
judge_archives a rows =
    first (judge_each (end_fits a) (length a.ends) 1)
    (first (judge_each (is_filled a) (length a.ends) 20)
    (first (judge_from a (length a.ends) 0 0) (judge_rows rows (entries_in a))))

-- more indexes than the bound give 1 at it, before anything else is judged
unfoldable pub judge_of : Archives → ℕ → Refusal
judge_of a rows = first (within (length a.ends) archive_bound) (judge_archives a rows)

unfoldable pub open_of : Archives → List ℕ → Left
open_of a l = cond (eqb (judge_of a (rows_in l)).number 0) (left (rows_of a l) (opened_as (entries_in a) none)) (left l (opened_as 0 (judge_of a (rows_in l))))
