-- A preview of an object: a broken link is refused, then what is out of range, then too few preview cells; these leave the preview cells. Else the link is copied
-- into them and the object merged there, with the link's room. Answer and counts are that merge's. The link is only read.
-- Assumes nothing.
use Rattle.std.specs.Prelude.{ℕ, Bool, cond, ◌||◌, List, ◌++◌, drop, eqb, ltb, length, Err}
use Rattle.link.specs.declared.Link.{Link}
use Rattle.link.specs.declared.Lent.{Lent}
use Rattle.link.specs.declared.cause.Refusal.{Refusal}
use Rattle.link.specs.Judge as Link
use Rattle.link.specs.Counts.{lent_of}
use Rattle.elf_object.specs.Judge as Elf
use Rattle.merge_stages.specs.Stages.{All, all_of, Object}
use Rattle.merge_elf.specs.Merge.{Left, leave, merge_of}
use Rattle.preview.specs.declared.Tables as Lent

-- the cells of a link, and its counts
pub record Tables : Type 0 where
  pub bytes : List ℕ
  pub names : List ℕ
  pub symbols : List ℕ
  pub sections : List ℕ
  pub inputs : List ℕ
  pub lists : List ℕ
  pub link : Link

abbrev pub tables_read : Lent.Tables → Tables
tables_read t =
    record { bytes = t.bytes.now; names = t.names.now; symbols = t.symbols.now; sections = t.sections.now; inputs = t.inputs.now; lists = t.lists.now; link = t.link }

-- the copy of the link, with the work cells of the call
abbrev pub copy_of : Tables → All → All
copy_of t p = all_of t.bytes t.names t.symbols t.sections t.inputs t.lists p.work p.ids (Link.going_of t.link)

-- fewer preview cells of some sort than the link was lent
unfoldable pub is_short : Tables → All → Bool
is_short t p =
    ltb (length p.bytes) (length t.bytes) || ltb (length p.names) (length t.names) || ltb (length p.symbols) (length t.symbols)
    || ltb (length p.sections) (length t.sections) || ltb (length p.inputs) (length t.inputs) || ltb (length p.lists) (length t.lists)

unfoldable pub room_refusal : Tables → All → Refusal
room_refusal t p = cond (is_short t p) (Link.refused 2 0) Link.none

abbrev pub lent : Tables → Lent
lent t = lent_of (length t.names) (length t.bytes) (length t.symbols) (length t.sections) (length t.inputs) (length t.lists)

-- 22 of a broken link; 1 of the link, then of the object; then the room
unfoldable pub judged_of : Tables → All → Refusal → Refusal
judged_of t p r = cond (eqb r.number 0) (room_refusal t p) r

unfoldable pub head_of : Object → Tables → All → Refusal
head_of o t p =
    cond (eqb (Link.change_of t.link (lent t)).number 0)
    (judged_of t p (Elf.judge_of o.headers o.entries (length o.contents) (length o.image)))
    (Link.change_of t.link (lent t))

-- cells in front of what lay behind as many
abbrev pub over : List ℕ → ℕ → List ℕ → List ℕ
over x n l = x ++ drop n l

-- what a merge of the copy left, in the preview cells
abbrev pub laid : Tables → All → Left → Left
laid t p m =
    leave
    (all_of (over m.cells.bytes (length t.bytes) p.bytes) (over m.cells.names (length t.names) p.names)
    (over m.cells.symbols (length t.symbols) p.symbols) (over m.cells.sections (length t.sections) p.sections)
    (over m.cells.inputs (length t.inputs) p.inputs) (over m.cells.lists (length t.lists) p.lists) m.cells.work m.cells.ids m.cells.stage)
    m.cells.stage.link m.answer

-- a refusal of the head leaves the preview cells
unfoldable pub preview_of : Object → Tables → All → Left
preview_of o t p =
    cond (eqb (head_of o t p).number 0) (laid t p (merge_of o (copy_of t p))) (leave p p.stage.link (Err (head_of o t p)))
