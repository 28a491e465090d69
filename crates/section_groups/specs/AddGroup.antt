-- Document 01, "Groups" and the refusal table: `add_group` as a call of its own. 22, then 1, then the marks; 4, 5, 29, 6, 7, 2. "Those marked *
-- break the link when met inside an object", so not here.
-- Assumes nothing.
use Rattle.std.specs.Prelude.{ℕ, ◌/◌, cond, List, [], eqb, ltb, length, Ok, Err}
use Rattle.cells.specs.Rows.{row_width}
use Rattle.link.specs.declared.Link.{Link}
use Rattle.link.specs.declared.Lent.{Lent}
use Rattle.link.specs.declared.cause.Refusal.{Refusal}
use Rattle.link.specs.Stage.{Stage}
use Rattle.link.specs.Bounds.{not_lent, name_rows}
use Rattle.link.specs.Judge as Link
use Rattle.link.specs.Counts.{lent_rows}
use Rattle.elf_object.specs.Rows.{rows_in, is_loaded}
use Rattle.elf_object.specs.Kinds.{group, symbol_table}
use Rattle.elf_object.specs.Judge as Elf
use Rattle.section_groups.specs.Group.{Object, object_of, Step, group_of}
use Rattle.section_groups.specs.Group as Group
use Rattle.section_groups.specs.declared.alone.Outcome.{Outcome}

-- a section that is no group is out of range; a mark for each section of the object
unfoldable pub marks_refusal : List ℕ → ℕ → ℕ → Refusal
marks_refusal headers work n =
    cond (is_loaded headers n group) (cond (ltb (work / row_width) (rows_in headers)) (Link.refused 2 0) (Link.refused 0 0)) (Link.refused 1 n)

unfoldable pub rows_refusal : List ℕ → ℕ → ℕ → Refusal → Refusal
rows_refusal headers work n rows = cond (eqb rows.number 0) (marks_refusal headers work n) rows

unfoldable pub check_of : Link → Lent → List ℕ → List ℕ → ℕ → ℕ → ℕ → ℕ → Refusal
check_of l lent headers entries contents image work n =
    cond (eqb (Link.change_of l lent).number 0) (rows_refusal headers work n (Elf.judge_of headers entries contents image)) (Link.change_of l lent)

-- every lent cell, the link, the answer and what it says
pub record Left : Type 0 where
  pub bytes : List ℕ
  pub names : List ℕ
  pub work : List ℕ
  pub outcome : Outcome
  pub said : Refusal

abbrev pub left_of : List ℕ → List ℕ → List ℕ → Outcome → Left
left_of b n w r = record { bytes = b; names = n; work = w; outcome = r; said = Link.refusal_in r.answer }

abbrev pub state_of : List ℕ → List ℕ → List ℕ → Link → Group.State
state_of = Group.state_of

unfoldable pub answer_of : Stage → Outcome
answer_of s =
    cond (eqb s.number 0) (record { link = s.link; answer = (Ok tt) })
    (record { link = s.link; answer = Err (Link.refused s.number s.place) })

abbrev pub answered : Step → Left
answered g = left_of g.bytes g.names g.work (answer_of g.stage)

abbrev pub lent : Group.State → Lent
lent s = lent_rows (name_rows (length s.names)) (length s.bytes) not_lent s.link.slots not_lent not_lent

abbrev pub head_in : Object → Group.State → ℕ → Refusal
head_in o s n =
    check_of s.link (lent s) o.headers o.entries (length o.contents) (length o.image) (length s.work) n

-- "Excluded sections vanish first": as in a merge, the entries are there only if their table is loaded
unfoldable pub table_in : List ℕ → List ℕ → ℕ → List ℕ
table_in headers entries t = cond (is_loaded headers t symbol_table) entries []

abbrev pub loaded_in : Object → Object
loaded_in o = object_of o.headers (table_in o.headers o.entries o.table) o.contents o.image o.table

unfoldable pub add_group_of : Object → Group.State → ℕ → Left
add_group_of o s n =
    cond (eqb (head_in o s n).number 0) (answered (group_of (loaded_in o) s n))
    (left_of s.bytes s.names s.work (record { link = s.link; answer = Err (head_in o s n) }))
