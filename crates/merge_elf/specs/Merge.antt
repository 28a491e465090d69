-- Document 01, "Objects" and the refusal table: what a merge answers, and every lent cell after it.
-- Assumes nothing.
use Rattle.std.specs.Prelude.{ℕ, ◌/◌, cond, List, eqb, ltb, length, Result, Ok, Err}
use denote.Triple.Both.{Both}
use Rattle.cells.specs.Rows.{row_width}
use Rattle.link.specs.declared.Link.{Link}
use Rattle.link.specs.declared.Lent.{Lent}
use Rattle.link.specs.declared.cause.Refusal.{Refusal}
use Rattle.link.specs.Stage.{Stage}
use Rattle.link.specs.Judge as Link
use Rattle.link.specs.Counts.{lent_of}
use Rattle.elf_object.specs.Rows.{rows_in}
use Rattle.elf_object.specs.Judge as Elf
use Rattle.merge_stages.specs.Stages.{All, all_of, Object, stages_of, Cells, merge_before}
use Rattle.merge_stages.specs.declared.Merge as Lent
use Rattle.merge_elf.specs.declared.Outcome.{Outcome}

-- a work row for each section, a cell for each symbol
unfoldable pub work_refusal : List ℕ → List ℕ → ℕ → ℕ → Refusal
work_refusal headers entries work ids =
    cond (ltb (work / row_width) (rows_in headers)) (Link.refused 2 0) (cond (ltb ids (rows_in entries)) (Link.refused 2 0) (Link.refused 0 0))

unfoldable pub rows_refusal : List ℕ → List ℕ → ℕ → ℕ → Refusal → Refusal
rows_refusal headers entries work ids rows = cond (eqb rows.number 0) (work_refusal headers entries work ids) rows

-- 22, 1 (the link's counts, the object's sections and symbols), then the work cells
unfoldable pub check_of : Link → Lent → List ℕ → List ℕ → ℕ → ℕ → ℕ → ℕ → Refusal
check_of l lent headers entries contents image work ids =
    cond (eqb (Link.change_of l lent).number 0) (rows_refusal headers entries work ids (Elf.judge_of headers entries contents image))
    (Link.change_of l lent)

-- ---- the call

-- every lent cell, the link, the answer and what it says
pub record Left : Type 0 where
  pub cells : All
  pub answer : Result Unit Refusal
  pub said : Refusal

abbrev pub linked_as : All → Link → All
linked_as a l =
    all_of a.bytes a.names a.symbols a.sections a.inputs a.lists a.work a.ids (Link.going_of l)

abbrev pub leave : All → Link → Result Unit Refusal → Left
leave a l answer = record { cells = linked_as a l; answer = answer; said = Link.refusal_in answer }

abbrev pub outcome : List ℕ → List ℕ → List ℕ → List ℕ → List ℕ → List ℕ → List ℕ → List ℕ → Outcome → Left
outcome b n s x i l w d r = leave (all_of b n s x i l w d (Link.going_of r.link)) r.link r.answer

-- with the cells after the call
abbrev pub outcome_after : Both Cells Cells → Outcome → Left
outcome_after c r =
    outcome c.exit.bytes c.exit.names c.exit.symbols c.exit.sections c.exit.inputs c.exit.lists c.exit.work c.exit.ids r

-- of what is lent together
abbrev pub left_after : Lent.Merge → Result Unit Refusal → Left
left_after m answer = leave (merge_before m) m.link answer

-- a starred refusal breaks the link; "that call's earlier elements stay merged". All that a stage gives are starred: 15 can't be met, since
-- type 4 never reaches an add
unfoldable pub ended_as : Stage → Outcome
ended_as s =
    cond (eqb s.number 0) (record { link = s.link; answer = (Ok tt) })
    (record { link = Link.broken_of s.link; answer = Err (Link.refused s.number s.place) })

abbrev pub leave_as : All → Outcome → Left
leave_as a r = leave a r.link r.answer

abbrev pub ended_of : All → Left
ended_of a = leave_as a (ended_as a.stage)

abbrev pub lent : All → Lent
lent a =
    lent_of (length a.names) (length a.bytes) (length a.symbols) (length a.sections) (length a.inputs) (length a.lists)

abbrev pub head_in : Object → All → Refusal
head_in o a =
    check_of a.stage.link (lent a) o.headers o.entries (length o.contents) (length o.image) (length a.work) (length a.ids)

-- an object that passes the head
unfoldable pub finished_of : Object → All → Left
finished_of o a = ended_of (stages_of o a)

unfoldable pub merge_of : Object → All → Left
merge_of o a = cond (eqb (head_in o a).number 0) (finished_of o a) (leave a a.stage.link (Err (head_in o a)))
