-- Document 01, "Objects": ".., uninitialized, program sections (18, then 19)"; "An input's row is taken last (2, place 0)".
-- Assumes nothing.
use Rattle.std.specs.Prelude.{ℕ, cond, List, [], ◌∷◌, eqb, ltb, length, Result}
use Rattle.cells.specs.Rows.{put_row}
use Rattle.link.specs.declared.Link.{Link}
use Rattle.link.specs.Stage.{Stage}
use Rattle.link.specs.declared.cause.Refusal.{Refusal}
use Rattle.link.specs.Bounds.{input_rows}
use Rattle.link.specs.Judge as Link
use Rattle.link.specs.Counts.{more_inputs}
use Rattle.elf_object.specs.Kinds.{program, uninitialized}
use Rattle.merge_build.specs.Build as Build
use Rattle.merge_build.specs.declared.Builder.{Builder}

-- ---- the object's row, with the inputs

pub record InputLinks : Type 0 where
  pub inputs : List ℕ
  pub stage : Stage

abbrev pub input_links : List ℕ → Stage → InputLinks
input_links i st = record { inputs = i; stage = st }

-- an object has nothing but the kind of input that it is
abbrev pub object_cells : List ℕ
object_cells = 1 ∷ 0 ∷ 0 ∷ 0 ∷ 0 ∷ 0 ∷ 0 ∷ 0 ∷ []

unfoldable pub input_row_of : List ℕ → Link → InputLinks
input_row_of inputs l =
    cond (ltb l.inputs (input_rows (length inputs))) (input_links (put_row inputs l.inputs object_cells) (Link.going_of (more_inputs l)))
    (input_links inputs (Link.stopped_of l 2 0))

-- ---- what is built, and then that row

pub record BuildLinks : Type 0 where
  pub bytes : List ℕ
  pub names : List ℕ
  pub sections : List ℕ
  pub inputs : List ℕ
  pub lists : List ℕ
  pub stage : Stage

abbrev pub build_links : List ℕ → List ℕ → List ℕ → List ℕ → List ℕ → Stage → BuildLinks
build_links b n s i l st = record { bytes = b; names = n; sections = s; inputs = i; lists = l; stage = st }

-- what is lent before the call, and after it, with its answer
abbrev pub links_before : Builder → BuildLinks
links_before b = build_links b.bytes.now b.names.now b.sections.now b.inputs.now b.lists.now (Link.going_of b.link)

abbrev pub links_after : Builder → Result Unit Refusal → BuildLinks
links_after b r = build_links b.bytes.now b.names.now b.sections.now b.inputs.now b.lists.now (Link.stage_as b.link r)

abbrev pub building : BuildLinks → Build.State
building s = Build.state_of s.bytes s.names s.sections s.lists s.stage

abbrev pub after_build : BuildLinks → Build.State → BuildLinks
after_build s b = build_links b.bytes b.names b.sections s.inputs b.lists b.stage

abbrev pub with_input : BuildLinks → InputLinks → BuildLinks
with_input s i = build_links s.bytes s.names s.sections i.inputs s.lists i.stage

unfoldable pub input_stage : BuildLinks → BuildLinks
input_stage s = cond (eqb s.stage.number 0) (with_input s (input_row_of s.inputs s.stage.link)) s

unfoldable pub program_stage : Build.Object → BuildLinks → BuildLinks
program_stage o s = cond (eqb s.stage.number 0) (input_stage (after_build s (Build.build_of o (building s) program))) s

unfoldable pub built_of : Build.Object → BuildLinks → BuildLinks
built_of o s = program_stage o (after_build s (Build.build_of o (building s) uninitialized))
