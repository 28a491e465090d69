-- The groups of an object: their signatures, the sections that each lists, the signatures met before one.
-- Assumes nothing.
use Rattle.std.specs.Prelude.{ℕ, Bool, cond, List, ◌++◌, ltb}
use Rattle.std.proofs.Math.Bool.{false}
use Rattle.std.proofs.Math.Dec.{eqb}
use Rattle.elf_object.specs.Rows.{mark_at}
use Rattle.section_groups.specs.Group as Group
use Rattle.section_groups.specs.Group.{listed_in, group_section_of, signature_of}
use Rattle.merge_stages.specs.Stages.{All, Object, group_object}
use Rattle.merge_laws.specs.Steps.{Step}
use Rattle.merge_laws.specs.Loop.{loop_steps}
use Rattle.merge_laws.specs.MergeSteps.{group_section_steps, group_first}
use Rattle.merge_laws.specs.GroupStage.{number_of}
use Rattle.merge_laws.specs.Whole.{table_in}
use Rattle.merge_laws.specs.Stops.{object, prepared}
use Rattle.merge_laws.specs.Marked.{marks_of}

module _ (o : Object) (a : All) where
  -- what the group stage reads
  abbrev pub reader : Group.Object
  reader = group_object (object o a)

  -- of the group at section n, and the sections that it lists
  abbrev pub signature : ℕ → List ℕ
  signature n = (signature_of reader.headers reader.entries reader.image reader.table n).name

  abbrev pub listed : ℕ → List ℕ
  listed n = listed_in reader n

  abbrev pub steps_to : ℕ → List Step
  steps_to n = loop_steps number_of (group_section_of reader) (group_section_steps reader) n 0 (group_first (prepared o a))

  -- the signatures met before section n, after those of earlier objects
  abbrev pub met_to : List (List ℕ) → ℕ → List (List ℕ)
  met_to met n = met ++ marks_of (steps_to n) (table_in (prepared o a))

-- defined in a section that is marked as removed; 0 is no section
abbrev pub removed_in : List ℕ → ℕ → Bool
removed_in work s = cond (eqb s 0) false (cond (ltb s 0xff00) (eqb (mark_at work s) 2) false)
