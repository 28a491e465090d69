-- What a call makes of a link's table, as a list of steps: a name issued, a row added, a signature marked, section rows and counts written. Lookups, walks, removes
-- and collections make none.
-- Assumes nothing.
use Prim.Native.Nat.{ℕ}
use Rattle.std.specs.Prelude.{cond, List, [], ◌∷◌, eqb}
use Rattle.section_groups.specs.Group as Group
use Rattle.section_groups.specs.Group.{go}
use Rattle.section_groups.specs.AddGroup.{head_in, loaded_in}
use Rattle.symbol_laws.specs.History as History
use Rattle.symbol_laws.specs.History.{State, Part}
use Rattle.symbol_laws.specs.Calls.{history_parts}
use Rattle.merge_laws.specs.Steps.{Step, part}
use Rattle.merge_laws.specs.MergeSteps.{merge_steps, group_section_steps}
use Rattle.merge_laws.specs.Calls.{Linked, all_in}
use Rattle.load_laws.specs.LoadSteps.{load_steps}
use Rattle.link_laws.specs.Calls.{Call, intern, add, remove, add_group, merge, merge_file, load, collect, plain_collect, group_in, library_in, file_steps, reads, add_list, list_adds}

abbrev pub part_steps : List Part → List Step
part_steps [] = []
part_steps (p ∷ ps) = part p ∷ part_steps ps

abbrev pub direct_steps : History.Call → State → List Step
direct_steps k s = part_steps (history_parts (k ∷ []) s)

abbrev pub list_steps : List History.Call → State → List Step
list_steps ks t = part_steps (history_parts ks t)

module _ (o : Group.Object) (t : State) (work : List ℕ) (n : ℕ) where
  abbrev pub at : Group.State
  at = group_in t work

  -- a group that passes the head: its signature's name is issued and marked
  abbrev pub group_steps : List Step
  group_steps = cond (eqb (head_in o at n).number 0) (group_section_steps (loaded_in o) (go at) n) []

abbrev pub call_steps : Call → Linked → List Step
call_steps (intern x) s = direct_steps (History.intern x) s.table
call_steps (reads k) s = []
call_steps (add conversion u) s = direct_steps (History.add conversion u) s.table
call_steps (add_list conversion adds ids) s = list_steps (list_adds conversion adds ids s) s.table
call_steps (remove id) s = []
call_steps (add_group o work n) s = group_steps o s.table work n
call_steps (merge o work ids) s = merge_steps o (all_in s work ids)
call_steps (merge_file file cells work ids) s = file_steps file cells work ids s
call_steps (load o marks) s = load_steps o (library_in s marks)
call_steps (collect marks entry work) s = []
call_steps (plain_collect marks entry work) s = []
