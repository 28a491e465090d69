-- Histories of direct calls and merges on a link.
-- Assumes nothing.
use Rattle.std.specs.Prelude.{ℕ, List, [], ◌∷◌, ◌++◌}
use Rattle.link.specs.Judge.{going_of}
use Rattle.symbol_laws.specs.History as History
use Rattle.symbol_laws.specs.History.{State, Entry, run, log}
use Rattle.merge_stages.specs.Stages.{All, all_of, Object}
use Rattle.merge_elf.specs.Merge.{merge_of}
use Rattle.merge_laws.specs.Steps.{log_steps}
use Rattle.merge_laws.specs.MergeSteps.{merge_steps}
use Rattle.merge_laws.specs.Whole.{table_in}
use Rattle.merge_laws.specs.Marked.{marks_of}

-- the table, and the lists that only merges and loads write
pub record Linked : Type 0 where
  pub table : State
  pub inputs : List ℕ
  pub lists : List ℕ

abbrev pub linked : State → List ℕ → List ℕ → Linked
linked t i l = record { table = t; inputs = i; lists = l }

-- with a merge's work cells
abbrev pub all_in : Linked → List ℕ → List ℕ → All
all_in s work ids =
    all_of s.table.bytes s.table.names s.table.symbols s.table.sections s.inputs s.lists work ids (going_of s.table.link)

abbrev pub link_in : All → Linked
link_in a = linked (table_in a) a.inputs a.lists

pub data Call : Type 0 where
  direct : History.Call → Call
  -- lent cells for the sections' work rows and for the symbols' ids, whatever they hold
  merge : Object → List ℕ → List ℕ → Call

abbrev pub call_next : Call → Linked → Linked
call_next (direct k) s = linked (History.call_next k s.table) s.inputs s.lists
call_next (merge o work ids) s = link_in (merge_of o (all_in s work ids)).cells

-- the accepted adds that aren't local: of a merge, its steps'
abbrev pub call_notes : Call → Linked → List Entry
call_notes (direct k) s = History.call_notes k s.table
call_notes (merge o work ids) s = log_steps (merge_steps o (all_in s work ids)) s.table

abbrev pub run_calls : List Call → Linked → Linked
run_calls = run call_next call_notes

abbrev pub log_calls : List Call → Linked → List Entry
log_calls = log call_next call_notes

abbrev pub Removes : Call → Linked → Type 0
Removes (direct k) s = History.Removes k s.table
Removes (merge o work ids) s = ⊥

abbrev pub RemovesNothing : List Call → Linked → Type 0
RemovesNothing [] s = Unit {0}
RemovesNothing (k ∷ ks) s = (Removes k s → ⊥) × RemovesNothing ks (call_next k s)

-- ---- signatures

-- those of the groups that were accepted, in order
abbrev pub call_marks : Call → Linked → List (List ℕ)
call_marks (direct k) s = []
call_marks (merge o work ids) s = marks_of (merge_steps o (all_in s work ids)) s.table

abbrev pub signatures : List Call → Linked → List (List ℕ)
signatures [] s = []
signatures (k ∷ ks) s = call_marks k s ++ signatures ks (call_next k s)
