-- The table among the cells of each stage of a merge, and what passing its head gives.
-- Assumes nothing.
use Rattle.std.specs.Prelude.{ℕ, ◌/◌, ◌≤◌, false, List, length}
use Rattle.std.proofs.Math.Path.{◌≡◌}
use Rattle.cells.specs.Rows.{row_width}
use Rattle.link.specs.Judge.{judge_of}
use Rattle.elf_object.specs.Rows.{rows_in}
use Rattle.merge_build.specs.Finish.{BuildLinks}
use Rattle.merge_stages.specs.Stages.{All, Object, SymbolLinks}
use Rattle.merge_elf.specs.Merge.{lent}
use Rattle.symbol_laws.specs.History as History

-- the table among all cells
abbrev pub table_in : All → History.State
table_in a = record { bytes = a.bytes; names = a.names; symbols = a.symbols; sections = a.sections; link = a.stage.link }

abbrev pub built_table : List ℕ → BuildLinks → History.State
built_table symbols s = record { bytes = s.bytes; names = s.names; symbols = symbols; sections = s.sections; link = s.stage.link }

abbrev pub symbol_table : SymbolLinks → History.State
symbol_table s = record { bytes = s.bytes; names = s.names; symbols = s.symbols; sections = s.sections; link = s.stage.link }

-- ---- the head

-- what passing it gives
pub record Passed (o : Object) (a : All) : Type 0 where
  pub whole : a.stage.link.broken ≡ false
  pub counts : (judge_of a.stage.link (lent a)).number ≡ 0
  pub work : rows_in o.headers ≤ length a.work / row_width
  pub ids : rows_in o.entries ≤ length a.ids
