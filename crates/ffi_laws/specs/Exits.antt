-- What a caller in another language sees of a merge, of a file's merge and of a load: the number that it returns and its header, and every cell lent to be
-- written; and these as the contract has them, with what was lent before the call.
-- Assumes nothing.
use denote.Triple.Both.{Both}
use Rattle.ffi_cells.specs.Contract.{ToldExit}
use Rattle.ffi_merge.specs.Calls as MergeCalls
use Rattle.ffi_merge.specs.FileCalls as FileCalls
use Rattle.ffi_preview.specs.Contract as Preview
use Rattle.ffi_load.specs.Calls as LoadCalls

-- ---- merge_elf

pub record MergeExit : Type 0 where
  pub told : ToldExit
  pub rows : MergeCalls.Rows

abbrev pub merge_rows : MergeCalls.Rows → MergeExit → Both MergeCalls.Rows MergeCalls.Rows
merge_rows c e = record { entry = c; exit = e.rows }

-- ---- preview_elf

pub record PreviewExit : Type 0 where
  pub exit : Preview.PreviewExit
  pub rows : MergeCalls.Rows

abbrev pub preview_rows : MergeCalls.Rows → PreviewExit → Both MergeCalls.Rows MergeCalls.Rows
preview_rows c e = record { entry = c; exit = e.rows }

-- ---- merge_file

pub record FileExit : Type 0 where
  pub told : ToldExit
  pub lent : FileCalls.Lent

abbrev pub file_lent : FileCalls.Lent → FileExit → Both FileCalls.Lent FileCalls.Lent
file_lent c e = record { entry = c; exit = e.lent }

-- ---- load_shared_object

pub record LoadExit : Type 0 where
  pub told : ToldExit
  pub rows : LoadCalls.Rows

abbrev pub load_rows : LoadCalls.Rows → LoadExit → Both LoadCalls.Rows LoadCalls.Rows
load_rows c e = record { entry = c; exit = e.rows }
