-- What a merge or a load is refused with before its first element: there it leaves the link as it was.
-- Assumes nothing.
use Rattle.std.specs.Prelude.{cond}
use Rattle.link.specs.declared.cause.Refusal.{Refusal}
use Rattle.link.specs.Judge.{none}
use Rattle.merge_elf.specs.Merge as Merge
use Rattle.shared_objects.specs.Load as Shared
use Rattle.merge_laws.specs.Calls.{Linked, all_in}
use Rattle.link_laws.specs.Calls.{Call, intern, add, remove, add_group, merge, merge_file, load, collect, plain_collect, library_in, file_head, is_read, reads, add_list}
use Rattle.elf_laws.specs.Object as ElfFile

-- the refusal of a merge's or a load's head, before its first element
abbrev pub head_refusal : Call → Linked → Refusal
head_refusal (intern x) s = none
head_refusal (reads k) s = none
head_refusal (add conversion u) s = none
head_refusal (add_list conversion adds ids) s = none
head_refusal (remove id) s = none
head_refusal (add_group o work n) s = none
head_refusal (merge o work ids) s = Merge.head_in o (all_in s work ids)
head_refusal (merge_file file cells work ids) s = cond (is_read file cells s) (Merge.head_in (ElfFile.rows_of file) (all_in s work ids)) (file_head file cells s)
head_refusal (load o marks) s = Shared.head_in o (library_in s marks)
head_refusal (collect marks entry work) s = none
head_refusal (plain_collect marks entry work) s = none
