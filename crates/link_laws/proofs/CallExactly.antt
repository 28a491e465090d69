-- Each call is refused as the first of its rules says, over a link whose names are as every link has them; and no rule has a result's number.
-- Assumes nothing.
use Rattle.std.specs.Prelude.{ℕ, ◌/◌, ◌≡◌, refl, true, List, length}
use Rattle.merge_laws.specs.Marked.{Marked}
use Rattle.merge_laws.specs.Calls.{Linked, all_in}
use Rattle.link_laws.specs.Read as Read
use Rattle.link_laws.specs.Calls.{Call, intern, add, remove, add_group, merge, merge_file, load, collect, plain_collect, library_in, call_refusal, reads, add_list}
use Rattle.elf_laws.specs.Object as ElfFile
use Rattle.link_laws.specs.Rules.{first_refusal, numbered}
use Rattle.link_laws.proofs.Rules.{numbered-both}
use Rattle.link_laws.specs.GroupRules.{alone, group_head, is_noted, own_group_rules}
use Rattle.link_laws.specs.CallRules.{rules}
use Rattle.link_laws.proofs.Exactly.{get-exactly, global-exactly, remove-exactly, resolve-exactly}
use Rattle.link_laws.proofs.InternExactly.{intern-exactly}
use Rattle.link_laws.proofs.AddExactly.{add-exactly}
use Rattle.link_laws.proofs.GroupExactly as GroupExactly
use Rattle.link_laws.proofs.GroupExactly.{add-group-exactly}
use Rattle.link_laws.proofs.MergeWhole.{merge-exactly, merge-numbered}
use Rattle.link_laws.specs.MergeRules.{merge_rules}
use Rattle.link_laws.specs.FileRules.{file_rules}
use Rattle.link_laws.proofs.FileExactly.{file-exactly, file-numbered}
use Rattle.link_laws.proofs.LoadWhole.{load-exactly, load-numbered}
use Rattle.link_laws.proofs.ArchiveExactly.{start-exactly, start-numbered, next-exactly, next-numbered, shadowed-exactly, matches-exactly, matches-numbered, would-exactly, would-numbered}
use Rattle.link_laws.proofs.CollectExactly.{collect-exactly}
use Rattle.link_laws.proofs.PlainExactly.{plain-exactly}
use Rattle.link_laws.proofs.ListExactly.{list-exactly, list-numbered}
use Rattle.add_list.specs.AddList.{items_of}

pub call-exactly : (k : Call) (s : Linked) (met : List (List ℕ)) → Marked s.table met → call_refusal k s ≡ first_refusal (rules k s)
call-exactly (intern x) s met m = intern-exactly x s m.good.chained
call-exactly (reads (Read.resolve id)) s met m = resolve-exactly s id
call-exactly (add conversion u) s met m = add-exactly conversion u s
call-exactly (add_list conversion adds ids) s met m = list-exactly conversion adds ids s
call-exactly (remove id) s met m = remove-exactly s id
call-exactly (reads (Read.get id)) s met m = get-exactly s id
call-exactly (reads (Read.get_global name)) s met m = global-exactly s name
call-exactly (reads (Read.section_symbol id)) s met m = refl
call-exactly (add_group o work n) s met m = add-group-exactly o work n s m.good.chained
call-exactly (merge o work ids) s met m = merge-exactly o (all_in s work ids) met m
call-exactly (merge_file file cells work ids) s met m = file-exactly file cells work ids s met m
call-exactly (load o marks) s met m = load-exactly o (library_in s marks) m.good
call-exactly (reads (Read.archive_start key archives cells)) s met m = start-exactly key archives cells s
call-exactly (reads (Read.archive_next archives cells w)) s met m = next-exactly archives cells w s m.good.chained
call-exactly (reads (Read.archive_shadowed index rows w cells)) s met m = shadowed-exactly index rows w cells s
call-exactly (reads (Read.matches headers entries contents file index cells w e)) s met m = matches-exactly headers entries contents file index cells w e s
call-exactly (reads (Read.would_define headers entries contents file cells)) s met m = would-exactly headers entries contents file cells s
call-exactly (collect marks entry work) s met m = collect-exactly marks entry work s
call-exactly (plain_collect marks entry work) s met m = plain-exactly marks entry work s

-- no rule has the number of a result
pub rules-numbered : (k : Call) (s : Linked) → numbered (rules k s) ≡ true
rules-numbered (intern x) s = refl
rules-numbered (reads (Read.resolve id)) s = refl
rules-numbered (add conversion u) s = refl
rules-numbered (add_list conversion adds ids) s = list-numbered conversion (items_of adds) s.table
rules-numbered (remove id) s = refl
rules-numbered (reads (Read.get id)) s = refl
rules-numbered (reads (Read.get_global name)) s = refl
rules-numbered (reads (Read.section_symbol id)) s = refl
rules-numbered (add_group o work n) s =
    numbered-both (group_head o n s.table (length work / 8)) (own_group_rules (alone o) n (is_noted work) s.table (length work / 8)) (GroupExactly.head-numbered o work n s) refl
rules-numbered (merge o work ids) s = merge-numbered o (all_in s work ids)
rules-numbered (merge_file file cells work ids) s =
    numbered-both (file_rules s.table.link.broken file (length cells)) (merge_rules (ElfFile.rows_of file) (all_in s work ids))
    (file-numbered s.table.link.broken file (length cells)) (merge-numbered (ElfFile.rows_of file) (all_in s work ids))
rules-numbered (load o marks) s = load-numbered o (library_in s marks)
rules-numbered (reads (Read.archive_start key archives cells)) s = start-numbered archives cells
rules-numbered (reads (Read.archive_next archives cells w)) s = next-numbered archives cells w s.table
rules-numbered (reads (Read.archive_shadowed index rows w cells)) s = refl
rules-numbered (reads (Read.matches headers entries contents file index cells w e)) s = matches-numbered headers entries contents file index cells w e
rules-numbered (reads (Read.would_define headers entries contents file cells)) s = would-numbered headers entries contents file cells s.table
rules-numbered (collect marks entry work) s = refl
rules-numbered (plain_collect marks entry work) s = refl
