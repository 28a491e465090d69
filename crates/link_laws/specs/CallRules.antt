-- "The answer to every call is a result or, exactly where document 01's rules in their order give it, one of the refusals": the rules of every call.
-- Assumes nothing.
use Rattle.std.specs.Prelude.{◌/◌, List, [], ◌++◌, length}
use Rattle.merge_laws.specs.Calls.{Linked, all_in}
use Rattle.link_laws.specs.Read as Read
use Rattle.link_laws.specs.Calls.{Call, intern, add, remove, add_group, merge, merge_file, load, collect, plain_collect, library_in, reads, add_list}
use Rattle.elf_laws.specs.Object as ElfFile
use Rattle.link_laws.specs.Rules.{Rule}
use Rattle.link_laws.specs.TableRules.{get_head, present_rules, get_global_head, global_rules, remove_head, absent_rules, intern_head, room_rules, resolve_head, issued_alone, add_head, add_rules}
use Rattle.link_laws.specs.GroupRules.{alone, group_head, is_noted, own_group_rules}
use Rattle.link_laws.specs.MergeRules.{merge_rules}
use Rattle.link_laws.specs.FileRules.{file_rules}
use Rattle.link_laws.specs.LoadRules.{load_rules}
use Rattle.link_laws.specs.ArchiveRules.{start_rules, next_rules, shadowed_rules, matches_rules, would_rules}
use Rattle.link_laws.specs.CollectRules.{collect_rules, plain_rules}
use Rattle.link_laws.specs.ListRules.{list_head, list_rules}
use Rattle.add_list.specs.AddList.{items_of}

abbrev pub rules : Call → Linked → List Rule
rules (intern x) s = intern_head s.table ++ room_rules s.table x
rules (reads (Read.resolve id)) s = resolve_head s.table ++ issued_alone s.table id.0
rules (add conversion u) s = add_head s.table ++ add_rules s.table conversion u
rules (add_list conversion adds ids) s = list_head s.table adds ids ++ list_rules conversion (items_of adds) s.table
rules (remove id) s = remove_head s.table ++ absent_rules s.table id.0
rules (reads (Read.get id)) s = get_head s.table ++ present_rules s.table id.0
rules (reads (Read.get_global name)) s = get_global_head s.table ++ global_rules s.table name.0
-- "A section without a symbol answers "none"": no refusal, nor 1 where fewer cells are lent (DECISIONS 12 and h)
rules (reads (Read.section_symbol id)) s = []
rules (add_group o work n) s = group_head o n s.table (length work / 8) ++ own_group_rules (alone o) n (is_noted work) s.table (length work / 8)
rules (merge o work ids) s = merge_rules o (all_in s work ids)
-- "then" its rows' own
rules (merge_file file cells work ids) s = file_rules s.table.link.broken file (length cells) ++ merge_rules (ElfFile.rows_of file) (all_in s work ids)
rules (load o marks) s = load_rules o (library_in s marks)
rules (reads (Read.archive_start key archives cells)) s = start_rules archives cells
rules (reads (Read.archive_next archives cells w)) s = next_rules archives cells w s.table
rules (reads (Read.archive_shadowed index rows w cells)) s = shadowed_rules index rows w s.table cells
rules (reads (Read.matches headers entries contents file index cells w e)) s = matches_rules headers entries contents file index cells w e
rules (reads (Read.would_define headers entries contents file cells)) s = would_rules headers entries contents file s.table cells
rules (collect marks entry work) s = collect_rules s.table s.lists marks entry work
rules (plain_collect marks entry work) s = plain_rules s.table s.lists marks entry work
