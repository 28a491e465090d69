-- The known places of archives, row by row (specs/Differences.antt), by computation.
-- Assumes nothing.
use Rattle.std.specs.Prelude.{refl, true, false}
use Rattle.gabi.specs.StringTable.{before_zero, ended, has_name, name_at, same_name}
use Rattle.gabi.specs.StringTable as Strings
use Rattle.gabi.specs.SymbolTable.{is_global, is_weak, is_reference, is_definition, is_common}
use Rattle.gabi.specs.Resolution as Gabi
use Rattle.gabi.specs.Resolution.{is_global_definition, is_weak_definition, is_global_reference, has, resolve, is_common_definition}
use Rattle.gabi.specs.Archive.{is_unresolved, wants, offers, extracts}
use Rattle.cells.specs.Rows.{put_row}
use Rattle.byte_slices.specs.Bytes.{word_at, same}
use Rattle.link.specs.Bounds.{lesser}
use Rattle.link.specs.Judge.{judge_sections, judge_names, judge_lists, after_symbols, after_sections}
use Rattle.link.specs.Judge as Link
use Rattle.keyed_hash.specs.Keyed as Keyed
use Rattle.interner.specs.Hash.{spread, head_cell}
use Rattle.interner.specs.Names.{chase, seek_of, find_from, find_of}
use Rattle.symbol.specs.Layout.{scope_and_type, scope_in, type_in}
use Rattle.symbol_resolution.specs.Holder.{held_by, holder_of}
use Rattle.symbol_resolution.specs.RowsUndefined.{strong_undefined}
use Rattle.upcoming_symbol.specs.Judge.{shown_of, hidden_of, section_in_range, elf_in_range}
use Rattle.upcoming_symbol.specs.Judge as Upcoming
use Rattle.upcoming_symbol.specs.Upcoming.{in_section, converted_of, undefined_of, value_of, elf_row_of}
use Rattle.archive_index.specs.Index.{count_of, offset_of, after_of, cut_of}
use Rattle.archive_index.specs.Rows as Rows
use Rattle.archive_index.specs.Archives.{start_at, index_at, entries_from, member_from}
use Rattle.archive_index.specs.Open.{first_not, judge_each, end_fits, is_filled, judge_index, judge_from, judge_archives, open_of}
use Rattle.archive_index.specs.Open as Open
use Rattle.archive_walk.specs.Look.{judge_table, name_holder, removed_name, ties_row, tied_name}
use Rattle.archive_walk.specs.Names.{name_chain, along, bears_of, borne_from, chained, headed_of, noted_of, required_of}
use Rattle.archive_walk.specs.Walk.{begun_of, start_of, offer_of, marked, enqueue, tie_of, tie_all, removed_of, make_of, search_of, pass_of, walk_fits, go_of, next_of}
use Rattle.archive_laws.specs.Runs.{step_run, history, start_run}
use Rattle.elf_object.specs.Rows as Object
use Rattle.elf_object.specs.Judge as Judged
use Rattle.cells.specs.Search.{any_from}
use Rattle.object_requirement.specs.Matches as Admits
use Rattle.extraction_laws.specs.Member.{with_name, rows_named, section_named, sections_named, member_of}
use Rattle.extraction_laws.specs.Differences.{All, agreeing, also, cases, local_admits_not, member_refers, none, reference_admits_not, weak_admits, weak_definition, weak_reference, weak_ties_none}

pub differences : All cases
unfolding before_zero ended has_name name_at same_name Strings.among is_global is_weak is_reference is_definition Gabi.count is_global_definition is_weak_definition is_global_reference has resolve is_unresolved wants offers extracts put_row same lesser judge_sections judge_names judge_lists after_symbols after_sections Link.judge_of word_at Keyed.folded Keyed.mixed Keyed.hash_from Keyed.point_of Keyed.hash_of spread head_cell chase seek_of find_from find_of held_by holder_of shown_of hidden_of section_in_range elf_in_range Upcoming.judge_of in_section converted_of undefined_of value_of elf_row_of count_of offset_of after_of cut_of Rows.descend Rows.spot_of Rows.enter_of Rows.enter_all Rows.no_heads Rows.rows_from start_at index_at entries_from member_from first_not judge_each end_fits is_filled judge_index judge_from judge_archives Open.judge_of open_of judge_table name_holder removed_name strong_undefined ties_row tied_name name_chain along bears_of borne_from chained headed_of noted_of required_of begun_of start_of offer_of marked enqueue tie_of tie_all removed_of make_of search_of pass_of walk_fits go_of next_of step_run history start_run Object.section_of Object.entries_from Object.table_entries Judged.range_ok Judged.contents_ok Judged.header_ok Judged.entry_ok Judged.first_bad Judged.bad_header Judged.bad_entry Judged.judge_of Admits.is_section Admits.name_anywhere Admits.is_required any_from Admits.defines_name Admits.admits Admits.bears_required Admits.in_table Admits.is_table Admits.in_section Admits.has_global_symbol Admits.offered_in Admits.matches_of with_name rows_named section_named sections_named member_of scope_and_type scope_in type_in is_common is_common_definition
differences =
    also {c = agreeing false} (refl, refl, refl, refl, refl)
    (also {c = weak_reference} (refl, refl, refl, refl, refl)
    (also {c = weak_definition} (refl, refl, refl, refl, refl)
    (also {c = member_refers} (refl, refl, refl, refl, refl)
    (also {c = agreeing true} (refl, refl, refl, refl, refl)
    (also {c = weak_ties_none} (refl, refl, refl, refl, refl)
    (also {c = weak_admits} (refl, refl, refl, refl, refl)
    (also {c = reference_admits_not} (refl, refl, refl, refl, refl) (also {c = local_admits_not} (refl, refl, refl, refl, refl) none))))))))
