-- The worked links of specs/WorkedLinks.antt, by computation.
-- Assumes nothing.
use Rattle.std.specs.Int.Count.{ones}
use Rattle.std.specs.Prelude.{refl, Bool, true, false}
use Rattle.std.proofs.Common.{arith}
use Rattle.section_groups.specs.Group as Group
use Rattle.merge_stages.specs.Stages as Stages
use Rattle.shared_objects.specs.Load as Shared
use Rattle.archive_walk.specs.Walk as Archive
use Rattle.gabi.specs.Archive as Gabi-as-Archive
use Rattle.gabi.specs.Groups as Gabi-as-Groups
use Rattle.gabi.specs.Resolution as Gabi-as-Resolution
use Rattle.gabi.specs.StringTable as Gabi-as-StringTable
use Rattle.gabi.specs.SymbolTable as Gabi-as-SymbolTable
use Rattle.gabi.specs.Visibility as Gabi-as-Visibility
use Rattle.cells.specs.Rows as Cells-as-Rows
use Rattle.byte_slices.specs.Bytes as ByteSlices-as-Bytes
use Rattle.link.specs.Bounds as Link-as-Bounds
use Rattle.link.specs.Judge as Link-as-Judge
use Rattle.keyed_hash.specs.Keyed as KeyedHash-as-Keyed
use Rattle.interner.specs.Calls as Interner-as-Calls
use Rattle.interner.specs.Hash as Interner-as-Hash
use Rattle.interner.specs.Names as Interner-as-Names
use Rattle.symbol.specs.Codes as Symbol-as-Codes
use Rattle.symbol.specs.Hidden as Symbol-as-Hidden
use Rattle.symbol.specs.Layout as Symbol-as-Layout
use Rattle.symbol.specs.Offset as Symbol-as-Offset
use Rattle.symbol.specs.Row as Symbol-as-Row
use Rattle.upcoming_symbol.specs.Judge as UpcomingSymbol-as-Judge
use Rattle.upcoming_symbol.specs.Upcoming as UpcomingSymbol-as-Upcoming
use Rattle.symbol_resolution.specs.Apply as SymbolRows-as-Apply
use Rattle.symbol_resolution.specs.Decide as SymbolRows-as-Decide
use Rattle.symbol_resolution.specs.Holder as SymbolRows-as-Holder
use Rattle.symbol_resolution.specs.RowsUndefined as SymbolRows-as-Undefined
use Rattle.symbols.specs.Add as Symbols-as-Add
use Rattle.symbols.specs.Lookup as Symbols-as-Lookup
use Rattle.symbols.specs.New as Symbols-as-New
use Rattle.symbols.specs.Remove as Symbols-as-Remove
use Rattle.sections.specs.Rows as Sections-as-Rows
use Rattle.archive_index.specs.Archives as ArchiveIndex-as-Archives
use Rattle.archive_index.specs.Index as ArchiveIndex-as-Index
use Rattle.archive_index.specs.Open as ArchiveIndex-as-Open
use Rattle.archive_index.specs.Rows as ArchiveIndex-as-Rows
use Rattle.archive_walk.specs.Look as ArchiveWalk-as-Look
use Rattle.archive_walk.specs.Names as ArchiveWalk-as-Names
use Rattle.shadowed_members.specs.Shadowed as ShadowedMembers-as-Shadowed
use Rattle.elf_object.specs.Judge as ElfObject-as-Judge
use Rattle.elf_object.specs.Rows as ElfObject-as-Rows
use Rattle.shared_objects.specs.Record as LibraryLists-as-Record
use Rattle.shared_objects.specs.Head as LibraryHead-as-Head
use Rattle.cells.specs.Search as Cells-as-Search
use Rattle.shared_objects.specs.Lists as LibraryNeed-as-Lists
use Rattle.shared_objects.specs.Need as LibraryNeed-as-Need
use Rattle.object_requirement.specs.Matches as ObjectRequirement-as-Matches
use Rattle.merge_sections.specs.Notes as MergeSections-as-Notes
use Rattle.merge_sections.specs.Reserve as MergeSections-as-Reserve
use Rattle.section_groups.specs.Filter as SectionGroups-as-Filter
use Rattle.gc_sections.specs.Each as GcSections-as-Each
use Rattle.gc_sections.specs.Reach as GcSections-as-Reach
use Rattle.gc_sections.specs.Roots as GcSections-as-Roots
use Rattle.gc_sections.specs.Run as GcSections-as-Run
use Rattle.gc_sections.specs.Sweep as GcSections-as-Sweep
use Rattle.plain_collector.specs.Visit as PlainCollector-as-Visit
use Rattle.plain_collector.specs.Run as PlainCollector-as-Run
use Rattle.merge_symbols.specs.Plan as MergePlan-as-Plan
use Rattle.shared_objects.specs.Define as LibrarySymbols-as-Define
use Rattle.shared_objects.specs.SymbolsLoad as LibrarySymbols-as-Load
use Rattle.shared_objects.specs.Stages as SharedObjects-as-Stages
use Rattle.merge_symbols.specs.Stage as MergeSymbols-as-Stage
use Rattle.merge_build.specs.Build as MergeBuild-as-Build
use Rattle.merge_build.specs.Relocations as MergeBuild-as-Relocations
use Rattle.section_groups.specs.AddGroup as AddGroup-as-AddGroup
use Rattle.merge_build.specs.Finish as MergeFinish-as-Finish
use Rattle.merge_elf.specs.Merge as MergeElf-as-Merge
use Rattle.archive_laws.specs.Runs as ArchiveLaws-as-Runs
use Rattle.symbol_laws.specs.History as SymbolLaws-as-History
use Rattle.merge_laws.specs.MergeSteps as MergeLaws-as-MergeSteps
use Rattle.load_laws.specs.LoadSteps as LoadLaws-as-LoadSteps
use Rattle.merge_laws.specs.MergeWords as MergeLaws-as-MergeWords
use Rattle.symbol_laws.specs.ObjectWords as SymbolLaws-as-ObjectWords
use Rattle.untaken_member.specs.Untaken as UntakenMember-as-Untaken
use Rattle.link_laws.specs.WorkedLinks.{WorkedLinks}

pub worked-links : (gabi : Bool) → WorkedLinks gabi
unfolding UpcomingSymbol-as-Upcoming.common_by_binding UpcomingSymbol-as-Upcoming.common_of ones UntakenMember-as-Untaken.table_below UntakenMember-as-Untaken.loaded_of UntakenMember-as-Untaken.defines UntakenMember-as-Untaken.is_common UntakenMember-as-Untaken.is_strong UntakenMember-as-Untaken.gives_way UntakenMember-as-Untaken.told_name UntakenMember-as-Untaken.told_at UntakenMember-as-Untaken.told_from UntakenMember-as-Untaken.told_of UntakenMember-as-Untaken.roomed_of UntakenMember-as-Untaken.head_of UntakenMember-as-Untaken.would_of AddGroup-as-AddGroup.table_in Gabi-as-Archive.is_unresolved Gabi-as-Archive.wants Gabi-as-Archive.offers Gabi-as-Archive.extracts Gabi-as-Groups.kept Gabi-as-Groups.undefine Gabi-as-Groups.after_discard Gabi-as-Resolution.is_global_definition Gabi-as-Resolution.is_weak_definition Gabi-as-Resolution.is_common_definition Gabi-as-Resolution.is_global_reference Gabi-as-Resolution.count Gabi-as-Resolution.has Gabi-as-Resolution.first Gabi-as-Resolution.resolve Gabi-as-StringTable.before_zero Gabi-as-StringTable.has_name Gabi-as-StringTable.name_at Gabi-as-StringTable.ended Gabi-as-StringTable.same_name Gabi-as-StringTable.among Gabi-as-SymbolTable.is_local Gabi-as-SymbolTable.is_global Gabi-as-SymbolTable.is_weak Gabi-as-SymbolTable.is_reference Gabi-as-SymbolTable.is_definition Gabi-as-SymbolTable.is_common Gabi-as-Visibility.rank Gabi-as-Visibility.combine Gabi-as-Visibility.combined Cells-as-Rows.put_row ByteSlices-as-Bytes.word_at ByteSlices-as-Bytes.same ByteSlices-as-Bytes.copied Link-as-Bounds.lesser Link-as-Judge.judge_sections Link-as-Judge.judge_names Link-as-Judge.judge_lists Link-as-Judge.after_symbols Link-as-Judge.after_sections Link-as-Judge.judge_of Link-as-Judge.change_of KeyedHash-as-Keyed.folded KeyedHash-as-Keyed.mixed KeyedHash-as-Keyed.hash_from KeyedHash-as-Keyed.point_of KeyedHash-as-Keyed.hash_of Interner-as-Calls.issue_of Interner-as-Calls.intern_of Interner-as-Calls.clear_heads Interner-as-Calls.new_of Interner-as-Calls.resolve_of Interner-as-Hash.spread Interner-as-Hash.head_cell Interner-as-Names.chase Interner-as-Names.seek_of Interner-as-Names.find_from Interner-as-Names.find_of Interner-as-Names.room_of Interner-as-Names.fits_of Interner-as-Names.linked Interner-as-Names.keep_at Interner-as-Names.keep_of Symbol-as-Codes.type_at Symbol-as-Codes.successor Symbol-as-Codes.file_at Symbol-as-Codes.visibility_at Symbol-as-Codes.value_at Symbol-as-Offset.offset_of Symbol-as-Offset.word_of Symbol-as-Row.symbol_at Symbol-as-Row.set_row Symbol-as-Layout.scope_and_type Symbol-as-Layout.scope_in Symbol-as-Layout.type_in UpcomingSymbol-as-Judge.section_in_range UpcomingSymbol-as-Judge.elf_in_range UpcomingSymbol-as-Judge.external_in_range UpcomingSymbol-as-Judge.shown_of UpcomingSymbol-as-Judge.hidden_of UpcomingSymbol-as-Judge.judge_of UpcomingSymbol-as-Upcoming.in_section UpcomingSymbol-as-Upcoming.conversion_from UpcomingSymbol-as-Upcoming.converted_of UpcomingSymbol-as-Upcoming.undefined_of UpcomingSymbol-as-Upcoming.value_of UpcomingSymbol-as-Upcoming.elf_row_of UpcomingSymbol-as-Upcoming.external_row_of SymbolRows-as-Apply.note_name SymbolRows-as-Apply.set_section_symbol SymbolRows-as-Apply.note_section SymbolRows-as-Apply.append_of SymbolRows-as-Apply.apply_of SymbolRows-as-Decide.weak_of SymbolRows-as-Decide.reference_rank SymbolRows-as-Decide.rank_of SymbolRows-as-Decide.type_refusal SymbolRows-as-Decide.section_cell SymbolRows-as-Decide.section_room SymbolRows-as-Decide.room_of SymbolRows-as-Decide.new_of SymbolRows-as-Decide.replace_of SymbolRows-as-Decide.ranked_of SymbolRows-as-Decide.known_of SymbolRows-as-Decide.decide_of SymbolRows-as-Holder.held_by SymbolRows-as-Holder.holder_of Symbols-as-Add.judge_add_of Symbols-as-Add.issued_of Symbols-as-Add.direct_holder_of Symbols-as-Add.place_of Symbols-as-Add.decided_of Symbols-as-Add.committed_of Symbols-as-Add.add_row_of Symbols-as-Add.add_of Symbols-as-Lookup.found_at Symbols-as-Lookup.get_of Symbols-as-Lookup.get_global_of Symbols-as-Lookup.section_symbol_of Symbols-as-New.clear_symbols Symbols-as-New.null_of Symbols-as-New.new_of Symbols-as-Remove.drop_section Symbols-as-Remove.remove_row_of Symbols-as-Remove.remove_of Sections-as-Rows.room_of Sections-as-Rows.reserve_of Sections-as-Rows.built_of Sections-as-Rows.is_built ArchiveIndex-as-Index.count_of ArchiveIndex-as-Index.offset_of ArchiveIndex-as-Index.after_of ArchiveIndex-as-Index.place_of ArchiveIndex-as-Index.name_of ArchiveIndex-as-Index.cut_of ArchiveIndex-as-Open.open_of ArchiveIndex-as-Rows.descend ArchiveIndex-as-Rows.spot_of ArchiveIndex-as-Rows.enter_of ArchiveIndex-as-Rows.enter_all ArchiveIndex-as-Rows.no_heads ArchiveWalk-as-Look.judge_table ArchiveWalk-as-Look.name_holder ArchiveWalk-as-Look.removed_name ArchiveWalk-as-Look.undefined_name ArchiveWalk-as-Names.name_chain ArchiveWalk-as-Names.along ArchiveWalk-as-Names.bears_of ArchiveWalk-as-Names.required_of Archive.begun_of Archive.start_of Archive.offer_of Archive.marked Archive.enqueue Archive.tie_of Archive.tie_all Archive.removed_of Archive.make_of Archive.search_of Archive.pass_of Archive.walk_fits Archive.go_of Archive.next_of ElfObject-as-Judge.range_ok ElfObject-as-Judge.contents_ok ElfObject-as-Judge.header_ok ElfObject-as-Judge.entry_ok ElfObject-as-Judge.first_bad ElfObject-as-Judge.bad_header ElfObject-as-Judge.bad_entry ElfObject-as-Judge.judge_of ElfObject-as-Rows.is_excluded ElfObject-as-Rows.is_loaded ElfObject-as-Rows.name_in ElfObject-as-Rows.section_of ElfObject-as-Rows.entries_from ElfObject-as-Rows.table_entries LibraryLists-as-Record.record_fits LibraryLists-as-Record.keep_name LibraryLists-as-Record.record_as LibraryLists-as-Record.record_of LibraryLists-as-Record.dependency_of LibraryLists-as-Record.dependencies_from LibraryLists-as-Record.dependencies_of LibraryHead-as-Head.dependencies_ok LibraryHead-as-Head.bad_need LibraryHead-as-Head.soname_missing LibraryHead-as-Head.rows_of LibraryHead-as-Head.unnamed_of LibraryHead-as-Head.marks_short LibraryHead-as-Head.name_refusal LibraryHead-as-Head.after_rows LibraryHead-as-Head.check_of LibraryNeed-as-Lists.has_id Cells-as-Search.any_from LibraryNeed-as-Need.library_name LibraryNeed-as-Need.depends_on LibraryNeed-as-Need.mark_names LibraryNeed-as-Need.mark_library LibraryNeed-as-Need.mark_from LibraryNeed-as-Need.mark_all LibraryNeed-as-Need.provides LibraryNeed-as-Need.clear_named LibraryNeed-as-Need.clear_mark LibraryNeed-as-Need.clear_from LibraryNeed-as-Need.clear_all LibraryNeed-as-Need.wanted_in LibraryNeed-as-Need.name_wanted LibraryNeed-as-Need.symbol_wanted LibraryNeed-as-Need.some_wanted LibraryNeed-as-Need.marked_of LibraryNeed-as-Need.need_of ObjectRequirement-as-Matches.is_section ObjectRequirement-as-Matches.name_anywhere ObjectRequirement-as-Matches.is_required ObjectRequirement-as-Matches.bears_required ObjectRequirement-as-Matches.in_table ObjectRequirement-as-Matches.is_table ObjectRequirement-as-Matches.in_section ObjectRequirement-as-Matches.has_global_symbol ObjectRequirement-as-Matches.offered_in ObjectRequirement-as-Matches.matches_of MergeSections-as-Notes.each_from MergeSections-as-Notes.is_table MergeSections-as-Notes.note_table_of MergeSections-as-Notes.note_tables_of MergeSections-as-Notes.clear_one_of MergeSections-as-Notes.clear_all_of MergeSections-as-Reserve.kind_class MergeSections-as-Reserve.class_of MergeSections-as-Reserve.reserve_number MergeSections-as-Reserve.conversion_of MergeSections-as-Reserve.table_after MergeSections-as-Reserve.note_of MergeSections-as-Reserve.take_row_of MergeSections-as-Reserve.reserve_class_of MergeSections-as-Reserve.reserve_one_of MergeSections-as-Reserve.reserve_from MergeSections-as-Reserve.reserve_all_of SectionGroups-as-Filter.section_after SectionGroups-as-Filter.symbol_ok SectionGroups-as-Filter.filter_of Group.shape_of Group.signature_of Group.repeated_of Group.mark_refusal Group.plan_with Group.plan_of Group.mark_group_of Group.commit_group_of Group.decided_of Group.group_named Group.signed_of Group.shaped_of Group.group_of Group.group_section_of Group.groups_from Group.groups_of GcSections-as-Each.each GcSections-as-Reach.save_of GcSections-as-Reach.reach_of GcSections-as-Reach.add_of GcSections-as-Reach.root_symbol GcSections-as-Reach.root_section GcSections-as-Reach.end_of GcSections-as-Reach.relocation GcSections-as-Reach.relocations GcSections-as-Reach.follow GcSections-as-Reach.visit GcSections-as-Reach.clear_cell GcSections-as-Reach.start_of GcSections-as-Reach.roots_of GcSections-as-Reach.process_of GcSections-as-Reach.walked GcSections-as-Roots.value_lead GcSections-as-Roots.lead_of GcSections-as-Roots.readable GcSections-as-Roots.name_is GcSections-as-Roots.rooted GcSections-as-Roots.is_root GcSections-as-Run.judge_cells GcSections-as-Run.judge_of GcSections-as-Run.purge_of GcSections-as-Run.sweep_of GcSections-as-Run.finished GcSections-as-Run.collect_of GcSections-as-Run.run_of GcSections-as-Sweep.drop_unreached GcSections-as-Sweep.dropped_now GcSections-as-Sweep.purge_symbol GcSections-as-Sweep.sweep_sections GcSections-as-Sweep.purge_symbols PlainCollector-as-Visit.unvisited PlainCollector-as-Visit.visit_of PlainCollector-as-Visit.visited PlainCollector-as-Visit.marked_lead PlainCollector-as-Visit.root_lead PlainCollector-as-Visit.root_symbol PlainCollector-as-Visit.root_section PlainCollector-as-Visit.reached_of PlainCollector-as-Run.count_one PlainCollector-as-Run.count_built PlainCollector-as-Run.judge_plain PlainCollector-as-Run.finished PlainCollector-as-Run.plain_of MergePlan-as-Plan.is_first MergePlan-as-Plan.defines_of MergePlan-as-Plan.rule_of MergePlan-as-Plan.judged_of MergePlan-as-Plan.rowed_of MergePlan-as-Plan.read_of MergePlan-as-Plan.planned_of MergePlan-as-Plan.place_of MergePlan-as-Plan.file_after LibrarySymbols-as-Define.judged_of LibrarySymbols-as-Define.rowed_of LibrarySymbols-as-Define.external_of LibrarySymbols-as-Define.plan_of LibrarySymbols-as-Define.accept_of LibrarySymbols-as-Define.kept_of LibrarySymbols-as-Define.commit_of LibrarySymbols-as-Define.define_of LibrarySymbols-as-Load.library_symbol_named LibrarySymbols-as-Load.looked_of LibrarySymbols-as-Load.symbol_of LibrarySymbols-as-Load.symbols_from LibrarySymbols-as-Load.symbols_of Shared.want_of Shared.ended_as Shared.wanted_of Shared.library_named Shared.load_of SharedObjects-as-Stages.library_row_of SharedObjects-as-Stages.input_stage SharedObjects-as-Stages.lists_of SharedObjects-as-Stages.list_stage SharedObjects-as-Stages.contents_of SharedObjects-as-Stages.kept_of SharedObjects-as-Stages.issued_of SharedObjects-as-Stages.library_of MergeSymbols-as-Stage.accept_row MergeSymbols-as-Stage.kept_of MergeSymbols-as-Stage.commit_of MergeSymbols-as-Stage.symbol_named MergeSymbols-as-Stage.looked_of MergeSymbols-as-Stage.symbol_of MergeSymbols-as-Stage.symbols_from MergeSymbols-as-Stage.symbols_of MergeBuild-as-Build.plan_with MergeBuild-as-Build.plan_of MergeBuild-as-Build.section_id_of MergeBuild-as-Build.build_row_of MergeBuild-as-Build.kept_of MergeBuild-as-Build.commit_of MergeBuild-as-Build.tabled_of MergeBuild-as-Build.section_named MergeBuild-as-Build.built_from MergeBuild-as-Build.looked_of MergeBuild-as-Build.section_of MergeBuild-as-Build.build_from MergeBuild-as-Build.build_of MergeBuild-as-Relocations.table_for MergeBuild-as-Relocations.limit_of MergeBuild-as-Relocations.relocations_of MergeBuild-as-Relocations.symbol_ok MergeBuild-as-Relocations.symbols_ok MergeBuild-as-Relocations.id_in MergeBuild-as-Relocations.append_from AddGroup-as-AddGroup.marks_refusal AddGroup-as-AddGroup.rows_refusal AddGroup-as-AddGroup.check_of AddGroup-as-AddGroup.answer_of AddGroup-as-AddGroup.add_group_of MergeFinish-as-Finish.input_row_of MergeFinish-as-Finish.input_stage MergeFinish-as-Finish.program_stage MergeFinish-as-Finish.built_of Stages.build_stage Stages.merge_table_of Stages.filtered_of Stages.filter_stage Stages.merge_groups_of Stages.group_stage Stages.reserved_stages Stages.stages_of MergeElf-as-Merge.work_refusal MergeElf-as-Merge.rows_refusal MergeElf-as-Merge.check_of MergeElf-as-Merge.ended_as MergeElf-as-Merge.finished_of MergeElf-as-Merge.merge_of ArchiveLaws-as-Runs.start_run ArchiveLaws-as-Runs.step_run SymbolLaws-as-History.noted MergeLaws-as-MergeSteps.adds_of MergeLaws-as-MergeSteps.row_steps MergeLaws-as-MergeSteps.named_steps MergeLaws-as-MergeSteps.symbol_steps MergeLaws-as-MergeSteps.signed_steps MergeLaws-as-MergeSteps.group_section_steps MergeLaws-as-MergeSteps.built_steps MergeLaws-as-MergeSteps.section_steps MergeLaws-as-MergeSteps.input_steps MergeLaws-as-MergeSteps.program_steps MergeLaws-as-MergeSteps.both_steps MergeLaws-as-MergeSteps.build_stage_steps MergeLaws-as-MergeSteps.table_steps MergeLaws-as-MergeSteps.filtered_steps MergeLaws-as-MergeSteps.filter_steps MergeLaws-as-MergeSteps.merge_groups_steps MergeLaws-as-MergeSteps.group_stage_steps MergeLaws-as-MergeSteps.reserved_steps MergeLaws-as-MergeSteps.stages_steps MergeLaws-as-MergeSteps.merge_steps LoadLaws-as-LoadSteps.record_steps LoadLaws-as-LoadSteps.named_steps LoadLaws-as-LoadSteps.symbol_steps LoadLaws-as-LoadSteps.dependency_steps LoadLaws-as-LoadSteps.input_steps LoadLaws-as-LoadSteps.lists_steps LoadLaws-as-LoadSteps.list_stage_steps LoadLaws-as-LoadSteps.contents_steps LoadLaws-as-LoadSteps.kept_steps LoadLaws-as-LoadSteps.issued_steps LoadLaws-as-LoadSteps.library_steps LoadLaws-as-LoadSteps.wanted_steps LoadLaws-as-LoadSteps.asked_steps LoadLaws-as-LoadSteps.load_steps ArchiveWalk-as-Names.borne_from ArchiveWalk-as-Names.chained ArchiveWalk-as-Names.headed_of ArchiveWalk-as-Names.noted_of MergeLaws-as-MergeWords.relocates MergeLaws-as-MergeWords.named_by MergeLaws-as-MergeWords.entries_to MergeLaws-as-MergeWords.symbol_names MergeLaws-as-MergeWords.own_signatures MergeLaws-as-MergeWords.is_removed SymbolLaws-as-ObjectWords.loaded_as SymbolLaws-as-ObjectWords.strings_of Symbol-as-Hidden.hidden_code Symbol-as-Hidden.hide_code Symbol-as-Hidden.show_code Symbol-as-Hidden.passes Symbol-as-Hidden.hide_if Symbol-as-Hidden.pass_hidden UpcomingSymbol-as-Upcoming.library_code SymbolRows-as-Apply.replaced_in SymbolRows-as-Apply.amended_in SymbolRows-as-Decide.kept_of ArchiveWalk-as-Look.ties_row ArchiveWalk-as-Look.tied_name SymbolRows-as-Undefined.strong_undefined ObjectRequirement-as-Matches.defines_name ObjectRequirement-as-Matches.admits ShadowedMembers-as-Shadowed.offered_among ShadowedMembers-as-Shadowed.weak_definition ShadowedMembers-as-Shadowed.told_row ShadowedMembers-as-Shadowed.told_name ShadowedMembers-as-Shadowed.told_at ShadowedMembers-as-Shadowed.those ShadowedMembers-as-Shadowed.fits_index ShadowedMembers-as-Shadowed.shadowed_of SectionGroups-as-Filter.discarded_at Group.is_fresh Group.all_fresh Group.all_marked Group.mark_one Group.mark_from ArchiveIndex-as-Archives.start_at ArchiveIndex-as-Archives.index_at ArchiveIndex-as-Archives.entries_from ArchiveIndex-as-Archives.member_from ArchiveIndex-as-Archives.name_from ArchiveIndex-as-Open.first_not ArchiveIndex-as-Open.judge_each ArchiveIndex-as-Open.end_fits ArchiveIndex-as-Open.is_filled ArchiveIndex-as-Open.judge_index ArchiveIndex-as-Open.judge_from ArchiveIndex-as-Open.judge_archives ArchiveIndex-as-Open.judge_of ArchiveIndex-as-Rows.rows_from
worked-links true =
    record {
      new = refl;
      answers = refl;
      twice = refl;
      once = refl;
      never = refl;
      ties = refl;
      pass = refl;
      offers = refl;
      over = refl;
      shadows = (refl, refl, refl);
      strong-untold = (refl, refl);
      lacks = (refl, refl);
      would-weak = refl;
      would-common = refl;
      would-undefined = refl;
      would-not = refl;
      loaded = refl;
      kept = refl;
      wants = refl;
      needs-not = (refl, refl);
      merged-twice = (refl, refl);
      loaded-twice = (refl, refl);
      removes = refl;
      removed = (refl, refl);
      drops = refl;
      section = (refl, refl);
      section-gone = (refl, refl);
      program-section = (refl, refl);
      names-symbol = refl;
      gives = refl;
      opens = refl;
      short = refl;
      grows = refl;
      calm = (λ e. e, omega arith, (λ e. e, omega arith, tt));
      quiet = (λ e. e, (λ e. e, (λ e. e, (λ e. e, (λ e. e, (λ e. e, (λ e. e, (λ e. e, (λ e. e, (λ e. e, (λ e. e, (λ e. e, (λ e. e, (λ e. omega arith, (λ e. e refl, (λ e. e refl, tt))))))))))))))));
    }
worked-links false =
    record {
      new = refl;
      answers = refl;
      twice = refl;
      once = refl;
      never = refl;
      ties = refl;
      pass = refl;
      offers = refl;
      over = refl;
      shadows = (refl, refl, refl);
      strong-untold = (refl, refl);
      lacks = (refl, refl);
      would-weak = refl;
      would-common = refl;
      would-undefined = refl;
      would-not = refl;
      loaded = refl;
      kept = refl;
      wants = refl;
      needs-not = (refl, refl);
      merged-twice = (refl, refl);
      loaded-twice = (refl, refl);
      removes = refl;
      removed = (refl, refl);
      drops = refl;
      section = (refl, refl);
      section-gone = (refl, refl);
      program-section = (refl, refl);
      names-symbol = refl;
      gives = refl;
      opens = refl;
      short = refl;
      grows = refl;
      calm = (λ e. e, omega arith, (λ e. e, omega arith, tt));
      quiet = (λ e. e, (λ e. e, (λ e. e, (λ e. e, (λ e. e, (λ e. e, (λ e. e, (λ e. e, (λ e. e, (λ e. e, (λ e. e, (λ e. e, (λ e. e, (λ e. omega arith, (λ e. e refl, (λ e. e refl, tt))))))))))))))));
    }
