-- The rows of specs/Lists.antt, computed.
-- Assumes nothing.
use Rattle.std.specs.Prelude.{◌≡◌, refl, [], ◌∷◌}
use Rattle.cells.specs.Rows.{put_row}
use Rattle.byte_slices.specs.Bytes.{word_at, same, copied}
use Rattle.link.specs.Bounds.{lesser}
use Rattle.link.specs.Judge as Judge
use Rattle.keyed_hash.specs.Keyed as Keyed
use Rattle.interner.specs.Hash.{spread, head_cell}
use Rattle.interner.specs.Names as Names
use Rattle.interner.specs.Calls as Interns
use Rattle.std.specs.Int.Count.{ones}
use Rattle.symbol.specs.Layout.{scope_and_type, scope_in, type_in}
use Rattle.symbol.specs.Offset.{offset_of, word_of}
use Rattle.symbol.specs.Codes.{type_at, successor, file_at, visibility_at, value_at}
use Rattle.symbol.specs.Row.{symbol_at, set_row}
use Rattle.symbol.specs.Hidden.{hidden_code, hide_code, show_code, passes, hide_if, pass_hidden}
use Rattle.upcoming_symbol.specs.Judge as Fields
use Rattle.upcoming_symbol.specs.Upcoming.{in_section, conversion_from, converted_of, undefined_of, value_of, elf_row_of, library_code, external_row_of, common_of, common_by_binding, given_words}
use Rattle.symbol_resolution.specs.Holder.{held_by, holder_of}
use Rattle.symbol_resolution.specs.Decide as Decide
use Rattle.symbol_resolution.specs.Apply.{note_name, set_section_symbol, note_section, append_of, replaced_in, amended_in, apply_of, joined}
use Rattle.symbols.specs.New.{clear_symbols, null_of, new_of}
use Rattle.symbols.specs.Add.{judge_add_of, issued_of, direct_holder_of, place_of, decided_of, committed_of, add_row_of, add_of}
use Rattle.symbols.specs.Lookup.{found_at, get_of}
use Rattle.add_list.specs.AddList.{items_from, items_of, turn_of, adds_of, add_list_of}
use Rattle.worked_examples.specs.Examples.{start}
use Rattle.worked_examples.specs.Lists.{Right, cases, All, one_row, one_item}

pub lists : All Right cases
unfolding start put_row same copied lesser Judge.judge_sections Judge.judge_names Judge.judge_lists Judge.after_symbols Judge.after_sections Judge.judge_of Judge.change_of word_at Keyed.folded Keyed.mixed Keyed.hash_from Keyed.point_of Keyed.hash_of spread head_cell Names.chase Names.seek_of Names.find_from Names.find_of Names.room_of Names.fits_of Names.linked Names.keep_of Interns.issue_of Interns.intern_of Interns.clear_heads Interns.new_of offset_of word_of type_at successor file_at visibility_at value_at symbol_at set_row Fields.section_in_range Fields.elf_in_range Fields.external_in_range Fields.shown_of Fields.hidden_of Fields.judge_of in_section conversion_from converted_of undefined_of value_of elf_row_of library_code external_row_of held_by holder_of Decide.weak_of Decide.reference_rank Decide.rank_of Decide.type_refusal Decide.section_cell Decide.section_room Decide.room_of Decide.new_of Decide.replace_of hidden_code hide_code show_code passes hide_if pass_hidden Decide.kept_of Decide.ranked_of Decide.known_of Decide.decide_of note_name set_section_symbol note_section append_of replaced_in amended_in apply_of clear_symbols null_of new_of judge_add_of issued_of direct_holder_of place_of decided_of committed_of add_row_of add_of found_at get_of items_from items_of turn_of adds_of add_list_of scope_and_type scope_in type_in joined Decide.stays_of common_of common_by_binding given_words ones
lists =
    (((refl, refl, refl, refl), (refl, refl, refl, refl)), (((refl, refl, refl, refl), (refl, refl, refl, refl)), (((refl, refl, refl, refl), (refl, refl, refl, refl)), (((refl, refl, refl, refl), (refl, refl, refl, refl)), (((refl, refl, refl, refl), (refl, refl, refl, refl)), (((refl, refl, refl, refl), (refl, refl, refl, refl)), tt))))))

pub listed : items_of one_row ≡ one_item ∷ []
unfolding items_of items_from file_at
listed = refl
