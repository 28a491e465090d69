-- Theorems over specs/Unsupported.antt.
-- Assumes nothing.
use Rattle.std.specs.Prelude.{◌≡◌, refl}
use Rattle.link.specs.Bounds.{lesser}
use Rattle.symbol_resolution.specs.Decide as Symbols
use Rattle.symbol_resolution.specs.Decide.{type_refusal, section_room, new_of, decide_of}
use Rattle.upcoming_symbol.specs.Judge.{shown_of, hidden_of, judge_of}
use Rattle.upcoming_symbol.specs.Upcoming.{in_section, converted_of, undefined_of, common_by_binding, value_of, elf_row_of}
use Rattle.elf_object.specs.Rows.{is_excluded}
use Rattle.sections.specs.Rows as Sections
use Rattle.merge_sections.specs.Reserve as Reserve
use Rattle.merge_sections.specs.Reserve.{kind_class, class_of}
use Rattle.section_groups.specs.Group.{is_fresh, all_fresh, shape_of}
use Rattle.elf_object.specs.Judge.{first_bad}
use Rattle.merge_laws.specs.Unsupported.{answers, cases, numbers}

-- every case is answered with its number
pub unsupported : answers cases ≡ numbers cases
unfolding lesser Sections.room_of is_excluded kind_class class_of Reserve.reserve_number shape_of all_fresh is_fresh first_bad shown_of hidden_of judge_of in_section converted_of undefined_of common_by_binding value_of elf_row_of type_refusal section_room Symbols.room_of new_of decide_of
unsupported = refl
