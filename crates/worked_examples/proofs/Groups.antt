-- The rows of specs/Groups.antt, computed.
-- Assumes nothing.
use Rattle.std.specs.Prelude.{refl}
use Rattle.link.specs.Bounds.{lesser}
use Rattle.link.specs.Judge as Judge
use Rattle.elf_object.specs.Rows as Rows
use Rattle.elf_object.specs.Judge as Elf
use Rattle.section_groups.specs.Group.{shape_of, shaped_of, group_of}
use Rattle.section_groups.specs.AddGroup.{marks_refusal, rows_refusal, check_of, answer_of, add_group_of}
use Rattle.worked_examples.specs.Groups.{Right, p8, p8_comdat}

both : Right p8 × Right p8_comdat
unfolding lesser Judge.judge_sections Judge.judge_names Judge.judge_lists Judge.after_symbols Judge.after_sections Judge.judge_of Judge.change_of Rows.is_excluded Rows.is_loaded Elf.range_ok Elf.contents_ok Elf.header_ok Elf.first_bad Elf.bad_header Elf.bad_entry Elf.judge_of shape_of shaped_of group_of marks_refusal rows_refusal check_of answer_of add_group_of
both = (refl, refl)

pub p8-right : Right p8
p8-right = both.0

pub p8-comdat-right : Right p8_comdat
p8-comdat-right = both.1
