-- Theorems over specs/Examples.antt.
-- Assumes nothing.
use Rattle.std.specs.Prelude.{refl, [], ◌∷◌}
use Rattle.byte_slices.specs.Bytes.{same}
use Rattle.link.specs.Bounds.{lesser}
use Rattle.link.specs.Judge as Link
use Rattle.symbol_resolution.specs.Decide.{section_cell}
use Rattle.symbol_resolution.specs.Apply.{set_section_symbol}
use Rattle.symbols.specs.Remove.{drop_section, remove_row_of}
use Rattle.sections.specs.Rows.{is_built}
use Rattle.gc_sections.specs.Each.{each}
use Rattle.gc_sections.specs.Roots.{value_lead, lead_of, readable, name_is, rooted, is_root}
use Rattle.gc_sections.specs.Reach.{save_of, reach_of, add_of, root_symbol, root_section, end_of, relocation, relocations, follow, visit, clear_cell, start_of, roots_of, process_of, walked}
use Rattle.gc_sections.specs.Sweep.{drop_unreached, dropped_now, purge_symbol, sweep_sections, purge_symbols}
use Rattle.gc_sections.specs.Run.{judge_cells, judge_of, purge_of, sweep_of, finished, collect_of, run_of}
use Rattle.gc_laws.specs.Examples.{All, Right, p12, short_marks, two_unbuilt, unreadable}

pub examples : All (p12 ∷ short_marks ∷ two_unbuilt ∷ unreadable ∷ [])
unfolding same lesser Link.judge_sections Link.judge_names Link.judge_lists Link.after_symbols Link.after_sections Link.judge_of Link.change_of section_cell set_section_symbol drop_section remove_row_of is_built each value_lead lead_of readable name_is rooted is_root
    save_of reach_of add_of root_symbol root_section end_of relocation relocations follow visit clear_cell start_of roots_of process_of walked drop_unreached dropped_now purge_symbol
    sweep_sections purge_symbols judge_cells judge_of purge_of sweep_of finished collect_of run_of
examples = ((refl, refl, refl), ((refl, refl, refl), ((refl, refl, refl), ((refl, refl, refl), tt))))

-- for the list of all examples that are marked for proof
pub p12-right : Right p12
p12-right = examples.0
