-- The worked examples of collection, computed from the definition of the plain one; and placeholders, by both.
-- Assumes nothing.
use Rattle.std.specs.Prelude.{ℕ, refl, List, [], ◌∷◌, ◌++◌, replicate, Err}
use Rattle.byte_slices.specs.Bytes.{same}
use Rattle.link.specs.Bounds.{lesser}
use Rattle.link.specs.Judge as Link
use Rattle.symbol_resolution.specs.Decide.{section_cell}
use Rattle.symbol_resolution.specs.Apply.{set_section_symbol}
use Rattle.symbols.specs.Remove.{drop_section, remove_row_of}
use Rattle.sections.specs.Rows.{is_built}
use Rattle.gc_sections.specs.Each.{each}
use Rattle.gc_sections.specs.Roots.{value_lead, lead_of, readable, name_is, rooted, is_root}
use Rattle.gc_sections.specs.Reach.{save_of, reach_of, add_of, root_symbol, root_section, end_of, relocation, relocations, follow, visit, clear_cell, start_of, roots_of, process_of, walked}
use Rattle.gc_sections.specs.Sweep.{drop_unreached, dropped_now, purge_symbol, sweep_sections, purge_symbols}
use Rattle.gc_sections.specs.Run.{judge_cells, judge_of, purge_of, sweep_of, finished, collect_of, run_of}
use Rattle.plain_collector.specs.Visit as Plain
use Rattle.plain_collector.specs.Run as Plain-as-Run
use Rattle.plain_collector.specs.Run.{plain_of}
use Rattle.gc_laws.specs.Examples as Collections
use Rattle.gc_laws.specs.Examples.{Example, counts, null, in_section, section, reserved, lent, p12, short_marks, two_unbuilt, unreadable}
use Rattle.plain_laws.specs.Examples.{Right}

-- marked symbols in placeholders 7 and 3: the lower gives 21
abbrev pub placeholders : Example
placeholders =
    record {
      link = counts 3 8 0;
      lists = lent [] (0 ∷ 1 ∷ 1 ∷ []);
      symbols = null ++ (in_section 7 ++ in_section 3);
      sections = section 1 0 ++ (section 1 0 ++ (section 1 0 ++ (reserved ++ (section 1 0 ++ (section 1 0 ++ (section 1 0 ++ (reserved ++ replicate {A = ℕ} 8 0)))))));
      work = replicate {A = ℕ} 16 9;
      answer = Err (Link.refused 21 3);
      section_states = 2 ∷ 2 ∷ 2 ∷ 1 ∷ 2 ∷ 2 ∷ 2 ∷ 1 ∷ [];
      symbol_states = 1 ∷ 1 ∷ 1 ∷ [];
    }

abbrev pub All : List Example → Type 0
All [] = Unit {0}
All (e ∷ es) = Right e × All es

pub examples : All (p12 ∷ short_marks ∷ two_unbuilt ∷ unreadable ∷ placeholders ∷ []) × Collections.Right placeholders
unfolding same lesser Link.judge_sections Link.judge_names Link.judge_lists Link.after_symbols Link.after_sections Link.judge_of Link.change_of section_cell set_section_symbol drop_section remove_row_of is_built each value_lead lead_of readable name_is rooted is_root
    save_of reach_of add_of root_symbol root_section end_of relocation relocations follow visit clear_cell start_of roots_of process_of walked drop_unreached dropped_now purge_symbol
    sweep_sections purge_symbols judge_cells judge_of purge_of sweep_of finished collect_of run_of Plain.unvisited Plain.visit_of Plain.visited Plain.marked_lead Plain.root_lead Plain.root_symbol Plain.root_section
    Plain.reached_of Plain-as-Run.count_one Plain-as-Run.count_built Plain-as-Run.judge_plain Plain-as-Run.finished Plain-as-Run.plain_of
examples = (((refl, refl, refl), ((refl, refl, refl), ((refl, refl, refl), ((refl, refl, refl), ((refl, refl, refl), tt))))), (refl, refl, refl))

-- for the list of all examples that are marked for proof
pub p12-right : Right p12
p12-right = examples.0.0
