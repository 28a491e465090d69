-- A worked example of a collection, by the second collector.
-- Assumes nothing.
use Rattle.std.specs.Prelude.{◌≡◌, None}
use Rattle.sections.specs.Rows.{state_at}
use Rattle.symbol.specs.Row as Symbol
use Rattle.gc_sections.specs.Run.{Left}
use Rattle.plain_collector.specs.Run.{plain_of}
use Rattle.gc_laws.specs.Examples.{Example, states_from}

abbrev pub collected : Example → Left
collected e = plain_of e.link e.lists e.symbols e.sections None e.work

abbrev pub Right : Example → Type 0
Right e =
    ((collected e).answer ≡ e.answer) × (states_from state_at (collected e).sections 0 e.link.sections ≡ e.section_states)
    × (states_from Symbol.state_at (collected e).symbols 0 e.link.symbols ≡ e.symbol_states)
