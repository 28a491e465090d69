-- Links whose counts may be above what a call is lent: after a history in which lists grow, other cells stand in the place of the link's own for symbols, sections,
-- inputs and lists.
-- Assumes nothing.
use Rattle.std.specs.Prelude.{ℕ, ◌≡◌, Bool, List}
use Rattle.link.specs.Said.{number_in}
use Rattle.symbols.specs.New.{new_of}
use Rattle.symbol_laws.specs.History.{opened}
use Rattle.merge_laws.specs.Calls.{Linked, linked}
use Rattle.link_laws.specs.Growth.{Turn, run_turns}

-- the link, with these cells lent for its symbols, sections, inputs and lists
abbrev pub lent_as : Linked → List ℕ → List ℕ → List ℕ → List ℕ → Linked
lent_as s symbols sections inputs lists =
    linked (record { bytes = s.table.bytes; names = s.table.names; symbols = symbols; sections = sections; link = s.table.link }) inputs lists

module _ (key : ℕ) (gabi : Bool) (bytes names symbols sections inputs lists : List ℕ) (new : number_in (new_of key gabi bytes names symbols sections).said ≡ 0) (ts : List Turn)
    (symbols' sections' inputs' lists' : List ℕ) where
  -- after any calls, those that remove too, each with what is lent more from it on; then lent these cells
  abbrev pub on : Linked
  on = lent_as (run_turns ts (linked (opened (new_of key gabi bytes names symbols sections)) inputs lists)) symbols' sections' inputs' lists'
