-- Histories whose lists grow, as the Rust crate lends them: before each call cells may be put behind any list of the link.
-- Assumes nothing.
use Rattle.std.specs.Prelude.{ℕ, ◌≤◌, List, [], ◌∷◌, ◌++◌, length}
use Rattle.link.specs.Bounds.{not_lent}
use Rattle.symbol_laws.specs.History.{State, Entry, run, log}
use Rattle.merge_laws.specs.Calls.{Linked, linked}
use Rattle.link_laws.specs.Calls.{Call, call_next, call_notes, Removes}

-- the cells that are lent more
pub record Growth : Type 0 where
  pub bytes : List ℕ
  pub names : List ℕ
  pub symbols : List ℕ
  pub sections : List ℕ
  pub inputs : List ℕ
  pub lists : List ℕ

abbrev pub grown : State → Growth → State
grown t g =
    record {
      bytes = t.bytes ++ g.bytes;
      names = t.names ++ g.names;
      symbols = t.symbols ++ g.symbols;
      sections = t.sections ++ g.sections;
      link = t.link;
    }

abbrev pub grow : Growth → Linked → Linked
grow g s = linked (grown s.table g) (s.inputs ++ g.inputs) (s.lists ++ g.lists)

-- a call, and what is lent more from it on
pub record Turn : Type 0 where
  pub growth : Growth
  pub call : Call

abbrev pub turn_next : Turn → Linked → Linked
turn_next t s = call_next t.call (grow t.growth s)

abbrev pub turn_notes : Turn → Linked → List Entry
turn_notes t s = call_notes t.call (grow t.growth s)

abbrev pub run_turns : List Turn → Linked → Linked
run_turns = run turn_next turn_notes

abbrev pub log_turns : List Turn → Linked → List Entry
log_turns = log turn_next turn_notes

-- "that removes nothing", and no list gets 2^64 cells
abbrev pub Quiet : List Turn → Linked → Type 0
Quiet [] s = Unit {0}
Quiet (t ∷ ts) s =
    (Removes t.call (grow t.growth s) → ⊥) × (length (s.lists ++ t.growth.lists) ≤ not_lent) × Quiet ts (turn_next t s)
