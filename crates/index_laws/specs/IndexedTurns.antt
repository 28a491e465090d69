-- Histories whose lists grow between the calls, the index with the symbols: before each call places may be put behind it.
-- Assumes nothing.
use Rattle.std.specs.Prelude.{ℕ, ◌+◌, ◌≤◌, ◌/◌, List, [], ◌∷◌, ◌++◌, length}
use Rattle.cells.specs.Rows.{row_width}
use Rattle.merge_laws.specs.Calls.{Linked}
use Rattle.link_laws.specs.Growth.{grow, Turn, turn_next}
use Rattle.name_index.specs.Index.{Index, index_of}
use Rattle.index_laws.specs.IndexedCalls.{Indexed, indexed, indexed_next}

-- a call with what is lent more from it on, and the places
pub record IndexedTurn : Type 0 where
  pub turn : Turn
  pub places : List ℕ

abbrev pub grow_index : Index → List ℕ → Index
grow_index i places = index_of (i.places ++ places) i.count

abbrev pub grow_indexed : IndexedTurn → Indexed → Indexed
grow_indexed t x = indexed (grow t.turn.growth x.link) (grow_index x.index t.places)

abbrev pub run_indexed_turns : List IndexedTurn → Indexed → Indexed
run_indexed_turns [] x = x
run_indexed_turns (t ∷ ts) x = run_indexed_turns ts (indexed_next t.turn.call (grow_indexed t x))

-- without the index
abbrev pub turns_of : List IndexedTurn → List Turn
turns_of [] = []
turns_of (t ∷ ts) = t.turn ∷ turns_of ts

-- a place for each symbol row, at each call
abbrev pub EachPlaced : List IndexedTurn → Linked → ℕ → Type 0
EachPlaced [] s n = Unit {0}
EachPlaced (t ∷ ts) s n =
    (length (grow t.turn.growth s).table.symbols / row_width ≤ length t.places + n) × EachPlaced ts (turn_next t.turn s) (length t.places + n)
