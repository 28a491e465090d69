-- A new table: the empty name and the null symbol. "Two rows lent: null and one undefined name fit".
-- Assumes nothing.
use Rattle.std.specs.Prelude.{ℕ, ◌*◌, ◌-◌, Bool, cond, List, ◌++◌, eqb, length, take, replicate}
use Rattle.cells.specs.Rows.{row_width}
use Rattle.link.specs.declared.Link.{Link}
use Rattle.link.specs.Bounds.{symbol_rows, section_slots}
use Rattle.link.specs.Judge.{refused}
use Rattle.interner.specs.Names.{Store}
use Rattle.interner.specs.Calls as Names
use Rattle.symbol.specs.declared.Row.{Row}
use Rattle.symbol.specs.Codes.{words_are}
use Rattle.symbol.specs.Row.{set_row}
use Rattle.gabi.specs.SymbolTable.{stt_notype}
use Rattle.symbol.specs.Layout.{local, null_kind}
use Rattle.symbol_resolution.specs.Apply.{Table, table_of}
use Rattle.symbols.specs.Outcome.{Outcome}
use Rattle.link.specs.Said.{Said, accepted, refusing}
use Rattle.link.specs.Counts.{no_rows, with_symbols, with_slots, with_profile}
use Rattle.symbols.specs.Calls.{said}

abbrev pub null_row : Row
null_row = record { name = record { 0 = 0 }; kind = stt_notype; file = 0; scope = local; value = words_are null_kind 0 0; size = 0 }

-- every lent cell, the counts and the answer
pub record NewLeft : Type 0 where
  pub bytes : List ℕ
  pub table : Table
  pub said : Said

abbrev pub new_left : List ℕ → Table → Said → NewLeft
new_left bytes t s = record { bytes = bytes; table = t; said = s }

abbrev pub new_outcome : List ℕ → List ℕ → List ℕ → List ℕ → Outcome → NewLeft
new_outcome bytes names symbols sections r = new_left bytes (table_of names symbols sections r.table.link) (said r.answer)

-- in that profile: one symbol, and cells for that many sections' symbols
abbrev pub one_symbol : Bool → Link → ℕ → Link
one_symbol gabi l slots = with_profile (with_slots (with_symbols l 1) slots) gabi

-- no section has a symbol
unfoldable pub clear_symbols : List ℕ → List ℕ
clear_symbols sections =
    take (section_slots (length sections) * row_width) sections ++ replicate (length sections - section_slots (length sections) * row_width) 0

-- over the names' store as a new table of names leaves it
unfoldable pub null_of : Bool → List ℕ → List ℕ → Store → NewLeft
null_of gabi symbols sections s =
    cond (eqb s.link.names 0) (new_left s.bytes (table_of s.names symbols sections s.link) (refusing (refused 2 0)))
    (new_left s.bytes
    (table_of s.names (set_row symbols (record { 0 = 0 }) null_row) (clear_symbols sections) (one_symbol gabi s.link (section_slots (length sections)))) (accepted 0))

-- no symbol row, or no row for the empty name: 2, and nothing is written
unfoldable pub new_of : ℕ → Bool → List ℕ → List ℕ → List ℕ → List ℕ → NewLeft
new_of key gabi bytes names symbols sections =
    cond (eqb (symbol_rows (length symbols)) 0) (new_left bytes (table_of names symbols sections no_rows) (refusing (refused 2 0)))
    (null_of gabi symbols sections (Names.new_of key bytes names).store)
