-- The calls of a table that keep its index: each is the table's own call, behind which the rows that it appended get their names' places.
-- Assumes nothing.
use Rattle.std.specs.Prelude.{ℕ, ◌-◌, ◌*◌, ◌/◌, ◌≡◌, cond, List, eqb, leb, Result}
use Rattle.cells.specs.Slice.{SliceMut}
use Rattle.cells.specs.Rows.{row_width}
use Rattle.link.specs.declared.Link.{Link}
use Rattle.link.specs.declared.SymbolId.{SymbolId}
use Rattle.link.specs.declared.cause.Refusal.{Refusal}
use Rattle.link.specs.Judge.{none}
use Rattle.link.specs.Said.{refusing}
use Rattle.upcoming_symbol.specs.declared.UpcomingSymbol.{UpcomingSymbol}
use Rattle.symbol_resolution.specs.Apply.{Table}
use Rattle.symbol_resolution.specs.declared.write.Table.{Table as Lent}
use Rattle.symbol_resolution.specs.Lent.{table_in}
use Rattle.symbols.specs.Calls.{Left, left, said}
use Rattle.symbols.specs.Add.{add_of}
use Rattle.add_list.specs.declared.Listed.{Listed}
use Rattle.add_list.specs.AddList.{ListLeft, list_left, items_of, add_list_of}
use Rattle.add_list.specs.Contract.{listed_in}
use Rattle.name_index.specs.Named.{Rows, rows_of}
use Rattle.name_index.specs.Index.{Index, judge_index, index_in, rows_put}
use Rattle.name_index.specs.declared.index.IndexMut.{IndexMut as LentIndex}

-- of a broken link nothing is said: 22 comes first
unfoldable pub change_index : Link → Index → Refusal
change_index l i = cond l.broken none (judge_index i)

-- the rows from one id up to another get their names' places
abbrev pub caught_up : Rows → Index → ℕ → ℕ → Index
caught_up r i from to = rows_put r i from (to - from)

-- a row is used only where the index has a place for it too: of so many symbols' cells those that the link may use
abbrev pub bounded : ℕ → ℕ → ℕ
bounded len places = cond (leb (len / row_width) places) len (places * row_width)

-- ---- an add

pub record IndexedLeft : Type 0 where
  pub left : Left
  pub index : Index

abbrev pub indexed_left : Left → Index → IndexedLeft
indexed_left o i = record { left = o; index = i }

abbrev pub behind : Table → List ℕ → Index → Left → IndexedLeft
behind t bytes i o = indexed_left o (caught_up (rows_of bytes o.table.names o.table.symbols) i t.link.symbols o.table.link.symbols)

unfoldable pub indexed_add_of : Table → List ℕ → Index → List ℕ → UpcomingSymbol → IndexedLeft
indexed_add_of t bytes i conversion u =
    cond (eqb (change_index t.link i).number 0) (behind t bytes i (add_of t conversion u)) (indexed_left (left t (refusing (change_index t.link i))) i)

-- what a caller sees of the call
abbrev pub indexed_in : Lent → LentIndex → Result SymbolId Refusal → IndexedLeft
indexed_in t i r = indexed_left (left (table_in t) (said r)) (index_in i)

abbrev pub AddMeets : Table → List ℕ → Index → List ℕ → UpcomingSymbol → IndexedLeft → Type 0
AddMeets t bytes i conversion u e = e ≡ indexed_add_of t bytes i conversion u

-- ---- a list of adds

pub record IndexedList : Type 0 where
  pub left : ListLeft
  pub index : Index

abbrev pub indexed_list : ListLeft → Index → IndexedList
indexed_list o i = record { left = o; index = i }

abbrev pub listed_behind : Table → List ℕ → Index → ListLeft → IndexedList
listed_behind t bytes i o = indexed_list o (caught_up (rows_of bytes o.table.names o.table.symbols) i t.link.symbols o.table.link.symbols)

unfoldable pub indexed_list_of : Table → List ℕ → Index → List ℕ → List ℕ → List ℕ → IndexedList
indexed_list_of t bytes i conversion adds ids =
    cond (eqb (change_index t.link i).number 0) (listed_behind t bytes i (add_list_of conversion (items_of adds) t ids))
    (indexed_list (list_left t ids (change_index t.link i) 0) i)

abbrev pub list_in : Lent → LentIndex → SliceMut → Listed → IndexedList
list_in t i ids r = indexed_list (listed_in t ids r) (index_in i)

abbrev pub ListMeets : Table → List ℕ → Index → List ℕ → List ℕ → List ℕ → IndexedList → Type 0
ListMeets t bytes i conversion adds ids e = e ≡ indexed_list_of t bytes i conversion adds ids
