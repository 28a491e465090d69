-- The index of the global names, each once and in byte order, those of removed rows too: lent places beside the rows, and how many are in use.
-- Assumes nothing.
use Rattle.std.specs.Prelude.{ℕ, zero, suc, ◌+◌, ◌≡◌, cond, List, ◌++◌, eqb, ltb, take, drop, length, Result, Ok, Err}
use Rattle.std.specs.List.{insert}
use Rattle.link.specs.declared.cause.Refusal.{Refusal}
use Rattle.link.specs.Bounds.{lesser}
use Rattle.link.specs.Judge.{within}
use Rattle.symbol.specs.Row.{scope_at}
use Rattle.symbol.specs.Layout.{local}
use Rattle.name_index.specs.Named.{Rows, name_of_row}
use Rattle.name_index.specs.Seek.{seek_of}
use Rattle.name_index.specs.declared.index.Index.{Index as LentRead}
use Rattle.name_index.specs.declared.index.IndexMut.{IndexMut as Lent}

pub record Index : Type 0 where
  pub places : List ℕ
  pub count : ℕ

abbrev pub index_of : List ℕ → ℕ → Index
index_of places count = record { places = places; count = count }

-- of what is lent
abbrev pub index_in : Lent → Index
index_in i = index_of i.places.now i.count

abbrev pub index_read : LentRead → Index
index_read i = index_of i.places.now i.count

-- it holds the same lent places as before
abbrev pub same_places : Lent → Lent → Type 0
same_places i j = j.places.ghost_name ≡ i.places.ghost_name

-- a count above the places, or above the rows that a link may have: 1 at the first place past them
abbrev pub judge_index : Index → Refusal
judge_index i = within i.count (lesser 65535 (length i.places))

-- the places in use
abbrev pub used : Index → List ℕ
used i = take i.count i.places

-- one more id at place k, those from there on one place up
unfoldable pub inserted : Index → ℕ → ℕ → Index
inserted i k id = index_of (insert (used i) k id ++ drop (i.count + 1) i.places) (i.count + 1)

abbrev pub put_at : Index → ℕ → Result ℕ ℕ → Index
put_at i id (Ok k) = i
put_at i id (Err k) = inserted i k id

-- a row gets its name's place: not a local one, nor one whose name has a place
unfoldable pub row_put : Rows → Index → ℕ → Index
row_put r i id =
    cond (eqb (scope_at r.symbols id) local) i
    (cond (ltb i.count (length i.places)) (cond (ltb id 65536) (put_at i id (seek_of r (used i) (name_of_row r id)).place) i) i)

-- n rows from that id on
unfoldable pub rows_put : Rows → Index → ℕ → ℕ → Index
rows_put r i id zero = i
rows_put r i id (suc n) = rows_put r (row_put r i id) (id + 1) n
