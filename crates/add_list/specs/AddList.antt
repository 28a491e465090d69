-- Request 2026-05, "Adds by the sheet": a whole list of adds in a single call, under one conversion.
-- Assumes nothing.
use Rattle.std.specs.Prelude.{ℕ, zero, suc, ◌+◌, cond, List, [], ◌∷◌, eqb, ltb, set, length}
use Rattle.link.specs.declared.cause.Refusal.{Refusal}
use Rattle.link.specs.Judge.{refused, none}
use Rattle.link.specs.Said.{Said, accepted, refusing}
use Rattle.symbol.specs.Codes.{file_at}
use Rattle.upcoming_symbol.specs.declared.UpcomingSymbol.{UpcomingSymbol}
use Rattle.upcoming_symbol.specs.declared.UpcomingSymbol.TheVariants.{Elf}
use Rattle.symbol_resolution.specs.Apply.{Table}
use Rattle.symbols.specs.Add.{add_of}
use Rattle.elf_object.specs.Rows.{rows_in, field, elf_at}

-- ---- the list

-- row k: an object's symbol row, but its name's id for the name's offset, and in the last cell 0, or its file's name id and 1
abbrev pub item_at : List ℕ → ℕ → UpcomingSymbol
item_at adds k = Elf (elf_at adds k) (record { 0 = field adds k 0 }) (file_at (field adds k 7))

-- n rows from the k-th on
unfoldable pub items_from : List ℕ → ℕ → ℕ → List UpcomingSymbol
items_from adds zero k = []
items_from adds (suc n) k = item_at adds k ∷ items_from adds n (k + 1)

unfoldable pub items_of : List ℕ → List UpcomingSymbol
items_of adds = items_from adds (rows_in adds) 0

-- ---- the adds

-- the table, the cells for ids, and the first refusal with "that add's position"; number 0: all are accepted, and the position is their number
pub record ListLeft : Type 0 where
  pub table : Table
  pub ids : List ℕ
  pub refusal : Refusal
  pub position : ℕ

abbrev pub list_left : Table → List ℕ → Refusal → ℕ → ListLeft
list_left t ids r k = record { table = t; ids = ids; refusal = r; position = k }

-- "Ids of accepted adds go to lent cells"
abbrev pub noted_of : Said → Table → List ℕ → ℕ → ListLeft
noted_of (accepted id) t ids k = list_left t (set ids k id) none k
noted_of (refusing r) t ids k = list_left t ids r k

-- the add at position k, to what those before it left, is a direct add: "Fields are judged add by add, so 1 too is met at its add"
unfoldable pub turn_of : List ℕ → UpcomingSymbol → ListLeft → ℕ → ListLeft
turn_of conversion u s k = noted_of (add_of s.table conversion u).said (add_of s.table conversion u).table s.ids k

-- "adding one by one and stopping at the first refused add", from position k on
unfoldable pub adds_of : List ℕ → List UpcomingSymbol → ListLeft → ℕ → ListLeft
adds_of conversion [] s k = list_left s.table s.ids none k
adds_of conversion (u ∷ us) s k =
    cond (eqb (turn_of conversion u s k).refusal.number 0) (adds_of conversion us (turn_of conversion u s k) (k + 1)) (turn_of conversion u s k)

-- ---- the call

-- "A broken link gives 22 to any list, then fewer cells than adds give 2, both at position 0, changing nothing"
unfoldable pub add_list_of : List ℕ → List UpcomingSymbol → Table → List ℕ → ListLeft
add_list_of conversion us t ids =
    cond t.link.broken (list_left t ids (refused 22 0) 0)
    (cond (ltb (length ids) (length us)) (list_left t ids (refused 2 0) 0) (adds_of conversion us (list_left t ids none 0) 0))
