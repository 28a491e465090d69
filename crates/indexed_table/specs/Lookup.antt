-- The lookup of a global name halves the index at its lower middle till the name is met. Each answer, refused too, has the places that were read.
-- Assumes nothing.
use Rattle.std.specs.Prelude.{ℕ, cond, List, eqb, leb, get_or, length, Result, Ok, Err}
use Rattle.link.specs.declared.Link.{Link}
use Rattle.link.specs.declared.Lent.{Lent}
use Rattle.link.specs.declared.Interned.{Interned}
use Rattle.link.specs.declared.SymbolId.{SymbolId}
use Rattle.link.specs.declared.cause.Refusal.{Refusal}
use Rattle.link.specs.Bounds.{name_rows, not_lent}
use Rattle.link.specs.Judge.{judge_of}
use Rattle.link.specs.Counts.{lent_rows}
use Rattle.interner.specs.Names.{name_at}
use Rattle.symbol.specs.declared.Symbol.{Symbol}
use Rattle.symbol.specs.Row.{state_at, symbol_at}
use Rattle.symbol.specs.Layout.{removed_state}
use Rattle.symbols.specs.Lookup.{not_found}
use Rattle.name_index.specs.Named.{Rows}
use Rattle.name_index.specs.declared.Met.{Met}
use Rattle.name_index.specs.Seek.{seek_of}
use Rattle.name_index.specs.Index.{Index, used, judge_index}
use Rattle.indexed_table.specs.declared.lookup.LookedUp.{LookedUp}

abbrev pub looked_up : Result Symbol Refusal → ℕ → LookedUp
looked_up answer reads = record { answer = answer; reads = reads }

abbrev pub lent : Link → Rows → Lent
lent l r = lent_rows (name_rows (length r.names)) (length r.bytes) (length r.symbols) l.slots not_lent not_lent

-- 1: the link's counts, then the index's
unfoldable pub judge_lookup : Link → Rows → Index → Refusal
judge_lookup l r i = cond (eqb (judge_of l (lent l r)).number 0) (judge_index i) (judge_of l (lent l r))

-- its row removed (21), at the name's id
unfoldable pub held_at : List ℕ → Interned → SymbolId → Result Symbol Refusal
held_at symbols name id = cond (eqb (state_at symbols id.0) removed_state) (not_found 21 name.0) (Ok (symbol_at symbols id))

-- unknown global name (23)
abbrev pub held_in : List ℕ → List ℕ → Interned → Result ℕ ℕ → Result Symbol Refusal
held_in symbols places name (Ok k) = held_at symbols name (record { 0 = get_or places k 0 })
held_in symbols places name (Err k) = not_found 23 0

abbrev pub found_by : Rows → Index → Interned → Met → LookedUp
found_by r i name m = looked_up (held_in r.symbols i.places name m.place) m.reads

-- an id that was never issued has no name to look for: no place is read
unfoldable pub get_global_of : Link → Rows → Index → Interned → LookedUp
get_global_of l r i name =
    cond (eqb (judge_lookup l r i).number 0)
    (cond (leb l.names name.0) (looked_up (not_found 23 0) 0) (found_by r i name (seek_of r (used i) (name_at r.bytes r.names name.0))))
    (looked_up (Err (judge_lookup l r i)) 0)
