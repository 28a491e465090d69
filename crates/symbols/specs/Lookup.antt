-- `get`, `get_global`, `section_symbol_id`.
-- Assumes nothing.
use Rattle.std.specs.Prelude.{ℕ, cond, List, [], ◌∷◌, eqb, leb, get_or, length, Option, Result, None, Some, Ok, Err}
use Rattle.link.specs.declared.Link.{Link}
use Rattle.link.specs.declared.Interned.{Interned}
use Rattle.link.specs.declared.SymbolId.{SymbolId}
use Rattle.link.specs.declared.SectionId.{SectionId}
use Rattle.link.specs.declared.cause.Refusal.{Refusal}
use Rattle.link.specs.Judge.{refused, judge_of}
use Rattle.link.specs.Said.{SaidWith}
use Rattle.symbol.specs.declared.Symbol.{Symbol}
use Rattle.symbol.specs.Row.{state_at, symbol_at}
use Rattle.symbol.specs.Layout.{removed_state}
use Rattle.symbol_resolution.specs.declared.rows.Holder.{Holder}
use Rattle.symbol_resolution.specs.declared.rows.Holder.TheVariants.{Unissued, Nobody, Removed, Known}
use Rattle.symbol_resolution.specs.Holder.{holder_of}
use Rattle.symbol_resolution.specs.Decide.{section_cell}
use Rattle.link.specs.Bounds.{name_rows}
use Rattle.symbols.specs.Calls.{lent_of}

-- document 01's number and place of a lookup's answer
abbrev pub refusal_of : Result Symbol Refusal → Refusal
refusal_of (Ok symbol) = refused 0 0
refusal_of (Err r) = r

-- its value: the symbol
abbrev pub symbols_in : Result Symbol Refusal → List Symbol
symbols_in (Ok symbol) = symbol ∷ []
symbols_in (Err r) = []

abbrev pub said : Result Symbol Refusal → SaidWith Symbol
said a = record { number = (refusal_of a).number; place = (refusal_of a).place; values = symbols_in a }

-- of a section's symbol: its id, or "none"; nothing is refused
abbrev pub section_symbols_in : Option SymbolId → List SymbolId
section_symbols_in None = []
section_symbols_in (Some id) = id ∷ []

abbrev pub section_symbol_said : Option SymbolId → SaidWith SymbolId
section_symbol_said a = record { number = 0; place = 0; values = section_symbols_in a }

abbrev pub not_found : ℕ → ℕ → Result Symbol Refusal
not_found number place = Err (refused number place)

-- "absent or removed id" (21), at the symbol's id
unfoldable pub found_at : List ℕ → SymbolId → Result Symbol Refusal
found_at symbols id = cond (eqb (state_at symbols id.0) removed_state) (not_found 21 id.0) (Ok (symbol_at symbols id))

unfoldable pub get_of : Link → List ℕ → SymbolId → Result Symbol Refusal
get_of l symbols id =
    cond (eqb (judge_of l (lent_of l.chains (length symbols) l.slots)).number 0)
    (cond (leb l.symbols id.0) (not_found 21 id.0) (found_at symbols id))
    (Err (judge_of l (lent_of l.chains (length symbols) l.slots)))

-- unknown global name (23); its row removed (21), at the name's id
abbrev pub held_of : List ℕ → Interned → Holder → Result Symbol Refusal
held_of symbols name Unissued = not_found 23 0
held_of symbols name Nobody = not_found 23 0
held_of symbols name Removed = not_found 21 name.0
held_of symbols name (Known id) = Ok (symbol_at symbols id)

unfoldable pub get_global_of : Link → List ℕ → List ℕ → Interned → Result Symbol Refusal
get_global_of l names symbols name =
    cond (eqb (judge_of l (lent_of (name_rows (length names)) (length symbols) l.slots)).number 0)
    (held_of symbols name (holder_of l names symbols name))
    (Err (judge_of l (lent_of (name_rows (length names)) (length symbols) l.slots)))

-- the cell of a section's symbol, 0 for none
abbrev pub section_symbol_at : Link → List ℕ → ℕ → ℕ
section_symbol_at l sections s = get_or sections (section_cell l (length sections) s) 0

-- "A section without a symbol answers "none""; an id past the count is of a later state of the link
unfoldable pub section_symbol_of : Link → List ℕ → SectionId → Option SymbolId
section_symbol_of l sections s =
    cond (eqb (section_symbol_at l sections s.0) 0) None
    (cond (leb l.symbols (section_symbol_at l sections s.0)) None (Some (record { 0 = section_symbol_at l sections s.0 })))
