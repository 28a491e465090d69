-- The contracts of the table's calls, and of lookups: what a caller sees of a call, its result and every cell that it lent to be written, against the
-- call's definition.
-- Assumes nothing.
use Rattle.link.specs.declared.cause.Refusal.{Refusal}
use Rattle.symbol.specs.declared.Symbol.{Symbol}
use Rattle.std.specs.Prelude.{ℕ, ◌≡◌, Bool, List, Option, Result}
use Rattle.cells.specs.Slice.{SliceMut}
use Rattle.link.specs.declared.Link.{Link}
use Rattle.link.specs.declared.Interned.{Interned}
use Rattle.link.specs.declared.SymbolId.{SymbolId}
use Rattle.link.specs.declared.SectionId.{SectionId}
use Rattle.upcoming_symbol.specs.declared.UpcomingSymbol.{UpcomingSymbol}
use Rattle.symbol_resolution.specs.Apply.{Table}
use Rattle.symbol_resolution.specs.declared.write.Table.{Table as Lent}
use Rattle.symbols.specs.declared.Symbols.{Symbols}
use Rattle.symbols.specs.Outcome.{Outcome}
use Rattle.symbols.specs.Calls.{outcome, made_of, answered}
use Rattle.symbols.specs.New.{new_outcome, new_of}
use Rattle.symbols.specs.Add.{add_of}
use Rattle.symbols.specs.Remove.{Rows, remove_outcome, remove_of}
use Rattle.symbols.specs.Lookup.{get_of, get_global_of, section_symbol_of}

-- ---- `Symbols::new`

pub record NewExit : Type 0 where
  pub bytes : List ℕ
  pub names : List ℕ
  pub symbols : List ℕ
  pub sections : List ℕ
  pub result : Outcome

abbrev pub new_exit : SliceMut → SliceMut → SliceMut → SliceMut → Result Symbols Refusal → NewExit
new_exit bytes names symbols sections r =
    record { bytes = bytes.exit.now; names = names.exit.now; symbols = symbols.exit.now; sections = sections.exit.now; result = made_of r }

abbrev pub NewMeets : ℕ → Bool → List ℕ → List ℕ → List ℕ → List ℕ → NewExit → Type 0
NewMeets key gabi bytes names symbols sections e =
    new_outcome e.bytes e.names e.symbols e.sections e.result ≡ new_of key gabi bytes names symbols sections

-- ---- `add`, lent the conversion of its section numbers

pub record AddExit : Type 0 where
  pub names : List ℕ
  pub symbols : List ℕ
  pub sections : List ℕ
  pub result : Outcome

abbrev pub add_exit : Lent → Result SymbolId Refusal → AddExit
add_exit t r = record { names = t.names.now; symbols = t.symbols.now; sections = t.sections.now; result = answered t.link r }

abbrev pub AddMeets : Table → List ℕ → UpcomingSymbol → AddExit → Type 0
AddMeets t conversion u e = outcome e.names e.symbols e.sections e.result ≡ add_of t conversion u

-- ---- `remove`

pub record RemoveExit : Type 0 where
  pub symbols : List ℕ
  pub sections : List ℕ
  pub result : Outcome

abbrev pub remove_exit : SliceMut → SliceMut → Link → Result SymbolId Refusal → RemoveExit
remove_exit symbols sections l r = record { symbols = symbols.exit.now; sections = sections.exit.now; result = answered l r }

abbrev pub RemoveMeets : Link → Rows → SymbolId → RemoveExit → Type 0
RemoveMeets l x id e = remove_outcome e.symbols e.sections e.result ≡ remove_of l x id

-- ---- `get`, `get_global`, `section_symbol_id`, which write nothing

abbrev pub GetMeets : Link → List ℕ → SymbolId → Result Symbol Refusal → Type 0
GetMeets l symbols id r = r ≡ get_of l symbols id

abbrev pub GetGlobalMeets : Link → List ℕ → List ℕ → Interned → Result Symbol Refusal → Type 0
GetGlobalMeets l names symbols name r = r ≡ get_global_of l names symbols name

abbrev pub SectionSymbolMeets : Link → List ℕ → SectionId → Option SymbolId → Type 0
SectionSymbolMeets l sections s r = r ≡ section_symbol_of l sections s
