-- Document 02, 2026-14: what is shown of every arrangement of a list of adds.
-- Assumes nothing.
use Rattle.std.specs.Prelude.{ℕ, ◌≡◌, Bool, true, false, not, ◌&&◌, List, length, eqb, map, Option, Ok, Contains, IsPermutation}
use Rattle.std.specs.List.{list_any}
use Rattle.gabi.specs.SymbolTable.{stv_hidden, is_local}
use Rattle.link.specs.declared.Interned.{Interned}
use Rattle.link.specs.declared.SymbolId.{SymbolId}
use Rattle.link.specs.Judge.{none}
use Rattle.symbol.specs.declared.Row.{Row}
use Rattle.symbol.specs.declared.SymbolVisibility.TheVariants.{Global}
use Rattle.symbol.specs.Codes.{type_at, visibility_at, value_at}
use Rattle.symbol.specs.RowLaws.{symbol_of}
use Rattle.upcoming_symbol.specs.declared.ElfSymbol.{ElfSymbol}
use Rattle.upcoming_symbol.specs.declared.UpcomingSymbol.{UpcomingSymbol}
use Rattle.upcoming_symbol.specs.declared.UpcomingSymbol.TheVariants.{Elf}
use Rattle.symbols.specs.Add.{empty_at}
use Rattle.symbols.specs.Lookup.{get_global_of}
use Rattle.add_list.specs.AddList.{ListLeft, add_list_of}
use Rattle.symbol_laws.specs.ContentWords.{IsType}
use Rattle.symbol_laws.specs.DirectContents.{ElfValue, Labelled}
use Rattle.symbol_laws.specs.Gabi.{sym_of}
use Rattle.symbol_laws.specs.History.{State, table, with_table, intern, run_calls}
use Rattle.order_laws.specs.Premises.{adds_to, is_strong_definition}

-- "with the same names issued"
abbrev pub names_issued : List (List ℕ) → State → State
names_issued names s = run_calls (map intern names) s

-- "accepted": the call answers a result, and all adds are accepted
pub record AcceptedWhole (us : List UpcomingSymbol) (o : ListLeft) : Type 0 where
  pub result : o.refusal ≡ none
  pub all : o.position ≡ length us

-- ---- "content": what a name's row says, whatever its id

abbrev pub is_hidden_global : ElfSymbol → Bool
is_hidden_global e = not (is_local (sym_of e)) && eqb e.visibility stv_hidden

-- a strong definition is hidden as it is itself; in the gABI profile "hidden on any accepted add from an object passes to the name's row"
abbrev pub hidden_among : Bool → List UpcomingSymbol → ElfSymbol → Interned → Bool
hidden_among false us e name = eqb e.visibility stv_hidden
hidden_among true us e name = list_any (adds_to name is_hidden_global) us

-- the row of a name whose strong definition among these adds is this entry
pub record ContentOf (gabi : Bool) (s : State) (conversion : List ℕ) (us : List UpcomingSymbol) (e : ElfSymbol) (name : Interned) (file : Option Interned) (r : Row) : Type 0 where
  pub labelled : Labelled r name file e.size
  pub type : IsType e.kind (type_at r.kind)
  pub scope : visibility_at r.scope ≡ Global false (hidden_among gabi us e name)
  pub value : ElfValue conversion (empty_at s.names name) e (value_at r.value)

-- a lookup of the name answers this row, under some id
pub record EndsWith (s : State) (name : Interned) (r : Row) : Type 0 where
  pub id : SymbolId
  pub found : get_global_of s.link s.names s.symbols name ≡ Ok (symbol_of id r)

-- ---- every arrangement

module _ (s : State) (conversion ids : List ℕ) where
  abbrev pub left : List UpcomingSymbol → ListLeft
  left us = add_list_of conversion us (table s) ids

  abbrev pub after : List UpcomingSymbol → State
  after us = with_table s (left us).table

  module _ (gabi : Bool) (us : List UpcomingSymbol) where
    -- a name with a strong definition: its content is settled before the arrangement is
    pub record SameContent (e : ElfSymbol) (name : Interned) (file : Option Interned) : Type 0 where
      pub row : Row
      pub content : ContentOf gabi s conversion us e name file row
      pub same : (vs : List UpcomingSymbol) → IsPermutation us vs → EndsWith (after vs) name row

    -- "every arrangement of the list is accepted [..], and each name with a strong definition ends with the same content in all of them"
    pub record AnyOrder : Type 0 where
      pub accepted : (vs : List UpcomingSymbol) → IsPermutation us vs → AcceptedWhole vs (left vs)
      pub content : (e : ElfSymbol) (name : Interned) (file : Option Interned) → Contains us (Elf e name file) → is_strong_definition e ≡ true → SameContent e name file
