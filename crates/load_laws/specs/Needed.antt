-- Document 01, "Shared objects": "Needed: it defines, global or weak, a name undefined and strong in the table, or one that an earlier loaded
-- library, not listing it as a dependency, names by an undefined symbol of binding 1, since defined or not." Over the table and the inputs alone.
-- Assumes nothing.
use Rattle.std.specs.Prelude.{ℕ, ◌<◌, ◌≡◌, Bool, true, false, List, ◌≢◌, get_or, length}
use Rattle.gabi.specs.StringTable.{has_name, name_at}
use Rattle.gabi.specs.SymbolTable.{stb_global, stb_weak, shn_undef}
use Rattle.link.specs.declared.Link.{Link}
use Rattle.link.specs.declared.SymbolId.{SymbolId}
use Rattle.interner.specs.Names.{find_of}
use Rattle.symbol.specs.declared.Symbol.{Symbol}
use Rattle.symbol.specs.declared.SymbolVisibility.TheVariants.{Global}
use Rattle.symbol.specs.declared.SymbolValue.TheVariants.{Undefined}
use Rattle.symbol.specs.Row.{symbol_at}
use Rattle.symbol_resolution.specs.declared.rows.Holder.TheVariants.{Known}
use Rattle.symbol_resolution.specs.Holder.{holder_of}
use Rattle.elf_object.specs.Rows.{rows_in, field, elf_at}
use Rattle.shared_objects.specs.Need.{input_kind_at, dependencies_at, undefined_at}

-- "it defines, global or weak", by the gABI's numbers: entry i isn't undefined, and its binding is one of the two
pub data GlobalOrWeak (binding : ℕ) : Type 0 where
  global : binding ≡ stb_global → GlobalOrWeak binding
  weak : binding ≡ stb_weak → GlobalOrWeak binding

pub record Defines (entries : List ℕ) (i : ℕ) : Type 0 where
  pub defined : (elf_at entries i).section ≢ shn_undef
  pub bound : GlobalOrWeak (elf_at entries i).binding

-- "undefined and strong in the table", hidden or not
pub record StrongUndefined (s : Symbol) : Type 0 where
  pub zero : Bool
  pub hidden : Bool
  pub undefined : s.value ≡ Undefined zero
  pub strong : s.visibility ≡ Global false hidden

-- one of the ids of a list
pub record Holds (l : List ℕ) (id : ℕ) : Type 0 where
  pub at : ℕ
  pub within : at < length l
  pub same : get_or l at 0 ≡ id

-- the kind of a library's row, not an object's
abbrev pub library_kind : ℕ
library_kind = 2

-- input k is a library that recorded the name id, and doesn't list the library named self, of count issued names, as a dependency
pub record Records (inputs lists : List ℕ) (count self k id : ℕ) : Type 0 where
  pub library : input_kind_at inputs k ≡ library_kind
  pub unlisted : self < count → Holds (dependencies_at inputs lists k) self → ⊥
  pub recorded : Holds (undefined_at inputs lists k) id

-- the name id is lacked by the table, or by an earlier library
pub data Lacked (l : Link) (names symbols inputs lists : List ℕ) (self id : ℕ) : Type 0 where
  undefined : (row : SymbolId) → holder_of l names symbols (record { 0 = id }) ≡ Known row → StrongUndefined (symbol_at symbols row)
      → Lacked l names symbols inputs lists self id
  recorded : (k : ℕ) → k < l.inputs → Records inputs lists l.names self k id → Lacked l names symbols inputs lists self id

-- the library named x, with these symbols, defines a lacked name
pub record Needed (l : Link) (bytes names symbols inputs lists entries file x : List ℕ) : Type 0 where
  pub symbol : ℕ
  pub within : symbol < rows_in entries
  pub defines : Defines entries symbol
  pub found : has_name file (field entries symbol 0) ≡ true
  pub issued : find_of bytes names l (name_at file (field entries symbol 0)) < l.names
  pub lacked : Lacked l names symbols inputs lists (find_of bytes names l x) (find_of bytes names l (name_at file (field entries symbol 0)))
