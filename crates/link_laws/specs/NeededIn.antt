-- When as-needed loads a library, told without a cell of the link: by what a lookup answers, and by the libraries that were loaded before.
-- Assumes nothing.
use Prim.Native.Nat.{ℕ, ◌<◌}
use Rattle.std.specs.Prelude.{◌≡◌, true, List, get_or, length, Ok}
use Rattle.gabi.specs.StringTable.{has_name, name_at}
use Rattle.gabi.specs.SymbolTable.{stb_global, shn_undef}
use Rattle.symbol.specs.declared.Symbol.{Symbol}
use Rattle.elf_object.specs.Rows.{rows_in, field, elf_at}
use Rattle.shared_objects.specs.Load as Shared
use Rattle.shared_objects.specs.Load.{name_of}
use Rattle.load_laws.specs.Needed.{Defines, StrongUndefined}
use Rattle.merge_laws.specs.Calls.{Linked}
use Rattle.link_laws.specs.Calls.{Call, run_calls}
use Rattle.link_laws.specs.LibraryLoads.{LoadedAt}
use Rattle.link_laws.specs.Words.{lookup}

-- "it defines, global or weak, a name": some symbol of it does
pub record DefinesName (o : Shared.Input) (b : List ℕ) : Type 0 where
  pub symbol : ℕ
  pub within : symbol < rows_in o.entries
  pub defines : Defines o.entries symbol
  pub named : has_name o.image (field o.entries symbol 0) ≡ true
  pub is : name_at o.image (field o.entries symbol 0) ≡ b

-- "names by an undefined symbol of binding 1"
pub record LacksName (o : Shared.Input) (b : List ℕ) : Type 0 where
  pub symbol : ℕ
  pub within : symbol < rows_in o.entries
  pub undefined : (elf_at o.entries symbol).section ≡ shn_undef
  pub global : (elf_at o.entries symbol).binding ≡ stb_global
  pub is : name_at o.image (field o.entries symbol 0) ≡ b

-- it lists the name as a dependency
pub record DependsOn (o : Shared.Input) (b : List ℕ) : Type 0 where
  pub at : ℕ
  pub within : at < length o.needs
  pub is : name_at o.image (get_or o.needs at 0) ≡ b

-- "it defines, global or weak, a name undefined and strong in the table, or one that an earlier loaded library, not listing it as a dependency, names by an
-- undefined symbol of binding 1, since defined or not": of the library o after the calls ks, begun with the link s0
pub data NeededIn (s0 : Linked) (ks : List Call) (o : Shared.Input) : Type 0 where
  by_table : (b : List ℕ) → DefinesName o b → (y : Symbol) → lookup b (run_calls ks s0) ≡ Ok y → StrongUndefined y → NeededIn s0 ks o
  by_library : (b : List ℕ) → DefinesName o b → (k : ℕ) (l : LoadedAt k ks s0) → LacksName l.library b → (DependsOn l.library (name_of o) → ⊥) → NeededIn s0 ks o
