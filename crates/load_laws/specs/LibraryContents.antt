-- A row that is that of a symbol of a shared object: it has what the symbol's entry says.
-- Assumes nothing.
use Rattle.std.specs.Prelude.{ℕ, ◌<◌, true, ◌≢◌, None}
use Rattle.std.proofs.Math.Path.{◌≡◌}
use Rattle.gabi.specs.StringTable.{has_name, name_at}
use Rattle.gabi.specs.SymbolTable.{shn_undef}
use Rattle.interner_laws.specs.Good.{Issued}
use Rattle.symbol.specs.declared.Row.{Row}
use Rattle.symbol.specs.declared.SymbolType.TheVariants as Ty
use Rattle.symbol.specs.declared.SymbolValue.TheVariants as Val
use Rattle.symbol.specs.Codes.{type_at, visibility_at, value_at, file_at}
use Rattle.shared_objects.specs.Load.{All, Input, load_of}
use Rattle.symbol_laws.specs.History.{store}
use Rattle.symbol_laws.specs.ObjectWords.{entries_in, entry, entry_name}
use Rattle.symbol_laws.specs.ContentWords.{Admitted, shows, shared_entry}
use Rattle.load_laws.specs.Whole.{table_in}

module _ (o : Input) (a : All) where
  pub record FromLibrary (r : Row) : Type 0 where
    pub number : ℕ
    pub below : number < entries_in o.entries
    pub defines : (entry o.entries number).section ≢ shn_undef
    pub passed : Admitted (entry o.entries number)
    pub type : type_at r.kind ≡ Ty.NoType
    pub shown : visibility_at r.scope ≡ shows (shared_entry a.link.gabi (entry o.entries number))
    pub value : value_at r.value ≡ Val.ExternallyDefined
    pub found : has_name o.image (entry_name o.entries number) ≡ true
    pub named : Issued (store (table_in (load_of o a).cells)) r.name.0 (name_at o.image (entry_name o.entries number))
    pub filed : file_at r.file ≡ None
    pub size : r.size ≡ 0
