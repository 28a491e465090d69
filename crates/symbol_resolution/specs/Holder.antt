-- Who holds a name. A name's row has the id of its global symbol, 0 for none; a removed symbol still holds its name.
-- Assumes nothing.
use Rattle.std.specs.Prelude.{ℕ, ◌+◌, ◌*◌, cond, List, eqb, leb, get_or}
use Rattle.cells.specs.Rows.{row_width}
use Rattle.link.specs.declared.Link.{Link}
use Rattle.link.specs.declared.Interned.{Interned}
use Rattle.symbol.specs.Row.{state_at}
use Rattle.symbol.specs.Layout.{removed_state, symbol_cell}
use Rattle.symbol_resolution.specs.declared.rows.Holder.{Holder}
use Rattle.symbol_resolution.specs.declared.rows.Holder.TheVariants.{Nobody, Removed, Known}

abbrev pub global_at : List ℕ → ℕ → ℕ
global_at names name = get_or names (name * row_width + symbol_cell) 0

-- of count rows; an id past them is of a later state of the link
unfoldable pub held_by : ℕ → List ℕ → ℕ → Holder
held_by count symbols id =
    cond (eqb id 0) Nobody (cond (leb count id) Nobody (cond (eqb (state_at symbols id) removed_state) Removed (Known (record { 0 = id }))))

-- nobody holds a name that is to be issued
unfoldable pub holder_of : Link → List ℕ → List ℕ → Interned → Holder
holder_of l names symbols name = cond (leb l.names name.0) Nobody (held_by l.symbols symbols (global_at names name.0))
