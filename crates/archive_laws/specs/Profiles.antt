-- Names whose row is strong: in the gABI profile only these tie a member.
-- Assumes nothing.
use Rattle.std.specs.Prelude.{ℕ, Bool, ◌||◌, List, eqb}
use Rattle.std.proofs.Math.Bool.{false}
use Rattle.symbol.specs.Row.{scope_at}
use Rattle.symbol.specs.Layout.{global, global_hidden}
use Rattle.symbol_resolution.specs.declared.rows.Holder.{Holder}
use Rattle.symbol_resolution.specs.declared.rows.Holder.TheVariants.{Unissued, Nobody, Removed, Known}
use Rattle.archive_walk.specs.Look.{Table, name_holder}

-- the row is global and not weak, hidden or not
abbrev pub is_strong : List ℕ → Holder → Bool
is_strong symbols Unissued = false
is_strong symbols Nobody = false
is_strong symbols Removed = false
is_strong symbols (Known id) = eqb (scope_at symbols id.0) global || eqb (scope_at symbols id.0) global_hidden

-- the row of x is present and strong
unfoldable pub strong_name : Table → List ℕ → Bool
strong_name t x = is_strong t.symbols (name_holder t x)
