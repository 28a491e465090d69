-- The worked examples hold.
-- Assumes nothing.
use Rattle.std.specs.Prelude.{◌≡◌, refl, List, [], ◌∷◌}
use Rattle.std.proofs.Common.{ap}
use Rattle.gabi.specs.StringTable.{before_zero, ended, has_name, name_at, same_name, among}
use Rattle.gabi.specs.SymbolTable.{is_local, is_global, is_weak, is_reference, is_definition, is_common}
use Rattle.gabi.specs.Resolution.{is_global_definition, is_weak_definition, is_common_definition, is_global_reference, count, has, first, resolve}
use Rattle.gabi.specs.Archive.{is_unresolved, wants, offers, extracts}
use Rattle.gabi.specs.ArchiveIndex.{word, offsets, names, index_bytes}
use Rattle.gabi.specs.Groups.{kept, undefine, after_discard}
use Rattle.gabi.specs.Visibility.{rank, combine, combined}
use Rattle.gabi.specs.Examples.{Row, AllHold, examples}

-- all rows hold if the column of what they say is the column of what they expect: one equation for the whole table
abbrev Column : List Row → Type 0
Column [] = Unit {0}
Column (r ∷ l) = r.Of × Column l

abbrev said : (l : List Row) → Column l
said [] = tt
said (r ∷ l) = (r.says, said l)

abbrev expected : (l : List Row) → Column l
expected [] = tt
expected (r ∷ l) = (r.expects, expected l)

by-columns : (l : List Row) → said l ≡ expected l → AllHold l
by-columns [] e = tt
by-columns (r ∷ l) e = (ap (λ (c : Column (r ∷ l)). c.0) e, by-columns l (ap (λ (c : Column (r ∷ l)). c.1) e))

-- every row, by computing both columns
pub examples-hold : AllHold examples
unfolding before_zero ended has_name name_at same_name among is_local is_global is_weak is_reference is_definition is_common is_global_definition is_weak_definition is_common_definition is_global_reference count has first resolve is_unresolved wants offers extracts word offsets names index_bytes kept undefine after_discard rank combine combined
examples-hold = by-columns examples refl
