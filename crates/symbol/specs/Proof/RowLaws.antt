-- Laws of the definitions of Layout.antt and Row.antt.
-- Assumes nothing.
use Rattle.std.specs.Prelude.{ℕ, ◌+◌, ◌*◌, ◌/◌, ◌%◌, ◌<◌, ◌≤◌, ◌≡◌, List, ◌≢◌, length}
use Rattle.std.proofs.Math.Path.{refl}
use Rattle.std.proofs.Common.{arith}
use Rattle.std.proofs.Math.ListN.{get_or}
use Rattle.cells.specs.Proof.Rows.{length-put_row, row_same, row_other}
use Rattle.link.specs.declared.SymbolId.{SymbolId}
use Rattle.symbol.specs.declared.Row.{Row}
use Rattle.symbol.specs.Layout.{scope_and_type, scope_in, type_in}
use Rattle.symbol.specs.Row.{field, cells_of, set_row}

-- ---- a scope and a type in one cell

module _ (scope type : ℕ) (small : scope < 8) where
  pub scope-back : scope_in (scope_and_type scope type) ≡ scope
  unfolding scope_in scope_and_type
  scope-back = omega (arith, small)

  pub type-back : type < 16 → type_in (scope_and_type scope type) ≡ type
  unfolding type_in scope_and_type
  type-back h = omega (arith, small, h)

pub scope-small : (cell : ℕ) → scope_in cell < 8
unfolding scope_in
scope-small cell = omega arith

pub type-small : (cell : ℕ) → type_in cell < 16
unfolding type_in
type-small cell = omega arith

-- ---- a row's cells

module _ (l : List ℕ) (id : SymbolId) (r : Row) where
  pub length-set_row : length (set_row l id r) ≡ length l
  unfolding set_row
  length-set_row = length-put_row l id.0 (cells_of r)

  pub field-same : (f : ℕ) → f < 8 → id.0 * 8 + 8 ≤ length l → field (set_row l id r) id.0 f ≡ get_or (cells_of r) f 0
  unfolding set_row
  field-same f h g = row_same l id.0 (cells_of r) f refl h g

  pub field-other : (j f : ℕ) → f < 8 → j ≢ id.0 → field (set_row l id r) j f ≡ field l j f
  unfolding set_row
  field-other j f h n = row_other l id.0 (cells_of r) j f refl h n
