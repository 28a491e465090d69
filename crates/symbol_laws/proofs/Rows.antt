-- A symbol's row read whole, and after a row was stored.
-- Assumes nothing.
use Rattle.std.specs.Prelude.{ℕ, ◌+◌, ◌*◌, ◌≤◌, ◌<◌, ◌≡◌, refl, List, ◌≢◌, length}
use Rattle.std.proofs.Common.{arith}
use Rattle.link.specs.declared.SymbolId.{SymbolId}
use Rattle.symbol.specs.declared.Row.{Row}
use Rattle.symbol.specs.Row.{field, state_at, symbol_at, set_row}
pub use Rattle.symbol.specs.Row.{row_at}
use Rattle.symbol.specs.RowLaws.{symbol_of}
use Rattle.symbol.specs.Proof.RowLaws.{scope-back, type-back, scope-small, type-small, field-same, field-other}

-- the symbol at an id is what its row means
pub means : (symbols : List ℕ) (id : SymbolId) → symbol_at symbols id ≡ symbol_of id (row_at symbols id.0)
unfolding symbol_at symbol_of
means symbols id = refl

-- a cell has room for its scope and its type
pub record Packs (r : Row) : Type 0 where
  pub scope : r.scope < 8
  pub type : r.kind < 16

pub read-packs : (l : List ℕ) (i : ℕ) → Packs (row_at l i)
read-packs l i = record { scope = scope-small (field l i 4); type = type-small (field l i 4) }

module _ (l : List ℕ) (id : SymbolId) (r : Row) where
  pub stored_there : id.0 * 8 + 8 ≤ length l → state_at (set_row l id r) id.0 ≡ 1
  stored_there g = field-same l id r 0 (omega arith) g

  pub stored_row : Packs r → id.0 * 8 + 8 ≤ length l → row_at (set_row l id r) id.0 ≡ r
  stored_row p g =
      rw (
        field-same l id r 1 (omega arith) g,
        field-same l id r 2 (omega arith) g,
        field-same l id r 3 (omega arith) g,
        field-same l id r 4 (omega arith) g,
        field-same l id r 5 (omega arith) g,
        field-same l id r 6 (omega arith) g,
        field-same l id r 7 (omega arith) g,
        scope-back r.scope r.kind p.scope,
        type-back r.scope r.kind p.scope p.type,
      )

  pub there-kept : (j : ℕ) → j ≢ id.0 → state_at (set_row l id r) j ≡ state_at l j
  there-kept j n = field-other l id r j 0 (omega arith) n

  pub row_kept : (j : ℕ) → j ≢ id.0 → row_at (set_row l id r) j ≡ row_at l j
  row_kept j n =
      rw (
        field-other l id r j 1 (omega arith) n,
        field-other l id r j 2 (omega arith) n,
        field-other l id r j 3 (omega arith) n,
        field-other l id r j 4 (omega arith) n,
        field-other l id r j 5 (omega arith) n,
        field-other l id r j 6 (omega arith) n,
        field-other l id r j 7 (omega arith) n,
      )
