-- Document 02, 2026-14, "Link order and the mixer", statements only, each proved by citing the file where its proof stands; and that lists meet the premises.
-- Assumes nothing.
use Rattle.std.specs.Prelude.{ℕ, ◌+◌, ◌≤◌, ◌≡◌, Bool, List, [], ◌∷◌, length, replicate, All}
use Rattle.link.specs.Bounds.{symbol_rows}
use Rattle.link.specs.Said.{number_in}
use Rattle.upcoming_symbol.specs.declared.UpcomingSymbol.{UpcomingSymbol}
use Rattle.symbols.specs.New.{new_of}
use Rattle.symbol_laws.specs.History.{State, opened}
use Rattle.order_laws.specs.Premises.{Passes, RowsEnough, Premises}
use Rattle.order_laws.specs.Order.{names_issued, AnyOrder}
use Rattle.order_laws.specs.Examples as Sheets
use Rattle.order_laws.proofs.Order.{ordered}
use Rattle.order_laws.proofs.Rows as Rows
use Rattle.order_laws.proofs.Examples as Examples

-- "Show this for one profile at a time": from a new table in that profile, with these names issued, and cells for the ids of all adds
module _ (key : ℕ) (gabi : Bool) (bytes names symbols sections : List ℕ) (new : number_in (new_of key gabi bytes names symbols sections).said ≡ 0) (issued : List (List ℕ)) where
  abbrev pub start : State
  start = names_issued issued (opened (new_of key gabi bytes names symbols sections))

  pub any-order : (conversion : List ℕ) (us : List UpcomingSymbol) (ids : List ℕ) → Premises start conversion us → length us ≤ length ids → AnyOrder start conversion ids gabi us
  any-order = ordered key gabi bytes names symbols sections new issued

-- "rows enough": it is enough to lend one for each add and one for the null symbol
pub row-each : (s : State) (conversion : List ℕ) (us : List UpcomingSymbol) → All (Passes s conversion) us → 1 + length us ≤ symbol_rows (length s.symbols) → RowsEnough s us
row-each = Rows.row-each

-- ---- there are such lists

-- the add sheet's first four lines in all 24 orders, and other lists in both, computed: accepted, with this content of mute
pub examples : Sheets.All Sheets.cases
examples = Examples.examples

-- the sheet meets the premises, so `any-order` speaks of it
pub sheet-premises : (profile : Bool) → Premises (Sheets.start profile) Sheets.sections Sheets.sheet
sheet-premises = Examples.sheet-premises

pub sheet-order : (profile : Bool) → AnyOrder (Sheets.start profile) Sheets.sections (replicate {A = ℕ} 4 7) profile Sheets.sheet
sheet-order = Examples.sheet-order

-- two strong definitions of a name don't meet them
pub twice-not : (s : State) (conversion : List ℕ) → Premises s conversion (Sheets.strong_mute ∷ Sheets.strong_mute ∷ []) → ⊥
twice-not = Examples.twice-not
