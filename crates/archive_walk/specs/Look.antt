-- What a pass asks of the table lent to it: names of the index are looked up, never interned.
-- Assumes nothing.
use Rattle.std.specs.Prelude.{ℕ, Bool, true, false, cond, List, length}
use Rattle.link.specs.declared.Link.{Link}
use Rattle.link.specs.declared.Lent.{Lent}
use Rattle.link.specs.declared.cause.Refusal.{Refusal}
use Rattle.link.specs.declared.SymbolId.{SymbolId}
use Rattle.link.specs.Bounds.{not_lent, name_rows}
use Rattle.link.specs.Judge.{judge_of}
use Rattle.link.specs.Counts.{lent_rows}
use Rattle.interner.specs.Names.{find_of}
use Rattle.symbol_resolution.specs.declared.rows.Holder.{Holder}
use Rattle.symbol_resolution.specs.declared.rows.Holder.TheVariants.{Unissued, Nobody, Removed, Known}
use Rattle.symbol_resolution.specs.Holder.{holder_of}
use Rattle.symbol_resolution.specs.RowsUndefined.{undefined_row, strong_undefined}
use Rattle.cells.specs.Slice.{Slice}

-- the link, and what of it a call is lent
pub record Table : Type 0 where
  pub link : Link
  pub bytes : List ℕ
  pub names : List ℕ
  pub symbols : List ℕ

abbrev pub table_of : Link → List ℕ → List ℕ → List ℕ → Table
table_of l b n y = record { link = l; bytes = b; names = n; symbols = y }

-- as it is lent
abbrev pub table_in : Link → Slice → Slice → Slice → Table
table_in l b n y = table_of l b.entry.now n.entry.now y.entry.now

abbrev pub lent_of : Link → ℕ → ℕ → ℕ → Lent
lent_of l bytes names symbols = lent_rows (name_rows names) bytes symbols l.slots not_lent not_lent

-- 1 for a count above what is lent
unfoldable pub judge_table : Table → Refusal
judge_table t = judge_of t.link (lent_of t.link (length t.bytes) (length t.names) (length t.symbols))

-- who holds the name x
unfoldable pub name_holder : Table → List ℕ → Holder
name_holder t x = holder_of t.link t.names t.symbols (record { 0 = find_of t.bytes t.names t.link x })

abbrev pub was_removed : Holder → Bool
was_removed Unissued = false
was_removed Nobody = false
was_removed Removed = true
was_removed (Known id) = false

-- weak or not
abbrev pub is_undefined : List ℕ → Holder → Bool
is_undefined symbols Unissued = false
is_undefined symbols Nobody = false
is_undefined symbols Removed = false
is_undefined symbols (Known id) = undefined_row symbols id

unfoldable pub removed_name : Table → List ℕ → Bool
removed_name t x = was_removed (name_holder t x)

-- the row of x is present and undefined
unfoldable pub undefined_name : Table → List ℕ → Bool
undefined_name t x = is_undefined t.symbols (name_holder t x)

-- Which names tie a member, by the link's profile. The old: any name that is undefined; document 01: "Weak references pull members". The
-- gABI's, document 02, 2026-02: "a weak reference ties no member", "the mission's walk then reads "undefined and strong" for "undefined"".
unfoldable pub ties_row : Bool → List ℕ → SymbolId → Bool
ties_row gabi symbols id = cond gabi (strong_undefined symbols id) (undefined_row symbols id)

abbrev pub ties : Bool → List ℕ → Holder → Bool
ties gabi symbols Unissued = false
ties gabi symbols Nobody = false
ties gabi symbols Removed = false
ties gabi symbols (Known id) = ties_row gabi symbols id

-- the row of x is present and undefined, in the gABI's profile strong too
unfoldable pub tied_name : Table → List ℕ → Bool
tied_name t x = ties t.link.gabi t.symbols (name_holder t x)
