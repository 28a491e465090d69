-- The decision on a row under a name of which it is told who holds it. Document 01, "Symbols": "Add checks in this order".
-- Assumes nothing.
use Rattle.std.specs.Prelude.{ℕ, ◌+◌, ◌*◌, Bool, true, false, cond, ◌&&◌, List, eqb, ltb, leb, length, Result, Ok, Err}
use Rattle.cells.specs.Rows.{row_width}
use Rattle.gabi.specs.SymbolTable.{stt_file}
use Rattle.link.specs.declared.Link.{Link}
use Rattle.link.specs.declared.cause.Cause.{Cause}
use Rattle.link.specs.Cause.{number_of}
use Rattle.link.specs.declared.SymbolId.{SymbolId}
use Rattle.link.specs.Bounds.{symbol_rows, section_slots}
use Rattle.symbol.specs.declared.Row.{Row}
use Rattle.symbol.specs.Row.{scope_at, kind_at, scope_refused, scope_refusal, value_refused, value_refusal}
use Rattle.symbol.specs.Layout.{local, weak, weak_hidden, section_kind, undefined_kind, common_kind}
use Rattle.symbol.specs.Hidden.{hidden_code, passes}
use Rattle.symbol_resolution.specs.declared.rows.Holder.{Holder}
use Rattle.symbol_resolution.specs.declared.rows.Holder.TheVariants.{Unissued, Nobody, Removed, Known}
use Rattle.symbol_resolution.specs.declared.Rank.{Rank}
use Rattle.symbol_resolution.specs.declared.Rank.TheVariants as By
use Rattle.symbol_resolution.specs.declared.rows.Resolution.{Resolution}
use Rattle.symbol_resolution.specs.declared.rows.Resolution.TheVariants as To
use Rattle.symbol_resolution.specs.Decision.{Decision, Refuse, Nothing, Keep, Append, Replace, Amend}

-- ---- what the code answers, as a decision, a rank's number, the number of a refusal

abbrev pub decision_of : Result Resolution ℕ → Decision
decision_of (Err n) = Refuse n
decision_of (Ok To.Nothing) = Nothing
decision_of (Ok (To.Keep id)) = Keep id
decision_of (Ok To.Append) = Append
decision_of (Ok (To.Replace id)) = Replace id
decision_of (Ok (To.Amend id)) = Amend id

-- 0 for none
abbrev pub cause_number : Result Unit Cause → ℕ
cause_number (Ok u) = 0
cause_number (Err c) = number_of c

-- ---- the decision

unfoldable pub weak_of : ℕ → Bool
weak_of v = cond (eqb v weak) true (cond (eqb v weak_hidden) true false)

-- a reference: 0; in the gABI profile a strong one 1, so that it "turns a weak undefined row into a strong undefined one" (2026-07)
unfoldable pub reference_rank : Bool → ℕ → ℕ
reference_rank gabi scope = cond gabi (cond (weak_of scope) 0 1) 0

-- "A definition is any value but `Undefined`": a reference, then a weak definition, a common (2026-06: "a third rank: above undefined, below any
-- global definition that is no common", whatever its binding), a strong definition
abbrev pub weak_rank : ℕ
weak_rank = 2

abbrev pub common_rank : ℕ
common_rank = 3

abbrev pub strong_rank : ℕ
strong_rank = 4

abbrev pub rank_number : Rank → ℕ
rank_number By.Reference = 0
rank_number By.StrongReference = 1
rank_number By.WeakDefinition = weak_rank
rank_number By.Common = common_rank
rank_number By.StrongDefinition = strong_rank

unfoldable pub rank_of : Bool → ℕ → ℕ → ℕ
rank_of gabi scope value =
    cond (eqb value undefined_kind) (reference_rank gabi scope)
    (cond (eqb value common_kind) common_rank (cond (weak_of scope) weak_rank strong_rank))

-- "type 4 in add" (15), above (16)
unfoldable pub type_refusal : ℕ → ℕ
type_refusal k = cond (ltb k stt_file) 0 (cond (eqb k stt_file) 15 16)

-- the cell for the symbol of section s, in a slice of n: behind the rows that a new table was lent; n where it has none, or where fewer are lent
unfoldable pub section_cell : Link → ℕ → ℕ → ℕ
section_cell l n s = cond (ltb (section_slots n) l.slots) n (cond (ltb s l.slots) (l.slots * row_width + s) n)

-- a free row; a local section symbol also needs the cell of its section
unfoldable pub section_room : Link → List ℕ → Row → Bool
section_room l sections r =
    cond (eqb r.scope local)
    (cond (eqb r.value.kind section_kind) (cond (ltb (section_cell l (length sections) r.value.a) (length sections)) true false) true) true

unfoldable pub room_of : Link → List ℕ → List ℕ → Row → Bool
room_of l symbols sections r = cond (leb (symbol_rows (length symbols)) l.symbols) false (section_room l sections r)

-- "a local or a new name: type (15, 16), then a free row (2)", after the value (13, 14, 28)
unfoldable pub new_of : Link → List ℕ → List ℕ → Row → Decision
new_of l symbols sections r =
    cond (value_refused r) (Refuse (value_refusal r))
    (cond (eqb (type_refusal r.kind) 0) (cond (room_of l symbols sections r) Append (Refuse 2)) (Refuse (type_refusal r.kind)))

-- "type is checked and the row replaced under its old id"
unfoldable pub replace_of : Row → SymbolId → Decision
replace_of r id = cond (eqb (type_refusal r.kind) 0) (Replace id) (Refuse (type_refusal r.kind))

-- a row that stays: in the gABI profile it becomes hidden where the add is and it isn't
unfoldable pub kept_of : Bool → ℕ → ℕ → SymbolId → Decision
kept_of gabi old new id = cond (passes gabi new) (cond (hidden_code old) (Keep id) (Amend id)) (Keep id)

-- 2026-06: two commons are joined in the row that stays
abbrev pub joins : ℕ → ℕ → Bool
joins old new = eqb old common_rank && eqb new common_rank

unfoldable pub stays_of : Bool → ℕ → ℕ → ℕ → Row → SymbolId → Decision
stays_of gabi v old new r id = cond (joins old new) (Amend id) (kept_of gabi v r.scope id)

-- a row of scope v and rank old yields to a greater rank; two strong definitions are 17; else the row stays
unfoldable pub ranked_of : Bool → ℕ → ℕ → ℕ → Row → SymbolId → Decision
ranked_of gabi v old new r id =
    cond (ltb old new) (replace_of r id) (cond (eqb new strong_rank) (Refuse 17) (stays_of gabi v old new r id))

-- a known name, after the value (13, 14, 28)
unfoldable pub known_of : Bool → List ℕ → Row → SymbolId → Decision
known_of gabi symbols r id =
    cond (value_refused r) (Refuse (value_refusal r))
    (ranked_of gabi (scope_at symbols id.0) (rank_of gabi (scope_at symbols id.0) (kind_at symbols id.0))
    (rank_of gabi r.scope r.value.kind) r id)

-- "a name id never issued, or a global or weak name whose row was removed, gives 21"
abbrev pub global_of : Link → List ℕ → List ℕ → Row → Holder → Decision
global_of l symbols sections r Unissued = Refuse 21
global_of l symbols sections r Nobody = new_of l symbols sections r
global_of l symbols sections r Removed = Refuse 21
global_of l symbols sections r (Known id) = known_of l.gabi symbols r id

abbrev pub local_of : Link → List ℕ → List ℕ → Row → Holder → Decision
local_of l symbols sections r Unissued = Refuse 21
local_of l symbols sections r Nobody = new_of l symbols sections r
local_of l symbols sections r Removed = new_of l symbols sections r
local_of l symbols sections r (Known id) = new_of l symbols sections r

-- 10, 11, 12; 21; then a local, a new or a known name
unfoldable pub decide_of : Link → List ℕ → List ℕ → Row → Holder → Decision
decide_of l symbols sections r h =
    cond (scope_refused r) (Refuse (scope_refusal r))
    (cond (eqb r.scope local) (local_of l symbols sections r h) (global_of l symbols sections r h))

-- document 01's number for each case, and the id that is answered in a table of count rows
abbrev pub refusal_of : Decision → ℕ
refusal_of (Refuse n) = n
refusal_of Nothing = 0
refusal_of (Keep id) = 0
refusal_of Append = 0
refusal_of (Replace id) = 0
refusal_of (Amend id) = 0

abbrev pub id_of : Decision → ℕ → SymbolId
id_of (Refuse n) count = record { 0 = 0 }
id_of Nothing count = record { 0 = 0 }
id_of (Keep id) count = id
id_of Append count = record { 0 = count }
id_of (Replace id) count = id
id_of (Amend id) count = id
