-- A direct add. 22; 1; then the decision on the row that the symbol would become; what it writes.
-- Assumes nothing.
use Rattle.std.specs.Prelude.{ℕ, ◌+◌, ◌*◌, Bool, true, false, cond, List, eqb, leb, get_or, length, Option, None, Some}
use Rattle.cells.specs.Rows.{row_width}
use Rattle.link.specs.declared.Link.{Link}
use Rattle.link.specs.declared.Lent.{Lent}
use Rattle.link.specs.declared.Interned.{Interned}
use Rattle.link.specs.declared.cause.Refusal.{Refusal}
use Rattle.link.specs.Bounds.{name_rows, section_slots}
use Rattle.link.specs.Judge.{refused, change_of}
use Rattle.symbol.specs.declared.Row.{Row}
use Rattle.symbol.specs.Layout.{length_cell}
use Rattle.upcoming_symbol.specs.declared.UpcomingSymbol.{UpcomingSymbol}
use Rattle.upcoming_symbol.specs.declared.UpcomingSymbol.TheVariants.{Null, GlobalUnknown, GlobalHidden, Section, ExternallyDefined, Elf}
use Rattle.upcoming_symbol.specs.Judge.{in_range}
use Rattle.upcoming_symbol.specs.Upcoming.{name_of, row_of}
use Rattle.symbol_resolution.specs.declared.rows.Holder.{Holder}
use Rattle.symbol_resolution.specs.declared.rows.Holder.TheVariants.{Unissued}
use Rattle.symbol_resolution.specs.Decision.{Decision}
use Rattle.symbol_resolution.specs.Holder.{holder_of}
use Rattle.symbol_resolution.specs.Decide.{decide_of, refusal_of, id_of}
use Rattle.symbol_resolution.specs.Apply.{Table, apply_of}
use Rattle.link.specs.Said.{accepted, refusing}
use Rattle.symbols.specs.Calls.{Left, left, lent_of}

-- 22, then 1: the link's counts, then the symbol's own fields; "else 0, as for a direct add but 21"
unfoldable pub judge_add_of : Link → Lent → UpcomingSymbol → Refusal
judge_add_of l n u =
    cond (eqb (change_of l n).number 0) (cond (in_range u) (change_of l n) (refused 1 0)) (refused (change_of l n).number 0)

abbrev pub file_of : UpcomingSymbol → Option Interned
file_of Null = None
file_of (GlobalUnknown name) = None
file_of (GlobalHidden name value) = None
file_of (Section section) = None
file_of (ExternallyDefined name visibility binding) = None
file_of (Elf elf name file) = file

-- "a name id never issued": the symbol's, then its file's
abbrev pub file_issued : Link → Option Interned → Bool
file_issued l None = true
file_issued l (Some id) = cond (leb l.names id.0) false true

unfoldable pub issued_of : Link → Interned → Option Interned → Bool
issued_of l name file = cond (leb l.names name.0) false (file_issued l file)

unfoldable pub direct_holder_of : Link → List ℕ → List ℕ → Interned → Option Interned → Holder
direct_holder_of l names symbols name file = cond (issued_of l name file) (holder_of l names symbols name) Unissued

-- "21's id: the name's for an add"
abbrev pub unissued_file : Link → Interned → Option Interned → ℕ
unissued_file l name None = name.0
unissued_file l name (Some id) = cond (leb l.names id.0) id.0 name.0

unfoldable pub place_of : Link → Interned → Option Interned → ℕ
place_of l name file = cond (leb l.names name.0) name.0 (unissued_file l name file)

-- by the first of the two ids that isn't issued
abbrev pub is_issued : Option Interned → Bool
is_issued None = true
is_issued (Some id) = false

abbrev pub place_in : Option Interned → Interned → ℕ
place_in None name = name.0
place_in (Some id) name = id.0

abbrev pub refused_place : Link → Row → Option Interned → ℕ → ℕ
refused_place l r file number = cond (eqb number 21) (place_of l r.name file) 0

unfoldable pub decided_of : Table → Row → Option Interned → Decision
decided_of t r file =
    decide_of t.link t.symbols t.sections r (direct_holder_of t.link t.names t.symbols r.name file)

-- a refusal leaves everything, at place 0 "as for a direct add but 21"
unfoldable pub committed_of : Table → Row → Option Interned → Decision → Left
committed_of t r file d =
    cond (eqb (refusal_of d) 21) (left t (refusing (refused 21 (place_of t.link r.name file))))
    (cond (eqb (refusal_of d) 0) (left (apply_of t r d) (accepted (id_of d t.link.symbols).0)) (left t (refusing (refused (refusal_of d) 0))))

-- a name is empty where its length is 0
abbrev pub empty_at : List ℕ → Interned → Bool
empty_at names name = eqb (get_or names (name.0 * row_width + length_cell) 0) 0

unfoldable pub add_row_of : Table → Row → Option Interned → Left
add_row_of t r file = committed_of t r file (decided_of t r file)

abbrev pub lent : Table → Lent
lent t = lent_of (name_rows (length t.names)) (length t.symbols) (section_slots (length t.sections))

unfoldable pub add_of : Table → List ℕ → UpcomingSymbol → Left
add_of t conversion u =
    cond (eqb (judge_add_of t.link (lent t) u).number 0)
    (add_row_of t (row_of t.link.gabi conversion u (empty_at t.names (name_of u))) (file_of u))
    (left t (refusing (judge_add_of t.link (lent t) u)))
