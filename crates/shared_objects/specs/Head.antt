-- The head of a load: "22 comes first, then 1 (sections, symbols, then the rest); 25 follows and marks nothing broken"; then the marks.
-- Assumes nothing.
use Rattle.std.specs.Prelude.{ℕ, Bool, true, false, cond, List, eqb, ltb, get_or, length}
use Rattle.gabi.specs.StringTable.{has_name}
use Rattle.link.specs.declared.Link.{Link}
use Rattle.link.specs.declared.Lent.{Lent}
use Rattle.link.specs.declared.cause.Refusal.{Refusal}
use Rattle.link.specs.Judge.{refused, change_of}
use Rattle.elf_object.specs.Rows.{rows_in}
use Rattle.elf_object.specs.Judge.{first_bad, bad_entry}

-- an offset that gives no name is out of range
unfoldable pub dependencies_ok : List ℕ → List ℕ → ℕ → Bool
dependencies_ok image needs j = has_name image (get_or needs j 0)

unfoldable pub bad_need : List ℕ → List ℕ → ℕ
bad_need image needs = first_bad (dependencies_ok image needs) 0 (length needs)

unfoldable pub soname_missing : List ℕ → Bool → ℕ → Bool
soname_missing image sonamed soname = cond sonamed (cond (has_name image soname) false true) false

-- 1 of the symbols, the soname (place 0), the dependencies
unfoldable pub rows_of : List ℕ → List ℕ → List ℕ → Bool → ℕ → Refusal
rows_of entries image needs sonamed soname =
    cond (ltb (bad_entry entries) (rows_in entries)) (refused 1 (bad_entry entries))
    (cond (soname_missing image sonamed soname) (refused 1 0)
    (cond (ltb (bad_need image needs) (length needs)) (refused 1 (bad_need image needs)) (refused 0 0)))

-- "archived library without soname"
unfoldable pub unnamed_of : Bool → Bool → Bool
unnamed_of archived sonamed = cond sonamed false archived

-- as-needed takes a mark for each name
unfoldable pub marks_short : Bool → ℕ → ℕ → Bool
marks_short asneeded marks count = cond asneeded (cond (ltb marks count) true false) false

-- 25, then 2 of the marks
unfoldable pub name_refusal : Link → Bool → Bool → Bool → ℕ → Refusal
name_refusal l archived sonamed asneeded marks =
    cond (unnamed_of archived sonamed) (refused 25 0) (cond (marks_short asneeded marks l.names) (refused 2 0) (refused 0 0))

unfoldable pub after_rows : Link → Bool → Bool → Bool → ℕ → Refusal → Refusal
after_rows l archived sonamed asneeded marks rows = cond (eqb rows.number 0) (name_refusal l archived sonamed asneeded marks) rows

unfoldable pub check_of : Link → Lent → List ℕ → List ℕ → List ℕ → Bool → Bool → ℕ → Bool → ℕ → Refusal
check_of l lent entries image needs archived sonamed soname asneeded marks =
    cond (eqb (change_of l lent).number 0) (after_rows l archived sonamed asneeded marks (rows_of entries image needs sonamed soname))
    (change_of l lent)
