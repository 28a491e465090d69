-- A row that is reserved has a number.
-- Assumes nothing.
use Rattle.std.specs.Prelude.{ℕ, ◌+◌, ◌≤◌, ◌≡◌, Bool, true, false, List, length, ltb}
use Rattle.std.proofs.Common.{arith, sym, ◌∙◌, Fits}
use borrow.Author.Tests.{ltb-true, ltb-false}
use Rattle.std.specs.Int.{w64}
use Rattle.cells.specs.Proof.Split.{by-test}
use Rattle.link.specs.declared.Link.{Link}
use Rattle.link.specs.Bounds.{lesser, section_slots, section_rows}
use Rattle.sections.specs.Rows.{room_of}

apart : false ≡ true → ⊥
apart e = let z : ◌≡◌ {A = ℕ} 0 1 = cc in omega arith

lesser-left : (a b : ℕ) → lesser a b ≤ a
unfolding lesser
lesser-left a b = by-test (ltb a b) (λ t. rw t (omega arith)) (λ t. rw t (ltb-false a b t))

-- there is a number for one row more
pub reserve-fits : (rows : List ℕ) (l : Link) (b : Bool) → b ≡ room_of l rows → b ≡ true → Fits w64 (l.sections + 1)
unfolding room_of
reserve-fits rows l b e f =
    let slots : ℕ = lesser l.slots (section_slots (length rows)) in
    by-test (ltb l.sections (section_rows slots)) (λ t. omega (arith, ltb-true l.sections (section_rows slots) t, lesser-left 65535 slots))
    (λ t. absurd (apart (sym (e ∙ rw t) ∙ f)))
