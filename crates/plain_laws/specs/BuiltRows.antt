-- Request 2026-12: "built sections not dropped", and the second collector's bound.
-- Assumes nothing.
use Rattle.std.specs.Prelude.{ℕ, zero, suc, ◌≤◌, Bool, cond, List, eqb}
use Rattle.link.specs.declared.Link.{Link}
use Rattle.sections.specs.Rows.{state_at, built_state}

-- how many numbers below n p holds of
abbrev pub how_many : (ℕ → Bool) → ℕ → ℕ
how_many p zero = 0
how_many p (suc n) = cond (p n) (suc (how_many p n)) (how_many p n)

abbrev pub built_rows : Link → List ℕ → ℕ
built_rows l sections = how_many (λ y. eqb (state_at sections y) built_state) l.sections

-- "up to 256 built sections"
abbrev pub FewBuilt : Link → List ℕ → Type 0
FewBuilt l sections = built_rows l sections ≤ 256
