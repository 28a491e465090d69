-- How many of the first n cells are marked.
-- Assumes nothing.
use Rattle.std.specs.Prelude.{ℕ, zero, suc, ◌+◌, cond, List, eqb, get_or}

unfoldable pub marks : ℕ → List ℕ → ℕ
marks zero l = 0
marks (suc n) l = marks n l + cond (eqb (get_or l n 0) 0) 0 1
