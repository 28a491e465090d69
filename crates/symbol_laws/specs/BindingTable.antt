-- The table of 64 entries by which document 01 judged binding and visibility, and document 02's formula in its place (2026-03): they judge alike.
-- Assumes nothing.
use Rattle.std.specs.Prelude.{ℕ, ◌+◌, ◌*◌, ◌/◌, ◌%◌, Bool, cond, List, [], ◌∷◌, eqb, get_or}
use Rattle.gabi.specs.SymbolTable.{stb_local, stb_global, stb_weak, stv_internal, stv_hidden, stv_protected}

-- a row for each binding, a column for each visibility: the visibility of the symbol's row (0 local, 1 and 2 global, 3 and 4 weak, the second of each
-- hidden), or the number of the refusal
abbrev pub table : List ℕ
table =
    0 ∷ 10 ∷ 11 ∷ 10
    ∷ 1 ∷ 10 ∷ 2 ∷ 10
    ∷ 3 ∷ 10 ∷ 4 ∷ 10
    ∷ 12 ∷ 10 ∷ 12 ∷ 10
    ∷ 12 ∷ 10 ∷ 12 ∷ 10
    ∷ 12 ∷ 10 ∷ 12 ∷ 10
    ∷ 12 ∷ 10 ∷ 12 ∷ 10
    ∷ 12 ∷ 10 ∷ 12 ∷ 10
    ∷ 12 ∷ 10 ∷ 12 ∷ 10
    ∷ 12 ∷ 10 ∷ 12 ∷ 10
    ∷ 12 ∷ 10 ∷ 12 ∷ 10
    ∷ 12 ∷ 10 ∷ 12 ∷ 10
    ∷ 12 ∷ 10 ∷ 12 ∷ 10
    ∷ 12 ∷ 10 ∷ 12 ∷ 10
    ∷ 12 ∷ 10 ∷ 12 ∷ 10
    ∷ 12 ∷ 10 ∷ 12 ∷ 10
    ∷ []

abbrev pub entry : ℕ → ℕ → ℕ
entry binding visibility = get_or table (binding * 4 + visibility) 0

-- 2026-03: "visibility first, then binding", in the gABI's codes
unfoldable pub bound : Bool → ℕ → ℕ
bound hidden binding =
    cond (eqb binding stb_local) (cond hidden 11 0)
    (cond (eqb binding stb_global) (cond hidden 2 1) (cond (eqb binding stb_weak) (cond hidden 4 3) 12))

unfoldable pub formula : ℕ → ℕ → ℕ
formula binding visibility =
    cond (eqb visibility stv_internal) 10
    (cond (eqb visibility stv_protected) 10 (bound (eqb visibility stv_hidden) binding))

-- ---- whatever passes the test at the 64 entries judges as the table does

abbrev pub right : (ℕ → ℕ → ℕ) → ℕ → ℕ → Bool
right judges k x = eqb x (judges (k / 4) (k % 4))
