-- Where the table and the gABI agree, and where they don't: in the old profile whether a name without a definition reads as zero.
-- Assumes nothing.
use Rattle.std.specs.Prelude.{ℕ, ◌≡◌, Bool, false, cond, get_or}
use Rattle.std.proofs.Math.Bool.{true}
use mathlib.Core.List.{List, ◌∷◌}
use Rattle.gabi.specs.SymbolTable.{Sym, is_weak}
use Rattle.gabi.specs.Resolution as Gabi
use Rattle.gabi.specs.Resolution.{Resolution, defined, common, duplicate, unresolved, zero_value, is_global_reference}
use Rattle.symbol.specs.declared.Row.{Row}
use Rattle.symbol_laws.specs.Rank as Rank
use Rattle.symbol_laws.specs.Rank.{defines, strong_reference, weak_reference, joined_in}
use Rattle.symbol_laws.specs.Standing.{hidden_by}
use Rattle.symbol_laws.specs.Gabi.{Zeroes}

-- ---- agreement

-- the row of a name that the gABI finds unresolved, c its first add. Old profile, P7: that add's, which says whether it reads as zero
abbrev pub Unresolved : Bool → Row → List Row → Sym → List Sym → Row → Type 0
Unresolved false c cs s ss row = (row ≡ c) × (defines row ≡ false) × (Zeroes c s → row.value.a ≡ cond (is_weak s) 1 0)
-- 2026-07: the first global reference's, which doesn't read as zero
Unresolved true c cs s ss row =
    let k : ℕ = Gabi.first is_global_reference (s ∷ ss) in
    (row ≡ hidden_by true (c ∷ cs) (get_or (c ∷ cs) k c)) × (strong_reference row ≡ true) × (Zeroes (get_or (c ∷ cs) k c) (get_or (s ∷ ss) k s) → row.value.a ≡ 0)

-- what the gABI says of the symbols s and ss, and what the row is in that profile
abbrev pub Agrees : Bool → Row → List Row → Sym → List Sym → Row → Resolution → Type 0
Agrees gabi c cs s ss row (defined k) = (row ≡ hidden_by gabi (c ∷ cs) (get_or (c ∷ cs) k c)) × (defines row ≡ true)
-- "the commons joined"
Agrees gabi c cs s ss row (common k) = (row ≡ hidden_by gabi (c ∷ cs) (joined_in (c ∷ cs) (get_or (c ∷ cs) k c))) × (Rank.common row ≡ true)
Agrees gabi c cs s ss row duplicate = ⊥
Agrees gabi c cs s ss row unresolved = Unresolved gabi c cs s ss row
Agrees gabi c cs s ss row zero_value = (row ≡ hidden_by gabi (c ∷ cs) c) × (weak_reference row ≡ true) × (Zeroes c s → row.value.a ≡ 1)
