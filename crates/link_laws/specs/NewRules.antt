-- Document 01's rules for `Symbols::new`.
-- Assumes nothing.
use Rattle.std.specs.Prelude.{ℕ, ◌/◌, List, [], ◌∷◌, ltb, length}
use Rattle.link_laws.specs.Rules.{Rule, ◌gives◌at◌}

-- "Two rows lent: null and one undefined name fit": a symbol's row of 8 cells for null, a name's of 8 and its chain's for the empty name. "no free row" (2), "else 0"
abbrev pub new_rules : List ℕ → List ℕ → List Rule
new_rules names symbols = (ltb (length symbols / 8) 1 gives 2 at 0) ∷ (ltb (length names / 9) 1 gives 2 at 0) ∷ []
