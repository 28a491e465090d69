-- Document 02, 2026-05: the rules of a list of adds. "A broken link gives 22 to any list, then fewer cells than adds give 2"; then each add's rules, over what
-- the adds before it left.
-- Assumes nothing.
use Rattle.std.specs.Prelude.{ℕ, ◌/◌, List, [], ◌∷◌, ◌++◌, ltb, length}
use Rattle.upcoming_symbol.specs.declared.UpcomingSymbol.{UpcomingSymbol}
use Rattle.symbol_laws.specs.History as History
use Rattle.symbol_laws.specs.History.{State}
use Rattle.link_laws.specs.Rules.{Rule, ◌gives◌at◌}
use Rattle.link_laws.specs.TableRules.{add_head, add_rules}

abbrev pub list_head : State → List ℕ → List ℕ → List Rule
list_head t adds ids = (t.link.broken gives 22 at 0) ∷ (ltb (length ids) (length adds / 8) gives 2 at 0) ∷ []

abbrev pub list_rules : List ℕ → List UpcomingSymbol → State → List Rule
list_rules conversion [] t = []
list_rules conversion (u ∷ us) t =
    (add_head t ++ add_rules t conversion u) ++ list_rules conversion us (History.call_next (History.add conversion u) t)
