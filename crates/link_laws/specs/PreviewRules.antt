-- The rules of a preview, in their order: a broken link; 1 of the link, then of the object; fewer preview cells of any sort than the link was lent; then those of the
-- merge from its own room on.
-- Assumes nothing.
use Rattle.std.specs.Prelude.{ℕ, Bool, ◌||◌, List, ◌∷◌, ◌++◌, ltb, length}
use Rattle.merge_stages.specs.Stages.{Object}
use Rattle.merge_laws.specs.Calls.{Linked, all_in}
use Rattle.link_laws.specs.Rules.{Rule, ◌gives◌at◌}
use Rattle.link_laws.specs.ObjectRules.{object_rules}
use Rattle.link_laws.specs.MergeRules.{change_rules, work_rules, stage_list}

-- link s was lent more of some sort than the preview p
abbrev pub lacks_cells : Linked → Linked → Bool
lacks_cells s p =
    ltb (length p.table.bytes) (length s.table.bytes)
    || ltb (length p.table.names) (length s.table.names)
    || ltb (length p.table.symbols) (length s.table.symbols)
    || ltb (length p.table.sections) (length s.table.sections)
    || ltb (length p.inputs) (length s.inputs)
    || ltb (length p.lists) (length s.lists)

abbrev pub preview_rules : Object → List ℕ → List ℕ → Linked → Linked → List Rule
preview_rules o work ids s p =
    change_rules o (all_in s work ids)
    ++ (object_rules o.headers o.entries o.contents o.image
    ++ ((lacks_cells s p gives 2 at 0) ∷ (work_rules o (all_in s work ids) ++ stage_list o (all_in s work ids))))
