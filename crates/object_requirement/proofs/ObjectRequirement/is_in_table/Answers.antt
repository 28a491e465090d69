use Rattle.std.proofs.Common.{◌∙◌, sym, ap, refl, rules, tests}
use Rattle.std.proofs.Math.Nat.{sub-zero}
use Rattle.std.proofs.lemmas.Iterator.{YieldsList-from_range}
use Rattle.std.proofs.lemmas.Iterator.Search.{any_from_yields_List}
use Rattle.cells.specs.Search.{any_from}
use Rattle.object_requirement.specs.Matches.{bears_required, in_table}
use Rattle.object_requirement.specs.Required.{required_by}
use Rattle.object_requirement.specs.Proof.Ways.{any-listed}
use Rattle.object_requirement.proofs.ObjectRequirement.is_in_table.Goals as goal

pub returns : goal.returns
unfolding in_table
returns c =
    let o = c.args.object in
    let p = bears_required c.args.gabi o.headers.now o.image.now c.args.names o.entries.now (required_by c.args.self) in
    any_from_yields_List p _ _ c.any.result c.any.ensures.ran (YieldsList-from_range 0 c.symbol_count.result _ refl (sub-zero c.symbol_count.result)) (λ x b q k. search (rules, tests))
    ∙ sym (any-listed p 0 _) ∙ ap (any_from p 0) c.symbol_count.ensures
