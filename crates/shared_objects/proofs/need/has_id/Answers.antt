use Rattle.std.proofs.Common.{◌∙◌, sym, rules, tests, nat_eq}
use Rattle.std.proofs.lemmas.Iterator.{YieldsList-from_slice}
use Rattle.std.proofs.lemmas.Iterator.Search.{any_from_yields_List}
use Rattle.shared_objects.specs.Proof.NeedWays.{any-id}
use Rattle.shared_objects.proofs.need.has_id.Goals as goal

pub returns : goal.returns
returns c =
    any_from_yields_List (λ a. nat_eq a c.args.id) _ _ c.any.result c.any.ensures.ran (YieldsList-from_slice c.args.part.now cc) (λ x b q k. search (rules, tests))
    ∙ sym (any-id c.args.id c.args.part.now)
