use Rattle.std.proofs.Common.{◌∙◌, sym, refl, rules, tests}
use Rattle.std.proofs.Math.Nat.{sub-zero}
use Rattle.std.proofs.iter.Yields.{nat_range_steps}
use Rattle.std.proofs.lemmas.Iterator.{YieldsList-from_range}
use Rattle.std.proofs.lemmas.Iterator.Search.{any_from_yields_List}
use Rattle.shared_objects.specs.Library.{symbol_wanted_in}
use Rattle.shared_objects.specs.Proof.NeedWays.{some-any}
use Rattle.shared_objects.proofs.Loading.some_wanted.Goals as goal

pub returns : goal.returns
returns c =
    any_from_yields_List {steps = nat_range_steps} {v = λ x. x} (symbol_wanted_in c.args.self.now c.args.marks.now c.args.library.now) _ _ c.any.result c.any.ensures.ran
    (YieldsList-from_range 0 c.symbol_count.result _ refl (sub-zero c.symbol_count.result ∙ c.symbol_count.ensures)) (λ x b q k. search (rules, tests))
    ∙ sym (some-any _ _ _)
