use Rattle.std.proofs.Common.{◌∙◌, sym, rules, tests}
use Rattle.std.proofs.lemmas.Iterator.{YieldsList-from_slice}
use Rattle.std.proofs.lemmas.Iterator.Search.{all_from_yields_List}
use Rattle.merge_build.specs.Relocations.{symbol_ok}
use Rattle.merge_build.specs.Proof.RelocationWays.{all-ok}
use Rattle.merge_build.proofs.symbols_ok.Goals as goal

pub returns : goal.returns
returns c =
    all_from_yields_List (symbol_ok c.args.ids.now c.args.limit) _ _ c.all.result c.all.ensures.ran (YieldsList-from_slice c.args.symbols.now cc) (λ x b q k. search (rules, tests))
    ∙ sym (all-ok c.args.ids.now c.args.limit c.args.symbols.now)
