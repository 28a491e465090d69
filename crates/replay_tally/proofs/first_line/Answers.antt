use Rattle.std.proofs.Common.{◌≡◌, ◌∙◌, sym, rules}
use Rattle.std.proofs.lemmas.Iterator.{YieldsList-from_slice, IsFirst-from_position}
use borrow.Author.Tests.{tests}
use Rattle.replay_tally.specs.Proof.Ways.{line-at, first-line}
use Rattle.replay_tally.proofs.first_line.Goals as goal

pub returns-clause-result_value : goal.returns-clause-result_value
returns-clause-result_value c =
    let e = line-at c.args.text.now c.position.result (IsFirst-from_position _ _ _ (λ b. b ≡ 10) (λ b. b ≡ 10 → ⊥) c.position.ensures.ran (YieldsList-from_slice c.args.text.now cc) (λ x q k. search (rules, tests)) (λ x q k. search (rules, tests))) in
    sym (first-line _ _ (e ∙ sym c.unwrap_or-end.ensures))
