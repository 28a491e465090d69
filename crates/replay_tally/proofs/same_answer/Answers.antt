use Rattle.std.proofs.Common.{◌∙◌}
use Rattle.replay_tally.specs.Proof.Ways.{meets_any, meets-same, meets-empty}
use Rattle.replay_tally.proofs.same_answer.Goals as goal

pub returns : goal.returns
returns c = c.same_bytes.ensures ∙ meets-same _ _ _ _ c.in-Some.ensures.cases.0 c.in-Some.ensures.cases.1 c.if-last-eq63.false

pub returns-then-last-eq63 : goal.returns-then-last-eq63
returns-then-last-eq63 c = c.starts_with.ensures.value ∙ meets_any _ _ _ _ c.in-Some.ensures.cases.0 c.in-Some.ensures.cases.1 c.if-last-eq63.true

pub returns-in_default : goal.returns-in_default
returns-in_default c = c.is_empty.ensures ∙ meets-empty _ _ c.in_default.ensures.cases
