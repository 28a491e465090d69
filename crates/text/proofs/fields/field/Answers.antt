use Rattle.std.proofs.Common.{rules}
use Rattle.text.specs.Proof.Ways.{run-forward, field-part}
use Rattle.text.proofs.fields.field.Goals as goal

pub overflow_sub-end : goal.overflow_sub-end
overflow_sub-end c = search run-forward

pub returns-clause-result_value : goal.returns-clause-result_value
returns-clause-result_value c = search (rules, field-part)
