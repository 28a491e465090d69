use Rattle.std.proofs.Common.{◌∙◌, sym, ap, eq-eqb, ne_eqb, []}
use Rattle.strings.specs.Lookup.{looked}
use Rattle.strings.specs.Proof.Ways.{empty-looked, as-ended}
use Rattle.strings.proofs.get.Goals as goal

pub returns-clause-string_meets : goal.returns-clause-string_meets
returns-clause-string_meets c = as-ended _ _ _ c.if-table-eq0.false c.ended.ensures.ended_meets

pub returns-then-offset-eq0-clause-string_meets : goal.returns-then-offset-eq0-clause-string_meets
returns-then-offset-eq0-clause-string_meets c = ap (looked []) (sym (eq-eqb _ _ c.if-offset-eq0.true)) ∙ empty-looked _ _ c.if-table-eq0.true

pub returns-else-offset-eq0-clause-string_meets : goal.returns-else-offset-eq0-clause-string_meets
returns-else-offset-eq0-clause-string_meets c = ap (looked []) (sym (ne_eqb _ _ c.if-offset-eq0.false)) ∙ empty-looked _ _ c.if-table-eq0.true
