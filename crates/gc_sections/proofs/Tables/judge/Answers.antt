use Rattle.std.proofs.Common.{sym, ◌∙◌, refl}
use Rattle.link.specs.Proof.Judged.{judged-fine}
use Rattle.gc_sections.specs.Proof.RunWays.{few-sections}
use Rattle.gc_sections.proofs.Tables.judge.Goals as goal

pub invariant_of-result : goal.invariant_of-result
invariant_of-result c = record { few = few-sections _ _ _ _ _ refl (judged-fine _ _ (sym c.check.ensures ∙ c.in_ok-check.was)) }
