-- What a call on names answers, beside the counts that it leaves.
-- Assumes nothing.
use Rattle.std.specs.Prelude.{Result}
use Rattle.link.specs.declared.Link.{Link}
use Rattle.link.specs.declared.Interned.{Interned}
use Rattle.link.specs.declared.cause.Refusal.{Refusal}

pub record Outcome : Type 0 where
  pub link : Link
  pub answer : Result Interned Refusal
