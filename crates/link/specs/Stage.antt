-- Where a merge or a load stands between two of its elements.
-- Assumes nothing.
use Rattle.std.specs.Prelude.{ℕ}
use Rattle.link.specs.declared.Link.{Link}

-- the link, and the refusal that stopped it; number 0 as long as nothing is refused
pub record Stage : Type 0 where
  pub link : Link
  pub number : ℕ
  pub place : ℕ
