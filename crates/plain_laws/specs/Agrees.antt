-- What the outcomes of two collections have in common.
-- Assumes nothing.
use Rattle.std.specs.Prelude.{ℕ, ◌<◌, ◌≡◌, get_or}
use Rattle.gc_sections.specs.Run.{Left}

-- the same sections and rows, the same answer, and of n sections the same work cells
pub record Agrees (n : ℕ) (a b : Left) : Type 0 where
  pub symbols : a.symbols ≡ b.symbols
  pub sections : a.sections ≡ b.sections
  pub link : a.link ≡ b.link
  pub answer : a.answer ≡ b.answer
  pub said : a.said ≡ b.said
  pub work : (y : ℕ) → y < n → get_or a.work y 0 ≡ get_or b.work y 0
