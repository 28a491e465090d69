-- Outcomes that are equal agree.
-- Assumes nothing.
use Rattle.std.specs.Prelude.{ℕ, ◌≡◌, get_or}
use Rattle.std.proofs.Common.{ap}
use Rattle.gc_sections.specs.Run.{Left}
use Rattle.plain_laws.specs.Agrees.{Agrees}
use Rattle.plain_laws.proofs.Agrees.{n}

pub agrees-same : (n : ℕ) (a b : Left) → a ≡ b → Agrees n a b
agrees-same n a b e = record {
  symbols = ap (λ (t : Left). t.symbols) e;
  sections = ap (λ (t : Left). t.sections) e;
  link = ap (λ (t : Left). t.link) e;
  answer = ap (λ (t : Left). t.answer) e;
  said = ap (λ (t : Left). t.said) e;
  work = λ y h. ap (λ (t : Left). get_or t.work y 0) e;
}
