-- The contract of `run`: what a caller sees of it, its result and every cell that it lent to be written, against its definition.
-- Assumes nothing.
use Rattle.link.specs.declared.SymbolId.{SymbolId}
use Rattle.std.specs.Prelude.{ℕ, ◌≡◌, List, Option}
use Rattle.link.specs.declared.Link.{Link}
use Rattle.gc_sections.specs.Run.{Lists, outcome}
use Rattle.gc_sections.specs.Contract.{Exit}
use Rattle.plain_collector.specs.Run.{plain_of}

abbrev pub PlainMeets : Link → Lists → List ℕ → List ℕ → Option SymbolId → List ℕ → Exit → Type 0
PlainMeets l x symbols sections entry work e =
    outcome e.symbols e.sections e.work e.result ≡ plain_of l x symbols sections entry work
