-- The contract of `run`: what a caller sees of it, its result and every cell that it lent to be written, against its definition.
-- Assumes nothing.
use Rattle.link.specs.declared.SymbolId.{SymbolId}
use Rattle.std.specs.Prelude.{ℕ, ◌≡◌, List, Option}
use Rattle.cells.specs.Slice.{SliceMut}
use Rattle.link.specs.declared.Link.{Link}
use Rattle.gc_sections.specs.declared.Outcome.{Outcome}
use Rattle.gc_sections.specs.Run.{Lists, outcome, run_of}

pub record Exit : Type 0 where
  pub symbols : List ℕ
  pub sections : List ℕ
  pub work : List ℕ
  pub result : Outcome

abbrev pub run_exit : SliceMut → SliceMut → SliceMut → Outcome → Exit
run_exit symbols sections work r = record { symbols = symbols.exit.now; sections = sections.exit.now; work = work.exit.now; result = r }

abbrev pub RunMeets : Link → Lists → List ℕ → List ℕ → Option SymbolId → List ℕ → Exit → Type 0
RunMeets l x symbols sections entry work e =
    outcome e.symbols e.sections e.work e.result ≡ run_of l x symbols sections entry work
