-- The contract of `would_define`: what a caller sees of it, the answer and the cells lent to be written, against its definition.
-- Assumes nothing.
use Rattle.std.specs.Prelude.{ℕ, ◌≡◌, List, Result}
use Rattle.cells.specs.Slice.{SliceMut}
use Rattle.link.specs.declared.cause.Refusal.{Refusal}
use Rattle.elf_object.specs.Rows.{link_at}
use Rattle.elf_object.specs.declared.Object.{Object}
use Rattle.archive_walk.specs.Look.{Table}
use Rattle.untaken_member.specs.Untaken.{Symbols, symbols_of, left, would_of}

-- of an object as it is lent, once its symbol table is loaded
abbrev pub symbols_in : Object → Symbols
symbols_in o = symbols_of o.headers.now o.image.now o.entries.now (link_at o.headers.now o.table)

pub record WouldExit : Type 0 where
  pub cells : List ℕ
  pub result : Result ℕ Refusal

abbrev pub would_exit : SliceMut → Result ℕ Refusal → WouldExit
would_exit cells r = record { cells = cells.exit.now; result = r }

abbrev pub WouldMeets : List ℕ → List ℕ → List ℕ → List ℕ → Table → List ℕ → WouldExit → Type 0
WouldMeets headers entries contents image t cells e = left e.cells e.result ≡ would_of headers entries contents image t cells
