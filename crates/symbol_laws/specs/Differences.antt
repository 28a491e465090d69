-- The smallest inputs where the gABI and a link differ over one name: two symbols of objects, or an object's and a shared object's, the rows that they
-- become, and what is decided on the second of two rows.
-- Assumes nothing.
use Rattle.std.specs.Prelude.{ℕ, false}
use Rattle.symbol.specs.declared.Row.{Row}
use Rattle.symbol_resolution.specs.Decision.{Decision}
use Rattle.symbol_resolution.specs.Decide.{ranked_of}
use Rattle.upcoming_symbol.specs.declared.ElfSymbol.{ElfSymbol}
use Rattle.upcoming_symbol.specs.declared.Conversion.TheVariants as To
use Rattle.upcoming_symbol.specs.Upcoming.{elf_row_of, external_row_of}
use Rattle.symbol_laws.specs.Rank.{ranked}

-- binding, visibility, section; of no type, at value 0
abbrev pub elf : ℕ → ℕ → ℕ → ElfSymbol
elf b v s = record { binding = b; visibility = v; kind = 0; section = s; value = 0; size = 0 }

-- the row that it becomes under name 1, where section 1 has id 1
abbrev pub row : ElfSymbol → Row
row e = elf_row_of (To.Section (record { 0 = 1 })) e (record { 0 = 1 }) false 0

-- the row that a shared object's symbol becomes under name 1, by its binding
abbrev pub library_row : ℕ → Row
library_row b = external_row_of false (record { 0 = 1 }) b 0

-- what is decided on the second row, where the first is held under id 1
abbrev pub second : Row → Row → Decision
second old new = ranked_of false old.scope (ranked false old) (ranked false new) new (record { 0 = 1 })
