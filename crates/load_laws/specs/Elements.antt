-- What is said of one element of a load: how many there are, the name that it looks up, what its refusal leaves, and the log before it.
-- Assumes nothing.
use Rattle.std.specs.Prelude.{ℕ, List, ◌++◌, length}
use Rattle.strings.specs.Lookup.{Looked, look_up}
use Rattle.elf_object.specs.Rows.{field}
use Rattle.symbol_laws.specs.History.{Entry}
use Rattle.merge_laws.specs.Table.{symbol_numbers}

-- the dependencies are the needs
abbrev pub dependency_count : List ℕ → List ℕ → ℕ
dependency_count needs entries = length needs

-- what the string table says of symbol i's name
abbrev pub symbol_name : List ℕ → List ℕ → ℕ → Looked
symbol_name entries file i = look_up file (field entries i 0)

-- the name of the element that is symbol i
abbrev pub symbol_element : List ℕ → List ℕ → ℕ → Looked
symbol_element entries file i = symbol_name entries file i

-- those that leave all that came before the element, where it is a symbol
abbrev pub symbol_left_numbers : List ℕ
symbol_left_numbers = symbol_numbers

-- the log, and behind it what the symbols before a library's own symbol have added to it
abbrev pub past_with : List Entry → List Entry → List Entry
past_with past own = past ++ own
