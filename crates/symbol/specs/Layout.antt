-- The layout of a symbol's row, the cells of a name's row that the symbol table uses, and the codes that stand in them.
-- Assumes nothing.
use Rattle.std.specs.Prelude.{ℕ, ◌+◌, ◌*◌, ◌/◌, ◌%◌, Bool, not, ◌||◌, eqb}

-- ---- a symbol's row: 8 cells

abbrev pub state_cell : ℕ
state_cell = 0

abbrev pub name_cell : ℕ
name_cell = 1

abbrev pub size_cell : ℕ
size_cell = 2

abbrev pub source_cell : ℕ
source_cell = 3

-- the scope and the type, in one cell
abbrev pub scope_cell : ℕ
scope_cell = 4

-- the kind of the value, and its two words
abbrev pub kind_cell : ℕ
kind_cell = 5

abbrev pub first_cell : ℕ
first_cell = 6

abbrev pub second_cell : ℕ
second_cell = 7

-- ---- its state; 0 is a free row

abbrev pub present_state : ℕ
present_state = 1

abbrev pub removed_state : ℕ
removed_state = 2

-- ---- its scope: local, or each binding shown and hidden

abbrev pub local : ℕ
local = 0

abbrev pub global : ℕ
global = 1

abbrev pub global_hidden : ℕ
global_hidden = 2

abbrev pub weak : ℕ
weak = 3

abbrev pub weak_hidden : ℕ
weak_hidden = 4

-- ---- the scope below 8, and behind it the type, below 16

unfoldable pub scope_and_type : ℕ → ℕ → ℕ
scope_and_type scope type = scope % 8 + type % 16 * 8

unfoldable pub scope_in : ℕ → ℕ
scope_in cell = cell % 8

unfoldable pub type_in : ℕ → ℕ
type_in cell = cell / 8 % 16

-- ---- the kinds of a value

abbrev pub null_kind : ℕ
null_kind = 0

abbrev pub absolute_kind : ℕ
absolute_kind = 1

abbrev pub section_kind : ℕ
section_kind = 2

abbrev pub relative_kind : ℕ
relative_kind = 3

abbrev pub address_kind : ℕ
address_kind = 4

abbrev pub not_loaded_kind : ℕ
not_loaded_kind = 5

abbrev pub external_kind : ℕ
external_kind = 6

abbrev pub undefined_kind : ℕ
undefined_kind = 7

abbrev pub common_kind : ℕ
common_kind = 8

-- ---- what stands in the place of a scope or of a kind and is none of these is the number of a refusal (Row.antt)

abbrev pub is_scope : ℕ → Bool
is_scope k = eqb k local || (eqb k global || (eqb k global_hidden || (eqb k weak || eqb k weak_hidden)))

abbrev pub is_kind : ℕ → Bool
is_kind k =
    eqb k null_kind || (eqb k absolute_kind || (eqb k section_kind || (eqb k relative_kind || (eqb k address_kind || (eqb k not_loaded_kind || (eqb k external_kind || (eqb k undefined_kind || eqb k common_kind)))))))

abbrev pub refuses_scope : ℕ → Bool
refuses_scope scope = not (is_scope scope)

abbrev pub refuses_value : ℕ → Bool
refuses_value kind = not (is_kind kind)

-- ---- a name's row: its length, and the id of its global symbol

abbrev pub length_cell : ℕ
length_cell = 1

abbrev pub symbol_cell : ℕ
symbol_cell = 3
