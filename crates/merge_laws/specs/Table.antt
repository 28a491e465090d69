-- Document 01's refusal table: its numbers, listed once. Lists of numbers elsewhere, of a call or of an element, are made of these.
-- Assumes nothing.
use Rattle.std.specs.Prelude.{ℕ, Bool, true, false, cond, List, [], ◌∷◌, ◌++◌, eqb}

-- a number is one of these
abbrev pub one_of : ℕ → List ℕ → Bool
one_of n [] = false
one_of n (x ∷ xs) = cond (eqb n x) true (one_of n xs)

-- every number of xs is one of ys
abbrev pub within : List ℕ → List ℕ → Bool
within [] ys = true
within (x ∷ xs) ys = cond (one_of x ys) (within xs ys) false

-- ---- by cause

-- "kinds 10 to 13", "second symbol table"
abbrev pub section_causes : List ℕ
section_causes = 3 ∷ 24 ∷ []

-- not COMDAT, no section listed, a section of two groups, the signature's symbol missing, its name missing
abbrev pub group_causes : List ℕ
group_causes = 4 ∷ 5 ∷ 29 ∷ 6 ∷ 7 ∷ []

-- "local in a removed section"
abbrev pub filter_causes : List ℕ
filter_causes = 8 ∷ []

-- "visibility 1, 3", "local hidden", "binding above 2"
abbrev pub binding_causes : List ℕ
binding_causes = 10 ∷ 11 ∷ 12 ∷ []

-- "common", 2026-06: "28, alignment zero or no power of two, in place of 13 for a global or weak common"; "section without id"
abbrev pub value_causes : List ℕ
value_causes = 13 ∷ 28 ∷ 14 ∷ []

-- "type above 4"
abbrev pub type_causes : List ℕ
type_causes = 16 ∷ []

-- before a merge's symbols
abbrev pub early_causes : List ℕ
early_causes = section_causes ++ (group_causes ++ filter_causes)

-- ---- of an element of a merge or a load, with 2 for "no free row, mark or name byte"

abbrev pub section_numbers : List ℕ
section_numbers = 2 ∷ section_causes

abbrev pub group_numbers : List ℕ
group_numbers = 2 ∷ group_causes

-- of a row that is added: these leave its name issued
abbrev pub new_numbers : List ℕ
new_numbers = binding_causes ++ (value_causes ++ type_causes)

-- "duplicate strong", "absent or removed id": of a name that has a symbol
abbrev pub known_numbers : List ℕ
known_numbers = 17 ∷ 21 ∷ []

-- these leave all; 9 is "symbol name missing"
abbrev pub symbol_numbers : List ℕ
symbol_numbers = 2 ∷ 9 ∷ known_numbers

-- "section name missing" leaves all, "relocation symbol without id" all but the section's name
abbrev pub built_numbers : List ℕ
built_numbers = 2 ∷ 18 ∷ []

abbrev pub relocation_causes : List ℕ
relocation_causes = 19 ∷ []

-- ---- of a call before its first element: "22 comes first, then 1"

abbrev pub merge_head_numbers : List ℕ
merge_head_numbers = 22 ∷ 1 ∷ 2 ∷ []

-- 25 is "archived library without soname"
abbrev pub load_head_numbers : List ℕ
load_head_numbers = 22 ∷ 1 ∷ 25 ∷ 2 ∷ []

-- 26 "right after 22", 27 "after 26", "then 2"
abbrev pub file_head_numbers : List ℕ
file_head_numbers = 22 ∷ 26 ∷ 27 ∷ 2 ∷ []

-- ---- the table's columns

-- those not marked *; each leaves "all"
abbrev pub unstarred : List ℕ
unstarred = 1 ∷ 15 ∷ 20 ∷ 22 ∷ 23 ∷ 25 ∷ 26 ∷ 27 ∷ 30 ∷ 31 ∷ []

-- "Those marked *" that an element gives alone; 2, marked too, comes also where the cells for a call's own work are too few
abbrev pub starred : List ℕ
starred = early_causes ++ (new_numbers ++ (9 ∷ 17 ∷ 18 ∷ 19 ∷ 21 ∷ []))

-- those that the column "Returned" has at 0
abbrev pub placeless : List ℕ
placeless = 22 ∷ 23 ∷ 25 ∷ 26 ∷ 30 ∷ []

-- "one of the refusals 1 to 25 of its table"; document 02: "Demand 1 and the table gain these and all later numbers"
abbrev pub refusals : List ℕ
refusals = unstarred ++ (2 ∷ starred)

-- those that leave all that came before the element, where it is a symbol
abbrev pub symbol_left_numbers : List ℕ
symbol_left_numbers = symbol_numbers
