-- Document 01's rules for the calls on names and symbols, in its order and words, over the cells of a link. No test uses a definition of the call that it
-- judges.
-- Assumes nothing.
use Rattle.link.specs.declared.Interned.{Interned}
use Rattle.std.specs.Prelude.{ℕ, zero, suc, ◌+◌, ◌*◌, ◌/◌, ◌%◌, ◌-◌, Bool, true, false, cond, not, ◌&&◌, ◌||◌, List, [], ◌∷◌, ◌++◌, eqb, ltb, get_or, length, Option, None, Some}
use Rattle.std.specs.Int.{is_power_of_two}
use Rattle.byte_slices.specs.Bytes.{same, part}
use Rattle.link.specs.declared.Link.{Link}
use Rattle.link.specs.Bounds.{not_lent}
use Rattle.symbol.specs.declared.SymbolValue.{SymbolValue}
use Rattle.symbol.specs.declared.SymbolValue.TheVariants as Val
use Rattle.upcoming_symbol.specs.declared.ElfSymbol.{ElfSymbol}
use Rattle.upcoming_symbol.specs.declared.UpcomingSymbol.{UpcomingSymbol}
use Rattle.upcoming_symbol.specs.declared.UpcomingSymbol.TheVariants.{Null, GlobalUnknown, GlobalHidden, Section, ExternallyDefined, Elf}
use Rattle.symbol_laws.specs.History.{State}
use Rattle.link_laws.specs.Rules.{Rule, ◌gives◌at◌, placeless, lent_rows, count_rules, head_rules}

-- ---- words for what stands in a link

-- a name's row: where its bytes start, their length, and the id of the row that bears it as global or weak, 0 for none
abbrev pub is_issued : State → ℕ → Bool
is_issued t name = ltb name t.link.names

abbrev pub bytes_of : State → ℕ → List ℕ
bytes_of t name = part t.bytes (get_or t.names (name * 8 + 0) 0) (get_or t.names (name * 8 + 1) 0)

abbrev pub is_empty : State → ℕ → Bool
is_empty t name = eqb (get_or t.names (name * 8 + 1) 0) 0

abbrev pub row_of : State → ℕ → ℕ
row_of t name = get_or t.names (name * 8 + 3) 0

abbrev pub is_known : State → ℕ → Bool
is_known t name = is_issued t name && (not (eqb (row_of t name) 0) && ltb (row_of t name) t.link.symbols)

-- a symbol's row: its state is 2 where it was removed; its class, beside its type in one cell, is 1 or 2 where it is strong, 3 or 4 where it is weak, shown or
-- hidden; a value of kind 7 is undefined, one of kind 8 common
abbrev pub is_removed : State → ℕ → Bool
is_removed t id = eqb (get_or t.symbols (id * 8 + 0) 0) 2

abbrev pub class_of : State → ℕ → ℕ
class_of t id = get_or t.symbols (id * 8 + 4) 0 % 8

abbrev pub is_weak_row : State → ℕ → Bool
is_weak_row t id = eqb (class_of t id) 3 || eqb (class_of t id) 4

abbrev pub is_strong_row : State → ℕ → Bool
is_strong_row t id = eqb (class_of t id) 1 || eqb (class_of t id) 2

abbrev pub is_undefined_row : State → ℕ → Bool
is_undefined_row t id = eqb (get_or t.symbols (id * 8 + 5) 0) 7

abbrev pub is_common_row : State → ℕ → Bool
is_common_row t id = eqb (get_or t.symbols (id * 8 + 5) 0) 8

-- "Symbol rows [..] to 65,535; [..] always also the lent length"
abbrev pub no_symbol_row : State → Bool
no_symbol_row t = not (ltb t.link.symbols 65535 && ltb t.link.symbols (length t.symbols / 8))

-- ---- lookups: "Lookups and walks don't change a link", so no 22

-- lent the symbols' rows
abbrev pub get_head : State → List Rule
get_head t = count_rules t.link (lent_rows t.link.chains not_lent (length t.symbols) t.link.slots not_lent not_lent)

abbrev pub present_rules : State → ℕ → List Rule
present_rules t id = (not (ltb id t.link.symbols) gives 21 at id) ∷ (is_removed t id gives 21 at id) ∷ []

-- and the names'
abbrev pub get_global_head : State → List Rule
get_global_head t = count_rules t.link (lent_rows (length t.names / 9) not_lent (length t.symbols) t.link.slots not_lent not_lent)

abbrev pub global_rules : State → ℕ → List Rule
global_rules t name =
    (not (is_issued t name) gives 23 at 0) ∷ (not (is_known t name) gives 23 at 0) ∷ (is_removed t (row_of t name) gives 21 at name) ∷ []

-- ---- `remove`: "of a removed id it is accepted and changes nothing"

abbrev pub remove_head : State → List Rule
remove_head t = head_rules t.link (lent_rows t.link.chains not_lent (length t.symbols) (length t.sections / 9) not_lent not_lent)

abbrev pub absent_rules : State → ℕ → List Rule
absent_rules t id = (not (ltb id t.link.symbols) gives 21 at id) ∷ []

-- ---- names

-- one of n names from i on has these bytes
abbrev pub is_among : (ℕ → List ℕ) → List ℕ → ℕ → ℕ → Bool
is_among bytes x i zero = false
is_among bytes x i (suc n) = same (bytes i) x || is_among bytes x (i + 1) n

-- "Interning equal bytes gives the same id"; "names to 1,048,576 bytes together; always also the lent length"
abbrev pub no_name_room : State → List ℕ → Bool
no_name_room t x =
    ltb (length t.names / 9) t.link.chains || not (ltb t.link.names t.link.chains)
    || ltb 1048576 (t.link.bytes + length x) || ltb (length t.bytes) (t.link.bytes + length x)

abbrev pub intern_head : State → List Rule
intern_head t = head_rules t.link (lent_rows (length t.names / 9) (length t.bytes) not_lent t.link.slots not_lent not_lent)

-- a lookup
abbrev pub resolve_head : State → List Rule
resolve_head t = count_rules t.link (lent_rows (length t.names / 9) (length t.bytes) not_lent t.link.slots not_lent not_lent)

-- an id never issued
abbrev pub issued_alone : State → ℕ → List Rule
issued_alone t id = (not (is_issued t id) gives 23 at 0) ∷ []

abbrev pub room_rules : State → List ℕ → List Rule
room_rules t x = (not (is_among (bytes_of t) x 0 t.link.names) && no_name_room t x gives 2 at 0) ∷ []

-- "A name is interned (2) once found": it isn't issued, and there is no room
abbrev pub is_unroomed : State → List ℕ → Bool
is_unroomed t x = not (is_among (bytes_of t) x 0 t.link.names) && no_name_room t x

-- the id that the bytes have; where they aren't issued, the one that they get
abbrev pub id_among : (ℕ → List ℕ) → List ℕ → ℕ → ℕ → ℕ
id_among bytes x i zero = i
id_among bytes x i (suc n) = cond (same (bytes i) x) i (id_among bytes x (i + 1) n)

abbrev pub id_in : State → List ℕ → ℕ
id_in t x = id_among (bytes_of t) x 0 t.link.names

-- names alone
abbrev pub names_of : List ℕ → List ℕ → Link → State
names_of bytes names l = record { bytes = bytes; names = names; symbols = []; sections = []; link = l }

-- ---- add

-- what a value is, as far as a rule asks
pub data Value : Type 0 where
  undefined : Value
  -- its alignment
  common : ℕ → Value
  -- its section has no id, "not loaded" neither
  sectionless : Value
  -- the section itself: "An empty name with value 0"
  section : ℕ → Value
  -- any other definition
  defined : Value

abbrev pub is_undefined : Value → Bool
is_undefined undefined = true
is_undefined (common a) = false
is_undefined sectionless = false
is_undefined (section s) = false
is_undefined defined = false

abbrev pub is_common : Value → Bool
is_common undefined = false
is_common (common a) = true
is_common sectionless = false
is_common (section s) = false
is_common defined = false

-- "alignment zero or no power of two"
abbrev pub is_misaligned : Value → Bool
is_misaligned undefined = false
is_misaligned (common a) = not (is_power_of_two a)
is_misaligned sectionless = false
is_misaligned (section s) = false
is_misaligned defined = false

abbrev pub is_sectionless : Value → Bool
is_sectionless undefined = false
is_sectionless (common a) = false
is_sectionless sectionless = true
is_sectionless (section s) = false
is_sectionless defined = false

-- a local one becomes its section's symbol, which takes a cell: without one the table is full, as without a row
abbrev pub no_section_cell : State → Value → Bool
no_section_cell t undefined = false
no_section_cell t (common a) = false
no_section_cell t sectionless = false
no_section_cell t (section s) = ltb (length t.sections / 9) t.link.slots || not (ltb s t.link.slots)
no_section_cell t defined = false

-- a symbol to be added
pub record Asked : Type 0 where
  pub binding : ℕ
  pub visibility : ℕ
  pub kind : ℕ
  pub name : ℕ
  pub file : Option Interned
  pub value : Value

-- "for each section number an id, "not loaded" or nothing"
pub data Conversion : Type 0 where
  nothing : Conversion
  not_loaded : Conversion
  to_section : ℕ → Conversion

-- in a lent cell: 0, 1, an id and 2
abbrev pub conversion_in : ℕ → Conversion
conversion_in cell = cond (eqb cell 0) nothing (cond (eqb cell 1) not_loaded (to_section (cell - 2)))

-- "An empty name with value 0 gives `Section`"
abbrev pub placed_as : Conversion → Bool → ℕ → Value
placed_as nothing empty v = sectionless
placed_as not_loaded empty v = defined
placed_as (to_section s) empty v = cond (empty && eqb v 0) (section s) defined

-- "section (0 undefined, 0xfff1 absolute, 0xfff2 common, else ..)"; 2026-06: "an alignment: a common's value field"
abbrev pub elf_value : ElfSymbol → Conversion → Bool → Value
elf_value e c empty =
    cond (eqb e.section 0) undefined
    (cond (eqb e.section 0xfff1) defined (cond (eqb e.section 0xfff2) (common e.value) (placed_as c empty e.value)))

abbrev pub given_value : SymbolValue → Value
given_value Val.Null = defined
given_value (Val.Absolute v) = defined
given_value (Val.Section s) = section s.0
given_value (Val.SectionRelative s z) = defined
given_value (Val.SectionVirtualAddress s v) = defined
given_value Val.SectionNotLoaded = defined
given_value Val.ExternallyDefined = defined
given_value (Val.Undefined weak) = undefined
given_value (Val.Common a) = common a

abbrev pub asked_of : ℕ → ℕ → ℕ → ℕ → Option Interned → Value → Asked
asked_of binding visibility kind name file value =
    record { binding = binding; visibility = visibility; kind = kind; name = name; file = file; value = value }

abbrev pub elf_asked : ElfSymbol → ℕ → Option Interned → Conversion → Bool → Asked
elf_asked e name file c empty = asked_of e.binding e.visibility e.kind name file (elf_value e c empty)

abbrev pub asked : State → List ℕ → UpcomingSymbol → Asked
asked t conversion Null = asked_of 0 0 0 0 None defined
asked t conversion (GlobalUnknown name) = asked_of 1 0 0 name.0 None undefined
asked t conversion (GlobalHidden name value) = asked_of 1 2 0 name.0 None (given_value value)
asked t conversion (Section s) = asked_of 0 0 3 0 None (section s.0)
asked t conversion (ExternallyDefined name visibility binding) = asked_of binding visibility 0 name.0 None defined
asked t conversion (Elf e name file) = elf_asked e name.0 file (conversion_in (get_or conversion e.section 0)) (is_empty t name.0)

-- "gABI's numbers for binding and type (0 to 15), visibility (0 to 3), section (.., else below 0xff00) [..]; other numbers [..] give 1"
abbrev pub is_outside_elf : ElfSymbol → Bool
is_outside_elf e =
    ltb 15 e.binding || ltb 15 e.kind || ltb 3 e.visibility
    || not (ltb e.section 0xff00 || eqb e.section 0xfff1 || eqb e.section 0xfff2)

abbrev pub is_outside : UpcomingSymbol → Bool
is_outside Null = false
is_outside (GlobalUnknown name) = false
is_outside (GlobalHidden name value) = false
is_outside (Section s) = false
is_outside (ExternallyDefined name visibility binding) = ltb 15 binding || ltb 3 visibility
is_outside (Elf e name file) = is_outside_elf e

abbrev pub is_unissued_file : State → Option Interned → Bool
is_unissued_file t None = false
is_unissued_file t (Some id) = not (is_issued t id.0)

abbrev pub file_id : Option Interned → ℕ
file_id None = 0
file_id (Some id) = id.0

module _ (t : State) (a : Asked) where
  abbrev pub is_local : Bool
  is_local = eqb a.binding 0

  -- "a local or a new name"
  abbrev pub is_fresh : Bool
  is_fresh = is_local || not (is_known t a.name)

  -- "if the row is undefined, or weak under a strong add"; 2026-06: "a weak definition doesn't displace" a common, "and it displaces a weak one"; a strong
  -- definition displaces it
  abbrev pub displaces : Bool
  displaces =
      not (is_undefined a.value)
      && (is_undefined_row t (row_of t a.name)
      || is_common a.value && is_weak_row t (row_of t a.name) && not (is_common_row t (row_of t a.name))
      || not (is_common a.value) && not (eqb a.binding 2) && (is_weak_row t (row_of t a.name) || is_common_row t (row_of t a.name)))

  -- "an undefined add is accepted and changes nothing"; 2026-07: "In the gABI profile a strong reference now turns a weak undefined row into a strong
  -- undefined one"
  abbrev pub strengthens : Bool
  strengthens = t.link.gabi && is_undefined a.value && not (eqb a.binding 2) && is_undefined_row t (row_of t a.name) && is_weak_row t (row_of t a.name)

  abbrev pub replaces : Bool
  replaces = displaces || strengthens

  -- "Add checks in this order": visibility, name, value, then the row; place is where, but for 21
  abbrev pub shown_rules : ℕ → List Rule
  shown_rules place =
      (not (eqb a.visibility 0 || eqb a.visibility 2) gives 10 at place)
      ∷ (is_local && eqb a.visibility 2 gives 11 at place)
      ∷ (ltb 2 a.binding gives 12 at place)
      ∷ []

  -- "a name id never issued": the symbol's, its file's
  abbrev pub issued_rules : List Rule
  issued_rules = (not (is_issued t a.name) gives 21 at a.name) ∷ (is_unissued_file t a.file gives 21 at file_id a.file) ∷ []

  abbrev pub held_rules : ℕ → List Rule
  held_rules place =
      -- "or a global or weak name whose row was removed"
      (not is_local && is_known t a.name && is_removed t (row_of t a.name) gives 21 at a.name)
      ∷ (is_local && is_common a.value gives 13 at place)
      -- 2026-06: "28, alignment zero or no power of two, in place of 13 for a global or weak common"
      ∷ (is_misaligned a.value gives 28 at place)
      ∷ (is_sectionless a.value gives 14 at place)
      ∷ (is_fresh && eqb a.kind 4 gives 15 at place)
      ∷ (is_fresh && ltb 4 a.kind gives 16 at place)
      ∷ (is_fresh && (no_symbol_row t || is_local && no_section_cell t a.value) gives 2 at place)
      ∷ (not is_fresh && replaces && eqb a.kind 4 gives 15 at place)
      ∷ (not is_fresh && replaces && ltb 4 a.kind gives 16 at place)
      ∷ (not is_fresh && not (is_undefined a.value) && not (is_common a.value) && not replaces && not (eqb a.binding 2) gives 17 at place)
      ∷ []

-- "else 0, as for a direct add but 21"
abbrev pub add_head : State → List Rule
add_head t =
    placeless (head_rules t.link (lent_rows (length t.names / 9) not_lent (length t.symbols) (length t.sections / 9) not_lent not_lent))

abbrev pub add_rules : State → List ℕ → UpcomingSymbol → List Rule
add_rules t conversion u =
    (is_outside u gives 1 at 0)
    ∷ shown_rules t (asked t conversion u) 0 ++ (issued_rules t (asked t conversion u) ++ held_rules t (asked t conversion u) 0)
