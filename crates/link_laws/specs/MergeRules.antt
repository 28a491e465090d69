-- Document 01's rules for the elements of a merge: each element has its rules, over what the elements before it left. The first rule of the first
-- element that has one gives the answer.
-- Assumes nothing.
use Rattle.std.specs.Prelude.{ℕ, zero, suc, ◌+◌, ◌*◌, ◌/◌, Bool, false, cond, not, ◌&&◌, ◌||◌, List, [], ◌∷◌, ◌++◌, eqb, ltb, length, None}
use Rattle.byte_slices.specs.Bytes.{part}
use Rattle.gabi.specs.StringTable.{same_name}
use Rattle.link.specs.declared.Link.{Link}
use Rattle.upcoming_symbol.specs.declared.ElfSymbol.{ElfSymbol}
use Rattle.section_groups.specs.Group as Group
use Rattle.merge_symbols.specs.Stage as Symbols
use Rattle.merge_build.specs.Build as Build
use Rattle.merge_stages.specs.Stages as Stages
use Rattle.merge_build.specs.Finish.{building}
use Rattle.symbol_laws.specs.History.{State}
use Rattle.merge_laws.specs.Whole.{table_in}
use Rattle.merge_laws.specs.MergeSteps.{group_first, symbol_first}
use Rattle.merge_laws.specs.Stops.{prepared, symbol_reader, marked, builder, before2, before1, before0}
use Rattle.link_laws.specs.Rules.{Rule, ◌gives◌at◌, least, some, each, each_of, in_turn, lent_rows, head_rules}
use Rattle.link_laws.specs.TableRules.{id_in, is_unroomed, names_of, Conversion, nothing, not_loaded, to_section, elf_asked, Asked, shown_rules, held_rules}
use Rattle.link_laws.specs.ObjectRules.{is_excluded, is_kind, is_section, is_named, name_in, object_rules, name_offset, link_at, info_at, first_at, count_at, symbol_name, binding_at, type_at, visibility_at, section_at, value_at, size_at}
use Rattle.link_laws.specs.GroupRules.{is_met, some_of, signature, listed, own_group_rules}

-- ---- sections

-- one of the sections below n is a symbol table
abbrev pub has_table : List ℕ → ℕ → Bool
has_table headers zero = false
has_table headers (suc n) = has_table headers n || is_kind headers n 3

-- "section rows [..] to 65,535; [..] always also the lent length", of the new table and of this call
abbrev pub no_section_row : ℕ → ℕ → Bool
no_section_row count lent = not (ltb count 65535 && ltb count lent)

-- "sections (3, 24)"; kinds 1 and 2 take a row, after as many as are counted by then
abbrev pub section_rules : List ℕ → ℕ → ℕ → ℕ → List Rule
section_rules headers lent count n =
    (is_kind headers n 10 || is_kind headers n 11 || is_kind headers n 12 || is_kind headers n 13 gives 3 at n)
    ∷ (is_kind headers n 3 && has_table headers n gives 24 at n)
    ∷ ((is_kind headers n 1 || is_kind headers n 2) && no_section_row count lent gives 2 at n)
    ∷ []

-- ---- groups

-- group g lists section m
abbrev pub lists : Group.Object → ℕ → ℕ → Bool
lists o g m = is_section o.headers g 7 && some_of (λ x. eqb x m) (listed o g)

-- one of the groups below section n does
abbrev pub is_listed_before : Group.Object → ℕ → ℕ → Bool
is_listed_before o n m = some (λ g. lists o g m) 0 n

abbrev pub group_rules : Group.Object → Group.Step → ℕ → List Rule
group_rules o s n =
    cond (is_section o.headers n 7) (own_group_rules o n (is_listed_before o n) (names_of s.bytes s.names s.stage.link) (length s.work / 8)) []

-- ---- what the elements before left, as far as the rules ask

pub data Found : Type 0 where
  absent : Found
  found : ℕ → Found

pub record Reading : Type 0 where
  -- the gABI's profile
  pub gabi : Bool
  -- sections that are removed, those that define a group, and "for each section number an id, "not loaded" or nothing"
  pub removed : ℕ → Bool
  pub defines : ℕ → Bool
  pub conversion : ℕ → Conversion
  -- the relocation table that counts for a section
  pub table : ℕ → Found

-- ---- what they leave, said of the object

-- the last of the numbers below n that passes
abbrev pub last_in : (ℕ → Bool) → ℕ → Found
last_in test zero = absent
last_in test (suc n) = cond (test n) (found n) (last_in test n)

abbrev pub number_in : Found → ℕ
number_in absent = 0
number_in (found n) = n

-- the symbol table that isn't excluded
abbrev pub loaded_table : List ℕ → Found
loaded_table headers = last_in (λ n. is_kind headers n 3) (length headers / 8)

abbrev pub entries_in : List ℕ → List ℕ → Found → List ℕ
entries_in headers entries absent = []
entries_in headers entries (found n) = part entries (first_at headers n * 8) (count_at headers n * 8)

-- the object with that table's own entries
abbrev pub loaded : Stages.Object → Stages.Tabled
loaded o =
    record {
      headers = o.headers;
      entries = entries_in o.headers o.entries (loaded_table o.headers);
      contents = o.contents;
      image = o.image;
      section_names = o.section_names;
      table = number_in (loaded_table o.headers);
    }

-- how many of the sections below n take a row
abbrev pub rows_below : List ℕ → ℕ → ℕ
rows_below headers zero = 0
rows_below headers (suc n) = rows_below headers n + cond (is_kind headers n 1 || is_kind headers n 2) 1 0

-- over the table before the merge
module _ (o : Stages.Tabled) (t : State) where
  -- "A signature met before, in this or an earlier object"
  abbrev pub is_met_before : ℕ → List ℕ → Bool
  is_met_before n x = is_met t x || some (λ g. is_section o.headers g 7 && same_name (signature (Stages.group_object o) g) x) 0 n

  -- a group of a signature met before lists it
  abbrev pub is_removed : ℕ → Bool
  is_removed s = some (λ g. lists (Stages.group_object o) g s && is_met_before g (signature (Stages.group_object o) g)) 0 (length o.headers / 8)

  -- "Excluded sections vanish first; a symbol in one gives 14. Non-excluded sections other than kinds 1 and 2 are "not loaded""
  abbrev pub conversion_of : ℕ → Conversion
  conversion_of s =
      cond (ltb s (length o.headers / 8) && not (is_excluded o.headers s))
      (cond (is_kind o.headers s 1 || is_kind o.headers s 2) (to_section (t.link.sections + rows_below o.headers s)) not_loaded) nothing

  -- "Of several relocation tables for a section the last counts"
  abbrev pub table_of : ℕ → Found
  table_of n = last_in (λ r. (is_kind o.headers r 5 || is_kind o.headers r 6) && eqb (info_at o.headers r) n) (length o.headers / 8)

  abbrev pub reading : Reading
  reading =
      record {
        gabi = t.link.gabi;
        removed = is_removed;
        defines = λ s. is_section o.headers s 7 && not (is_removed s);
        conversion = conversion_of;
        table = table_of;
      }

-- ---- the filter: symbols of removed sections that aren't local become undefined; the first local gives 8, and in the gABI's profile they are dropped

-- only numbers below 0xff00 are sections
abbrev pub is_removed_in : Reading → ℕ → Bool
is_removed_in k s = ltb s 0xff00 && k.removed s

abbrev pub is_discarded : Reading → List ℕ → ℕ → Bool
is_discarded k entries i = eqb (binding_at entries i) 0 && not (eqb (section_at entries i) 0) && is_removed_in k (section_at entries i)

abbrev pub filter_rules : Reading → List ℕ → List Rule
filter_rules k entries = each (λ i. not k.gabi && is_discarded k entries i gives 8 at i) 0 (length entries / 8)

abbrev pub is_dropped : Reading → List ℕ → ℕ → Bool
is_dropped k entries i = k.gabi && is_discarded k entries i

-- ---- symbols

-- the table between two symbols
abbrev pub table_at : Symbols.State → State
table_at s = record { bytes = s.bytes; names = s.names; symbols = s.symbols; sections = s.sections; link = s.stage.link }

module _ (k : Reading) (o : Stages.Tabled) (i : ℕ) where
  -- what the filter leaves
  abbrev pub entry : ElfSymbol
  entry =
      record {
        binding = binding_at o.entries i;
        visibility = visibility_at o.entries i;
        kind = type_at o.entries i;
        section = cond (is_removed_in k (section_at o.entries i)) 0 (section_at o.entries i);
        value = value_at o.entries i;
        size = size_at o.entries i;
      }

  -- the table links to its strings
  abbrev pub named : Bool
  named = is_named o.headers o.image (link_at o.headers o.table) (symbol_name o.entries i)

  abbrev pub bytes : List ℕ
  bytes = name_in o.headers o.image (link_at o.headers o.table) (symbol_name o.entries i)

  -- "The first symbol, if named empty, undefined and of type 0, maps to id 0"
  abbrev pub is_first : Bool
  is_first = eqb i 0 && eqb entry.section 0 && eqb entry.kind 0 && eqb (length bytes) 0

  -- "Type 4 sets the file name of the symbols after it. Symbols of group-defining sections get no id"
  abbrev pub is_idless : Bool
  is_idless = eqb entry.kind 4 || not (eqb entry.section 0) && (ltb entry.section 0xff00 && k.defines entry.section)

  abbrev pub symbol_asked : State → Asked
  symbol_asked t = elf_asked entry (id_in t bytes) None (k.conversion entry.section) (eqb (length bytes) 0)

  -- 9, then as an add; a dropped one has none
  abbrev pub own_symbol_rules : Symbols.State → List Rule
  own_symbol_rules s =
      (not named gives 9 at i)
      ∷ (is_unroomed (table_at s) bytes gives 2 at i)
      ∷ cond (is_first || is_idless) [] (shown_rules (table_at s) (symbol_asked (table_at s)) i ++ held_rules (table_at s) (symbol_asked (table_at s)) i)

  abbrev pub symbol_rules : Symbols.State → List Rule
  symbol_rules s = cond (is_dropped k o.entries i) [] (own_symbol_rules s)

-- ---- the head of a merge: "22 comes first, then 1 (sections, symbols, then the rest)"

module _ (o : Stages.Object) (a : Stages.All) where
  abbrev pub change_rules : List Rule
  change_rules =
      head_rules a.stage.link
      (lent_rows (length a.names / 9) (length a.bytes) (length a.symbols) (length a.sections / 9) (length a.inputs) (length a.lists))

  -- a work row for each section, a cell for each symbol
  abbrev pub work_rules : List Rule
  work_rules =
      (ltb (length a.work / 8) (length o.headers / 8) gives 2 at 0) ∷ (ltb (length a.ids) (length o.entries / 8) gives 2 at 0) ∷ []

-- ---- the row of the input: "taken last (2, place 0)"

abbrev pub input_rules : Link → List ℕ → List Rule
input_rules l inputs = (not (ltb l.inputs 4095 && ltb l.inputs (length inputs / 8)) gives 2 at 0) ∷ []

-- ---- "uninitialized, program sections (18, then 19)"

-- a relocation's symbol without an id: not of the loaded symbol table, or passed over there
abbrev pub lacks_id : (ℕ → Bool) → ℕ → List ℕ → Bool
lacks_id identified limit [] = false
lacks_id identified limit (i ∷ is) = not (ltb i limit) || not (identified i) || lacks_id identified limit is

-- "Only a relocation's symbol is taken"
abbrev pub relocations_of : List ℕ → List ℕ → Found → List ℕ
relocations_of headers contents absent = []
relocations_of headers contents (found r) = part contents (first_at headers r) (count_at headers r)

-- how many symbols the table can name: those of the loaded symbol table, which it links to
abbrev pub nameable_in : List ℕ → ℕ → ℕ → Found → ℕ
nameable_in headers table symbols absent = 0
nameable_in headers table symbols (found r) = cond (eqb (link_at headers r) table) symbols 0

module _ (k : Reading) (identified : ℕ → Bool) (o : Stages.Tabled) (kind n : ℕ) where
  -- an uninitialized section has none
  abbrev pub table_for : Found
  table_for = cond (eqb kind 1) (k.table n) absent

  abbrev pub relocations : List ℕ
  relocations = relocations_of o.headers o.contents table_for

  abbrev pub own_build_rules : Build.State → List Rule
  own_build_rules s =
      (not (is_named o.headers o.image o.section_names (name_offset o.headers n)) gives 18 at n)
      ∷ (is_unroomed (names_of s.bytes s.names s.stage.link) (name_in o.headers o.image o.section_names (name_offset o.headers n)) gives 2 at n)
      ∷ (lacks_id identified (nameable_in o.headers o.table (length o.entries / 8) table_for) relocations gives 19 at n)
      ∷ (ltb (length s.lists) (s.stage.link.lists + length relocations) gives 2 at n)
      ∷ []

-- "a skipped section's isn't read"
abbrev pub build_rules : Reading → (ℕ → Bool) → Stages.Tabled → ℕ → Build.State → ℕ → List Rule
build_rules k identified o kind s n = cond (is_section o.headers n kind && not (k.removed n)) (own_build_rules k identified o kind n s) []

-- ---- the merge: "Order: sections (3, 24), groups, symbol filter, symbols (9, then add), uninitialized, program sections (18, then 19)"; "An input's row
-- is taken last". What names, rows and lists the elements before have added is what their own definitions leave.

module _ (o : Stages.Object) (a : Stages.All) where
  -- the object with its loaded table, and what is read of it
  abbrev pub d : Stages.Tabled
  d = loaded o

  abbrev pub k : Reading
  k = reading d (table_in a)

  abbrev pub is_identified : ℕ → Bool
  is_identified i = not (is_dropped k d.entries i) && (is_first k d i || not (is_idless k d i))

  abbrev pub head_list : List Rule
  head_list = change_rules o a ++ (object_rules o.headers o.entries o.contents o.image ++ work_rules o a)

  abbrev pub section_list : List Rule
  section_list =
      each_of (λ n. section_rules o.headers (least a.stage.link.slots (length a.sections / 9)) (a.stage.link.sections + rows_below o.headers n) n) 0 (length o.headers / 8)

  abbrev pub group_list : List Rule
  group_list =
      in_turn (group_rules (Stages.group_object d)) (Group.group_section_of (Stages.group_object d)) (length o.headers / 8) 0 (group_first (prepared o a))

  abbrev pub symbol_list : List Rule
  symbol_list =
      in_turn (λ s i. symbol_rules k d i s) (Symbols.symbol_of (symbol_reader o a)) (length d.entries / 8) 0 (symbol_first (Stages.symbols_in (marked o a)))

  abbrev pub uninitialized_list : List Rule
  uninitialized_list =
      in_turn (build_rules k is_identified d 2) (λ s n. Build.section_of (builder o a) s n 2) (length o.headers / 8) 0 (building (before2 o a))

  abbrev pub program_list : List Rule
  program_list =
      in_turn (build_rules k is_identified d 1) (λ s n. Build.section_of (builder o a) s n 1) (length o.headers / 8) 0 (building (before1 o a))

  -- what follows the head
  abbrev pub stage_list : List Rule
  stage_list =
      section_list
      ++ (group_list
      ++ (filter_rules k d.entries
      ++ (symbol_list ++ (uninitialized_list ++ (program_list ++ input_rules (before0 o a).stage.link (before0 o a).inputs)))))

  abbrev pub merge_rules : List Rule
  merge_rules = head_list ++ stage_list
