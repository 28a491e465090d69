-- Document 01, "Archives": "Admission as `ObjectRequirement::matches`: some symbol of binding 1, defined or not, bears a required name." In the
-- gABI's profile, document 02, 2026-02: "a weak or global definition, and nothing else, admits one". Which names are required is a test of
-- their bytes.
-- Assumes nothing.
use Rattle.std.specs.Prelude.{ℕ, ◌+◌, Bool, true, false, cond, List, [], ◌∷◌, eqb, leb, ltb, length, Result, Ok, Err}
use Rattle.cells.specs.Search.{any_from}
use Rattle.strings.specs.Lookup.{Looked, looked, look_up}
use Rattle.link.specs.declared.Link.{Link}
use Rattle.link.specs.declared.cause.Refusal.{Refusal}
use Rattle.link.specs.Judge.{refused}
use Rattle.link.specs.Said.{SaidWith}
use Rattle.archive_walk.specs.declared.Walk.{Walk}
use Rattle.archive_walk.specs.Names.{required_of}
use Rattle.gabi.specs.SymbolTable.{stb_global, stb_weak, shn_undef}
use Rattle.elf_object.specs.Kinds.{symbol_table, string_table, dynamic_symbols}
use Rattle.elf_object.specs.Rows.{rows_in, kind_at, link_at, strings_at, table_entries, entry_name_at, binding_at, section_at}
use Rattle.elf_object.specs.Judge.{judge_of}

-- document 01's number and place of each answer
abbrev pub number_of : Result Bool Refusal → ℕ
number_of (Ok true) = 0
number_of (Ok false) = 0
number_of (Err r) = r.number

abbrev pub place_of : Result Bool Refusal → ℕ
place_of (Ok true) = 0
place_of (Ok false) = 0
place_of (Err r) = r.place

-- and value: admitted is 1, not admitted 0
abbrev pub values_of : Result Bool Refusal → List ℕ
values_of (Ok true) = 1 ∷ []
values_of (Ok false) = 0 ∷ []
values_of (Err r) = []

abbrev pub said : Result Bool Refusal → SaidWith ℕ
said a = record { number = number_of a; place = place_of a; values = values_of a }

-- ---- names

-- a section of that number and kind; that it is excluded matters to a merge only
unfoldable pub is_section : List ℕ → ℕ → ℕ → Bool
is_section headers n kind = cond (leb (rows_in headers) n) false (cond (eqb (kind_at headers n) kind) true false)

-- the name at an offset of string section n
unfoldable pub name_anywhere : List ℕ → List ℕ → ℕ → ℕ → Looked
name_anywhere headers image n offset = cond (is_section headers n string_table) (look_up (strings_at headers image n) offset) (looked [] false)

-- a missing name is no required one
unfoldable pub is_required : (List ℕ → Bool) → Looked → Bool
is_required required x = cond x.found (required x.name) false

-- ---- symbols

unfoldable pub defines_name : ℕ → ℕ → Bool
defines_name binding section =
    cond (eqb section shn_undef) false (cond (eqb binding stb_global) true (cond (eqb binding stb_weak) true false))

-- May a symbol of that binding and section admit its member? The old profile: binding exactly 1, defined or not. The gABI's: a definition,
-- weak or global, also one in a section that is excluded, or a common one.
unfoldable pub admits : Bool → ℕ → ℕ → Bool
admits gabi binding section = cond gabi (defines_name binding section) (eqb binding stb_global)

-- symbol i of a table whose names are in string section `names`, of any type
unfoldable pub bears_required : Bool → List ℕ → List ℕ → ℕ → List ℕ → (List ℕ → Bool) → ℕ → Bool
bears_required gabi headers image names symbols required i =
    cond (admits gabi (binding_at symbols i) (section_at symbols i)) (is_required required (name_anywhere headers image names (entry_name_at symbols i))) false

unfoldable pub in_table : Bool → List ℕ → List ℕ → ℕ → List ℕ → (List ℕ → Bool) → Bool
in_table gabi headers image names symbols required = any_from (bears_required gabi headers image names symbols required) 0 (rows_in symbols)

-- a symbol table of either kind
unfoldable pub is_table : List ℕ → ℕ → Bool
is_table headers n = cond (is_section headers n symbol_table) true (is_section headers n dynamic_symbols)

unfoldable pub in_section : Bool → List ℕ → List ℕ → List ℕ → (List ℕ → Bool) → ℕ → Bool
in_section gabi headers entries image required n =
    cond (is_table headers n) (in_table gabi headers image (link_at headers n) (table_entries headers entries (n + 1)) required) false

-- the Rust's `HasGlobalSymbol`
unfoldable pub has_global_symbol : Bool → List ℕ → List ℕ → List ℕ → (List ℕ → Bool) → Bool
has_global_symbol gabi headers entries image required = any_from (in_section gabi headers entries image required) 0 (rows_in headers)

abbrev pub admission : Bool → Result Bool Refusal
admission true = Ok true
admission false = Ok false

abbrev pub after_judging : Refusal → Result Bool Refusal → Result Bool Refusal
after_judging r a = cond (eqb r.number 0) a (Err r)

-- an entry of the walk's index, which is lent with its rows; after "done" too
unfoldable pub offered_in : List ℕ → List ℕ → Walk → ℕ → Bool
offered_in s l w e = cond (ltb (length s) w.length) false (cond (ltb (rows_in l) w.entries) false (ltb e w.entries))

-- 1 at the first row of the object that is out of range; 1 at 0 where the walk isn't as it was; then yes or no, over the names required of
-- the member that entry e offered. Of the link its profile alone is looked at, so a broken one answers as another.
unfoldable pub matches_of : Link → List ℕ → List ℕ → List ℕ → List ℕ → List ℕ → List ℕ → Walk → ℕ → Result Bool Refusal
matches_of link headers entries contents image s l w e =
    after_judging (judge_of headers entries (length contents) (length image))
    (cond (offered_in s l w e) (admission (has_global_symbol link.gabi headers entries image (required_of s l w e))) (Err (refused 1 0)))
