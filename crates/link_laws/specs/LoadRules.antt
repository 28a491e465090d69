-- Document 01's rules for a shared object: its head, whether it is needed, then its elements, each over what those before it left.
-- Assumes nothing.
use Rattle.std.specs.Prelude.{ℕ, ◌/◌, Bool, false, cond, not, ◌&&◌, ◌||◌, List, [], ◌∷◌, ◌++◌, eqb, ltb, get_or, length, None}
use Rattle.byte_slices.specs.Bytes.{part}
use Rattle.gabi.specs.StringTable.{has_name, name_at}
use Rattle.shared_objects.specs.Record as Lists
use Rattle.shared_objects.specs.SymbolsLoad as Symbols
use Rattle.shared_objects.specs.Load.{Input, All, links_in}
use Rattle.load_laws.specs.LoadSteps.{list_first, lists_in}
use Rattle.load_laws.specs.Stops.{first, added, recorded}
use Rattle.load_laws.specs.Whole.{table_in}
use Rattle.symbol_laws.specs.History.{State}
use Rattle.link_laws.specs.Rules.{Rule, ◌gives◌at◌, some, each, in_turn, lent_rows, head_rules}
use Rattle.link_laws.specs.TableRules.{is_issued, is_known, row_of, is_removed, is_undefined_row, is_strong_row, id_in, is_unroomed, names_of, Asked, asked_of, defined, shown_rules, held_rules}
use Rattle.link_laws.specs.ObjectRules.{cell_at, entry_rules, symbol_name, binding_at, visibility_at, section_at}
use Rattle.link_laws.specs.MergeRules.{input_rules}

-- ---- the library

module _ (o : Input) where
  -- the soname, else the library name
  abbrev pub library_name : List ℕ
  library_name = cond o.sonamed (name_at o.image o.soname) o.path

  abbrev pub is_named : ℕ → Bool
  is_named i = has_name o.image (symbol_name o.entries i)

  abbrev pub bytes : ℕ → List ℕ
  bytes i = name_at o.image (symbol_name o.entries i)

  abbrev pub is_defined : ℕ → Bool
  is_defined i = not (eqb (section_at o.entries i) 0)

  abbrev pub is_global : ℕ → Bool
  is_global i = eqb (binding_at o.entries i) 1

  abbrev pub is_weak : ℕ → Bool
  is_weak i = eqb (binding_at o.entries i) 2

  -- ---- the head: "22 comes first, then 1 (sections, symbols, then the rest); 25 follows and marks nothing broken"; as-needed takes a mark for each name

  -- an offset that gives no name is out of range (DECISIONS 50)
  abbrev pub need_rules : List Rule
  need_rules = each (λ j. not (has_name o.image (get_or o.needs j 0)) gives 1 at j) 0 (length o.needs)

  abbrev pub name_rules : State → ℕ → List Rule
  name_rules t marks = (o.archived && not o.sonamed gives 25 at 0) ∷ (o.asneeded && ltb marks t.link.names gives 2 at 0) ∷ []

  abbrev pub load_head : State → List ℕ → List ℕ → ℕ → List Rule
  load_head t inputs lists marks =
      head_rules t.link (lent_rows (length t.names / 9) (length t.bytes) (length t.symbols) (length t.sections / 9) (length inputs) (length lists))
      ++ ((entry_rules o.entries ++ ((o.sonamed && not (has_name o.image o.soname) gives 1 at 0) ∷ need_rules)) ++ name_rules t marks)

-- ---- "Needed: it defines, global or weak, a name undefined and strong in the table, or one that an earlier loaded library, not listing it as a
-- dependency, names by an undefined symbol of binding 1, since defined or not"

abbrev pub is_undefined_in : State → ℕ → Bool
is_undefined_in t name = is_known t name && not (is_removed t (row_of t name)) && is_undefined_row t (row_of t name) && is_strong_row t (row_of t name)

abbrev pub has : List ℕ → ℕ → Bool
has [] id = false
has (a ∷ l) id = eqb a id || has l id

-- an input's row: 1 for an object, 2 for a library; its name; where its dependencies and its undefined names of binding 1 lie in the lists, each the
-- first and how many
module _ (inputs lists : List ℕ) (k : ℕ) where
  abbrev pub is_library : Bool
  is_library = eqb (cell_at inputs k 0) 2

  abbrev pub dependencies : List ℕ
  dependencies = part lists (cell_at inputs k 2) (cell_at inputs k 3)

  abbrev pub undefined_names : List ℕ
  undefined_names = part lists (cell_at inputs k 4) (cell_at inputs k 5)

module _ (o : Input) (t : State) (inputs lists : List ℕ) where
  abbrev pub is_named_by : ℕ → ℕ → Bool
  is_named_by name k =
      is_library inputs lists k
      && not (is_issued t (id_in t (library_name o)) && has (dependencies inputs lists k) (id_in t (library_name o)))
      && has (undefined_names inputs lists k) name

  abbrev pub is_lacked : ℕ → Bool
  is_lacked name = is_issued t name && (is_undefined_in t name || some (is_named_by name) 0 t.link.inputs)

  abbrev pub is_needed : Bool
  is_needed = some (λ i. is_defined o i && (is_global o i || is_weak o i) && is_named o i && is_lacked (id_in t (bytes o i))) 0 (length o.entries / 8)

-- ---- symbols: "symbol name missing" 9; what it defines is added, the name of what is undefined and global is recorded, of the others only the name
-- must be found

-- the table between two symbols
abbrev pub table_at : Symbols.State → State
table_at s = record { bytes = s.bytes; names = s.names; symbols = s.symbols; sections = s.sections; link = s.stage.link }

-- a name to be recorded: issued or room for it, and a free cell
abbrev pub is_unrecorded : State → ℕ → List ℕ → Bool
is_unrecorded t lists x = is_unroomed t x || not (ltb t.link.lists lists)

module _ (o : Input) where
  abbrev pub external_asked : State → ℕ → Asked
  external_asked t i = asked_of (binding_at o.entries i) (visibility_at o.entries i) 0 (id_in t (bytes o i)) None defined

  abbrev pub defined_rules : State → ℕ → List Rule
  defined_rules t i = (is_unroomed t (bytes o i) gives 2 at i) ∷ shown_rules t (external_asked t i) i ++ held_rules t (external_asked t i) i

  abbrev pub symbol_rules : Symbols.State → ℕ → List Rule
  symbol_rules s i =
      (not (is_named o i) gives 9 at i)
      ∷ cond (is_defined o i) (defined_rules (table_at s) i) (cond (is_global o i) ((is_unrecorded (table_at s) (length s.lists) (bytes o i) gives 2 at i) ∷ []) [])

  -- ---- dependencies

  abbrev pub dependency_rules : Lists.Recorded → ℕ → List Rule
  dependency_rules s j =
      (is_unrecorded (names_of s.bytes s.names s.stage.link) (length s.lists) (name_at o.image (get_or o.needs j 0)) gives 2 at j) ∷ []

-- ---- the load: its name, its symbols, its dependencies; "An input's row is taken last (2, place 0)". What names, rows and lists the elements before
-- have added is what their own definitions leave.

module _ (o : Input) (a : All) where
  abbrev pub symbol_list : List Rule
  symbol_list = in_turn (symbol_rules o) (Symbols.symbol_of o.entries o.image) (length o.entries / 8) 0 (first o.entries o.image o.needs (links_in a) (library_name o))

  abbrev pub dependency_list : List Rule
  dependency_list =
      in_turn (dependency_rules o) (Lists.dependency_of o.image o.needs) (length o.needs) 0
      (list_first (lists_in a.inputs (added o.entries o.image o.needs (links_in a) (library_name o))))

  abbrev pub input_list : List Rule
  input_list = input_rules (recorded o.entries o.image o.needs (links_in a) (library_name o)).stage.link a.inputs

  abbrev pub library_rules : List Rule
  library_rules = (is_unroomed (table_in a) (library_name o) gives 2 at 0) ∷ (symbol_list ++ (dependency_list ++ input_list))

  -- "Under as-needed, an unneeded library answers "not needed" and changes nothing"
  abbrev pub load_rules : List Rule
  load_rules =
      load_head o (table_in a) a.inputs a.lists (length a.marks)
      ++ cond (o.asneeded && not (is_needed o (table_in a) a.inputs a.lists)) [] library_rules
