-- The elements of a load, in order, what stands before each, and what a refusal at one leaves.
-- Assumes nothing.
use Rattle.std.specs.Prelude.{ℕ, ◌<◌, ◌≡◌, Bool, true, List, [], ◌∷◌, get_or, length}
use Rattle.strings.specs.Lookup.{Looked, looked, look_up}
use Rattle.link.specs.declared.Interned.{Interned}
use Rattle.link.specs.Judge.{going_of}
use Rattle.interner.specs.Names.{Store, store_of, find_of, fits_of, keep_of}
use Rattle.elf_object.specs.Rows.{rows_in}
use Rattle.merge_symbols.specs.Plan.{place_of}
use Rattle.shared_objects.specs.Record.{Recorded, dependencies_from, dependencies_of}
use Rattle.shared_objects.specs.SymbolsLoad.{State, symbols_from, symbols_of}
use Rattle.shared_objects.specs.Need.{Judged}
use Rattle.shared_objects.specs.Stages.{Links, links_of, with_name, stop, library_of}
use Rattle.shared_objects.specs.Load.{All, Input, want_of, links_in, name_of}
use Rattle.load_laws.specs.LoadSteps.{list_first, lists_in, symbol_first}
use Rattle.load_laws.specs.Elements.{dependency_count, symbol_element, symbol_left_numbers}
use Rattle.merge_laws.specs.Table.{one_of, binding_causes}

module _ (entries file needs : List ℕ) (s : Links) (x : List ℕ) where
  abbrev pub link_id : Links → List ℕ → Interned
  link_id b y = record { 0 = find_of b.bytes b.names b.stage.link y }

  abbrev pub link_store : Links → Store
  link_store b = store_of b.bytes b.names b.stage.link

  -- the name y issued
  abbrev pub named : Links → List ℕ → Links
  named b y = with_name b (keep_of (link_store b) (link_id b y) y) (going_of (keep_of (link_store b) (link_id b y) y).link)

  abbrev pub end : Links
  end = library_of entries file needs s x

  abbrev pub number : ℕ
  number = end.stage.number

  abbrev pub first : State
  first = symbol_first (named s x)

  abbrev pub symbols_to : ℕ → State
  symbols_to i = symbols_from entries file i 0 first

  abbrev pub added : State
  added = symbols_of entries file first

  abbrev pub with_symbols : State → Links
  with_symbols t = links_of t.bytes t.names t.symbols t.sections s.inputs t.lists t.stage

  abbrev pub dependencies_to : ℕ → Recorded
  dependencies_to j = dependencies_from file needs j 0 (list_first (lists_in s.inputs added))

  abbrev pub recorded : Recorded
  recorded = dependencies_of file needs (list_first (lists_in s.inputs added))

  abbrev pub with_dependencies : Recorded → Links
  with_dependencies r = links_of r.bytes r.names added.symbols added.sections s.inputs r.lists r.stage

  pub data Between : Links → Type 0 where
    name : Between s
    symbols : (i : ℕ) → Between (with_symbols (symbols_to i))
    dependencies : (j : ℕ) → Between (with_dependencies (dependencies_to j))
    row : Between (with_dependencies recorded)

  -- the refusals that are met there: those that leave all, and those that leave all but the element's name
  abbrev pub all_left : {b : Links} → Between b → List ℕ
  all_left name = 2 ∷ []
  all_left (symbols i) = symbol_left_numbers
  all_left (dependencies j) = 2 ∷ []
  all_left row = 2 ∷ []

  abbrev pub name_stays : {b : Links} → Between b → List ℕ
  name_stays name = []
  name_stays (symbols i) = binding_causes
  name_stays (dependencies j) = []
  name_stays row = []

  -- the element
  abbrev pub place_at : {b : Links} → Between b → ℕ
  place_at name = 0
  place_at (symbols i) = i
  place_at (dependencies j) = j
  place_at row = 0

  -- the elements of its stage
  abbrev pub elements : {b : Links} → Between b → ℕ
  elements name = 1
  elements (symbols i) = rows_in entries
  elements (dependencies j) = dependency_count needs entries
  elements row = 1

  -- its name, as the string table has it
  abbrev pub name_at : {b : Links} → Between b → Looked
  name_at name = looked x true
  name_at (symbols i) = symbol_element entries file i
  name_at (dependencies j) = look_up file (get_or needs j 0)
  name_at row = looked x true

  -- the refusal is met at one of the elements, and all before it were accepted
  pub record Met {b : Links} (at : Between b) : Type 0 where
    pub below : place_at at < elements at
    pub accepted : b.stage.number ≡ 0

  pub data Leaves : Type 0 where
    -- the place of 21 is the name's id
    all : (b : Links) (at : Between b) → Met at → one_of number (all_left at) ≡ true → end ≡ stop b number (place_of number (link_id b (name_at at).name) (place_at at)) → Leaves
    but-its-name : (b : Links) (at : Between b) → (name_at at).found ≡ true → Met at → one_of number (name_stays at) ≡ true
        → end ≡ stop (named b (name_at at).name) number (place_at at) → Leaves

  abbrev pub fits : Bool
  fits = fits_of (link_store s) (link_id s x) (length x)

module _ (o : Input) (a : All) where
  abbrev pub want : Judged
  want = want_of o.asneeded a.link a.bytes a.names a.symbols a.inputs a.lists a.marks o.entries o.image (name_of o)

  -- what the stages leave, before a refusal breaks the link
  abbrev pub ending : Links
  ending = library_of o.entries o.image o.needs (links_in a) (name_of o)
