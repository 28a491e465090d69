-- The row of a loaded library: its name, the undefined names of binding 1 that it was given, its dependencies, by ids, and the names that these stand for.
-- Assumes nothing.
use Rattle.std.specs.Prelude.{ℕ, ◌+◌, ◌<◌, ◌≤◌, ◌≡◌, List, take}
use Rattle.std.proofs.Math.ListN.{length}
use Rattle.link.specs.Judge.{going_of}
use Rattle.interner.specs.Names.{Store, store_of, keep_of}
use Rattle.elf_object.specs.Rows.{rows_in, field}
use Rattle.shared_objects.specs.Need.{input_kind_at, dependencies_at, undefined_at}
use Rattle.shared_objects.specs.Record.{Recorded, recorded_of}
use Rattle.shared_objects.specs.SymbolsLoad.{State, state_of, symbols_of}
use Rattle.shared_objects.specs.Load.{All, Input, name_of, load_of}
use Rattle.interner_laws.specs.Good.{Issued}
use Rattle.load_laws.specs.LawsRecorded.{id_in, dependency_ids, undefined_ids}
use Rattle.load_laws.specs.Names.{Kept, Each, undefined_names, dependency_names}

module _ (o : Input) (a : All) where
  abbrev pub x : List ℕ
  x = name_of o

  abbrev pub self : ℕ
  self = id_in a.bytes a.names a.link x

  -- the names after the library's own
  abbrev pub named : Store
  named = keep_of (store_of a.bytes a.names a.link) (record { 0 = self }) x

  abbrev pub start : State
  start = state_of named.bytes named.names a.symbols a.sections a.lists (going_of named.link)

  abbrev pub loaded : State
  loaded = symbols_of o.entries o.image start

  abbrev pub middle : Recorded
  middle = recorded_of loaded.bytes loaded.names loaded.lists (going_of loaded.stage.link)

  -- the ids of its undefined names of binding 1, and of its dependencies
  abbrev pub undefineds : List ℕ
  undefineds = undefined_ids o.entries o.image (rows_in o.entries) 0 start

  abbrev pub dependencies : List ℕ
  dependencies = dependency_ids o.image o.needs (length o.needs) 0 middle

  -- the cells and the link that the load leaves
  abbrev pub after : All
  after = (load_of o a).cells

  -- the number of the library's row
  abbrev pub k : ℕ
  k = a.link.inputs

  -- the library's row, in the lent cells and the link that the load leaves; earlier libraries' rows and lists stay
  pub record LibraryRow : Type 0 where
    pub kind : input_kind_at after.inputs k ≡ 2
    pub name : field after.inputs k 1 ≡ self
    pub lacks : undefined_at after.inputs after.lists k ≡ undefineds
    pub needs : dependencies_at after.inputs after.lists k ≡ dependencies
    -- both lie below the count of the lists
    pub lacks-in : field after.inputs k 4 + field after.inputs k 5 ≤ after.link.lists
    pub needs-in : field after.inputs k 2 + field after.inputs k 3 ≤ after.link.lists
    pub counted : after.link.inputs ≡ k + 1
    pub earlier-rows : (j f : ℕ) → j < k → f < 8 → field after.inputs j f ≡ field a.inputs j f
    pub earlier-lists : take a.link.lists after.lists ≡ take a.link.lists a.lists

  abbrev pub before : Store
  before = store_of a.bytes a.names a.link

  abbrev pub store : Store
  store = store_of after.bytes after.names after.link

  -- every id stands for its name: the library's own, those of its undefined names of binding 1, those of its dependencies
  pub record LibraryNames : Type 0 where
    pub kept : Kept before store
    pub own : Issued store self x
    pub lacked : Each store undefineds (undefined_names o.entries o.image (rows_in o.entries) 0)
    pub listed : Each store dependencies (dependency_names o.image o.needs (length o.needs) 0)
