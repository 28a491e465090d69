-- What a link remembers of a library that was loaded, after later calls: its row of ids, and the names for which they stand.
-- Assumes nothing.
use Rattle.std.specs.Prelude.{ℕ, ◌<◌, ◌≡◌, length}
use Rattle.interner_laws.specs.Good.{Issued}
use Rattle.elf_object.specs.Rows.{rows_in, field}
use Rattle.shared_objects.specs.Need.{input_kind_at, dependencies_at, undefined_at}
use Rattle.shared_objects.specs.Load as Shared
use Rattle.shared_objects.specs.Load.{name_of}
use Rattle.load_laws.specs.Names.{Each, undefined_names, dependency_names}
use Rattle.load_laws.specs.LibraryRow.{self, undefineds, dependencies}
use Rattle.symbol_laws.specs.History.{store}
use Rattle.merge_laws.specs.Calls.{Linked}

module _ (o : Shared.Input) (a : Shared.All) (t : Linked) where
  abbrev pub place : ℕ
  place = a.link.inputs

  -- its row: a library, its name, the undefined names of binding 1 that it was given, its dependencies
  pub record Remembered : Type 0 where
    pub counted : place < t.table.link.inputs
    pub kind : input_kind_at t.inputs place ≡ 2
    pub name : field t.inputs place 1 ≡ self o a
    pub lacks : undefined_at t.inputs t.lists place ≡ undefineds o a
    pub needs : dependencies_at t.inputs t.lists place ≡ dependencies o a

  -- what these ids stand for
  pub record Named : Type 0 where
    pub own : Issued (store t.table) (self o a) (name_of o)
    pub lacked : Each (store t.table) (undefineds o a) (undefined_names o.entries o.image (rows_in o.entries) 0)
    pub listed : Each (store t.table) (dependencies o a) (dependency_names o.image o.needs (length o.needs) 0)
