-- What is promised of a whole walk over archives' indexes: a start, then any number of calls for the next member, each over any table. It is the instance of
-- ByKey.antt in which entry k's member is known by archive and offset and its name is the k-th of all indexes; the promises themselves stand there, as fields.
-- Assumes nothing.
use Rattle.std.specs.Prelude.{ℕ, Bool, List}
use Rattle.archive_index.specs.Archives.{Archives, entries_in, name_in, key_in}
use Rattle.archive_walk.specs.Look.{Table}
use Rattle.archive_laws.specs.Runs.{Run}
use Rattle.archive_laws.specs.ByKey as ByKey
pub use Rattle.archive_laws.specs.ByKey.{queue_in}

-- an index ties entry k to a name that is undefined in t
abbrev pub tied_in : Archives → Table → ℕ → Bool
tied_in a = ByKey.tied_in (name_in a)

-- entry j, of the member of entry e, bears the name x, and is marked as required
abbrev pub asks : Archives → List ℕ → ℕ → List ℕ → ℕ → Bool
asks a = ByKey.asks (key_in a) (name_in a)

-- an index ties the name x to the member of entry e
abbrev pub in_index : Archives → ℕ → List ℕ → Bool
in_index a = ByKey.in_index (key_in a) (name_in a) (entries_in a)

abbrev pub Pass : Archives → Table → Run → Run → Type 0
Pass a = ByKey.Pass a (key_in a) (name_in a) (entries_in a)

abbrev pub Walked : Archives → List Table → Run → Type 0
Walked a = ByKey.Walked a (key_in a) (name_in a) (entries_in a)
