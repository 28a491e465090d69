-- The merge of an object, of a file, and the load of a library, with the index kept: behind each, refused half way too, the rows that it appended get their
-- names' places.
-- Assumes nothing.
use Rattle.std.specs.Prelude.{ℕ, ◌≡◌, cond, List, eqb, Err}
use Rattle.merge_stages.specs.Stages.{All, Object}
use Rattle.merge_elf.specs.Merge as Merge
use Rattle.merge_elf.specs.Merge.{leave, merge_of}
use Rattle.merge_file.specs.MergeFile.{FileLeft, unread, merge_file_of}
use Rattle.shared_objects.specs.Load as Load
use Rattle.shared_objects.specs.Load.{Input, load_of}
use Rattle.name_index.specs.Named.{rows_of}
use Rattle.name_index.specs.Index.{Index}
use Rattle.indexed_table.specs.Indexed.{change_index, caught_up}

-- ---- a merge

pub record IndexedMerge : Type 0 where
  pub left : Merge.Left
  pub index : Index

abbrev pub indexed_merge : Merge.Left → Index → IndexedMerge
indexed_merge o i = record { left = o; index = i }

-- from the link before the call to the one that it leaves
abbrev pub behind : All → Index → All → Index
behind a i b = caught_up (rows_of b.bytes b.names b.symbols) i a.stage.link.symbols b.stage.link.symbols

unfoldable pub indexed_merge_of : Object → All → Index → IndexedMerge
indexed_merge_of o a i =
    cond (eqb (change_index a.stage.link i).number 0) (indexed_merge (merge_of o a) (behind a i (merge_of o a).cells))
    (indexed_merge (leave a a.stage.link (Err (change_index a.stage.link i))) i)

abbrev pub MergeMeets : Object → All → Index → IndexedMerge → Type 0
MergeMeets o a i e = e ≡ indexed_merge_of o a i

-- ---- of a file

pub record IndexedFile : Type 0 where
  pub left : FileLeft
  pub index : Index

abbrev pub indexed_file : FileLeft → Index → IndexedFile
indexed_file o i = record { left = o; index = i }

unfoldable pub indexed_file_of : List ℕ → List ℕ → All → Index → IndexedFile
indexed_file_of image rows a i =
    cond (eqb (change_index a.stage.link i).number 0) (indexed_file (merge_file_of image rows a) (behind a i (merge_file_of image rows a).merged.cells))
    (indexed_file (unread rows a (change_index a.stage.link i)) i)

abbrev pub MergeFileMeets : List ℕ → List ℕ → All → Index → IndexedFile → Type 0
MergeFileMeets image rows a i e = e ≡ indexed_file_of image rows a i

-- ---- a load

pub record IndexedLoad : Type 0 where
  pub left : Load.Left
  pub index : Index

abbrev pub indexed_load : Load.Left → Index → IndexedLoad
indexed_load o i = record { left = o; index = i }

abbrev pub loaded_behind : Load.All → Index → Load.Left → IndexedLoad
loaded_behind a i o = indexed_load o (caught_up (rows_of o.cells.bytes o.cells.names o.cells.symbols) i a.link.symbols o.cells.link.symbols)

unfoldable pub indexed_load_of : Input → Load.All → Index → IndexedLoad
indexed_load_of o a i =
    cond (eqb (change_index a.link i).number 0) (loaded_behind a i (load_of o a)) (indexed_load (Load.left a (Err (change_index a.link i))) i)

abbrev pub LoadMeets : Input → Load.All → Index → IndexedLoad → Type 0
LoadMeets o a i e = e ≡ indexed_load_of o a i
