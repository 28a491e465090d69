-- What the contracts of the calls with an index cite is what the histories are of: the outcome, and the index that is left.
-- Assumes nothing.
use Rattle.std.specs.Prelude.{ℕ, ◌≡◌, List, eqb}
use Rattle.std.proofs.Common.{sym, le_refl}
use Rattle.cells.specs.Proof.Split.{by-test}
use Rattle.upcoming_symbol.specs.declared.UpcomingSymbol.{UpcomingSymbol}
use Rattle.merge_stages.specs.Stages as Stages
use Rattle.shared_objects.specs.Load as Shared
use Rattle.symbol_laws.specs.History.{table}
use Rattle.merge_laws.specs.Calls.{all_in}
use Rattle.link_laws.specs.Calls.{add, add_list, merge, merge_file, load, library_in}
use Rattle.name_index.specs.Proof.Ways.{rows-none}
use Rattle.indexed_table.specs.Indexed.{IndexedLeft, IndexedList, change_index, indexed_add_of, indexed_list_of}
use Rattle.indexed_link.specs.Indexed.{IndexedMerge, IndexedFile, IndexedLoad, indexed_merge_of, indexed_file_of, indexed_load_of}
use Rattle.index_laws.specs.Listed.{rows_at}
use Rattle.index_laws.specs.IndexedCalls.{Indexed, indexed_left, indexed_next}

module _ (x : Indexed) where
  module _ (conversion : List ℕ) (u : UpcomingSymbol) where
    abbrev added : IndexedLeft
    added = indexed_add_of (table x.link.table) x.link.table.bytes x.index conversion u

    pub add-left : added.left ≡ indexed_left (add conversion u) x
    unfolding indexed_add_of
    add-left = by-test (eqb (change_index x.link.table.link x.index).number 0) (λ a. rw a) (λ a. rw a)

    pub add-index : added.index ≡ (indexed_next (add conversion u) x).index
    unfolding indexed_add_of
    add-index =
        by-test (eqb (change_index x.link.table.link x.index).number 0) (λ a. rw a)
        (λ a. rw a (sym (rows-none (rows_at x.link.table) x.link.table.link.symbols x.index x.link.table.link.symbols (le_refl _))))

  module _ (conversion adds ids : List ℕ) where
    abbrev listed : IndexedList
    listed = indexed_list_of (table x.link.table) x.link.table.bytes x.index conversion adds ids

    pub list-left : listed.left ≡ indexed_left (add_list conversion adds ids) x
    unfolding indexed_list_of
    list-left = by-test (eqb (change_index x.link.table.link x.index).number 0) (λ a. rw a) (λ a. rw a)

    pub list-index : listed.index ≡ (indexed_next (add_list conversion adds ids) x).index
    unfolding indexed_list_of
    list-index =
        by-test (eqb (change_index x.link.table.link x.index).number 0) (λ a. rw a)
        (λ a. rw a (sym (rows-none (rows_at x.link.table) x.link.table.link.symbols x.index x.link.table.link.symbols (le_refl _))))

  module _ (o : Stages.Object) (work ids : List ℕ) where
    abbrev merged : IndexedMerge
    merged = indexed_merge_of o (all_in x.link work ids) x.index

    pub merge-left : merged.left ≡ indexed_left (merge o work ids) x
    unfolding indexed_merge_of
    merge-left = by-test (eqb (change_index x.link.table.link x.index).number 0) (λ a. rw a) (λ a. rw a)

    pub merge-index : merged.index ≡ (indexed_next (merge o work ids) x).index
    unfolding indexed_merge_of
    merge-index =
        by-test (eqb (change_index x.link.table.link x.index).number 0) (λ a. rw a)
        (λ a. rw a (sym (rows-none (rows_at x.link.table) x.link.table.link.symbols x.index x.link.table.link.symbols (le_refl _))))

  module _ (file cells work ids : List ℕ) where
    abbrev filed : IndexedFile
    filed = indexed_file_of file cells (all_in x.link work ids) x.index

    pub file-left : filed.left ≡ indexed_left (merge_file file cells work ids) x
    unfolding indexed_file_of
    file-left = by-test (eqb (change_index x.link.table.link x.index).number 0) (λ a. rw a) (λ a. rw a)

    pub file-index : filed.index ≡ (indexed_next (merge_file file cells work ids) x).index
    unfolding indexed_file_of
    file-index =
        by-test (eqb (change_index x.link.table.link x.index).number 0) (λ a. rw a)
        (λ a. rw a (sym (rows-none (rows_at x.link.table) x.link.table.link.symbols x.index x.link.table.link.symbols (le_refl _))))

  module _ (o : Shared.Input) (marks : List ℕ) where
    abbrev loaded : IndexedLoad
    loaded = indexed_load_of o (library_in x.link marks) x.index

    pub load-left : loaded.left ≡ indexed_left (load o marks) x
    unfolding indexed_load_of
    load-left = by-test (eqb (change_index x.link.table.link x.index).number 0) (λ a. rw a) (λ a. rw a)

    pub load-index : loaded.index ≡ (indexed_next (load o marks) x).index
    unfolding indexed_load_of
    load-index =
        by-test (eqb (change_index x.link.table.link x.index).number 0) (λ a. rw a)
        (λ a. rw a (sym (rows-none (rows_at x.link.table) x.link.table.link.symbols x.index x.link.table.link.symbols (le_refl _))))
