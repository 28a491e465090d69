-- The file name of an object's symbol. "Type 4 sets the file name of the symbols after it": a symbol's row has the name of the last symbol of type 4 before it.
-- Assumes nothing.
use Rattle.std.specs.Prelude.{ℕ, ◌<◌, ◌≡◌, Bool, true, false, List, None, Some}
use Rattle.link.specs.declared.Interned.{Interned}
use Rattle.link.specs.Bounds.{not_lent}
use Rattle.interner.specs.Names.{Store}
use Rattle.interner_laws.specs.Good.{Issued}
use Rattle.symbol.specs.Codes.{file_at}

-- f is the file cell of symbol i: the last symbol before it that names a file (`names_file` of MergeWords) does so, by an id that has in s the bytes that
-- this symbol bears; without one there is none
pub data IsFile (s : Store) (names : ℕ → Bool) (Bears : ℕ → List ℕ → Type 0) (i f : ℕ) : Type 0 where
  none : ((j : ℕ) → j < i → names j ≡ false) → file_at f ≡ None → IsFile s names Bears i f
  last : (j : ℕ) (id : Interned) (b : List ℕ) → j < i → names j ≡ true → ((k : ℕ) → j < k → k < i → names k ≡ false)
      → Bears j b → Issued s id.0 b → (id.0 < not_lent → file_at f ≡ Some id) → IsFile s names Bears i f
