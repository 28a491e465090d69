-- A row that is that of a symbol of the object of a merge: it has what the symbol's entry says, and its file.
-- Assumes nothing.
use Rattle.std.specs.Prelude.{ℕ, ◌<◌, Bool}
use mathlib.Core.List.{List}
use Rattle.interner_laws.specs.Good.{Issued}
use Rattle.symbol.specs.declared.Row.{Row}
use Rattle.merge_stages.specs.Stages.{All, Object}
use Rattle.merge_elf.specs.Merge.{merge_of}
use Rattle.symbol_laws.specs.History.{store}
use Rattle.symbol_laws.specs.ObjectWords.{entries_in}
use Rattle.merge_laws.specs.MergeWords as Words
use Rattle.merge_laws.specs.FileNames.{IsFile}
use Rattle.merge_laws.specs.Whole.{table_in}
use Rattle.merge_laws.specs.ObjectContents as Contents

module _ (o : Object) (a : All) (met : List (List ℕ)) where
  abbrev pub table : List ℕ
  table = Words.symbols_of o.headers o.entries o.contents o.image

  abbrev pub Bears : ℕ → List ℕ → Type 0
  Bears = Words.Bears o.headers o.entries o.contents o.image

  abbrev pub names_file : ℕ → Bool
  names_file = Words.names_file o.headers o.entries o.contents o.image a.stage.link.gabi met

  -- the row of symbol i of the loaded table: what its entry says; in the link that the merge leaves its name has the bytes that the symbol bears, and
  -- its file's those of the last symbol of type 4 before it that isn't dropped
  pub record FromSymbol (r : Row) : Type 0 where
    pub number : ℕ
    pub below : number < entries_in table
    pub content : Contents.Content o.headers o.entries o.contents o.image a.stage.link.sections met table number r
    pub bytes : List ℕ
    pub bears : Bears number bytes
    pub named : Issued (store (table_in (merge_of o a).cells)) r.name.0 bytes
    pub filed : IsFile (store (table_in (merge_of o a).cells)) names_file Bears number r.file
