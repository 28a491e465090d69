-- For what the ids stand that a merge gave an object's symbols, in any later link: id 0, a local symbol's own row, or the row that its name has.
-- Assumes nothing.
use Rattle.std.specs.Prelude.{ℕ, ◌<◌, ◌≡◌, Bool, true, ◌≢◌, Ok}
use mathlib.Core.List.{List, [], ◌∷◌}
use Rattle.gabi.specs.SymbolTable.{stb_local}
use Rattle.link.specs.declared.SymbolId.{SymbolId}
use Rattle.interner.specs.Calls.{resolved}
use Rattle.symbol.specs.Row.{symbol_at}
use Rattle.symbols.specs.Lookup.{not_found}
use Rattle.merge_stages.specs.Stages as Stages
use Rattle.symbol_laws.specs.ObjectWords.{entry}
use Rattle.symbol.specs.Row.{row_at}
use Rattle.symbol_laws.specs.History.{store}
use Rattle.merge_laws.specs.MergeWords as Words
use Rattle.merge_laws.specs.FileNames.{IsFile}
use Rattle.merge_laws.specs.ObjectContents as Contents
use Rattle.merge_laws.specs.Calls.{Linked}
use Rattle.link_laws.specs.Calls.{resolve, get, call_left}
use Rattle.link_laws.specs.Words.{lookup}

-- what the name of these bytes has in a link: the row of that id, or 21 for the name and for the id, since it was removed
pub data NameHas (b : List ℕ) (t : Linked) (id : SymbolId) : Type 0 where
  row : lookup b t ≡ Ok (symbol_at t.table.symbols id) → NameHas b t id
  gone : (n : ℕ) → lookup b t ≡ not_found 21 n → call_left (get id) t ≡ not_found 21 id.0 → NameHas b t id

module _ (o : Stages.Object) (s : Linked) (met : List (List ℕ)) (t : Linked) where
  abbrev pub symbols : List ℕ
  symbols = Words.symbols_of o.headers o.entries o.contents o.image

  abbrev pub name_bytes : ℕ → List ℕ
  name_bytes = Words.symbol_name o.headers o.entries o.contents o.image

  -- the symbols that name the file of those behind them
  abbrev pub names_file : ℕ → Bool
  names_file = Words.names_file o.headers o.entries o.contents o.image s.table.link.gabi met

  -- its name isn't missing
  abbrev pub is_named : ℕ → Bool
  is_named = Words.is_named o.headers o.entries o.contents o.image

  -- the row of an id has what the entry of the local symbol k says: type, value through the object's sections, its name's bytes, its file (IsFile, merge_laws)
  pub record LocalRow (k id : ℕ) : Type 0 where
    pub counted : id < t.table.link.symbols
    pub content : Contents.LocalContent o.headers o.entries o.contents o.image s.table.link.sections met symbols k (row_at t.table.symbols id)
    pub named : call_left (resolve (row_at t.table.symbols id).name) t ≡ resolved (name_bytes k) 0 0
    pub filed : IsFile (store t.table) names_file (Words.Bears o.headers o.entries o.contents o.image) k (row_at t.table.symbols id).file

  pub data Stands (k id : ℕ) : Type 0 where
    -- "maps to id 0"
    first : Contents.IsNull o.headers o.entries o.contents o.image s.table.link.sections met symbols k → id ≡ 0 → Stands k id
    -- local: the row has what the symbol's entry says
    own : (entry symbols k).binding ≡ stb_local → is_named k ≡ true → LocalRow k id → Stands k id
    -- else: the name has that id
    shared : (entry symbols k).binding ≢ stb_local → is_named k ≡ true → NameHas (name_bytes k) t (record { 0 = id }) → Stands k id

  abbrev pub AllStand : List ℕ → List ℕ → Type 0
  AllStand [] [] = Unit {0}
  AllStand [] (i ∷ is) = ⊥
  AllStand (k ∷ ks) [] = ⊥
  AllStand (k ∷ ks) (i ∷ is) = Stands k i × AllStand ks is
