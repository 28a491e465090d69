-- Which id a merge gives a symbol of its object.
-- Assumes nothing.
use Rattle.std.specs.Prelude.{ℕ, ◌<◌, ◌≡◌, true, false}
use mathlib.Core.List.{List, [], ◌∷◌}
use Rattle.elf_object.specs.Rows.{rows_in}
use Rattle.merge_symbols.specs.Plan.{input_of}
use Rattle.merge_symbols.specs.Stage as Symbols
use Rattle.merge_stages.specs.Stages.{All, Object}
use Rattle.merge_laws.specs.MergeSteps.{adds}
use Rattle.merge_laws.specs.SymbolIds.{is_dropped, name_of}
use Rattle.merge_laws.specs.Stops.{object, symbol_reader, symbols_to}
use Rattle.merge_laws.specs.GivenIds as GivenIds

module _ (o : Object) (a : All) where
  abbrev pub reader : Symbols.Object
  reader = symbol_reader o a

  -- the id that the merge gives symbol k of the loaded table
  pub data Gives (k id : ℕ) : Type 0 where
    -- "The first symbol, if named empty, undefined and of type 0, maps to id 0"
    null : k < rows_in (object o a).entries → GivenIds.first reader (symbols_to o a k) k ≡ true → id ≡ 0 → Gives k id
    -- the answer to its add
    answered : k < rows_in (object o a).entries → is_dropped reader (symbols_to o a k) k ≡ false → (name_of reader k).found ≡ true → adds (input_of reader.entries reader.work) (name_of reader k).name k ≡ true
        → (Symbols.symbol_of reader (symbols_to o a k) k).stage.number ≡ 0 → id ≡ GivenIds.answer reader (symbols_to o a k) k → Gives k id

  abbrev pub AllGive : List ℕ → List ℕ → Type 0
  AllGive [] [] = Unit {0}
  AllGive [] (i ∷ is) = ⊥
  AllGive (k ∷ ks) [] = ⊥
  AllGive (k ∷ ks) (i ∷ is) = Gives k i × AllGive ks is
