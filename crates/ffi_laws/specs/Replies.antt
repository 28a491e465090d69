-- What an exported call replies, by what the call itself says: number, place and values of the answer, by the definitions that the promises have. Names,
-- symbols, groups, merges, loads and collections are replied by what they say (`saying`, `refused_of`, `collected_reply`), a list of adds by number, place
-- and position (`reply_of`, ffi_list/specs/Calls.antt); here the others, whose answers are told case by case.
-- Assumes nothing.
use Rattle.std.specs.Prelude.{ℕ, ◌+◌, min, List, [], ◌∷◌, get_or}
use Rattle.std.proofs.Math.Path.{◌≡◌}
use Rattle.link.specs.declared.SymbolId.{SymbolId}
use Rattle.symbol.specs.declared.Symbol.{Symbol}
use Rattle.ffi_cells.specs.declared.header.Reply.{Reply}
use Rattle.ffi_cells.specs.Cells.{symbol_out}

-- ---- the words

-- four values, those that are missing 0
abbrev pub four : List ℕ → List ℕ
four l = get_or l 0 0 ∷ get_or l 1 0 ∷ get_or l 2 0 ∷ get_or l 3 0 ∷ []

-- a reply has this number and place, and these values in its cells
pub record Replies (r : Reply) (number place : ℕ) (values : List ℕ) : Type 0 where
  pub number_is : r.number ≡ number
  pub place_is : r.place ≡ place
  pub values-are : r.first ∷ r.second ∷ r.third ∷ r.fourth ∷ [] ≡ four values

-- an id or "none": 1 and the id, or 0
abbrev pub some_id : List SymbolId → List ℕ
some_id [] = []
some_id (id ∷ ids) = 1 ∷ id.0 ∷ []

-- of a call for the next member: the archive's number and 1, as far as a cell holds it, offset, entry and passes; "done" has the passes alone, in their place
abbrev pub offer_cells : List ℕ → List ℕ
offer_cells [] = []
offer_cells (p ∷ []) = 0 ∷ 0 ∷ 0 ∷ p ∷ []
offer_cells (j ∷ o ∷ l) = min (j + 1) 0xffffffffffffffff ∷ o ∷ get_or l 0 0 ∷ get_or l 1 0 ∷ []

-- a symbol that is found goes out; without one nothing does
abbrev pub symbols_out : List ℕ → List Symbol → List ℕ
symbols_out out [] = out
symbols_out out (s ∷ l) = symbol_out out s

-- ---- the header: a reply stands in its cells 9 to 14, and the link that is handed back is read there again

pub record Holds (h : List ℕ) (r : Reply) : Type 0 where
  pub number : get_or h 9 0 ≡ r.number
  pub place : get_or h 10 0 ≡ r.place
  pub first : get_or h 11 0 ≡ r.first
  pub second : get_or h 12 0 ≡ r.second
  pub third : get_or h 13 0 ≡ r.third
  pub fourth : get_or h 14 0 ≡ r.fourth
