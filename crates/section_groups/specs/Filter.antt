-- What becomes of the symbols of removed sections: those that aren't local are undefined; local ones are dropped in the gABI's profile, and else the first
-- one gives 8, before any name is looked at.
-- Assumes nothing.
use Rattle.std.specs.Prelude.{ℕ, Bool, true, false, cond, not, List, eqb, ltb, Option, None, Some}
use Rattle.gabi.specs.SymbolTable.{stb_local, shn_undef, shn_loreserve}
use Rattle.elf_object.specs.Rows.{rows_in, binding_at, section_at, mark_at, removed_mark}
use Rattle.elf_object.specs.Judge.{first_bad}

-- only numbers below SHN_LORESERVE are sections
unfoldable pub section_after : List ℕ → ℕ → ℕ
section_after work s = cond (ltb s shn_loreserve) (cond (eqb (mark_at work s) removed_mark) shn_undef s) s

-- a local symbol of a removed section
unfoldable pub discarded_at : List ℕ → List ℕ → ℕ → Bool
discarded_at work entries i =
    cond (eqb (binding_at entries i) stb_local) (cond (eqb (section_after work (section_at entries i)) (section_at entries i)) false true) false

-- in the gABI's profile it is dropped
abbrev pub dropped_at : Bool → List ℕ → List ℕ → ℕ → Bool
dropped_at gabi work entries i = cond gabi (discarded_at work entries i) false

-- in the other one it is refused
unfoldable pub symbol_ok : Bool → List ℕ → List ℕ → ℕ → Bool
symbol_ok gabi work entries i = cond gabi true (not (discarded_at work entries i))

-- the first that isn't; the number of symbols where there is none
unfoldable pub filter_of : Bool → List ℕ → List ℕ → ℕ
filter_of gabi work entries = first_bad (symbol_ok gabi work entries) 0 (rows_in entries)

-- that place of what is found
abbrev pub place_in : List ℕ → Option ℕ → ℕ
place_in entries None = rows_in entries
place_in entries (Some i) = i
