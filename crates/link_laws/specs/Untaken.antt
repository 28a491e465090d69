-- Words for what a member that was not taken would have defined: the symbols of the table that its merge would load, as the statements of a merge have them
-- (merge_laws, MergeWords.antt), each by what a lookup of its name answers.
-- Assumes nothing.
use Rattle.std.specs.Prelude.{ℕ, ◌≡◌, Bool, false, not, ◌&&◌, ◌||◌, List, [], ◌∷◌, ◌++◌, drop, eqb, length, Option, Result, Ok, Err}
use Rattle.link.specs.declared.Interned.{Interned}
use Rattle.link.specs.declared.cause.Refusal.{Refusal}
use Rattle.symbol.specs.declared.Symbol.{Symbol}
use Rattle.gabi.specs.SymbolTable.{Sym, stt_file, is_global, is_common}
use Rattle.gabi.specs.Archive.{offers}
use Rattle.upcoming_symbol.specs.declared.UpcomingSymbol.{UpcomingSymbol}
use Rattle.upcoming_symbol.specs.declared.UpcomingSymbol.TheVariants.{Elf}
use Rattle.elf_object.specs.Rows.{elf_at}
use Rattle.symbol_laws.specs.DirectContents.{is_common_value}
use Rattle.symbol_laws.specs.ObjectWords.{entry}
use Rattle.merge_laws.specs.MergeWords as Words
use Rattle.merge_laws.specs.Calls.{Linked}
use Rattle.untaken_member.specs.Untaken.{Left}
use Rattle.link_laws.specs.Words.{id_of, lookup, is_undefined}
use Rattle.link_laws.specs.Shadowed.{is_definition, is_weak}

-- ---- a name, by its lookup

-- a row, and it is common
abbrev pub is_common_row : Result Symbol Refusal → Bool
is_common_row (Ok y) = is_common_value y.value
is_common_row (Err r) = false

-- what it holds isn't defined; it is a common, and the symbol a global one that isn't; it is a weak definition that is no common, and the symbol a global one
-- or a common
abbrev pub gives_way : Result Symbol Refusal → Sym → Bool
gives_way x e =
    is_undefined x || is_common_row x && (is_global e && not (is_common e))
    || (is_definition x && is_weak x) && not (is_common_row x) && (is_global e || is_common e)

-- the row's id, 0 where there is none
abbrev pub row_id : Result Symbol Refusal → ℕ
row_id (Ok y) = y.id.0
row_id (Err r) = 0

-- ---- the symbols of an object

module _ (headers entries contents file : List ℕ) (s : Linked) where
  abbrev pub symbols : List ℕ
  symbols = Words.symbols_of headers entries contents file

  -- what holds the name of symbol i
  abbrev pub held : ℕ → Result Symbol Refusal
  held i = lookup (Words.symbol_name headers entries contents file i) s

  -- its name isn't missing, it is a definition, global or weak, and no file symbol
  abbrev pub defines : ℕ → Bool
  defines i = Words.is_named headers entries contents file i && (offers (entry symbols i) && not (eqb (entry symbols i).type stt_file))

  -- and what holds its name gives way to it
  abbrev pub would : ℕ → Bool
  would i = defines i && gives_way (held i) (entry symbols i)

  abbrev pub held_id : ℕ → ℕ
  held_id i = row_id (held i)

  -- symbol i as a direct add has it, of any file
  abbrev pub as_added : ℕ → Option Interned → UpcomingSymbol
  as_added i source = Elf (elf_at symbols i) (id_of (Words.symbol_name headers entries contents file i) s) source

-- ---- the answer

-- each number with what stands for it
abbrev pub paired : (ℕ → ℕ) → List ℕ → List ℕ
paired f [] = []
paired f (i ∷ is) = i ∷ f i ∷ paired f is

-- the pairs stand in the first cells, and the others are as they were; the answer is how many they are
pub record TellsPairs (f : ℕ → ℕ) (numbers cells : List ℕ) (x : Left) : Type 0 where
  pub answer : x.answer ≡ Ok (length numbers)
  pub cells-left : x.cells ≡ paired f numbers ++ drop (length (paired f numbers)) cells
