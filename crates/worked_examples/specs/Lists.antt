-- Request 2026-05, lists of adds: rows of one list, each for both profiles.
-- Assumes nothing.
use Rattle.std.specs.Prelude.{ℕ, ◌≡◌, Bool, List, [], ◌∷◌, Some}
use Rattle.link.specs.Judge.{refused, none}
use Rattle.link.specs.declared.cause.Refusal.{Refusal}
use Rattle.upcoming_symbol.specs.declared.UpcomingSymbol.{UpcomingSymbol}
use Rattle.upcoming_symbol.specs.declared.UpcomingSymbol.TheVariants.{Elf}
use Rattle.add_list.specs.AddList.{ListLeft, items_of, add_list_of}
use Rattle.symbol_laws.specs.History.{table}
use Rattle.worked_examples.specs.Examples.{start, old, gabi, sections}

-- a row: name, binding, section, value
abbrev pub row : ℕ → ℕ → ℕ → ℕ → List ℕ → List ℕ
row n b s x rest = n ∷ b ∷ 0 ∷ 0 ∷ s ∷ x ∷ 0 ∷ 0 ∷ rest

-- symbol rows lent, the list, cells for ids; the cells then, the refusal and its position, and how many symbols there are
pub record Case : Type 0 where
  pub rows : ℕ
  pub adds : List ℕ
  pub ids : List ℕ
  pub cells : List ℕ
  pub refusal : Refusal
  pub position : ℕ
  pub symbols : ℕ

abbrev pub left : Bool → Case → ListLeft
left profile c = add_list_of sections (items_of c.adds) (table (start profile c.rows)) c.ids

abbrev pub RightIn : Bool → Case → Type 0
RightIn profile c =
    ((left profile c).ids ≡ c.cells) × ((left profile c).refusal ≡ c.refusal) × ((left profile c).position ≡ c.position) × ((left profile c).table.link.symbols ≡ c.symbols)

abbrev pub Right : Case → Type 0
Right c = RightIn old c × RightIn gabi c

abbrev pub case : ℕ → List ℕ → List ℕ → List ℕ → Refusal → ℕ → ℕ → Case
case n adds ids cells r p symbols = record { rows = n; adds = adds; ids = ids; cells = cells; refusal = r; position = p; symbols = symbols }

-- two rows lent, one of them the null symbol's: the third add has no row
abbrev pub no_row : Case
no_row = case 2 (row 1 1 0 0 (row 1 1 1 8 (row 2 1 0 0 (row 2 1 0 0 [])))) (7 ∷ 7 ∷ 7 ∷ 7 ∷ []) (1 ∷ 1 ∷ 7 ∷ 7 ∷ []) (refused 2 0) 2 2

-- binding 16 in the middle: 1 at its add, and the third isn't made
abbrev pub bad_binding : Case
bad_binding = case 4 (row 1 1 0 0 (row 2 16 0 0 (row 2 1 0 0 []))) (7 ∷ 7 ∷ 7 ∷ []) (1 ∷ 7 ∷ 7 ∷ []) (refused 1 0) 1 2

-- three adds and two cells, though the first would be refused
abbrev pub few_cells : Case
few_cells = case 4 (row 1 16 0 0 (row 2 1 0 0 (row 2 1 0 0 []))) (7 ∷ 7 ∷ []) (7 ∷ 7 ∷ []) (refused 2 0) 0 1

-- name 9 was never issued
abbrev pub unissued : Case
unissued = case 4 (row 1 1 0 0 (row 9 1 0 0 [])) (7 ∷ 7 ∷ []) (1 ∷ 7 ∷ []) (refused 21 9) 1 2

-- all accepted; cells behind the list stay
abbrev pub all : Case
all = case 4 (row 1 2 1 8 (row 2 1 0 0 (row 1 1 2 4 []))) (7 ∷ 7 ∷ 7 ∷ 7 ∷ []) (1 ∷ 2 ∷ 1 ∷ 7 ∷ []) none 3 3

abbrev pub empty : Case
empty = case 4 [] [] [] none 0 1

abbrev pub cases : List Case
cases = no_row ∷ bad_binding ∷ few_cells ∷ unissued ∷ all ∷ empty ∷ []

abbrev pub All : (Case → Type 0) → List Case → Type 0
All P [] = Unit {0}
All P (x ∷ xs) = P x × All P xs

-- ---- the cells of one row, each another number, and what it asks for: an object's symbol row, but its name's id, and its file's name id and 1

abbrev pub one_row : List ℕ
one_row = 1 ∷ 2 ∷ 3 ∷ 4 ∷ 5 ∷ 6 ∷ 7 ∷ 9 ∷ []

abbrev pub one_item : UpcomingSymbol
one_item =
    Elf (record { binding = 2; kind = 3; visibility = 4; section = 5; value = 6; size = 7 }) (record { 0 = 1 }) (Some (record { 0 = 8 }))
