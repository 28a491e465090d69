-- A title's figures: its symbol rows that aren't removed, by the kind of their value; the members that its walk handed out, and the walk's passes; its sections
-- that are kept and that are dropped, and the bytes of each.
-- Assumes nothing.
use Rattle.std.specs.Prelude.{ℕ, ◌+◌, Bool, true, false, cond, List, [], ◌∷◌, eqb, ltb}
use Rattle.symbol.specs.Row as Symbol
use Rattle.symbol.specs.Layout.{removed_state, absolute_kind, section_kind, relative_kind, address_kind, not_loaded_kind, external_kind, undefined_kind, common_kind}
use Rattle.sections.specs.Rows as Section
use Rattle.sections.specs.Rows.{built_state, dropped_state}
use Rattle.link.specs.declared.Link.{Link}
use Rattle.archive_walk.specs.declared.Walk.{Walk}
use Rattle.lot_report.specs.Count.{count_below, sum_below, bound}

-- ---- the columns of symbols, by their places on the sheet

abbrev pub null : ℕ
null = 0

abbrev pub absolute : ℕ
absolute = 1

abbrev pub section : ℕ
section = 2

abbrev pub relative : ℕ
relative = 3

abbrev pub undefined : ℕ
undefined = 4

abbrev pub common : ℕ
common = 5

abbrev pub other : ℕ
other = 6

-- other: an address, a section that isn't loaded, external; a number that is no kind reads as null
unfoldable pub column_of : ℕ → ℕ
column_of kind =
    cond (eqb kind absolute_kind) absolute
    (cond (eqb kind section_kind) section
    (cond (eqb kind relative_kind) relative
    (cond (eqb kind address_kind) other
    (cond (eqb kind not_loaded_kind) other
    (cond (eqb kind external_kind) other (cond (eqb kind undefined_kind) undefined (cond (eqb kind common_kind) common null)))))))

-- row `id` isn't removed, and its value is of that column
unfoldable pub is_listed : List ℕ → ℕ → ℕ → Bool
is_listed symbols column id = cond (eqb (Symbol.state_at symbols id) removed_state) false (eqb (column_of (Symbol.kind_at symbols id)) column)

-- ---- sections

unfoldable pub is_in_state : List ℕ → ℕ → ℕ → Bool
is_in_state sections state id = eqb (Section.state_at sections id) state

abbrev pub size_in : List ℕ → ℕ → ℕ
size_in sections id = Section.size_at sections id

-- ---- a line

-- a link as it stands and its walk, in the cells that are lent
pub record Title : Type 0 where
  pub link : Link
  pub symbols : List ℕ
  pub sections : List ℕ
  pub walk : Walk

abbrev pub rows_in : Title → ℕ → ℕ
rows_in t column = count_below (is_listed t.symbols column) t.link.symbols

abbrev pub sections_in : Title → ℕ → ℕ
sections_in t state = count_below (is_in_state t.sections state) t.link.sections

abbrev pub bytes_in : Title → ℕ → ℕ
bytes_in t state = sum_below (is_in_state t.sections state) (size_in t.sections) t.link.sections

-- in the sheet's order
abbrev pub figures_of : Title → List ℕ
figures_of t =
    rows_in t null
    ∷ rows_in t absolute
    ∷ rows_in t section
    ∷ rows_in t relative
    ∷ rows_in t undefined
    ∷ rows_in t common
    ∷ rows_in t other
    ∷ t.walk.offered
    ∷ t.walk.passes
    ∷ sections_in t built_state
    ∷ sections_in t dropped_state
    ∷ bytes_in t built_state
    ∷ bytes_in t dropped_state
    ∷ []

-- ---- sums of lines

-- figure by figure
unfoldable pub plus_of : List ℕ → List ℕ → List ℕ
plus_of [] ys = []
plus_of (x ∷ xs) [] = []
plus_of (x ∷ xs) (y ∷ ys) = (x + y) ∷ plus_of xs ys

-- no figure is 2^64 or more
unfoldable pub fits_of : List ℕ → Bool
fits_of [] = true
fits_of (x ∷ xs) = cond (ltb x bound) (fits_of xs) false
