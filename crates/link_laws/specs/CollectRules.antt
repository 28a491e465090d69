-- Document 01's rules for collection. What is reached is said by rounds, over the rows, without the queue of the walk.
-- Assumes nothing.
use Rattle.link.specs.declared.SymbolId.{SymbolId}
use Rattle.std.specs.Prelude.{ℕ, zero, suc, ◌+◌, ◌/◌, Bool, true, false, cond, not, ◌&&◌, ◌||◌, List, [], ◌∷◌, ◌++◌, eqb, ltb, get_or, length, Option, None, Some}
use Rattle.byte_slices.specs.Bytes.{same}
use Rattle.link.specs.Bounds.{not_lent}
use Rattle.symbol_laws.specs.History.{State}
use Rattle.plain_laws.specs.BuiltRows.{how_many}
use Rattle.link_laws.specs.Rules.{Rule, ◌gives◌at◌, some, lent_rows, head_rules}
use Rattle.link_laws.specs.TableRules.{bytes_of, is_removed}
use Rattle.link_laws.specs.ObjectRules.{cell_at}

-- ---- the head: "mark list cut short" (1), at the first symbol without a mark; two work cells for each section

abbrev pub collect_head : State → List ℕ → List ℕ → List ℕ → List Rule
collect_head t lists marks work =
    head_rules t.link (lent_rows (length t.names / 9) (length t.bytes) (length t.symbols) (length t.sections / 9) not_lent (length lists))
    ++ ((ltb (length marks) t.link.symbols gives 1 at length marks) ∷ (ltb (length work / 2) t.link.sections gives 2 at 0) ∷ [])

-- ---- where a symbol lies: its value's kind is 2 (section), 3 (relative) or 4 (virtual address); "Symbols removed or absent lead nowhere"

abbrev pub section_of : State → ℕ → ℕ
section_of t i = cell_at t.symbols i 6

abbrev pub is_placed : State → ℕ → Bool
is_placed t i =
    ltb i t.link.symbols && not (is_removed t i)
    && (eqb (cell_at t.symbols i 5) 2 || eqb (cell_at t.symbols i 5) 3 || eqb (cell_at t.symbols i 5) 4)

abbrev pub lies_in : State → ℕ → ℕ → Bool
lies_in t i y = is_placed t i && eqb (section_of t i) y

-- ---- a section's row: 2 where it is built; its name, kind, retain, read; where its relocations' symbols lie in the lists, the first and how many

abbrev pub is_built : State → ℕ → Bool
is_built t y = ltb y t.link.sections && eqb (cell_at t.sections y 0) 2

-- . e h _ f r a m e
abbrev pub eh_frame : List ℕ
eh_frame = 0x2e ∷ 0x65 ∷ 0x68 ∷ 0x5f ∷ 0x66 ∷ 0x72 ∷ 0x61 ∷ 0x6d ∷ 0x65 ∷ []

-- "retained sections, `.eh_frame`, and everything but readable program or uninitialized sections"
abbrev pub is_root : State → ℕ → Bool
is_root t y =
    not (eqb (cell_at t.sections y 3) 0)
    || same (bytes_of t (cell_at t.sections y 1)) eh_frame
    || not (not (eqb (cell_at t.sections y 4) 0) && (eqb (cell_at t.sections y 2) 1 || eqb (cell_at t.sections y 2) 2))

-- ---- "what relocations reach from the roots"

abbrev pub is_entered : State → Option SymbolId → ℕ → Bool
is_entered t None y = false
is_entered t (Some i) y = lies_in t i.0 y

module _ (t : State) (lists marks : List ℕ) (entry : Option SymbolId) where
  -- "Roots: symbols marked by the caller, the entry symbol", and those sections
  abbrev pub is_start : ℕ → Bool
  is_start y = some (λ i. not (eqb (get_or marks i 0) 0) && lies_in t i y) 0 t.link.symbols || is_entered t entry y || is_built t y && is_root t y

  -- one of the relocations of section x names a symbol that lies in y
  abbrev pub names_in : ℕ → ℕ → Bool
  names_in x y =
      some (λ j. ltb (cell_at t.sections x 5 + j) t.link.lists && lies_in t (get_or lists (cell_at t.sections x 5 + j) 0) y) 0 (cell_at t.sections x 6)

  -- in at most k rounds
  abbrev pub reached_in : ℕ → ℕ → Bool
  reached_in zero y = is_start y
  reached_in (suc k) y = reached_in k y || some (λ x. is_built t x && reached_in k x && names_in x y) 0 t.link.sections

  -- each round but the last reaches a further built section
  abbrev pub is_reached : ℕ → Bool
  is_reached y = reached_in (suc t.link.sections) y

  -- ---- "Of sections reached but not built, the lowest gives 21"

  -- those in which one of n symbols from the i-th on lies
  abbrev pub unbuilt_from : ℕ → ℕ → List ℕ
  unbuilt_from zero i = []
  unbuilt_from (suc n) i = cond (is_placed t i && is_reached (section_of t i) && not (is_built t (section_of t i))) (section_of t i ∷ unbuilt_from n (i + 1)) (unbuilt_from n (i + 1))

  abbrev pub unbuilt : List ℕ
  unbuilt = unbuilt_from t.link.symbols 0

abbrev pub is_some : List ℕ → Bool
is_some [] = false
is_some (y ∷ ys) = true

-- the lowest of y and ys
abbrev pub lowest_of : ℕ → List ℕ → ℕ
lowest_of y [] = y
lowest_of y (z ∷ zs) = lowest_of (cond (ltb z y) z y) zs

abbrev pub lowest : List ℕ → ℕ
lowest [] = 0
lowest (y ∷ ys) = lowest_of y ys

abbrev pub reached_rules : State → List ℕ → List ℕ → Option SymbolId → List Rule
reached_rules t lists marks entry = (is_some (unbuilt t lists marks entry) gives 21 at lowest (unbuilt t lists marks entry)) ∷ []

abbrev pub collect_rules : State → List ℕ → List ℕ → Option SymbolId → List ℕ → List Rule
collect_rules t lists marks entry work = collect_head t lists marks work ++ reached_rules t lists marks entry

-- ---- request 2026-12: "more such sections than that, after 1, place 0", where such are built and not dropped

abbrev pub plain_head : State → List ℕ → List ℕ → List ℕ → List Rule
plain_head t lists marks work =
    head_rules t.link (lent_rows (length t.names / 9) (length t.bytes) (length t.symbols) (length t.sections / 9) not_lent (length lists))
    ++ ((ltb (length marks) t.link.symbols gives 1 at length marks)
    ∷ (ltb 256 (how_many (λ y. eqb (cell_at t.sections y 0) 2) t.link.sections) gives 30 at 0)
    ∷ (ltb (length work / 2) t.link.sections gives 2 at 0)
    ∷ [])

abbrev pub plain_rules : State → List ℕ → List ℕ → Option SymbolId → List ℕ → List Rule
plain_rules t lists marks entry work = plain_head t lists marks work ++ reached_rules t lists marks entry
