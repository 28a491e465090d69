-- A library that is loaded: its name (2 at 0), its symbols in order, its dependencies (2 at their rows), its row: "An input's row is taken last
-- (2, place 0)".
-- Assumes nothing.
use Rattle.std.specs.Prelude.{ℕ, ◌-◌, cond, List, [], ◌∷◌, eqb, ltb, length, Result}
use Rattle.cells.specs.Rows.{put_row}
use Rattle.link.specs.declared.Link.{Link}
use Rattle.link.specs.Stage.{Stage}
use Rattle.link.specs.declared.Interned.{Interned}
use Rattle.link.specs.Bounds.{input_rows}
use Rattle.link.specs.declared.cause.Refusal.{Refusal}
use Rattle.link.specs.Judge.{going_of, stopped_of, stage_as}
use Rattle.link.specs.Counts.{more_inputs}
use Rattle.interner.specs.Names.{Store, store_of, find_of, fits_of, keep_of}
use Rattle.shared_objects.specs.Need.{library_kind}
use Rattle.shared_objects.specs.Record.{Recorded, recorded_of, dependencies_of}
use Rattle.shared_objects.specs.SymbolsLoad.{State, state_of, symbols_of}
use Rattle.shared_objects.specs.declared.Loading.{Loading}
use Rattle.shared_objects.specs.declared.Library.{Library}

-- ---- the library's row, with the inputs

pub record InputLinks : Type 0 where
  pub inputs : List ℕ
  pub stage : Stage

abbrev pub input_links : List ℕ → Stage → InputLinks
input_links i st = record { inputs = i; stage = st }

-- what is lent after a call with its answer
abbrev pub input_after : Loading → Result Unit Refusal → InputLinks
input_after s r = input_links s.inputs.now (stage_as s.link r)

-- its kind; the name; dependencies, which lie from middle up to end, and undefined names, from first up to middle: each the first and how many
abbrev pub library_cells : ℕ → ℕ → ℕ → ℕ → List ℕ
library_cells name first middle end = library_kind ∷ name ∷ middle ∷ (end - middle) ∷ first ∷ (middle - first) ∷ 0 ∷ 0 ∷ []

unfoldable pub library_row_of : List ℕ → Link → Interned → ℕ → ℕ → InputLinks
library_row_of inputs l id first middle =
    cond (ltb l.inputs (input_rows (length inputs)))
    (input_links (put_row inputs l.inputs (library_cells id.0 first middle l.lists)) (going_of (more_inputs l)))
    (input_links inputs (stopped_of l 2 0))

-- ---- the dependencies, and then that row

pub record ListLinks : Type 0 where
  pub bytes : List ℕ
  pub names : List ℕ
  pub inputs : List ℕ
  pub lists : List ℕ
  pub stage : Stage

abbrev pub list_links : List ℕ → List ℕ → List ℕ → List ℕ → Stage → ListLinks
list_links b n i l st = record { bytes = b; names = n; inputs = i; lists = l; stage = st }

-- what is lent before a call, and after it with its answer
abbrev pub lists_before : Loading → ListLinks
lists_before s = list_links s.bytes.now s.names.now s.inputs.now s.lists.now (going_of s.link)

abbrev pub lists_after : Loading → Result Unit Refusal → ListLinks
lists_after s r = list_links s.bytes.now s.names.now s.inputs.now s.lists.now (stage_as s.link r)

abbrev pub with_input : Recorded → InputLinks → ListLinks
with_input r i = list_links r.bytes r.names i.inputs r.lists i.stage

unfoldable pub input_stage : List ℕ → Recorded → Interned → ℕ → ℕ → ListLinks
input_stage inputs r id first middle =
    cond (eqb r.stage.number 0) (with_input r (library_row_of inputs r.stage.link id first middle))
    (list_links r.bytes r.names inputs r.lists r.stage)

unfoldable pub lists_of : List ℕ → List ℕ → ListLinks → Interned → ℕ → ListLinks
lists_of image needs s id first =
    input_stage s.inputs (dependencies_of image needs (recorded_of s.bytes s.names s.lists (going_of s.stage.link))) id first
    s.stage.link.lists

-- ---- the symbols, and then those

pub record Links : Type 0 where
  pub bytes : List ℕ
  pub names : List ℕ
  pub symbols : List ℕ
  pub sections : List ℕ
  pub inputs : List ℕ
  pub lists : List ℕ
  pub stage : Stage

abbrev pub links_of : List ℕ → List ℕ → List ℕ → List ℕ → List ℕ → List ℕ → Stage → Links
links_of b n s x i l st = record { bytes = b; names = n; symbols = s; sections = x; inputs = i; lists = l; stage = st }

-- what is lent before a call, and after it with its answer
abbrev pub links_before : Loading → Links
links_before s = links_of s.bytes.now s.names.now s.symbols.now s.sections.now s.inputs.now s.lists.now (going_of s.link)

abbrev pub links_after : Loading → Result Unit Refusal → Links
links_after s r = links_of s.bytes.now s.names.now s.symbols.now s.sections.now s.inputs.now s.lists.now (stage_as s.link r)

abbrev pub with_lists : State → ListLinks → Links
with_lists s r = links_of r.bytes r.names s.symbols s.sections r.inputs r.lists r.stage

unfoldable pub list_stage : List ℕ → List ℕ → List ℕ → State → Interned → ℕ → Links
list_stage image needs inputs s id first =
    cond (eqb s.stage.number 0)
    (with_lists s (lists_of image needs (list_links s.bytes s.names inputs s.lists (going_of s.stage.link)) id first))
    (links_of s.bytes s.names s.symbols s.sections inputs s.lists s.stage)

unfoldable pub contents_of : List ℕ → List ℕ → List ℕ → Links → Interned → Links
contents_of entries image needs s id =
    list_stage image needs s.inputs
    (symbols_of entries image (state_of s.bytes s.names s.symbols s.sections s.lists s.stage)) id
    s.stage.link.lists

-- of what is lent
abbrev pub contents_in : Library → Links → Interned → Links
contents_in o s id = contents_of o.entries.now o.file.now o.needs.now s id

-- ---- the name, and then all

abbrev pub with_name : Links → Store → Stage → Links
with_name s k stage = links_of k.bytes k.names s.symbols s.sections s.inputs s.lists stage

unfoldable pub kept_of : List ℕ → List ℕ → List ℕ → Links → Store → Interned → Links
kept_of entries image needs s k id = contents_of entries image needs (with_name s k (going_of k.link)) id

abbrev pub stop : Links → ℕ → ℕ → Links
stop s number place =
    links_of s.bytes s.names s.symbols s.sections s.inputs s.lists (stopped_of s.stage.link number place)

unfoldable pub issued_of : List ℕ → List ℕ → List ℕ → Links → List ℕ → Interned → Links
issued_of entries image needs s x id =
    cond (fits_of (store_of s.bytes s.names s.stage.link) id (length x))
    (kept_of entries image needs s (keep_of (store_of s.bytes s.names s.stage.link) id x) id) (stop s 2 0)

unfoldable pub library_of : List ℕ → List ℕ → List ℕ → Links → List ℕ → Links
library_of entries image needs s x =
    issued_of entries image needs s x (record { 0 = find_of s.bytes s.names s.stage.link x })

-- of what is lent
abbrev pub loaded_in : Library → Links → List ℕ → Links
loaded_in o s x = library_of o.entries.now o.file.now o.needs.now s x
