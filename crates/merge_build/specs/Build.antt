-- Document 01, "Objects": uninitialized, then program sections (18, then 19). A section's row is built where it was reserved.
-- Assumes nothing.
use Rattle.std.specs.Prelude.{ℕ, zero, suc, ◌+◌, ◌-◌, ◌≡◌, Bool, true, false, cond, List, eqb, ltb, length, Result}
use Rattle.link.specs.declared.Link.{Link}
use Rattle.link.specs.Stage.{Stage}
use Rattle.link.specs.declared.Interned.{Interned}
use Rattle.link.specs.declared.SectionId.{SectionId}
use Rattle.link.specs.declared.cause.Refusal.{Refusal}
use Rattle.link.specs.Judge.{going_of, stopped_of, stage_as}
use Rattle.link.specs.Counts.{more_lists}
use Rattle.strings.specs.Lookup.{Looked}
use Rattle.interner.specs.Names.{Store, store_of, find_of, fits_of, keep_of}
use Rattle.sections.specs.declared.Section.{Section}
use Rattle.sections.specs.Rows.{built_of}
use Rattle.elf_object.specs.Judge.{range_ok}
use Rattle.elf_object.specs.declared.Object as Elf
use Rattle.elf_object.specs.Rows.{rows_in, name_offset_at, retain_at, read_at, section_size_at, is_loaded, name_in, conversion_at, id_base, mark_at, removed_mark}
use Rattle.merge_build.specs.declared.Source.{Source}
use Rattle.merge_build.specs.declared.Builder.{Builder}
use Rattle.merge_build.specs.Relocations.{table_for, limit_of, relocations_of, symbols_ok, append_from}

-- what is read of the object: headers, lists, bytes, the sections' work rows, the symbols' ids; the section of section names, the loaded
-- symbol table's section and how many symbols it has
pub record Object : Type 0 where
  pub headers : List ℕ
  pub contents : List ℕ
  pub image : List ℕ
  pub work : List ℕ
  pub ids : List ℕ
  pub section_names : ℕ
  pub table : ℕ
  pub symbols : ℕ

abbrev pub object_of : List ℕ → List ℕ → List ℕ → List ℕ → List ℕ → ℕ → ℕ → ℕ → Object
object_of h c f w i s t n = record { headers = h; contents = c; image = f; work = w; ids = i; section_names = s; table = t; symbols = n }

-- as it is lent
abbrev pub object_with : Elf.Object → List ℕ → List ℕ → ℕ → Object
object_with o work ids symbols = object_of o.headers.now o.contents.now o.image.now work ids o.section_names o.table symbols

abbrev pub object_in : Source → Object
object_in s = object_with s.object s.work.now s.ids.now s.symbols

-- the lent cells that the stage writes, with its stage; with a link alone; and those that building a row writes
pub record State : Type 0 where
  pub bytes : List ℕ
  pub names : List ℕ
  pub sections : List ℕ
  pub lists : List ℕ
  pub stage : Stage

pub record LinkState : Type 0 where
  pub bytes : List ℕ
  pub names : List ℕ
  pub sections : List ℕ
  pub lists : List ℕ
  pub link : Link

pub record RowState : Type 0 where
  pub sections : List ℕ
  pub lists : List ℕ
  pub link : Link

abbrev pub state_of : List ℕ → List ℕ → List ℕ → List ℕ → Stage → State
state_of b n s x st = record { bytes = b; names = n; sections = s; lists = x; stage = st }

abbrev pub link_state : List ℕ → List ℕ → List ℕ → List ℕ → Link → LinkState
link_state b n s x l = record { bytes = b; names = n; sections = s; lists = x; link = l }

abbrev pub row_state : List ℕ → List ℕ → Link → RowState
row_state s x l = record { sections = s; lists = x; link = l }

-- ---- what is lent

-- the same cells
abbrev pub same_loans : Builder → Builder → Type 0
same_loans b t =
    (t.bytes.ghost_name ≡ b.bytes.ghost_name) × (t.names.ghost_name ≡ b.names.ghost_name) × (t.sections.ghost_name ≡ b.sections.ghost_name)
    × (t.inputs.ghost_name ≡ b.inputs.ghost_name) × (t.lists.ghost_name ≡ b.lists.ghost_name)

-- before the call, and after it, with its answer
abbrev pub state_before : Builder → State
state_before b = state_of b.bytes.now b.names.now b.sections.now b.lists.now (going_of b.link)

abbrev pub state_after : Builder → Result Unit Refusal → State
state_after b r = state_of b.bytes.now b.names.now b.sections.now b.lists.now (stage_as b.link r)

abbrev pub linked_before : Builder → LinkState
linked_before b = link_state b.bytes.now b.names.now b.sections.now b.lists.now b.link

abbrev pub row_before : Builder → RowState
row_before b = row_state b.sections.now b.lists.now b.link

-- ---- one section

-- room for as many more in a list
abbrev pub lists_fit : ℕ → ℕ → ℕ → Bool
lists_fit used all more = range_ok used more all

-- what is to be done with a section whose name is found: number 0 or its refusal, and the id that the name has or gets
pub record Plan : Type 0 where
  pub number : ℕ
  pub id : Interned

abbrev pub planned : ℕ → Interned → Plan
planned number id = record { number = number; id = id }

-- the name (2), then each relocation's symbol (19), then room for them (2)
unfoldable pub plan_with : Link → List ℕ → List ℕ → ℕ → List ℕ → ℕ → List ℕ → List ℕ → Interned → Plan
plan_with l bytes names lists ids limit relocations x id =
    cond (fits_of (store_of bytes names l) id (length x))
    (cond (symbols_ok ids limit relocations) (cond (lists_fit l.lists lists (length relocations)) (planned 0 id) (planned 2 id)) (planned 19 id))
    (planned 2 id)

unfoldable pub plan_of : Link → List ℕ → List ℕ → ℕ → List ℕ → ℕ → List ℕ → List ℕ → Plan
plan_of l bytes names lists ids limit relocations x =
    plan_with l bytes names lists ids limit relocations x (record { 0 = find_of bytes names l x })

-- the row that was reserved, from the conversion's cell; a section to be built has one, so its cell is at least `idBase`
unfoldable pub section_id_of : ℕ → SectionId
section_id_of cell = cond (ltb cell id_base) (record { 0 = 0 }) (record { 0 = cell - id_base })

abbrev pub section_row : List ℕ → ℕ → ℕ → Interned → ℕ → ℕ → Section
section_row headers n kind id first count =
    record { name = id; kind = kind; retain = retain_at headers n; read = read_at headers n; first = first; count = count; size = section_size_at headers n }

unfoldable pub build_row_of : List ℕ → List ℕ → List ℕ → RowState → List ℕ → Interned → ℕ → ℕ → RowState
build_row_of headers work ids s relocations id n kind =
    cond (lists_fit s.link.lists (length s.lists) (length relocations))
    (row_state (built_of s.sections (section_id_of (conversion_at work n)) (section_row headers n kind id s.link.lists (length relocations)))
    (append_from ids s.lists s.link.lists relocations) (more_lists s.link (length relocations))) s

abbrev pub stop : LinkState → ℕ → ℕ → State
stop s number place = state_of s.bytes s.names s.sections s.lists (stopped_of s.link number place)

abbrev pub row_built : List ℕ → List ℕ → RowState → State
row_built bytes names r = state_of bytes names r.sections r.lists (going_of r.link)

-- the name is issued: 19, or the row
unfoldable pub kept_of : List ℕ → List ℕ → List ℕ → LinkState → Store → List ℕ → ℕ → ℕ → Plan → State
kept_of headers work ids s k relocations n kind p =
    cond (eqb p.number 0)
    (row_built k.bytes k.names (build_row_of headers work ids (row_state s.sections s.lists k.link) relocations p.id n kind))
    (state_of k.bytes k.names s.sections s.lists (stopped_of k.link p.number n))

-- 2 leaves "all at that element"
unfoldable pub commit_of : List ℕ → List ℕ → List ℕ → LinkState → List ℕ → List ℕ → ℕ → ℕ → Plan → State
commit_of headers work ids s relocations x n kind p =
    cond (eqb p.number 2) (stop s 2 n)
    (kept_of headers work ids s (keep_of (store_of s.bytes s.names s.link) p.id x) relocations n kind p)

-- with the relocations of its table
unfoldable pub tabled_of : List ℕ → List ℕ → List ℕ → List ℕ → LinkState → List ℕ → ℕ → ℕ → ℕ → ℕ → ℕ → State
tabled_of headers contents work ids s x t symbols n kind table =
    commit_of headers work ids s (relocations_of headers contents table) x n kind
    (plan_of s.link s.bytes s.names (length s.lists) ids (limit_of headers table t symbols) (relocations_of headers contents table) x)

unfoldable pub section_named : List ℕ → List ℕ → List ℕ → List ℕ → LinkState → List ℕ → ℕ → ℕ → ℕ → ℕ → State
section_named headers contents work ids s x t symbols n kind = tabled_of headers contents work ids s x t symbols n kind (table_for work n kind)

-- of that kind, not excluded, and not removed with a repeated group
unfoldable pub built_from : List ℕ → List ℕ → ℕ → ℕ → Bool
built_from headers work n kind = cond (is_loaded headers n kind) (cond (eqb (mark_at work n) removed_mark) false true) false

abbrev pub linked : State → LinkState
linked s = link_state s.bytes s.names s.sections s.lists s.stage.link

-- of what is lent: the symbols of section n's relocations, how many symbols they can name, the row of section n, and the section once its name is found
abbrev pub relocations_in : Source → ℕ → ℕ → List ℕ
relocations_in s n kind = relocations_of s.object.headers.now s.object.contents.now (table_for s.work.now n kind)

abbrev pub limit_in : Source → ℕ → ℕ → ℕ
limit_in s n kind = limit_of s.object.headers.now (table_for s.work.now n kind) s.object.table s.symbols

abbrev pub row_in : Source → RowState → List ℕ → Interned → ℕ → ℕ → RowState
row_in s r symbols name n kind = build_row_of s.object.headers.now s.work.now s.ids.now r symbols name n kind

abbrev pub named_in : Source → LinkState → List ℕ → ℕ → ℕ → State
named_in s l x n kind =
    section_named s.object.headers.now s.object.contents.now s.work.now s.ids.now l x s.object.table s.symbols n kind

-- "section name missing" 18
unfoldable pub looked_of : Object → State → ℕ → ℕ → Looked → State
looked_of o s n kind x =
    cond x.found (section_named o.headers o.contents o.work o.ids (linked s) x.name o.table o.symbols n kind)
    (stop (linked s) 18 n)

-- "a skipped section's isn't read"
unfoldable pub section_of : Object → State → ℕ → ℕ → State
section_of o s n kind =
    cond (built_from o.headers o.work n kind)
    (looked_of o s n kind (name_in o.headers o.image o.section_names (name_offset_at o.headers n))) s

-- k sections from the n-th on, up to the first refusal
unfoldable pub build_from : Object → ℕ → ℕ → ℕ → State → State
build_from o kind zero n s = s
build_from o kind (suc k) n s =
    cond (eqb (section_of o s n kind).stage.number 0) (build_from o kind k (n + 1) (section_of o s n kind)) (section_of o s n kind)

unfoldable pub build_of : Object → State → ℕ → State
build_of o s kind = build_from o kind (rows_in o.headers) 0 s
