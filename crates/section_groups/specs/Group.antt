-- Groups of sections: a group lists one section or more, and one whose signature was met before removes them all. Its refusals, in this order: 4, 5, 29, 6,
-- 7, then 2.
-- Assumes nothing.
use Rattle.std.specs.Prelude.{ℕ, zero, suc, ◌+◌, ◌*◌, ◌≡◌, Bool, true, false, cond, not, List, eqb, ltb, leb, get_or, set, take, drop, length, Result}
use Rattle.cells.specs.Rows.{row_width}
use Rattle.link.specs.declared.Link.{Link}
use Rattle.link.specs.declared.Interned.{Interned}
use Rattle.link.specs.declared.cause.Refusal.{Refusal}
use Rattle.link.specs.Stage.{Stage}
use Rattle.link.specs.Judge.{going_of, stopped_of, stage_as}
use Rattle.strings.specs.Lookup.{Looked, looked}
use Rattle.strings.specs.Contract.{StringExit}
use Rattle.interner.specs.Names.{Store, store_of, find_of, fits_of, keep_of}
use Rattle.elf_object.specs.Kinds.{group}
use Rattle.elf_object.specs.Rows.{rows_in, comdat_at, link_at, info_at, first_at, count_at, is_loaded, name_in, entry_name_at, mark_at, with_mark, group_mark, removed_mark, listed_at, with_listed}
use Rattle.elf_object.specs.Judge.{first_bad}
use Rattle.cells.specs.Slice.{Slice, SliceMut}
use Rattle.elf_object.specs.declared.Object as Declared
use Rattle.section_groups.specs.declared.Grouping.{Grouping}

-- what is read of the object: its headers, the loaded symbol table's entries, lists, bytes, and that table's section
pub record Object : Type 0 where
  pub headers : List ℕ
  pub entries : List ℕ
  pub contents : List ℕ
  pub image : List ℕ
  pub table : ℕ

abbrev pub object_of : List ℕ → List ℕ → List ℕ → List ℕ → ℕ → Object
object_of h e c f t = record { headers = h; entries = e; contents = c; image = f; table = t }

-- as it is lent, whole or by its slices
abbrev pub object_in : Declared.Object → Object
object_in o = object_of o.headers.now o.entries.now o.contents.now o.image.now o.table

abbrev pub object_lent : Slice → Slice → Slice → Slice → ℕ → Object
object_lent h e c f t = object_of h.entry.now e.entry.now c.entry.now f.entry.now t

-- the lent cells that a group writes, with the link; and with a stage
pub record State : Type 0 where
  pub bytes : List ℕ
  pub names : List ℕ
  pub work : List ℕ
  pub link : Link

pub record Step : Type 0 where
  pub bytes : List ℕ
  pub names : List ℕ
  pub work : List ℕ
  pub stage : Stage

abbrev pub state_of : List ℕ → List ℕ → List ℕ → Link → State
state_of b n w l = record { bytes = b; names = n; work = w; link = l }

-- of lent slices before the call
abbrev pub state_lent : SliceMut → SliceMut → SliceMut → Link → State
state_lent b n w l = state_of b.entry.now n.entry.now w.entry.now l

abbrev pub step_of : List ℕ → List ℕ → List ℕ → Stage → Step
step_of b n w s = record { bytes = b; names = n; work = w; stage = s }

-- the same cells are lent
abbrev pub same_loans : Grouping → Grouping → Type 0
same_loans g t = (t.bytes.ghost_name ≡ g.bytes.ghost_name) × (t.names.ghost_name ≡ g.names.ghost_name) × (t.work.ghost_name ≡ g.work.ghost_name)

-- what is lent before the call, and after it, with its answer
abbrev pub state_before : Grouping → State
state_before g = state_of g.bytes.now g.names.now g.work.now g.link

abbrev pub step_before : Grouping → Step
step_before g = step_of g.bytes.now g.names.now g.work.now (going_of g.link)

abbrev pub step_after : Grouping → Result Unit Refusal → Step
step_after g r = step_of g.bytes.now g.names.now g.work.now (stage_as g.link r)

abbrev pub stop : State → ℕ → ℕ → Step
stop s number place = step_of s.bytes s.names s.work (stopped_of s.link number place)

abbrev pub go : State → Step
go s = step_of s.bytes s.names s.work (going_of s.link)

-- the sections that group n lists
abbrev pub listed_in : Object → ℕ → List ℕ
listed_in o n = take (count_at o.headers n) (drop (first_at o.headers n) o.contents)

-- the number is no section of the object, or one that no earlier group of it lists
unfoldable pub is_fresh : List ℕ → ℕ → ℕ → Bool
is_fresh work sections x = cond (ltb x sections) (not (eqb (listed_at work x) 1)) true

-- f holds of each of the list
abbrev pub each : (ℕ → Bool) → List ℕ → Bool
each f xs = leb (length xs) (first_bad (λ i. f (get_or xs i 0)) 0 (length xs))

unfoldable pub all_fresh : List ℕ → ℕ → List ℕ → Bool
all_fresh work sections xs = each (is_fresh work sections) xs

unfoldable pub all_marked : ℕ → List ℕ → Bool
all_marked marks xs = each (λ x. ltb x marks) xs

-- the signature's symbol is not in the loaded table
abbrev pub symbol_refusal : Object → ℕ → ℕ
symbol_refusal o n = cond (eqb (link_at o.headers n) o.table) (cond (leb (rows_in o.entries) (info_at o.headers n)) 6 0) 6

-- not COMDAT; no section listed; one listed that an earlier group of the object lists too
unfoldable pub shape_of : Object → List ℕ → ℕ → ℕ
shape_of o work n =
    cond (eqb (comdat_at o.headers n) 0) 4
    (cond (eqb (count_at o.headers n) 0) 5 (cond (all_fresh work (rows_in o.headers) (listed_in o n)) (symbol_refusal o n) 29))

-- the name of the signature's symbol, in the string section that the table links to
unfoldable pub signature_of : List ℕ → List ℕ → List ℕ → ℕ → ℕ → Looked
signature_of headers entries image t n = name_in headers image (link_at headers t) (entry_name_at entries (info_at headers n))

-- a name that is handed back, or none, against its definition
abbrev pub SignatureMeets : Object → ℕ → StringExit → Type 0
SignatureMeets o n e = looked e.result e.found ≡ signature_of o.headers o.entries o.image o.table n

-- the cell of a name's row that has 1 where a group of that signature is loaded
abbrev pub signature_cell : ℕ → ℕ
signature_cell id = id * row_width + 4

abbrev pub with_signature : List ℕ → ℕ → List ℕ
with_signature names id = set names (signature_cell id) 1

unfoldable pub repeated_of : List ℕ → ℕ → ℕ → Bool
repeated_of names count id = cond (leb count id) false (cond (eqb (get_or names (signature_cell id) 0) 1) true false)

-- what a group with a signature does: number 0 or its refusal, the id that the signature has or gets, and whether it was met before
pub record Plan : Type 0 where
  pub number : ℕ
  pub signature : Interned
  pub repeated : Bool

abbrev pub planned : ℕ → ℕ → Bool → Plan
planned number id repeated = record { number = number; signature = record { 0 = id }; repeated = repeated }

-- a mark for each removed section
unfoldable pub mark_refusal : Bool → ℕ → List ℕ → ℕ
mark_refusal repeated marks listed = cond repeated (cond (all_marked marks listed) 0 2) 0

unfoldable pub plan_with : Store → ℕ → ℕ → List ℕ → ℕ → Bool → Plan
plan_with s marks len listed id repeated =
    cond (fits_of s (record { 0 = id }) len) (planned (mark_refusal repeated marks listed) id repeated) (planned 2 id repeated)

unfoldable pub plan_of : Link → List ℕ → List ℕ → ℕ → List ℕ → List ℕ → Plan
plan_of l bytes names marks x listed =
    plan_with (store_of bytes names l) marks (length x) listed (find_of bytes names l x)
    (repeated_of names l.names (find_of bytes names l x))

-- it defines a group; one that is removed stays so
unfoldable pub mark_group_of : List ℕ → ℕ → List ℕ
mark_group_of work n = cond (eqb (mark_at work n) removed_mark) work (with_mark work n group_mark)

-- a listed section, removed with a repeated group
unfoldable pub mark_one : List ℕ → Bool → ℕ → List ℕ
mark_one work repeated x = with_listed (cond repeated (with_mark work x removed_mark) work) x

-- the n of the list from the i-th on
unfoldable pub mark_from : Bool → List ℕ → ℕ → ℕ → List ℕ → List ℕ
mark_from repeated xs i zero work = work
mark_from repeated xs i (suc n) work = mark_from repeated xs (i + 1) n (mark_one work repeated (get_or xs i 0))

abbrev pub mark_all : List ℕ → Bool → List ℕ → List ℕ
mark_all work repeated xs = mark_from repeated xs 0 (length xs) work

abbrev pub group_committed : Store → List ℕ → Plan → ℕ → List ℕ → State
group_committed k work p n listed = state_of k.bytes (with_signature k.names p.signature.0) (mark_all (mark_group_of work n) p.repeated listed) k.link

unfoldable pub commit_group_of : State → List ℕ → Plan → ℕ → List ℕ → State
commit_group_of s x p n listed = group_committed (keep_of (store_of s.bytes s.names s.link) p.signature x) s.work p n listed

unfoldable pub decided_of : State → List ℕ → ℕ → List ℕ → Plan → Step
decided_of s x n listed p = cond (eqb p.number 0) (go (commit_group_of s x p n listed)) (stop s p.number n)

unfoldable pub group_named : State → List ℕ → ℕ → List ℕ → Step
group_named s x n listed = decided_of s x n listed (plan_of s.link s.bytes s.names (rows_in s.work) x listed)

-- "signature string missing" 7
unfoldable pub signed_of : Object → State → ℕ → Looked → Step
signed_of o s n x = cond x.found (group_named s x.name n (listed_in o n)) (stop s 7 n)

unfoldable pub shaped_of : Object → State → ℕ → ℕ → Step
shaped_of o s n number =
    cond (eqb number 0) (signed_of o s n (signature_of o.headers o.entries o.image o.table n)) (stop s number n)

unfoldable pub group_of : Object → State → ℕ → Step
group_of o s n = shaped_of o s n (shape_of o s.work n)

-- a group section that isn't excluded
unfoldable pub group_section_of : Object → Step → ℕ → Step
group_section_of o s n =
    cond (is_loaded o.headers n group) (group_of o (state_of s.bytes s.names s.work s.stage.link) n) s

-- k sections from the n-th on, up to the first refusal
unfoldable pub groups_from : Object → ℕ → ℕ → Step → Step
groups_from o zero n s = s
groups_from o (suc k) n s =
    cond (eqb (group_section_of o s n).stage.number 0) (groups_from o k (n + 1) (group_section_of o s n)) (group_section_of o s n)

unfoldable pub groups_of : Object → Step → Step
groups_of o s = groups_from o (rows_in o.headers) 0 s
