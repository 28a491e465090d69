-- Document 01, "Shared objects": "Needed: it defines, global or weak, a name undefined and strong in the table, or one that an earlier loaded
-- library, not listing it as a dependency, names by an undefined symbol of binding 1, since defined or not."
-- Assumes nothing.
use Rattle.std.specs.Prelude.{ℕ, zero, suc, ◌+◌, Bool, true, false, cond, List, [], ◌∷◌, eqb, leb, get_or, set}
use Rattle.gabi.specs.SymbolTable.{stb_global, stb_weak, shn_undef}
use Rattle.byte_slices.specs.Bytes.{part}
use Rattle.strings.specs.Lookup.{Looked, look_up}
use Rattle.link.specs.declared.Link.{Link}
use Rattle.interner.specs.Names.{find_of}
use Rattle.symbol_resolution.specs.declared.rows.Holder.{Holder}
use Rattle.symbol_resolution.specs.declared.rows.Holder.TheVariants.{Unissued, Nobody, Removed, Known}
use Rattle.symbol_resolution.specs.Holder.{holder_of}
use Rattle.symbol_resolution.specs.RowsUndefined.{strong_undefined}
use Rattle.elf_object.specs.Rows.{rows_in, field, elf_at}
use Rattle.cells.specs.Search.{any_from}
use Rattle.shared_objects.specs.Lists.{has_id}

-- the soname, else the library name
unfoldable pub library_name : List ℕ → List ℕ → Bool → ℕ → List ℕ
library_name image path sonamed soname = cond sonamed (look_up image soname).name path

-- ---- an input's row: its kind, the library's name, and where its dependencies and its undefined names of binding 1 lie in the lists: the first and how
-- many

abbrev pub kind_field : ℕ
kind_field = 0

-- a library; an object is 1
abbrev pub library_kind : ℕ
library_kind = 2

abbrev pub dependencies_field : ℕ
dependencies_field = 2

abbrev pub dependency_count_field : ℕ
dependency_count_field = 3

abbrev pub undefined_field : ℕ
undefined_field = 4

abbrev pub undefined_count_field : ℕ
undefined_count_field = 5

abbrev pub input_kind_at : List ℕ → ℕ → ℕ
input_kind_at inputs k = field inputs k kind_field

abbrev pub dependencies_at : List ℕ → List ℕ → ℕ → List ℕ
dependencies_at inputs lists k = part lists (field inputs k dependencies_field) (field inputs k dependency_count_field)

abbrev pub undefined_at : List ℕ → List ℕ → ℕ → List ℕ
undefined_at inputs lists k = part lists (field inputs k undefined_field) (field inputs k undefined_count_field)

-- ---- the marks: a cell for each name; of the names that the library provides it is 1 where an earlier library lacks it

-- a name that isn't issued is in nobody's dependencies
unfoldable pub depends_on : List ℕ → ℕ → ℕ → Bool
depends_on dependencies id count = cond (leb count id) false (has_id dependencies id)

unfoldable pub mark_names : List ℕ → List ℕ → List ℕ
mark_names marks [] = marks
mark_names marks (n ∷ part) = mark_names (set marks n 1) part

-- what input k lacks, for the library named id
unfoldable pub mark_library : List ℕ → List ℕ → ℕ → ℕ → ℕ → List ℕ → List ℕ
mark_library inputs lists id count k marks =
    cond (eqb (input_kind_at inputs k) library_kind)
    (cond (depends_on (dependencies_at inputs lists k) id count) marks (mark_names marks (undefined_at inputs lists k))) marks

-- n inputs from the k-th on
unfoldable pub mark_from : List ℕ → List ℕ → ℕ → ℕ → ℕ → ℕ → List ℕ → List ℕ
mark_from inputs lists id count zero k marks = marks
mark_from inputs lists id count (suc n) k marks = mark_from inputs lists id count n (k + 1) (mark_library inputs lists id count k marks)

unfoldable pub mark_all : List ℕ → List ℕ → ℕ → ℕ → ℕ → List ℕ → List ℕ
mark_all inputs lists id count rows marks = mark_from inputs lists id count rows 0 marks

-- ---- the library's symbols

-- "it defines, global or weak"
unfoldable pub provides : List ℕ → ℕ → Bool
provides entries i =
    cond (eqb (elf_at entries i).section shn_undef) false
    (cond (eqb (elf_at entries i).binding stb_global) true (cond (eqb (elf_at entries i).binding stb_weak) true false))

-- the marks of the names that it provides are cleared first: no others are read, whatever they held before
unfoldable pub clear_named : List ℕ → List ℕ → Link → Looked → List ℕ → List ℕ
clear_named bytes names l x marks = cond x.found (set marks (find_of bytes names l x.name) 0) marks

unfoldable pub clear_mark : List ℕ → List ℕ → Link → List ℕ → List ℕ → ℕ → List ℕ → List ℕ
clear_mark bytes names l entries image i marks =
    cond (provides entries i) (clear_named bytes names l (look_up image (field entries i 0)) marks) marks

-- n symbols from the i-th on
unfoldable pub clear_from : List ℕ → List ℕ → Link → List ℕ → List ℕ → ℕ → ℕ → List ℕ → List ℕ
clear_from bytes names l entries image zero i marks = marks
clear_from bytes names l entries image (suc n) i marks =
    clear_from bytes names l entries image n (i + 1) (clear_mark bytes names l entries image i marks)

unfoldable pub clear_all : List ℕ → List ℕ → Link → List ℕ → List ℕ → List ℕ → List ℕ
clear_all bytes names l entries image marks = clear_from bytes names l entries image (rows_in entries) 0 marks

abbrev pub lacked_by : List ℕ → Holder → Bool
lacked_by symbols Unissued = false
lacked_by symbols Nobody = false
lacked_by symbols Removed = false
lacked_by symbols (Known id) = strong_undefined symbols id

-- a name by its id
unfoldable pub wanted_in : Link → List ℕ → List ℕ → List ℕ → ℕ → Bool
wanted_in l names symbols marks id =
    cond (leb l.names id) false
    (cond (eqb (get_or marks id 0) 1) true (lacked_by symbols (holder_of l names symbols (record { 0 = id }))))

-- what is read to judge a symbol
pub record View : Type 0 where
  pub bytes : List ℕ
  pub names : List ℕ
  pub symbols : List ℕ
  pub marks : List ℕ
  pub link : Link

abbrev pub view_of : List ℕ → List ℕ → List ℕ → List ℕ → Link → View
view_of b n s m l = record { bytes = b; names = n; symbols = s; marks = m; link = l }

unfoldable pub name_wanted : View → Looked → Bool
name_wanted v x =
    cond x.found (wanted_in v.link v.names v.symbols v.marks (find_of v.bytes v.names v.link x.name)) false

unfoldable pub symbol_wanted : View → List ℕ → List ℕ → ℕ → Bool
symbol_wanted v entries image i = cond (provides entries i) (name_wanted v (look_up image (field entries i 0))) false

unfoldable pub some_wanted : View → List ℕ → List ℕ → Bool
some_wanted v entries image = any_from (symbol_wanted v entries image) 0 (rows_in entries)

-- ---- the judgement, with what the marks hold after it

pub record Judged : Type 0 where
  pub marks : List ℕ
  pub needed : Bool

abbrev pub judged_as : List ℕ → Bool → Judged
judged_as m b = record { marks = m; needed = b }

unfoldable pub marked_of : Link → List ℕ → List ℕ → List ℕ → List ℕ → List ℕ → List ℕ → Judged
marked_of l bytes names symbols marks entries image =
    judged_as marks (some_wanted (view_of bytes names symbols marks l) entries image)

unfoldable pub need_of : Link → List ℕ → List ℕ → List ℕ → List ℕ → List ℕ → List ℕ → List ℕ → List ℕ → List ℕ → Judged
need_of l bytes names symbols inputs lists marks entries image x =
    marked_of l bytes names symbols
    (mark_all inputs lists (find_of bytes names l x) l.names l.inputs (clear_all bytes names l entries image marks)) entries image
