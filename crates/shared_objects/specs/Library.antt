-- Head and need over what the code's structs hold: the definitions of Head and Need at a library and at the rows of a link.
-- Assumes nothing.
use Rattle.std.specs.Prelude.{ℕ, Bool, true, false, List, length, Option, None, Some}
use Rattle.link.specs.declared.Link.{Link}
use Rattle.link.specs.declared.Lent.{Lent}
use Rattle.link.specs.declared.cause.Refusal.{Refusal}
use Rattle.strings.specs.Lookup.{look_up}
use Rattle.strings.specs.Contract.{StringExit, StringMeets}
use Rattle.elf_object.specs.Rows.{field}
use Rattle.elf_object.specs.Judge.{found_below}
use Rattle.shared_objects.specs.declared.Library.{Library}
use Rattle.shared_objects.specs.declared.Loading.{Loading}
use Rattle.shared_objects.specs.Head.{bad_need, soname_missing, rows_of, name_refusal, check_of}
use Rattle.shared_objects.specs.Need.{view_of, Judged, library_name, mark_library, mark_all, provides, clear_mark, clear_all, wanted_in, symbol_wanted, some_wanted, need_of}

-- ---- the library

-- whether it has a soname, and its offset
abbrev pub sonamed_in : Option ℕ → Bool
sonamed_in None = false
sonamed_in (Some k) = true

abbrev pub soname_in : Option ℕ → ℕ
soname_in None = 0
soname_in (Some k) = k

abbrev pub bad_need_in : Library → Option ℕ
bad_need_in o = found_below (length o.needs.now) (bad_need o.file.now o.needs.now)

abbrev pub soname_missing_in : Library → Bool
soname_missing_in o = soname_missing o.file.now (sonamed_in o.soname) (soname_in o.soname)

abbrev pub rows_refusal_in : Library → Refusal
rows_refusal_in o = rows_of o.entries.now o.file.now o.needs.now (sonamed_in o.soname) (soname_in o.soname)

abbrev pub name_refusal_in : Library → Link → ℕ → Refusal
name_refusal_in o l marks = name_refusal l o.archived (sonamed_in o.soname) o.as_needed marks

abbrev pub check_in : Library → Link → Lent → ℕ → Refusal
check_in o l lent marks =
    check_of l lent o.entries.now o.file.now o.needs.now o.archived (sonamed_in o.soname) (soname_in o.soname) o.as_needed marks

abbrev pub library_name_in : Library → List ℕ
library_name_in o = library_name o.file.now o.path.now (sonamed_in o.soname) (soname_in o.soname)

-- the name at an offset, the empty one where there is none; and symbol i's
abbrev pub name_at_in : Library → ℕ → List ℕ
name_at_in o offset = (look_up o.file.now offset).name

abbrev pub NameMeets : Library → ℕ → StringExit → Type 0
NameMeets o i e = StringMeets o.file.now (field o.entries.now i 0) e

abbrev pub provides_in : Library → ℕ → Bool
provides_in o i = provides o.entries.now i

-- ---- need

abbrev pub mark_library_in : Loading → ℕ → ℕ → List ℕ → List ℕ
mark_library_in s id k marks = mark_library s.inputs.now s.lists.now id s.link.names k marks

abbrev pub mark_all_in : Loading → ℕ → List ℕ → List ℕ
mark_all_in s id marks = mark_all s.inputs.now s.lists.now id s.link.names s.link.inputs marks

abbrev pub wanted_name_in : Loading → List ℕ → ℕ → Bool
wanted_name_in s marks id = wanted_in s.link s.names.now s.symbols.now marks id

abbrev pub symbol_wanted_in : Loading → List ℕ → Library → ℕ → Bool
symbol_wanted_in s marks o i = symbol_wanted (view_of s.bytes.now s.names.now s.symbols.now marks s.link) o.entries.now o.file.now i

abbrev pub some_wanted_in : Loading → List ℕ → Library → Bool
some_wanted_in s marks o = some_wanted (view_of s.bytes.now s.names.now s.symbols.now marks s.link) o.entries.now o.file.now

abbrev pub clear_mark_in : Loading → Library → ℕ → List ℕ → List ℕ
clear_mark_in s o i marks = clear_mark s.bytes.now s.names.now s.link o.entries.now o.file.now i marks

abbrev pub clear_all_in : Loading → Library → List ℕ → List ℕ
clear_all_in s o marks = clear_all s.bytes.now s.names.now s.link o.entries.now o.file.now marks

abbrev pub need_of_in : Loading → List ℕ → Library → List ℕ → Judged
need_of_in s marks o x =
    need_of s.link s.bytes.now s.names.now s.symbols.now s.inputs.now s.lists.now marks o.entries.now o.file.now x
