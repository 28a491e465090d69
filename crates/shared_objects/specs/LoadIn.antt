-- The load over what the code's structs hold: the definitions of Load at a library.
-- Assumes nothing.
use Rattle.std.specs.Prelude.{ℕ, List, length}
use Rattle.link.specs.declared.Lent.{Lent}
use Rattle.link.specs.Counts.{lent_of}
use Rattle.shared_objects.specs.declared.Library.{Library}
use Rattle.shared_objects.specs.declared.Loading.{Loading}
use Rattle.shared_objects.specs.Need.{Judged}
use Rattle.shared_objects.specs.Library.{sonamed_in, soname_in}
use Rattle.shared_objects.specs.Load.{All, all_of, Input, input_as, Left, want_of, library_named}

abbrev pub want_of_in : Loading → List ℕ → Library → List ℕ → Judged
want_of_in s marks o x =
    want_of o.as_needed s.link s.bytes.now s.names.now s.symbols.now s.inputs.now s.lists.now marks o.entries.now o.file.now x

abbrev pub named_of_in : Library → All → List ℕ → Left
named_of_in o a x = library_named o.entries.now o.file.now o.needs.now o.as_needed a x

-- what is lent, with the marks, and its lengths as the checks count them
abbrev pub all_in : Loading → List ℕ → All
all_in s marks = all_of s.bytes.now s.names.now s.symbols.now s.sections.now s.inputs.now s.lists.now marks s.link

abbrev pub lent_in : Loading → Lent
lent_in s =
    lent_of (length s.names.now) (length s.bytes.now) (length s.symbols.now) (length s.sections.now) (length s.inputs.now) (length s.lists.now)

abbrev pub input_in : Library → Input
input_in o =
    input_as o.entries.now o.file.now o.needs.now o.path.now o.archived (sonamed_in o.soname) (soname_in o.soname) o.as_needed
