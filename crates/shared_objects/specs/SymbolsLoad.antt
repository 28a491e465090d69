-- The symbols of a shared object, in order up to the first refusal: 9; those it defines are added, a local one too; the names of its undefined
-- ones of binding 1 are recorded; of the others only the name must be found.
-- Assumes nothing.
use Rattle.std.specs.Prelude.{ℕ, zero, suc, ◌+◌, cond, List, eqb, Result}
use Rattle.gabi.specs.SymbolTable.{stb_global, shn_undef}
use Rattle.strings.specs.Lookup.{Looked, look_up}
use Rattle.link.specs.Stage.{Stage}
use Rattle.link.specs.declared.cause.Refusal.{Refusal}
use Rattle.link.specs.Judge.{going_of, stopped_of, stage_as}
use Rattle.elf_object.specs.Rows.{rows_in, field, elf_at}
use Rattle.shared_objects.specs.Record.{Recorded, recorded_of, record_of}
use Rattle.shared_objects.specs.declared.Loading.{Loading}
use Rattle.shared_objects.specs.Define.{Added, added_of, define_of}

-- the lent cells that the symbols write, and the stage
pub record State : Type 0 where
  pub bytes : List ℕ
  pub names : List ℕ
  pub symbols : List ℕ
  pub sections : List ℕ
  pub lists : List ℕ
  pub stage : Stage

abbrev pub state_of : List ℕ → List ℕ → List ℕ → List ℕ → List ℕ → Stage → State
state_of b n s x l st = record { bytes = b; names = n; symbols = s; sections = x; lists = l; stage = st }

-- what is lent before a call, and after it with its answer
abbrev pub state_before : Loading → State
state_before s = state_of s.bytes.now s.names.now s.symbols.now s.sections.now s.lists.now (going_of s.link)

abbrev pub state_after : Loading → Result Unit Refusal → State
state_after s r = state_of s.bytes.now s.names.now s.symbols.now s.sections.now s.lists.now (stage_as s.link r)

abbrev pub with_added : State → Added → State
with_added s a = state_of a.bytes a.names a.symbols a.sections s.lists a.stage

abbrev pub with_recorded : State → Recorded → State
with_recorded s r = state_of r.bytes r.names s.symbols s.sections r.lists r.stage

abbrev pub staged : State → Stage → State
staged s st = state_of s.bytes s.names s.symbols s.sections s.lists st

-- one that is undefined is recorded if it is global, else nothing is done; any other is added
unfoldable pub library_symbol_named : List ℕ → State → List ℕ → ℕ → State
library_symbol_named entries s x i =
    cond (eqb (elf_at entries i).section shn_undef)
    (cond (eqb (elf_at entries i).binding stb_global)
    (with_recorded s (record_of (recorded_of s.bytes s.names s.lists (going_of s.stage.link)) x i))
    (staged s (going_of s.stage.link)))
    (with_added s
    (define_of (added_of s.bytes s.names s.symbols s.sections (going_of s.stage.link)) x (elf_at entries i).binding (elf_at entries i).visibility i))

-- "symbol name missing" 9
unfoldable pub looked_of : List ℕ → State → ℕ → Looked → State
looked_of entries s i x =
    cond x.found (library_symbol_named entries (staged s (going_of s.stage.link)) x.name i) (staged s (stopped_of s.stage.link 9 i))

unfoldable pub symbol_of : List ℕ → List ℕ → State → ℕ → State
symbol_of entries image s i = looked_of entries s i (look_up image (field entries i 0))

-- n symbols from the i-th on, up to the first refusal
unfoldable pub symbols_from : List ℕ → List ℕ → ℕ → ℕ → State → State
symbols_from entries image zero i s = s
symbols_from entries image (suc n) i s =
    cond (eqb (symbol_of entries image s i).stage.number 0) (symbols_from entries image n (i + 1) (symbol_of entries image s i))
    (symbol_of entries image s i)

unfoldable pub symbols_of : List ℕ → List ℕ → State → State
symbols_of entries image s = symbols_from entries image (rows_in entries) 0 s
