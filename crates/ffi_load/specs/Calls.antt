-- What a load returns, and every lent cell after it.
-- Assumes nothing.
use Rattle.std.specs.Prelude.{ℕ, cond, List}
use Rattle.link.specs.declared.Link.{Link}
use Rattle.shared_objects.specs.Load.{All, all_of, Input, Left, load_of}
use Rattle.ffi_cells.specs.Header.{is_short, link_in, saying, Told, told, tell_of}

-- the lent cells that a load may write
pub record Rows : Type 0 where
  pub bytes : List ℕ
  pub names : List ℕ
  pub symbols : List ℕ
  pub sections : List ℕ
  pub inputs : List ℕ
  pub lists : List ℕ
  pub marks : List ℕ

abbrev pub rows_of : List ℕ → List ℕ → List ℕ → List ℕ → List ℕ → List ℕ → List ℕ → Rows
rows_of b n s x i l m = record { bytes = b; names = n; symbols = s; sections = x; inputs = i; lists = l; marks = m }

abbrev pub rows_in : All → Rows
rows_in a = rows_of a.bytes a.names a.symbols a.sections a.inputs a.lists a.marks

abbrev pub with_link : Rows → Link → All
with_link r l = all_of r.bytes r.names r.symbols r.sections r.inputs r.lists r.marks l

pub record LoadLeft : Type 0 where
  pub told : Told
  pub rows : Rows

abbrev pub load_left : Told → Rows → LoadLeft
load_left t r = record { told = t; rows = r }

abbrev pub load_told : List ℕ → Left → LoadLeft
load_told h w = load_left (tell_of h w.cells.link (saying w.said)) (rows_in w.cells)

unfoldable pub load_call : List ℕ → Input → Rows → LoadLeft
load_call h o r = cond (is_short h) (load_left (told 1 h) r) (load_told h (load_of o (with_link r (link_in h))))
