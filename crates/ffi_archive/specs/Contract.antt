-- The contracts of the exported calls on an archive: what a caller in another language sees of a call, the number returned, its header and every cell lent to be
-- written, against the call's definition.
-- Assumes nothing.
use Rattle.std.specs.Prelude.{ℕ, ◌≡◌, List}
use Rattle.cells.specs.Slice.{SliceMut}
use Rattle.archive_index.specs.Archives.{Archives}
use Rattle.ffi_cells.specs.Header.{told}
use Rattle.ffi_cells.specs.Contract.{ToldExit}
use Rattle.ffi_archive.specs.Calls.{walk_left, start_call, next_call, shadowed_left, shadowed_call, matches_call, would_left, would_call}

-- ---- a walk's start, and a call for the next member

pub record WalkExit : Type 0 where
  pub number : ℕ
  pub header : List ℕ
  pub walk : List ℕ
  pub rows : List ℕ

abbrev pub walk_exit : ℕ → SliceMut → SliceMut → SliceMut → WalkExit
walk_exit n header walk rows = record { number = n; header = header.exit.now; walk = walk.exit.now; rows = rows.exit.now }

abbrev pub StartMeets : List ℕ → List ℕ → ℕ → Archives → List ℕ → WalkExit → Type 0
StartMeets h walk key index rows e = walk_left (told e.number e.header) e.walk e.rows ≡ start_call h walk key index rows

abbrev pub NextMeets : List ℕ → List ℕ → Archives → List ℕ → List ℕ → List ℕ → List ℕ → WalkExit → Type 0
NextMeets h walk index rows bytes names symbols e =
    walk_left (told e.number e.header) e.walk e.rows ≡ next_call h walk index rows bytes names symbols

-- ---- which entries a walk passed by

pub record ShadowedExit : Type 0 where
  pub number : ℕ
  pub header : List ℕ
  pub cells : List ℕ

abbrev pub shadowed_exit : ℕ → SliceMut → SliceMut → ShadowedExit
shadowed_exit n header cells = record { number = n; header = header.exit.now; cells = cells.exit.now }

abbrev pub ShadowedMeets : List ℕ → List ℕ → List ℕ → List ℕ → List ℕ → List ℕ → List ℕ → List ℕ → ShadowedExit → Type 0
ShadowedMeets h walk index rows bytes names symbols cells e =
    shadowed_left (told e.number e.header) e.cells ≡ shadowed_call h walk index rows bytes names symbols cells

-- ---- admission

abbrev pub MatchesMeets : List ℕ → List ℕ → List ℕ → List ℕ → ℕ → List ℕ → List ℕ → List ℕ → List ℕ → ToldExit → Type 0
MatchesMeets h walk index rows entry headers entries contents image e =
    told e.number e.header ≡ matches_call h walk index rows entry headers entries contents image

-- ---- what a member that was not taken would have defined

pub record WouldExit : Type 0 where
  pub number : ℕ
  pub header : List ℕ
  pub cells : List ℕ

abbrev pub would_exit : ℕ → SliceMut → SliceMut → WouldExit
would_exit n header cells = record { number = n; header = header.exit.now; cells = cells.exit.now }

abbrev pub WouldMeets : List ℕ → List ℕ → List ℕ → List ℕ → List ℕ → List ℕ → List ℕ → List ℕ → List ℕ → WouldExit → Type 0
WouldMeets h bytes names symbols headers entries contents image cells e =
    would_left (told e.number e.header) e.cells ≡ would_call h bytes names symbols headers entries contents image cells
