-- What the calls return, and every lent cell after them.
-- Assumes nothing.
use Rattle.std.specs.Prelude.{ℕ, true, false, cond, List, eqb}
use Rattle.upcoming_symbol.specs.declared.UpcomingSymbol.{UpcomingSymbol}
use Rattle.symbol_resolution.specs.Apply.{table_of}
use Rattle.symbols.specs.Calls as Table
use Rattle.symbols.specs.New as New
use Rattle.symbols.specs.Add.{add_of}
use Rattle.symbols.specs.Remove as Remove
use Rattle.ffi_cells.specs.Header.{is_short, link_in, refusal_of, saying, Told, told, tell_of, answer_of}
use Rattle.ffi_cells.specs.Cells.{is_item, item_in}
use Rattle.cells.specs.Slice.{SliceMut}

-- ---- new

pub record NewLeft : Type 0 where
  pub told : Told
  pub bytes : List ℕ
  pub names : List ℕ
  pub symbols : List ℕ
  pub sections : List ℕ

abbrev pub new_left : Told → List ℕ → List ℕ → List ℕ → List ℕ → NewLeft
new_left t b n s x = record { told = t; bytes = b; names = n; symbols = s; sections = x }

-- of lent slices after the call
abbrev pub new_after : ℕ → SliceMut → SliceMut → SliceMut → SliceMut → SliceMut → NewLeft
new_after r h b n s x = new_left (told r h.exit.now) b.exit.now n.exit.now s.exit.now x.exit.now

abbrev pub new_told : List ℕ → New.NewLeft → NewLeft
new_told h w =
    new_left (tell_of h w.table.link (saying w.said)) w.bytes w.table.names w.table.symbols w.table.sections

-- the profiles' numbers
abbrev pub old_profile : ℕ
old_profile = 0

abbrev pub gabi_profile : ℕ
gabi_profile = 1

-- another number than the two: 1 at place 0, before all else
unfoldable pub new_call : List ℕ → ℕ → ℕ → List ℕ → List ℕ → List ℕ → List ℕ → NewLeft
new_call h key profile b n s x =
    cond (is_short h) (new_left (told 1 h) b n s x)
    (cond (eqb profile old_profile) (new_told h (New.new_of key false b n s x))
    (cond (eqb profile gabi_profile) (new_told h (New.new_of key true b n s x)) (new_left (answer_of h (refusal_of 1 0)) b n s x)))

-- ---- add

pub record AddLeft : Type 0 where
  pub told : Told
  pub names : List ℕ
  pub symbols : List ℕ
  pub sections : List ℕ

abbrev pub add_left : Told → List ℕ → List ℕ → List ℕ → AddLeft
add_left t n s x = record { told = t; names = n; symbols = s; sections = x }

-- of lent slices after the call
abbrev pub add_after : ℕ → SliceMut → SliceMut → SliceMut → SliceMut → AddLeft
add_after r h n s x = add_left (told r h.exit.now) n.exit.now s.exit.now x.exit.now

abbrev pub add_told : List ℕ → Table.Left → AddLeft
add_told h w = add_left (tell_of h w.table.link (saying w.said)) w.table.names w.table.symbols w.table.sections

unfoldable pub add_known : List ℕ → List ℕ → List ℕ → List ℕ → List ℕ → UpcomingSymbol → AddLeft
add_known h n s x conversion u = add_told h (add_of (table_of n s x (link_in h)) conversion u)

unfoldable pub add_call : List ℕ → List ℕ → List ℕ → List ℕ → List ℕ → List ℕ → AddLeft
add_call h n s x conversion item =
    cond (is_short h) (add_left (told 1 h) n s x)
    (cond (is_item item) (add_known h n s x conversion (item_in item)) (add_left (answer_of h (refusal_of 1 0)) n s x))

-- ---- remove

pub record RemoveLeft : Type 0 where
  pub told : Told
  pub symbols : List ℕ
  pub sections : List ℕ

abbrev pub remove_left : Told → List ℕ → List ℕ → RemoveLeft
remove_left t s x = record { told = t; symbols = s; sections = x }

abbrev pub remove_told : List ℕ → Remove.RemoveLeft → RemoveLeft
remove_told h w = remove_left (tell_of h w.link (saying w.said)) w.rows.symbols w.rows.sections

unfoldable pub remove_call : List ℕ → List ℕ → List ℕ → ℕ → RemoveLeft
remove_call h s x id =
    cond (is_short h) (remove_left (told 1 h) s x) (remove_told h (Remove.remove_of (link_in h) (Remove.rows_of s x) (record { 0 = id })))
