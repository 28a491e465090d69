-- What the calls return, and every lent cell after them. Of the symbols' cells those that the link may use; the rest stay.
-- Assumes nothing.
use Rattle.std.specs.Prelude.{ℕ, ◌≡◌, cond, List, ltb, get_or, set, take, length, Result, Ok, Err}
use Rattle.cells.specs.Slice.{SliceMut}
use Rattle.link.specs.declared.cause.Refusal.{Refusal}
use Rattle.symbol.specs.declared.Symbol.{Symbol}
use Rattle.upcoming_symbol.specs.declared.UpcomingSymbol.{UpcomingSymbol}
use Rattle.symbol_resolution.specs.Apply.{table_of}
use Rattle.ffi_cells.specs.declared.header.Reply.{Reply}
use Rattle.ffi_cells.specs.Header.{is_short, link_in, refusal_of, result_of, saying, Told, told, tell_of, answer_of}
use Rattle.ffi_cells.specs.Cells.{is_item, item_in, symbol_out}
use Rattle.name_index.specs.Named.{rows_of}
use Rattle.name_index.specs.Index.{index_of}
use Rattle.indexed_table.specs.declared.lookup.LookedUp.{LookedUp}
use Rattle.indexed_table.specs.Indexed.{IndexedLeft, bounded, indexed_add_of}
use Rattle.indexed_table.specs.Lookup.{get_global_of}

-- the header's cell with the index's count
abbrev pub count_of : List ℕ → ℕ
count_of h = get_or h 17 0

-- ---- add

pub record AddLeft : Type 0 where
  pub told : Told
  pub names : List ℕ
  pub symbols : List ℕ
  pub sections : List ℕ
  pub places : List ℕ

abbrev pub add_left : Told → List ℕ → List ℕ → List ℕ → List ℕ → AddLeft
add_left t n s x p = record { told = t; names = n; symbols = s; sections = x; places = p }

-- of lent slices after the call
abbrev pub add_after : ℕ → SliceMut → SliceMut → SliceMut → SliceMut → SliceMut → AddLeft
add_after r h n s x p =
    add_left (told r h.exit.now) n.exit.now (take (bounded (length s.entry.now) (length p.entry.now)) s.exit.now) x.exit.now p.exit.now

-- where all of the symbols' cells may be used
abbrev pub added_after : ℕ → SliceMut → SliceMut → SliceMut → SliceMut → SliceMut → AddLeft
added_after r h n s x p = add_left (told r h.exit.now) n.exit.now s.exit.now x.exit.now p.exit.now

abbrev pub add_told : List ℕ → IndexedLeft → AddLeft
add_told h w =
    add_left (tell_of (set h 17 w.index.count) w.left.table.link (saying w.left.said)) w.left.table.names w.left.table.symbols w.left.table.sections
    w.index.places

unfoldable pub add_known : List ℕ → List ℕ → List ℕ → List ℕ → List ℕ → List ℕ → List ℕ → UpcomingSymbol → AddLeft
add_known h b n s x p conversion u =
    add_told h (indexed_add_of (table_of n s x (link_in h)) b (index_of p (count_of h)) conversion u)

unfoldable pub add_call : List ℕ → List ℕ → List ℕ → List ℕ → List ℕ → List ℕ → List ℕ → List ℕ → AddLeft
add_call h b n s x p conversion item =
    cond (is_short h) (add_left (told 1 h) n (take (bounded (length s) (length p)) s) x p)
    (cond (is_item item) (add_known h b n (take (bounded (length s) (length p)) s) x p conversion (item_in item))
    (add_left (answer_of h (refusal_of 1 0)) n (take (bounded (length s) (length p)) s) x p))

abbrev pub AddMeets : List ℕ → List ℕ → List ℕ → List ℕ → List ℕ → List ℕ → List ℕ → List ℕ → AddLeft → Type 0
AddMeets h b n s x p conversion item e = e ≡ add_call h b n s x p conversion item

-- ---- a lookup by name

pub record FoundLeft : Type 0 where
  pub told : Told
  pub out : List ℕ

abbrev pub found_left : Told → List ℕ → FoundLeft
found_left t out = record { told = t; out = out }

abbrev pub found_after : ℕ → SliceMut → SliceMut → FoundLeft
found_after r h out = found_left (told r h.exit.now) out.exit.now

-- with the places read, refused too
abbrev pub reading : Refusal → ℕ → Reply
reading r reads = record { number = r.number; place = r.place; first = reads; second = 0; third = 0; fourth = 0 }

abbrev pub found_as : List ℕ → List ℕ → Result Symbol Refusal → ℕ → FoundLeft
found_as h out (Ok symbol) reads = found_left (answer_of h (result_of reads 0 0 0)) (symbol_out out symbol)
found_as h out (Err r) reads = found_left (answer_of h (reading r reads)) out

abbrev pub found_of : List ℕ → List ℕ → LookedUp → FoundLeft
found_of h out a = found_as h out a.answer a.reads

unfoldable pub get_global_call : List ℕ → List ℕ → List ℕ → List ℕ → List ℕ → ℕ → List ℕ → FoundLeft
get_global_call h b n s p name out =
    cond (is_short h) (found_left (told 1 h) out)
    (cond (ltb (length out) 10) (found_left (answer_of h (refusal_of 1 0)) out)
    (found_of h out (get_global_of (link_in h) (rows_of b n s) (index_of p (count_of h)) (record { 0 = name }))))

abbrev pub GetGlobalMeets : List ℕ → List ℕ → List ℕ → List ℕ → List ℕ → ℕ → List ℕ → FoundLeft → Type 0
GetGlobalMeets h b n s p name out e = e ≡ get_global_call h b n s p name out
