-- What the lookups return, and every lent cell after them.
-- Assumes nothing.
use Rattle.link.specs.declared.cause.Refusal.{Refusal}
use Rattle.symbol.specs.declared.Symbol.{Symbol}
use Rattle.link.specs.declared.SymbolId.{SymbolId}
use Rattle.std.specs.Prelude.{ℕ, Bool, cond, List, ltb, length, Option, Result, None, Some, Ok, Err}
use Rattle.symbols.specs.Lookup.{get_of, get_global_of, section_symbol_of}
use Rattle.ffi_cells.specs.declared.header.Reply.{Reply}
use Rattle.ffi_cells.specs.Header.{is_short, link_in, result_of, refusal_of, refused_of, Told, told, answer_of}
use Rattle.ffi_cells.specs.Cells.{symbol_out}
use Rattle.cells.specs.Slice.{SliceMut}

pub record FoundLeft : Type 0 where
  pub told : Told
  pub out : List ℕ

abbrev pub found_left : Told → List ℕ → FoundLeft
found_left t out = record { told = t; out = out }

-- of lent slices after the call
abbrev pub found_after : ℕ → SliceMut → SliceMut → FoundLeft
found_after r h out = found_left (told r h.exit.now) out.exit.now

-- a symbol that was found goes out
abbrev pub found_of : List ℕ → List ℕ → Result Symbol Refusal → FoundLeft
found_of h out (Ok s) = found_left (answer_of h (result_of 0 0 0 0)) (symbol_out out s)
found_of h out (Err r) = found_left (answer_of h (refused_of r)) out

-- ten cells for a symbol
unfoldable pub no_room : List ℕ → Bool
no_room out = ltb (length out) 10

unfoldable pub look_call : List ℕ → List ℕ → Result Symbol Refusal → FoundLeft
look_call h out f =
    cond (is_short h) (found_left (told 1 h) out) (cond (no_room out) (found_left (answer_of h (refusal_of 1 0)) out) (found_of h out f))

abbrev pub get_call : List ℕ → List ℕ → ℕ → List ℕ → FoundLeft
get_call h s id out = look_call h out (get_of (link_in h) s (record { 0 = id }))

abbrev pub get_global_call : List ℕ → List ℕ → List ℕ → ℕ → List ℕ → FoundLeft
get_global_call h n s name out = look_call h out (get_global_of (link_in h) n s (record { 0 = name }))

-- 1 and the id, or nothing
abbrev pub section_symbol_reply : Option SymbolId → Reply
section_symbol_reply None = result_of 0 0 0 0
section_symbol_reply (Some id) = result_of 1 id.0 0 0

unfoldable pub section_symbol_call : List ℕ → List ℕ → ℕ → Told
section_symbol_call h x section =
    cond (is_short h) (told 1 h) (answer_of h (section_symbol_reply (section_symbol_of (link_in h) x (record { 0 = section }))))
