-- An add changes no count of a link but that of symbols, so that the others may stay in the header's cells.
-- Assumes nothing.
use Rattle.std.specs.Prelude.{ℕ, ◌≡◌, refl, List, Option, eqb}
use Rattle.std.proofs.Common.{sym, ap}
use Rattle.cells.specs.Proof.Split.{by-test}
use Rattle.link.specs.declared.Link.{Link}
use Rattle.link.specs.declared.Interned.{Interned}
use Rattle.link.specs.Counts.{with_symbols}
use Rattle.symbol.specs.declared.Row.{Row}
use Rattle.upcoming_symbol.specs.declared.UpcomingSymbol.{UpcomingSymbol}
use Rattle.symbol_resolution.specs.Decision.{Decision, Refuse, Nothing, Keep, Append, Replace, Amend}
use Rattle.symbol_resolution.specs.Decide.{refusal_of}
use Rattle.symbol_resolution.specs.Apply.{Table, table_of, append_of, apply_of}
use Rattle.symbols.specs.Calls.{Left}
use Rattle.symbols.specs.Add.{judge_add_of, lent, committed_of, decided_of, add_row_of, add_of}
use Rattle.ffi_cells.specs.Header.{link_in, saying, tell_of}

-- the counts, that of symbols apart
abbrev Same : Link → Link → Type 0
Same l m = m ≡ with_symbols l m.symbols

module _ (t : Table) (r : Row) where
  applied-same : (d : Decision) → Same t.link (apply_of t r d).link
  unfolding apply_of append_of
  applied-same (Refuse n) = refl
  applied-same Nothing = refl
  applied-same (Keep id) = refl
  applied-same Append = refl
  applied-same (Replace id) = refl
  applied-same (Amend id) = refl

  committed-same : (file : Option Interned) (d : Decision) → Same t.link (committed_of t r file d).table.link
  unfolding committed_of
  committed-same file d =
      by-test (eqb (refusal_of d) 21) (λ a. rw a refl) (λ a. by-test (eqb (refusal_of d) 0) (λ b. rw (a, b) (applied-same d)) (λ b. rw (a, b) refl))

add-same : (t : Table) (conversion : List ℕ) (u : UpcomingSymbol) → Same t.link (add_of t conversion u).table.link
unfolding add_of add_row_of
add-same t conversion u =
    by-test (eqb (judge_add_of t.link (lent t) u).number 0) (λ a. rw a (committed-same t _ _ (decided_of t _ _))) (λ a. rw a refl)

pub add_told : (h n s x conversion : List ℕ) (u : UpcomingSymbol)
    → let w = add_of (table_of n s x (link_in h)) conversion u in
    tell_of h (with_symbols (link_in h) w.table.link.symbols) (saying w.said) ≡ tell_of h w.table.link (saying w.said)
add_told h n s x conversion u =
    let w = add_of (table_of n s x (link_in h)) conversion u in
    ap (λ (l : Link). tell_of h l (saying w.said)) (sym (add-same (table_of n s x (link_in h)) conversion u))
