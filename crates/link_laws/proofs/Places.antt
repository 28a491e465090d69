-- "Each returns number and place (symbol, section or row; else 0, as for a direct add but 21)".
-- Assumes nothing.
use Rattle.link.specs.declared.Interned.{Interned}
use Rattle.std.specs.Prelude.{ℕ, ◌≡◌, refl, List, ◌≢◌, eqb, Option}
use Rattle.std.proofs.Common.{eqb-true}
use Rattle.std.proofs.lemmas.Bool.{eqb-false}
use Rattle.byte_slices.specs.Proof.Ways.{pick}
use Rattle.link.specs.declared.Link.{Link}
use Rattle.link.specs.declared.Lent.{Lent}
use Rattle.link.specs.declared.cause.Refusal.{Refusal}
use Rattle.link.specs.Said.{number_in, place_in}
use Rattle.link.specs.Judge.{change_of}
use Rattle.symbol.specs.declared.Row.{Row}
use Rattle.upcoming_symbol.specs.declared.UpcomingSymbol.{UpcomingSymbol}
use Rattle.upcoming_symbol.specs.Judge.{in_range}
use Rattle.upcoming_symbol.specs.Upcoming.{name_of, row_of}
use Rattle.symbol_resolution.specs.Decision.{Decision}
use Rattle.symbol_resolution.specs.Decide.{refusal_of}
use Rattle.symbol_resolution.specs.Apply as SymbolRows
use Rattle.symbols.specs.Calls as Symbols
use Rattle.symbols.specs.Add as Add
use Rattle.symbols.specs.Add.{empty_at, file_of, decided_of, committed_of, add_row_of, judge_add_of, add_of}
use Rattle.symbol_laws.specs.History.{table}
use Rattle.merge_laws.specs.Calls.{Linked}
use Rattle.link_laws.specs.Calls.{add, call_refusal, call_number}

judge-place : (l : Link) (n : Lent) (u : UpcomingSymbol) → (judge_add_of l n u).number ≢ 0 → (judge_add_of l n u).place ≡ 0
unfolding judge_add_of
judge-place l n u =
    pick P (eqb (change_of l n).number 0) _ _ (λ a. pick P (in_range u) _ _ (λ b z. absurd (z (eqb-true _ _ a))) (λ b z. refl)) (λ a z. refl)
  where
    P : Refusal → Type 0
    P r = r.number ≢ 0 → r.place ≡ 0

commit-place : (t : SymbolRows.Table) (r : Row) (file : Option Interned) (d : Decision) → number_in (committed_of t r file d).said ≢ 21 → place_in (committed_of t r file d).said ≡ 0
unfolding committed_of
commit-place t r file d =
    pick P (eqb (refusal_of d) 21) _ _ (λ a z. absurd (z refl)) (λ a. pick P (eqb (refusal_of d) 0) _ _ (λ b z. refl) (λ b z. refl))
  where
    P : Symbols.Left → Type 0
    P x = number_in x.said ≢ 21 → place_in x.said ≡ 0

pub add-place : (conversion : List ℕ) (u : UpcomingSymbol) (s : Linked) → call_number (add conversion u) s ≢ 21 → (call_refusal (add conversion u) s).place ≡ 0
unfolding add_of add_row_of
add-place conversion u s =
    let t : SymbolRows.Table = table s.table in
    pick (λ (x : Symbols.Left). number_in x.said ≢ 21 → place_in x.said ≡ 0) (eqb (judge_add_of t.link (Add.lent t) u).number 0) _ _
    (λ a. commit-place t (row_of t.link.gabi conversion u (empty_at t.names (name_of u))) (file_of u) (decided_of t (row_of t.link.gabi conversion u (empty_at t.names (name_of u))) (file_of u)))
    (λ a z. judge-place t.link (Add.lent t) u (eqb-false _ _ a))
