-- A new table without a row for the empty name.
-- Assumes nothing.
use Rattle.std.specs.Prelude.{ℕ, ◌≡◌, Bool, List, length, Result, Err}
use Rattle.std.proofs.Common.{sym, ap, ne_eqb}
use Rattle.link.specs.declared.cause.Refusal.{Refusal}
use Rattle.link.specs.Bounds.{symbol_rows}
use Rattle.link.specs.Counts.{no_rows}
use Rattle.link.specs.Said.{refusing}
use Rattle.interner.specs.Names.{store_of}
use Rattle.interner.specs.Calls as Names
use Rattle.interner.specs.Proof.NewWays.{new_refused}
use Rattle.symbols.specs.declared.Symbols.{Symbols}
use Rattle.symbols.specs.Calls.{made_of}
use Rattle.symbols.specs.New.{new_outcome, new_of, null_of}

pub new-unnamed : (key : ℕ) (gabi : Bool) (bytes names symbols sections : List ℕ) (b n : List ℕ) (t : Result Symbols Refusal) (r : Refusal)
    → t ≡ Err r
    → (symbol_rows (length symbols) ≡ 0 → ⊥)
    → Names.left (store_of b n no_rows) (refusing r) ≡ Names.new_of key bytes names
    → new_outcome b n symbols sections (made_of t) ≡ new_of key gabi bytes names symbols sections
unfolding new_of null_of
new-unnamed key gabi bytes names symbols sections b n t r q some e =
    rw q (simp (ne_eqb _ _ some, sym (ap (λ (o : Names.Left). o.store) e), new_refused key bytes names (store_of b n no_rows) r e))
