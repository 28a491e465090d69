-- A new table of names issues the empty one.
-- Assumes nothing.
use Rattle.std.specs.Prelude.{ℕ, ◌≡◌, ◌*◌, ◌-◌, List, [], Bool, true, false, cond, eqb, take}
use Rattle.std.proofs.Common.{arith, ap, ◌∙◌}
use Rattle.std.proofs.Math.ListN.{length, replicate, length-append, length-replicate}
use Rattle.std.proofs.Math.Seq.{length-take-le}
use borrow.Author.Tests.{le-ltb, lt-leb}
use Rattle.link.specs.declared.cause.Refusal.{Refusal}
use Rattle.link.specs.Bounds.{name_rows, name_bytes}
use Rattle.link.specs.Judge.{refused}
use Rattle.link.specs.Said.{accepted, refusing}
use Rattle.link.specs.Counts.{no_names, no_rows}
use Rattle.interner.specs.Names.{Store, store_of, keep_of, room_of}
use Rattle.interner.specs.Calls.{Left, left, clear_heads, new_of}

module _ (key : ℕ) (bytes names : List ℕ) where
  abbrev rows : ℕ
  rows = name_rows (length names)

  pub cleared-long : length (clear_heads names) ≡ length names
  unfolding clear_heads
  cleared-long =
      length-append (take (rows * 8) names) (replicate (length names - rows * 8) 0)
      ∙ omega (arith, length-take-le (rows * 8) names (omega arith), length-replicate {A = ℕ} (length names - rows * 8) 0)

  abbrev blank : Store
  blank = store_of bytes (clear_heads names) (no_names key rows)

  pub blank_issued : (rows ≡ 0 → ⊥) → (keep_of blank (record { 0 = 0 }) []).link.names ≡ 1
  unfolding keep_of room_of
  blank_issued some =
      simp (le-ltb (name_rows (length (clear_heads names))) rows (omega (arith, cleared-long)), lt-leb rows 0 (omega (arith, some)), le-ltb (name_bytes (length bytes)) 0 (omega arith), le-ltb (name_bytes (length bytes) - 0) 0 (omega arith))

  -- a refusal is 2 at place 0
  pub new_refused : (s : Store) (r : Refusal) → left s (refusing r) ≡ new_of key bytes names → r ≡ refused 2 0
  unfolding new_of
  new_refused s r = go (eqb rows 0)
    where
      go : (t : Bool)
          → left s (refusing r)
          ≡ cond {A = Left} t (left (store_of bytes names no_rows) (refusing (refused 2 0))) (left (keep_of blank (record { 0 = 0 }) []) (accepted 0))
          → r ≡ refused 2 0
      go true e = let f : refusing r ≡ refusing (refused 2 0) = ap (λ (o : Left). o.said) e in cc
      go false e = let f : refusing r ≡ accepted 0 = ap (λ (o : Left). o.said) e in absurd cc
