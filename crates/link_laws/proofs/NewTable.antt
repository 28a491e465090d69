-- A new table that is refused leaves every lent cell, and a link without rows.
-- Assumes nothing.
use Rattle.std.specs.Prelude.{ℕ, ◌≡◌, refl, Bool, List, ◌≢◌, eqb, length}
use Rattle.std.proofs.Common.{arith, ap, eqb-true}
use Rattle.std.proofs.lemmas.Bool.{eqb-false}
use Rattle.cells.specs.Proof.Split.{by-test}
use Rattle.byte_slices.specs.Proof.Ways.{pick}
use Rattle.link.specs.Bounds.{symbol_rows}
use Rattle.link.specs.Judge.{refused}
use Rattle.link.specs.Said.{number_in, refusing}
use Rattle.link.specs.Counts.{no_rows}
use Rattle.interner.specs.Names.{Store, store_of}
use Rattle.interner.specs.Calls as Names
use Rattle.interner_laws.specs.Interns as Interns
use Rattle.interner_laws.proofs.Interns as InternsLaws
use Rattle.symbol_resolution.specs.Apply.{table_of}
use Rattle.symbols.specs.New.{NewLeft, new_left, null_of, new_of}
use Rattle.link_laws.specs.NewTable.{unopened}

module _ (key : ℕ) (gabi : Bool) (bytes names symbols sections : List ℕ) where
  -- without a name's row the table of names was refused
  no_names : (Names.new_of key bytes names).store.link.names ≡ 0 → (Names.new_of key bytes names).store ≡ store_of bytes names no_rows
  no_names e =
      by-test (eqb (Interns.number (Names.new_of key bytes names)) 0)
      (λ a. let g = (InternsLaws.new-good key bytes names (eqb-true _ _ a)).some in absurd (omega (arith, g, e)))
      (λ a. InternsLaws.new-refused key bytes names (eqb-false _ _ a))

  null-leaves : number_in (null_of gabi symbols sections (Names.new_of key bytes names).store).said ≢ 0 → null_of gabi symbols sections (Names.new_of key bytes names).store ≡ unopened key gabi bytes names symbols sections
  unfolding null_of
  null-leaves z =
      by-test (eqb (Names.new_of key bytes names).store.link.names 0)
      (λ a.
      let e : (Names.new_of key bytes names).store ≡ store_of bytes names no_rows = no_names (eqb-true _ _ a) in
      rw a (ap (λ (s : Store). new_left s.bytes (table_of s.names symbols sections s.link) (refusing (refused 2 0))) e))
      (λ a. absurd (z (rw a)))

  pub new-leaves : number_in (new_of key gabi bytes names symbols sections).said ≢ 0 → new_of key gabi bytes names symbols sections ≡ unopened key gabi bytes names symbols sections
  unfolding new_of
  new-leaves =
      pick (λ (x : NewLeft). number_in x.said ≢ 0 → x ≡ unopened key gabi bytes names symbols sections) (eqb (symbol_rows (length symbols)) 0) _ _ (λ a z. refl) (λ a. null-leaves)
