-- Laws of the definitions of Own.antt.
-- Assumes nothing.
use Rattle.std.specs.Prelude.{ℕ, ◌≡◌, false, List, eqb}
use Rattle.std.proofs.Math.Bool.{true, cond}
use borrow.Author.Tests.{ne_eqb, eqb-true, eqb-false}
use Rattle.cells.specs.Proof.Split.{by-test}
use Rattle.byte_slices.specs.Proof.Ways.{apart}
use Rattle.elf_object.specs.Rows as Elf
use Rattle.shared_objects.specs.Need.{provides}
use Rattle.load_laws.specs.Needed.{GlobalOrWeak, global, weak, Defines}

module _ (entries : List ℕ) (i : ℕ) where
  pub provides-own : provides entries i ≡ true → Defines entries i
  unfolding provides
  provides-own e =
      by-test (eqb (Elf.field entries i 4) 0) (λ t. absurd (apart (rw t at e)))
      (λ t.
      by-test (eqb (Elf.field entries i 1) 1) (λ u. record { defined = eqb-false _ _ t; bound = global (eqb-true _ _ u) })
      (λ u.
      by-test (eqb (Elf.field entries i 1) 2) (λ v. record { defined = eqb-false _ _ t; bound = weak (eqb-true _ _ v) })
      (λ v. absurd (apart (rw (t, u, v) at e)))))

  pub own-provides : Defines entries i → provides entries i ≡ true
  unfolding provides
  own-provides d = rw (ne_eqb _ _ d.defined) (go d.bound)
    where
      go : GlobalOrWeak (Elf.field entries i 1) → cond (eqb (Elf.field entries i 1) 1) true (cond (eqb (Elf.field entries i 1) 2) true false) ≡ true
      go (global e) = rw e
      go (weak e) = rw e
