-- Clearing the marks of the names that a library provides: each of them is 0 afterwards.
-- Assumes nothing.
use Prim.Native.Nat.{ℕ, zero, suc, ◌+◌, ◌<◌, ◌≤◌}
use Rattle.std.proofs.Common.{arith, ◌∙◌}
use Rattle.std.specs.Prelude.{◌≡◌, true, eqb, set}
use Rattle.std.proofs.Math.Path.{refl}
use mathlib.Core.List.{List, [], ◌∷◌}
use Rattle.std.proofs.Math.ListN.{get_or, length, length-set}
use borrow.Author.Tests.{eqb-true, eqb-false}
use Rattle.cells.specs.Proof.Split.{by-test}
use Rattle.byte_slices.specs.Proof.Ways.{pick}
use Rattle.gabi.specs.StringTable.{has_name, name_at}
use Rattle.link.specs.declared.Link.{Link}
use Rattle.interner.specs.Names.{find_of}
use Rattle.elf_object.specs.Rows.{rows_in, field}
use Rattle.shared_objects.specs.Need.{provides, clear_named, clear_mark, clear_from, clear_all}

zero-self : (l : List ℕ) (i : ℕ) → get_or (set l i 0) i 0 ≡ 0
zero-self [] i = refl
zero-self (a ∷ l) zero = refl
zero-self (a ∷ l) (suc i) = zero-self l i

zero-keeps : (l : List ℕ) (i j : ℕ) → get_or l j 0 ≡ 0 → get_or (set l i 0) j 0 ≡ 0
zero-keeps [] i j e = e
zero-keeps (a ∷ l) zero zero e = refl
zero-keeps (a ∷ l) zero (suc j) e = e
zero-keeps (a ∷ l) (suc i) zero e = e
zero-keeps (a ∷ l) (suc i) (suc j) e = zero-keeps l i j e

module _ (bytes names : List ℕ) (l : Link) (entries file : List ℕ) where
  -- the id of the name at symbol k's offset
  abbrev id_of : ℕ → ℕ
  id_of k = find_of bytes names l (name_at file (field entries k 0))

  mark-length : (i : ℕ) (marks : List ℕ) → length (clear_mark bytes names l entries file i marks) ≡ length marks
  unfolding clear_mark clear_named
  mark-length i marks =
      pick (λ (k : List ℕ). length k ≡ length marks) (provides entries i) _ _
      (λ t. pick (λ (k : List ℕ). length k ≡ length marks) (has_name file (field entries i 0)) _ _ (λ u. length-set marks _ 0) (λ u. refl)) (λ t. refl)

  mark-keeps : (i : ℕ) (marks : List ℕ) (j : ℕ) → get_or marks j 0 ≡ 0 → get_or (clear_mark bytes names l entries file i marks) j 0 ≡ 0
  unfolding clear_mark clear_named
  mark-keeps i marks j e =
      pick (λ (k : List ℕ). get_or k j 0 ≡ 0) (provides entries i) _ _
      (λ t. pick (λ (k : List ℕ). get_or k j 0 ≡ 0) (has_name file (field entries i 0)) _ _ (λ u. zero-keeps marks _ j e) (λ u. e)) (λ t. e)

  mark-at : (i : ℕ) (marks : List ℕ) → provides entries i ≡ true → has_name file (field entries i 0) ≡ true
      → get_or (clear_mark bytes names l entries file i marks) (id_of i) 0 ≡ 0
  unfolding clear_mark clear_named
  mark-at i marks p f = rw (p, f) (zero-self marks _)

  from-length : (n i : ℕ) (marks : List ℕ) → length (clear_from bytes names l entries file n i marks) ≡ length marks
  unfolding clear_from
  from-length zero i marks = refl
  from-length (suc n) i marks = from-length n (i + 1) _ ∙ mark-length i marks

  from-keeps : (n i : ℕ) (marks : List ℕ) (j : ℕ) → get_or marks j 0 ≡ 0 → get_or (clear_from bytes names l entries file n i marks) j 0 ≡ 0
  unfolding clear_from
  from-keeps zero i marks j e = e
  from-keeps (suc n) i marks j e = from-keeps n (i + 1) _ j (mark-keeps i marks j e)

  from_at : (n i k : ℕ) (marks : List ℕ) → i ≤ k → k < i + n → provides entries k ≡ true → has_name file (field entries k 0) ≡ true
      → get_or (clear_from bytes names l entries file n i marks) (id_of k) 0 ≡ 0
  unfolding clear_from
  from_at zero i k marks a b p f = absurd (omega (arith, a, b))
  from_at (suc n) i k marks a b p f =
      by-test (eqb i k) (λ t. from-keeps n (i + 1) _ (id_of k) (here (eqb-true i k t)))
      (λ t. let d = eqb-false i k t in from_at n (i + 1) k _ (omega (arith, a, d)) (omega (arith, b)) p f)
    where
      here : i ≡ k → get_or (clear_mark bytes names l entries file i marks) (id_of k) 0 ≡ 0
      here e = rw e (mark-at k marks p f)

  pub all-length : (marks : List ℕ) → length (clear_all bytes names l entries file marks) ≡ length marks
  unfolding clear_all
  all-length marks = from-length (rows_in entries) 0 marks

  pub all-at : (k : ℕ) (marks : List ℕ) → k < rows_in entries → provides entries k ≡ true → has_name file (field entries k 0) ≡ true
      → get_or (clear_all bytes names l entries file marks) (id_of k) 0 ≡ 0
  unfolding clear_all
  all-at k marks h p f = from_at (rows_in entries) 0 k marks (omega arith) (omega (arith, h)) p f
