-- "first such row": the row at which an object's or a library's own lists are refused with 1.
-- Assumes nothing.
use Prim.Native.Nat.{ℕ, zero, suc, ◌+◌, ◌<◌, ◌≤◌}
use Rattle.std.proofs.Common.{arith, ◌∙◌}
use Rattle.std.specs.Prelude.{◌≡◌, refl, Bool, true, false, List, ◌≢◌, eqb, ltb}
use Rattle.std.proofs.Math.Path.{ap}
use borrow.Author.Tests.{eqb-true, eqb-false, ltb-true, ltb-false}
use Rattle.cells.specs.Proof.Split.{by-test}
use Rattle.byte_slices.specs.Proof.Ways.{pick}
use Rattle.link.specs.declared.cause.Refusal.{Refusal}
use Rattle.elf_object.specs.Rows.{rows_in}
use Rattle.elf_object.specs.Judge.{first_bad, bad_header, bad_entry}
use Rattle.elf_object.specs.Judge as Elf
use Rattle.link_laws.specs.FirstRow.{First, BadRow, section, symbol}

module _ (ok : ℕ → Bool) where
  before-bad : (n i j : ℕ) → i ≤ j → j < first_bad ok i n → ok j ≡ true
  unfolding first_bad
  before-bad zero i j a b = absurd (omega arith)
  before-bad (suc n) i j a b =
      by-test (ok i)
      (λ t.
      by-test (eqb j i) (λ e. ap ok (eqb-true _ _ e) ∙ t)
      (λ e. let d : j ≢ i = eqb-false _ _ e in before-bad n (i + 1) j (omega arith) (rw t at b)))
      (λ t. let c : j < i = rw t at b in absurd (omega arith))

  at-bad : (n i : ℕ) → first_bad ok i n < i + n → ok (first_bad ok i n) ≡ false
  unfolding first_bad
  at-bad zero i a = absurd (omega arith)
  at-bad (suc n) i a =
      by-test (ok i) (λ t. rw t (at-bad n (i + 1) (let c : first_bad ok (i + 1) n < i + suc n = rw t at a in omega arith))) (λ t. rw t t)

  pub first-bad : (n : ℕ) → first_bad ok 0 n < n → First ok n (first_bad ok 0 n)
  first-bad n a = record { below = a; bad = at-bad n 0 (omega arith); before = λ j b. before-bad n 0 j (omega arith) b }

  pub none-bad : (n : ℕ) → n ≤ first_bad ok 0 n → (j : ℕ) → j < n → ok j ≡ true
  none-bad n a j b = before-bad n 0 j (omega arith) (omega arith)

-- ---- an object's sections, then its symbols

module _ (headers entries : List ℕ) (contents file : ℕ) where
  pub elf-row : (Elf.judge_of headers entries contents file).number ≢ 0 → BadRow headers entries contents file (Elf.judge_of headers entries contents file).place
  unfolding Elf.judge_of bad_header bad_entry
  elf-row =
      pick P (ltb (bad_header headers (rows_in entries) contents file) (rows_in headers)) _ _ (λ t u. section (first-bad _ _ (ltb-true _ _ t)))
      (λ t.
      pick P (ltb (bad_entry entries) (rows_in entries)) _ _ (λ w u. symbol (none-bad _ _ (ltb-false _ _ t)) (first-bad _ _ (ltb-true _ _ w)))
      (λ w u. absurd (u refl)))
    where
      P : Refusal → Type 0
      P r = r.number ≢ 0 → BadRow headers entries contents file r.place
