-- The ways through the functions.
-- Assumes nothing.
use Rattle.std.specs.Prelude.{ℕ, zero, suc, ◌+◌, ◌-◌, ◌*◌, ◌<◌, ◌≤◌, ◌≡◌, Bool, true, false, List, [], length, take, ltb, Option, Some, None, unwrap_or}
use Rattle.std.proofs.Math.Nat.{sub-zero}
use native.Mathlib.Omega.{arith}
use Rattle.std.proofs.Math.Path.{sym}
use Rattle.std.proofs.Common.{◌∙◌, length-take-le}
use borrow.Author.Tests.{lt-ltb, le-ltb, ltb-false}
use Rattle.cells.specs.Rows.{row_width}
use Rattle.cells.specs.Proof.Split.{by-test}
use Rattle.cells.specs.Proof.Part.{tail, part-past, part_in, part-all}
use Rattle.elf_object.specs.Rows.{rows_in, entries_from}
use Rattle.elf_object.specs.Judge.{entry_ok, first_bad, found_below, bad_entry}

-- ---- the loaded symbol table

module _ (l : List ℕ) (first count : ℕ) where
  pub entries-past : rows_in l < first → [] ≡ entries_from l first count
  unfolding entries_from
  entries-past h = part-past l (first * row_width) (count * row_width) (omega arith)

  pub entries-all : rows_in (tail l (first * row_width)) < count → tail l (first * row_width) ≡ entries_from l first count
  unfolding entries_from
  entries-all h = part-all l (first * row_width) (count * row_width) (omega arith)

  pub entries-in : take (count * row_width) (tail l (first * row_width)) ≡ entries_from l first count
  unfolding entries_from
  entries-in = part_in l (first * row_width) (count * row_width)

pub rows-length : (l : List ℕ) (count : ℕ) → count ≤ rows_in l → count * row_width ≡ length (take (count * row_width) l)
rows-length l count h = sym (length-take-le (count * row_width) l (omega arith))

-- ---- the loops: what is found from row i on, of n, is what is found from the start

pub one_less : (n i : ℕ) → i < n → n - i ≡ suc (n - (i + 1))
one_less n i h = omega arith

module _ (ok : ℕ → Bool) (n : ℕ) where
  pub first-start : first_bad ok 0 n ≡ first_bad ok 0 (n - 0)
  first-start = rw (sub-zero n)

  module _ (w i : ℕ) where
    pub first-end : w ≡ first_bad ok i (n - i) → n ≤ i → i ≡ w
    unfolding first_bad
    first-end q h = let z : n - i ≡ 0 = omega arith in sym (q ∙ rw z)

    module _ (b : Bool) where
      pub first-stop : w ≡ first_bad ok i (n - i) → i < n → b ≡ ok i → b ≡ false → i ≡ w
      unfolding first_bad
      first-stop q h e f = sym (q ∙ rw (one_less n i h) (simp (← e, f)))

      pub first_on : w ≡ first_bad ok i (n - i) → i < n → b ≡ ok i → b ≡ true → w ≡ first_bad ok (i + 1) (n - (i + 1))
      unfolding first_bad
      first_on q h e f = q ∙ rw (one_less n i h) (simp (← e, f))

      -- the same, as a row that is found
      pub found_at : w ≡ first_bad ok i (n - i) → i < n → b ≡ ok i → b ≡ false → Some i ≡ found_below n w
      found_at q h e f = rw (← first-stop q h e f, lt-ltb i n h)

    pub found_none : w ≡ first_bad ok i (n - i) → n ≤ i → None ≡ found_below n w
    found_none q h = rw (← first-end q h, le-ltb i n h)

-- it lies among the rows, or behind the last
pub first_within : (ok : ℕ → Bool) (i n : ℕ) → first_bad ok i n ≤ i + n
unfolding first_bad
first_within ok i zero = omega arith
first_within ok i (suc n) =
    by-test (ok i) (λ t. rw t (let h : first_bad ok (i + 1) n ≤ i + 1 + n = first_within ok (i + 1) n in omega arith)) (λ t. rw t (omega arith))

pub entry_first : (entries : List ℕ) (n : ℕ) (o : Option ℕ) → o ≡ found_below (rows_in entries) (bad_entry entries) → n ≡ rows_in entries → unwrap_or o n ≡ bad_entry entries
unfolding bad_entry
entry_first entries n o e q =
    let m : first_bad (entry_ok entries) 0 (rows_in entries) ≤ 0 + rows_in entries = first_within (entry_ok entries) 0 (rows_in entries) in
    by-test (ltb (first_bad (entry_ok entries) 0 (rows_in entries)) (rows_in entries)) (λ t. rw (e, t)) (λ t. rw (e, t, q) (omega (arith, m, ltb-false _ _ t)))
