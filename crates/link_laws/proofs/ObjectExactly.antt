-- 1 for an object's rows: the answer is that of the first rule that holds.
-- Assumes nothing.
use Prim.Native.Nat.{ℕ, zero, suc, ◌+◌, ◌/◌}
use native.Mathlib.Omega.{arith}
use Rattle.std.specs.Prelude.{◌≡◌, refl, Bool, true, false, cond, not, ◌||◌, List, ltb, length, None}
use Rattle.std.proofs.Math.Path.{sym}
use Rattle.std.proofs.Common.{ap, ◌∙◌}
use Rattle.std.proofs.Math.Dec.{eqb}
use borrow.Author.Tests.{eqb-true, lt-ltb, le-ltb}
use Rattle.cells.specs.Proof.Split.{by-test}
use Rattle.link.specs.declared.cause.Refusal.{Refusal}
use Rattle.link.specs.Judge.{refused}
use Rattle.upcoming_symbol.specs.declared.UpcomingSymbol.TheVariants.{Elf}
use Rattle.elf_object.specs.Judge as Object
use Rattle.elf_object.specs.Judge.{range_ok, contents_ok, header_ok, entry_ok, first_bad, bad_header, bad_entry}
use Rattle.link_laws.specs.Rules.{each, ◌gives◌at◌, first_refusal, numbered}
use Rattle.link_laws.proofs.Rules.{each-numbered, numbered-both, taken, left_out, past, stop, not-below}
use Rattle.link_laws.proofs.InternExactly.{none_more}
use Rattle.link_laws.proofs.AddExactly.{range-is}
use Rattle.link_laws.specs.ObjectRules.{cell_at, is_cut, is_bad_header, entry_at, is_bad_entry, header_rules, entry_rules, object_rules}

-- ---- the first bad row

module _ (bad ok : ℕ → Bool) (k : ℕ) (agree : (i : ℕ) → ok i ≡ not (bad i)) where
  pub first-bad-rule : (n i : ℕ) → cond (ltb (first_bad ok i n) (i + n)) (refused k (first_bad ok i n)) (refused 0 0) ≡ first_refusal (each (λ j. bad j gives k at j) i n)
  unfolding first_bad
  first-bad-rule zero i = rw (le-ltb i (i + 0) (omega arith))
  first-bad-rule (suc n) i =
      let e : i + suc n ≡ i + 1 + n = omega arith in
      rw (agree i)
      (by-test (bad i) (λ h. rw (h, lt-ltb i (i + suc n) (omega arith))) (λ h. rw (h, e) (first-bad-rule n (i + 1))))

pub from_zero : (bad ok : ℕ → Bool) (k : ℕ) → ((i : ℕ) → ok i ≡ not (bad i)) → (n : ℕ)
    → cond (ltb (first_bad ok 0 n) n) (refused k (first_bad ok 0 n)) (refused 0 0) ≡ first_refusal (each (λ j. bad j gives k at j) 0 n)
from_zero bad ok k agree n =
    let e : n ≡ 0 + n = omega arith in
    ap (λ (m : ℕ). cond (ltb (first_bad ok 0 n) m) (refused k (first_bad ok 0 n)) (refused 0 0)) e ∙ first-bad-rule bad ok k agree n 0

-- ---- headers and entries

cut-is : (kind first count entries contents file : ℕ) → contents_ok kind first count entries contents file ≡ not (is_cut kind (first + count) entries contents file)
unfolding contents_ok range_ok
cut-is kind first count entries contents file =
    rw (none_more entries first count, none_more contents first count, none_more file first count)
    (by-test (eqb kind 3) (λ a. rw (eqb-true kind 3 a) (or-false (ltb entries (first + count))))
    (λ a.
    by-test (eqb kind 10) (λ b. rw (eqb-true kind 10 b) (or-false (ltb entries (first + count))))
    (λ b.
    by-test (eqb kind 4) (λ c. rw (eqb-true kind 4 c) (or-one (ltb file (first + count))))
    (λ c.
    by-test (eqb kind 5) (λ d. rw (eqb-true kind 5 d))
    (λ d. by-test (eqb kind 6) (λ e. rw (eqb-true kind 6 e)) (λ e. by-test (eqb kind 7) (λ f. rw (eqb-true kind 7 f)) (λ f. rw (a, b, c, d, e, f))))))))
  where
    or-false : (x : Bool) → not x ≡ not (x || false || false)
    or-false true = refl
    or-false false = refl

    or-one : (x : Bool) → not x ≡ not (x || false)
    or-one true = refl
    or-one false = refl

four : (x y z w : Bool) → cond (not x) false (cond y false (cond z false (not w))) ≡ not (not x || y || z || w)
four true true z w = refl
four true false true w = refl
four true false false w = refl
four false y z w = refl

entry-ok : (entries : List ℕ) (i : ℕ) → entry_ok entries i ≡ not (is_bad_entry entries i)
unfolding entry_ok
entry-ok entries i =
    rw (not-below i 65535, range-is (Elf (entry_at entries i) (record { 0 = 0 }) None))
    (by-test (ltb i 65535) (λ e. rw e) (λ e. rw e))

module _ (entries : List ℕ) where
  pub entries-exactly : cond (ltb (bad_entry entries) (length entries / 8)) (refused 1 (bad_entry entries)) (refused 0 0) ≡ first_refusal (entry_rules entries)
  unfolding bad_entry
  entries-exactly = from_zero (is_bad_entry entries) (entry_ok entries) 1 (entry-ok entries) (length entries / 8)

  pub entries-numbered : numbered (entry_rules entries) ≡ true
  entries-numbered = each-numbered (is_bad_entry entries) 1 refl (length entries / 8) 0

module _ (headers entries contents file : List ℕ) where
  abbrev bad : ℕ
  bad = bad_header headers (length entries / 8) (length contents) (length file)

  abbrev ok : ℕ → Bool
  ok = header_ok headers (length entries / 8) (length contents) (length file)

  header-ok : (n : ℕ) → ok n ≡ not (is_bad_header headers entries contents file n)
  unfolding header_ok
  header-ok n =
      rw (not-below n 65280, cut-is (cell_at headers n 0) (cell_at headers n 5) (cell_at headers n 6) (length entries / 8) (length contents) (length file))
      (four (ltb n 65280) (ltb 14 (cell_at headers n 0)) (ltb 15 (cell_at headers n 2)) _)

  headers-exactly : cond (ltb bad (length headers / 8)) (refused 1 bad) (refused 0 0) ≡ first_refusal (header_rules headers entries contents file)
  unfolding bad_header
  headers-exactly = from_zero (is_bad_header headers entries contents file) ok 1 header-ok (length headers / 8)

  pub headers-numbered : numbered (header_rules headers entries contents file) ≡ true
  headers-numbered = each-numbered (is_bad_header headers entries contents file) 1 refl (length headers / 8) 0

  pub object-exactly : Object.judge_of headers entries (length contents) (length file) ≡ first_refusal (object_rules headers entries contents file)
  unfolding Object.judge_of
  object-exactly =
      by-test (ltb bad (length headers / 8))
      (λ e.
      let h = sym (taken (refused 1 bad) (refused 0 0) e) ∙ headers-exactly in
      taken _ _ e ∙ h ∙ sym (stop (entry_rules entries) (header_rules headers entries contents file) (ap (λ (r : Refusal). eqb r.number 0) (sym h))))
      (λ e.
      let h = sym (left_out (refused 1 bad) (refused 0 0) e) ∙ headers-exactly in
      left_out _ _ e ∙ entries-exactly entries
      ∙ sym (past (entry_rules entries) (header_rules headers entries contents file) headers-numbered (ap (λ (r : Refusal). eqb r.number 0) (sym h))))

  pub object-numbered : numbered (object_rules headers entries contents file) ≡ true
  object-numbered = numbered-both (header_rules headers entries contents file) (entry_rules entries) headers-numbered (entries-numbered entries)
