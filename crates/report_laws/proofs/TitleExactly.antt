-- A title is refused by the first of its rules that holds.
-- Assumes nothing.
use Rattle.std.specs.Prelude.{ℕ, zero, suc, ◌+◌, ◌/◌, ◌<◌, ◌≤◌, ◌≡◌, refl, Bool, true, false, cond, not, ◌||◌, List, eqb, ltb, length, get_or, Result, Ok, Err}
use Rattle.std.proofs.Common.{arith, sym, ap, ◌∙◌, eqb-true, ltb-true, ltb-false, lt-ltb, le-ltb}
use Rattle.std.proofs.lemmas.Bool.{eqb-false}
use Rattle.cells.specs.Proof.Split.{by-test}
use Rattle.link.specs.declared.cause.Refusal.{Refusal}
use Rattle.link.specs.Bounds.{lesser, section_slots, section_rows, symbol_rows, name_bytes, input_rows}
use Rattle.link.specs.Judge.{refused, none, judge_sections, judge_names, judge_lists, after_symbols, after_sections, judge_of}
use Rattle.lot_report.specs.declared.Figures.{Figures}
use Rattle.lot_report.specs.declared.Report.{Report}
use Rattle.lot_report.specs.Count.{bound}
use Rattle.lot_report.specs.Figures.{Title, figures_of, plus_of, fits_of}
use Rattle.lot_report.specs.Report.{Added, added, counted_of, add_title_of}
use Rattle.lot_report.specs.Proof.Sums.{plus-at, plus-long, fits-all}
use Rattle.report_laws.specs.Lot.{figure, total}
use Rattle.report_laws.specs.TitleRules.{least, is_past, answer_by, title_rules}
use Rattle.report_laws.proofs.Added.{fits-each}

no : true ≡ false → ⊥
no e = let z : ◌≡◌ {A = ℕ} 1 0 = cc in omega arith

-- above the lesser of two is above one of them
over-either : (a b c : ℕ) → ltb (lesser a b) c ≡ ltb a c || ltb b c
unfolding lesser
over-either a b c =
    by-test (ltb a b)
    (λ h. by-test (ltb a c) (λ i. rw (h, i)) (λ i. rw (h, i) (sym (le-ltb _ _ (le_trans (ltb-false _ _ i) (lt-le (ltb-true _ _ h)))))))
    (λ h. by-test (ltb a c) (λ i. rw (h, i) (lt-ltb _ _ (le-lt (ltb-false _ _ h) (ltb-true _ _ i)))) (λ i. rw (h, i)))
  where
    le_trans : c ≤ a → a ≤ b → c ≤ b
    le_trans p q = omega arith

    lt-le : a < b → a ≤ b
    lt-le p = omega arith

    le-lt : b ≤ a → a < c → b < c
    le-lt p q = omega arith

-- ---- the sums

module _ (r : Report) (t : Title) (long : length r.totals.0 ≡ 13) where
  abbrev sums : List ℕ
  sums = plus_of r.totals.0 (figures_of t)

  sums-long : length sums ≡ 13
  sums-long = plus-long r.totals.0 (figures_of t) long ∙ long

  sum-at : (k : ℕ) → k < 13 → get_or sums k 0 ≡ total k r + figure k t
  sum-at k l = plus-at r.totals.0 (figures_of t) k (omega (arith, long)) l

  none-past : (n : ℕ) → n ≤ 13 → fits_of sums ≡ true → is_past r t n ≡ false
  unfolding is_past
  none-past zero h e = refl
  none-past (suc k) h e =
      let s : total k r + figure k t < bound = rw (sum-at k (omega arith)) at (fits-each sums k e (omega (arith, sums-long))) in
      rw (lt-ltb _ _ s, none-past k (omega arith) e)

  each-small : (n : ℕ) → is_past r t n ≡ false → (k : ℕ) → k < n → total k r + figure k t < bound
  unfolding is_past
  each-small zero e k h = absurd (omega arith)
  each-small (suc n) e k h =
      by-test (ltb (total n r + figure n t) bound)
      (λ a. by-test (eqb k n) (λ b. rw (eqb-true k n b) (ltb-true _ _ a)) (λ b. each-small n (rw a at e) k (omega (arith, eqb-false k n b))))
      (λ a. absurd (no (rw a at e)))

  past-is : is_past r t 13 ≡ not (fits_of sums)
  past-is =
      by-test (fits_of sums) (λ a. rw (a, none-past 13 (omega arith) a))
      (λ a.
      by-test (is_past r t 13) (λ b. rw (a, b))
      (λ b. absurd (no (sym (fits-all sums (λ k l. let m : k < 13 = rw sums-long at l in rw (sum-at k m) (each-small 13 b k m))) ∙ a))))

  -- behind the link's counts
  own : (cond (ltb r.titles 1000) (counted_of r (figures_of t)) (added r (Err (refused 1 1000)))).answer
      ≡ cond (not (ltb r.titles 1000)) (Err (refused 1 1000)) (cond (is_past r t 13) (Err (refused 31 r.titles)) (Ok (record { 0 = figures_of t })))
  unfolding counted_of
  own = rw past-is (by-test (ltb r.titles 1000) (λ a. by-test (fits_of sums) (λ b. rw (a, b)) (λ b. rw (a, b))) (λ a. rw a))

-- ---- the definition's nesting, and the list

abbrev after_two : Refusal → Bool → Refusal → Refusal → Refusal → Refusal
after_two s c k names rest = cond (eqb s.number 0) (cond c k (cond (eqb names.number 0) rest names)) s

module _ (i j k n p q m : ℕ) (r : Report) (x : Added) (f : Result Figures Refusal) (e : x.answer ≡ f) where
  abbrev judged : Bool → Bool → Bool → Bool → Bool → Bool → Bool → Refusal
  judged a b c d e g h =
      after_two (cond a (refused 1 i) (cond b (refused 1 j) none)) c (refused 1 k) (cond d (refused 1 n) (cond e (refused 1 p) none)) (cond g (refused 1 q) (cond h (refused 1 m) none))

  nested : (a b c d e g h : Bool) → (cond (eqb (judged a b c d e g h).number 0) x (added r (Err (judged a b c d e g h)))).answer
      ≡ cond a (Err (refused 1 i)) (cond b (Err (refused 1 j)) (cond c (Err (refused 1 k)) (cond d (Err (refused 1 n)) (cond e (Err (refused 1 p)) (cond g (Err (refused 1 q)) (cond h (Err (refused 1 m)) f))))))
  nested true b c d e g h = refl
  nested false true c d e g h = refl
  nested false false true d e g h = refl
  nested false false false true e g h = refl
  nested false false false false true g h = refl
  nested false false false false false true h = refl
  nested false false false false false false true = refl
  nested false false false false false false false = e

pub title-exactly : (r : Report) (t : Title) → length r.totals.0 ≡ 13 → (add_title_of r t).answer ≡ answer_by (title_rules r t) (record { 0 = figures_of t })
unfolding add_title_of judge_of judge_sections judge_names judge_lists after_sections after_symbols lesser
title-exactly r t long =
    rw (le-ltb t.link.chains t.link.chains (omega arith), sym (over-either 65535 t.link.slots t.link.sections), sym (over-either 65535 (length t.symbols / 8) t.link.symbols))
    (nested _ _ _ _ _ _ _ r _ _ (own r t long) (ltb (length t.sections / 9) t.link.slots) (ltb (least 65535 t.link.slots) t.link.sections)
    (ltb (least 65535 (length t.symbols / 8)) t.link.symbols) (ltb t.link.chains t.link.names) (ltb 1048576 t.link.bytes) (ltb 4095 t.link.inputs)
    (ltb 0xffffffffffffffff t.link.lists))
