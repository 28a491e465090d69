-- The statements about collections: what a call keeps and removes, where it is refused, what a refused one leaves, what its walk finds.
-- Assumes nothing.
use Rattle.link.specs.declared.SymbolId.{SymbolId}
use Rattle.std.specs.Prelude.{ℕ, ◌+◌, ◌/◌, ◌≤◌, ◌≡◌, true, false, List, ◌≢◌, eqb, ltb, length, Option, Some, Ok, Err}
use Rattle.std.proofs.Common.{arith, sym, ◌∙◌, eqb-true}
use Rattle.std.proofs.Math.Path.{ap}
use Rattle.cells.specs.Proof.Split.{by-test}
use Rattle.byte_slices.specs.Proof.Ways.{pick, apart}
use Rattle.link.specs.declared.Link.{Link}
use Rattle.link.specs.declared.Lent.{Lent}
use Rattle.link.specs.declared.cause.Refusal.{Refusal}
use Rattle.link.specs.Judge.{refused, change_of}
use Rattle.link.specs.Proof.Passed.{judge-gives}
use Rattle.sections.specs.Rows.{is_built}
use Rattle.gc_sections.specs.Roots.{symbol_id, section_id, lead_of}
use Rattle.gc_sections.specs.Reach.{walked}
use Rattle.gc_sections.specs.Run.{Left, Lists, number_of, judge_cells, judge_of, judged, run_of, dropped}
use Rattle.gc_laws.specs.Reached.{Reached}
use Rattle.gc_laws.proofs.Own.{built-own, own-built, leads-own, own-leads}
use Rattle.gc_laws.proofs.Collected as C
use Rattle.gc_laws.proofs.Exact as Walked
use Rattle.gc_laws.specs.Found as Found
use Rattle.gc_laws.specs.Collected as Collected

-- 21 is never an answer of the head
abbrev Head : Refusal → Type 0
Head q = q.number ≡ 21 → ⊥

change-head : (l : Link) (n : Lent) → Head (change_of l n)
unfolding change_of
change-head l n = pick Head l.broken _ _ (λ t e. omega arith) (λ t. judge-gives Head (λ p e. omega arith) (λ e. omega arith) l n)

cells-head : (l : Link) (marks work : ℕ) → Head (judge_cells l marks work)
unfolding judge_cells
cells-head l marks work =
    pick Head (ltb marks l.symbols) _ _ (λ t e. omega arith) (λ t. pick Head (ltb (work / 2) l.sections) _ _ (λ t e. omega arith) (λ t e. omega arith))

judge-head : (l : Link) (n : Lent) (marks work : ℕ) → Head (judge_of l n marks work)
unfolding judge_of
judge-head l n marks work = pick Head (eqb (change_of l n).number 0) _ _ (λ t. cells-head l marks work) (λ t. change-head l n)

module _ (l : Link) (x : Lists) (symbols sections : List ℕ) (entry : Option SymbolId) (work : List ℕ) where
  abbrev n : ℕ
  n = l.sections

  abbrev r : Left
  r = run_of l x symbols sections entry work

  abbrev R : ℕ → Type 0
  R = Reached l x symbols sections entry

  abbrev Passed : Type 0
  Passed = Collected.Passed l x symbols sections entry work

  -- what is refused at the head has the head's answer
  pub head : (P : Type 0) → (Passed → P) → (r.answer ≡ Err (judged l x symbols sections work) → P) → P
  unfolding run_of
  head P f g = by-test (eqb (judged l x symbols sections work).number 0) (λ t. f (eqb-true _ _ t)) (λ t. g (rw t))

  pub accepted-passed : (a b : ℕ) → r.answer ≡ Ok (dropped a b) → Passed
  accepted-passed a b e = head Passed (λ p. p) (λ q. absurd (C.differ a b (judged l x symbols sections work) (sym e ∙ q)))

  pub refused-passed : (k : ℕ) → r.answer ≡ Err (refused 21 k) → Passed
  refused-passed k e = head Passed (λ p. p) (λ q. absurd (judge-head l _ _ _ (ap number_of (sym q ∙ e))))

  abbrev pub Before : ℕ → Type 0
  Before = Collected.Before l x symbols sections entry work

  abbrev pub After : ℕ → Type 0
  After = Collected.After l x symbols sections entry work

  unbuilt : (y : ℕ) → (Before y → ⊥) → is_built sections n y ≡ false
  unbuilt y ne = by-test (is_built sections n y) (λ t. absurd (ne (built-own l x symbols sections y t))) (λ t. t)

  built-not : (y : ℕ) → is_built sections n y ≡ false → Before y → ⊥
  built-not y e b = apart (sym e ∙ own-built l x symbols sections y b)

  pub accepted-whole : (a b : ℕ) → r.answer ≡ Ok (dropped a b) → (y : ℕ) → R y → is_built sections n y ≡ true
  accepted-whole a b e y q =
      by-test (is_built sections n y) (λ t. t)
      (λ t. let f = C.unbuilt-refused l x symbols sections entry work (accepted-passed a b e) y q t in absurd (C.differ a b (refused 21 f.0) (sym e ∙ f.1)))

  abbrev pub Kept : Type 0
  Kept = Collected.Kept l x symbols sections entry work

  -- not refused: a section is there after the call exactly if it is reached, and it was there before
  pub keeps : (a b : ℕ) → r.answer ≡ Ok (dropped a b) → Kept
  keeps a b e =
      let ok = accepted-passed a b e in
      let whole = accepted-whole a b e in
      record {
        reached = λ y q. C.kept-reached l x symbols sections entry work ok whole y (own-built l x r.symbols r.sections y q);
        kept = λ y q. built-own l x r.symbols r.sections y (C.reached-kept l x symbols sections entry work ok whole y q);
        built = λ y q. built-own l x symbols sections y (whole y q);
        dropped = λ y q. C.unreached-dropped l x symbols sections entry work ok whole y (own-built l x symbols sections y q);
      }

  abbrev pub Lies : ℕ → ℕ → Type 0
  Lies = Collected.Lies l x symbols sections entry work

  abbrev pub Removed : Type 0
  Removed = Collected.Removed l x symbols sections entry work

  abbrev own : (y : ℕ) → is_built sections n y ≡ true → Before y
  own = built-own l x symbols sections

  abbrev of_own : (y : ℕ) → Before y → is_built sections n y ≡ true
  of_own = own-built l x symbols sections

  abbrev lead : (i y : ℕ) → lead_of symbols l.symbols (symbol_id i) ≡ Some (section_id y) → Lies i y
  lead = leads-own l x symbols sections

  abbrev of_lead : (i y : ℕ) → Lies i y → lead_of symbols l.symbols (symbol_id i) ≡ Some (section_id y)
  of_lead = own-leads l x symbols sections

  -- not refused: "their symbols' rows with them", and no other cell of a row
  pub removes : (a b : ℕ) → r.answer ≡ Ok (dropped a b) → Removed
  removes a b e =
      let ok = accepted-passed a b e in
      let whole = accepted-whole a b e in
      record {
        removed = λ i y m q. C.symbol-removed l x symbols sections entry work ok whole i y (of_lead i y m) (of_own y q);
        stays = λ i f h k. C.symbol-stays l x symbols sections entry work ok whole i f h (λ z y m q. k z y (lead i y m) (own y q));
        section_stays = λ y f h g k. C.others-stay l x symbols sections entry work ok whole y f h g (λ z q. k z (own y q));
        entry_dropped = λ i y m s q. C.section-symbol-dropped l x symbols sections entry work ok whole i y (of_lead i y m) s (of_own y q);
        entry_stays = λ y k. C.section-symbol-stays l x symbols sections entry work ok whole y (λ i m s q. k i (lead i y m) s (own y q));
        entry_falls = C.section-symbol-falls l x symbols sections entry work ok whole;
      }

  abbrev pub Lowest : ℕ → Type 0
  Lowest = Collected.Lowest l x symbols sections entry work

  -- refused with 21: the place is the lowest section that is reached but not built
  pub refuses : (k : ℕ) → r.answer ≡ Err (refused 21 k) → Lowest k
  refuses k e =
      let f = C.refused-lowest l x symbols sections entry work (refused-passed k e) k e in
      record { reached = f.0; unbuilt = built-not k f.1; least = λ y q u. f.2 y q (unbuilt y u) }

  -- a call that passes its head is refused where there is such a section, and only there
  pub passes : Passed → (y : ℕ) → R y → (Before y → ⊥) → (k : ℕ) × (r.answer ≡ Err (refused 21 k))
  passes ok y q u = C.unbuilt-refused l x symbols sections entry work ok y q (unbuilt y u)

  pub accepts : Passed → ((y : ℕ) → R y → Before y) → (a b : ℕ) × (r.answer ≡ Ok (dropped a b))
  unfolding C.result
  accepts ok whole = (_, _, ap (λ (t : Left). t.answer) (C.run-result l x symbols sections entry work ok (λ y q. of_own y (whole y q))))

  -- ---- "leaves behind what that table says": every call leaves the link, a refused one every row

  pub link_stays : r.link ≡ l
  link_stays = C.link_stays l x symbols sections entry work

  pub refused-leaves : number_of r.answer ≢ 0 → (r.symbols ≡ symbols) × (r.sections ≡ sections)
  refused-leaves = C.refused-leaves l x symbols sections entry work

  -- ---- what the walk of a call marks or notes is reached, and all that is reached is marked or noted

  pub exact : n + n ≤ length work → Found.Exact l x symbols sections entry (walked l x.bytes x.names symbols sections x.lists x.marks entry work)
  exact = Walked.exact l x symbols sections entry work
