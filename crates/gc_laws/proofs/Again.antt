-- A second collection with the same roots drops nothing.
-- Assumes nothing.
use Rattle.link.specs.declared.SymbolId.{SymbolId}
use Rattle.std.specs.Prelude.{ℕ, ◌+◌, ◌<◌, ◌≡◌, Bool, true, false, List, get_or, length, Option, Some, Ok}
use Rattle.std.proofs.Common.{arith, sym, ◌∙◌}
use Rattle.cells.specs.Proof.Split.{by-test}
use Rattle.byte_slices.specs.Proof.Ways.{apart}
use Rattle.link.specs.declared.Link.{Link}
use Rattle.sections.specs.Rows.{field, first_at, is_built}
use Rattle.gc_sections.specs.Roots.{symbol_id, section_id, lead_of, readable, name_is, rooted, is_root}
use Rattle.gc_sections.specs.Run.{Left, Lists, judged, run_of, dropped}
use Rattle.gc_laws.specs.Reached.{Leads, Reached, marked, entered, root, step}
use Rattle.gc_laws.proofs.Own.{built-own, own-built, leads-own, own-leads, root-own, own_root}
use Rattle.gc_laws.proofs.Walk.{built-below}
use Rattle.gc_laws.proofs.Paint.{picked_none, paint-none, length-painted}
use Rattle.gc_laws.specs.Proof.Swept.{state_cell, symbol_cell, freed}
use Rattle.gc_laws.proofs.Collected as C

module _ (l : Link) (x : Lists) (symbols sections : List ℕ) (entry : Option SymbolId) (work : List ℕ) (ok : (judged l x symbols sections work).number ≡ 0)
    (whole : (y : ℕ) → Reached l x symbols sections entry y → is_built sections l.sections y ≡ true) where
  abbrev n : ℕ
  n = l.sections

  abbrev r : Left
  r = run_of l x symbols sections entry work

  abbrev R : ℕ → Type 0
  R = Reached l x symbols sections entry

  -- what is reached after the call
  abbrev S : ℕ → Type 0
  S = Reached l x r.symbols r.sections entry

  same_row : (y f : ℕ) → y < n → f < 8 → R y → field r.sections y f ≡ field sections y f
  same_row y f h g q = C.others-stay l x symbols sections entry work ok whole y f (omega (arith, C.fit l x symbols sections entry work ok whole)) g (λ z b. q)

  root-stays : (y : ℕ) → y < n → R y → is_root x.bytes x.names r.sections n y ≡ is_root x.bytes x.names sections n y
  unfolding is_root rooted readable name_is
  root-stays y h q =
      rw (
        C.reached-kept l x symbols sections entry work ok whole y q,
        whole y q,
        same_row y 4 h (omega arith) q,
        same_row y 2 h (omega arith) q,
        same_row y 3 h (omega arith) q,
        same_row y 1 h (omega arith) q,
      )

  below : (y : ℕ) → R y → y < n
  below y q = built-below sections n y (whole y q)

  lead-on : (i y : ℕ) → Leads l x symbols sections i y → R y → Leads l x r.symbols r.sections i y
  lead-on i y m q =
      leads-own l x r.symbols r.sections i y
      (C.lead-on l x symbols sections entry work ok whole i y (own-leads l x symbols sections i y m) q)

  lead-back : (i y : ℕ) → Leads l x r.symbols r.sections i y → Leads l x symbols sections i y
  lead-back i y m =
      leads-own l x symbols sections i y
      (C.lead-back l x symbols sections entry work ok whole i y (own-leads l x r.symbols r.sections i y m))

  pub still : (y : ℕ) → R y → S y
  still y (marked i ne m) = marked i ne (lead-on i y m (marked i ne m))
  still y (entered i e m) = entered i e (lead-on i y m (entered i e m))
  still y (root b q) =
      let e = own_root l x symbols sections y b q in
      let s = root-own l x r.symbols r.sections y (root-stays y b.issued (root b q) ∙ e) in
      root s.0 s.1
  still y (step {y = z} q b m) =
      let h = below z q in
      let first : first_at r.sections z ≡ first_at sections z = same_row z 5 h (omega arith) q in
      step {z = y} (still z q) (built-own l x r.symbols r.sections z (C.reached-kept l x symbols sections entry work ok whole z q))
      (record {
        at = m.at;
        within = rw (same_row z 6 h (omega arith) q) m.within;
        listed = rw first m.listed;
        leads = rw first (lead-on (get_or x.lists (first_at sections z + m.at) 0) y m.leads (step {z = y} q b m));
      })

  pub before : (y : ℕ) → S y → R y
  before y (marked i ne m) = marked i ne (lead-back i y m)
  before y (entered i e m) = entered i e (lead-back i y m)
  before y (root b q) = C.kept-reached l x symbols sections entry work ok whole y (own-built l x r.symbols r.sections y b)
  before y (step {y = z} s b m) =
      let q = before z s in
      let h = below z q in
      let first : first_at r.sections z ≡ first_at sections z = same_row z 5 h (omega arith) q in
      let lead = lead-back (get_or x.lists (first_at r.sections z + m.at) 0) y m.leads in
      step {z = y} q (built-own l x symbols sections z (whole z q))
      (record {
        at = m.at;
        within = rw (same_row z 6 h (omega arith) q) at m.within;
        listed = rw first at m.listed;
        leads = rw first at lead;
      })

  module _ (cells : List ℕ) (again : (judged l x r.symbols r.sections cells).number ≡ 0) where
    whole' : (y : ℕ) → S y → is_built r.sections n y ≡ true
    whole' y s = C.reached-kept l x symbols sections entry work ok whole y (before y s)

    abbrev D : ℕ → Bool
    D = C.D l x r.symbols r.sections entry cells again whole'

    nothing : (y : ℕ) → D y ≡ false
    nothing y = by-test (D y) (λ t. absurd (never t)) (λ t. t)
      where
        never : D y ≡ true → ⊥
        never t =
            let d = C.doomed-no l x r.symbols r.sections entry cells again whole' y t in
            d.1 (still y (C.kept-reached l x symbols sections entry work ok whole y d.0))

    abbrev goes : ℕ → Bool
    goes = C.goes l x r.symbols r.sections entry cells again whole'

    nobody : (i : ℕ) → goes i ≡ false
    nobody i = by-test (goes i) (λ t. absurd (never (C.goes-no l x r.symbols r.sections entry cells again whole' i t))) (λ t. t)
      where
        never : (y : ℕ) × (lead_of r.symbols l.symbols (symbol_id i) ≡ Some (section_id y)) × (D y ≡ true) → ⊥
        never k = apart (sym (nothing k.0) ∙ k.2)

    abbrev frees : ℕ → Bool
    frees = C.frees l x r.symbols r.sections entry cells again whole'

    none-freed : (i : ℕ) → frees i ≡ false
    unfolding freed
    none-freed i = rw (nobody i)

    abbrev r' : Left
    r' = run_of l x r.symbols r.sections entry cells

    pub drops-nothing : (r'.answer ≡ Ok (dropped 0 0)) × (r'.symbols ≡ r.symbols) × (r'.sections ≡ r.sections)
    unfolding C.result
    drops-nothing =
        rw (C.run-result l x r.symbols r.sections entry cells again whole') (
          (rw (picked_none D n 0 (λ j a b. nothing j), picked_none goes l.symbols 0 (λ j a b. nobody j))),
          paint-none goes state_cell 2 l.symbols 0 r.symbols (λ j a b. nobody j),
          (paint-none frees (symbol_cell r.symbols (C.cells l x r.symbols r.sections entry cells again whole')) 0 l.symbols 0
              (C.sections₁ l x r.symbols r.sections entry cells again whole') (λ j a b. none-freed j)
              ∙ paint-none D state_cell 3 n 0 r.sections (λ j a b. nothing j)),
        )

  -- a second call is let through wherever the first was: as many cells are lent to it
  pub passes-again : (cells : List ℕ) → length cells ≡ length work → (judged l x r.symbols r.sections cells).number ≡ 0
  unfolding C.result
  passes-again cells e =
      rw (
        C.run-result l x symbols sections entry work ok whole,
        length-painted (C.goes l x symbols sections entry work ok whole) state_cell 2 l.symbols 0 symbols,
        length-painted (C.frees l x symbols sections entry work ok whole) (symbol_cell symbols (C.cells l x symbols sections entry work ok whole)) 0 l.symbols 0
            (C.sections₁ l x symbols sections entry work ok whole),
        length-painted (C.D l x symbols sections entry work ok whole) state_cell 3 n 0 sections,
        e,
      ) ok
