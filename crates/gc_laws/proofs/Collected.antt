-- Demand 3: "Collection, unless refused, keeps exactly what relocations reach from the roots." And where it is refused, what goes, what stays.
-- Assumes nothing.
use Rattle.link.specs.declared.SymbolId.{SymbolId}
use Rattle.std.specs.Prelude.{ℕ, ◌+◌, ◌*◌, ◌<◌, ◌≤◌, ◌≡◌, Bool, List, ltb, leb, length, Option, None, Some, Ok, Err}
use native.Mathlib.Omega.{arith}
use Rattle.std.proofs.Math.Nat.{zero-add}
use Rattle.std.proofs.Math.Path.{refl, sym, ap, subst}
use Rattle.std.proofs.Common.{◌∙◌, ⊎_elim}
use Rattle.std.proofs.Math.Bool.{true, false, cond}
use borrow.Author.Tests.{eq-eqb, ne_eqb, eqb-true, lt-ltb, ltb-true, ltb-false, lt-leb, le-leb}
use Rattle.std.proofs.Math.Dec.{eqb}
use Rattle.std.proofs.Math.ListN.{get_or}
use Rattle.cells.specs.Proof.Split.{by-test}
use Rattle.byte_slices.specs.Proof.Ways.{apart}
use Rattle.link.specs.declared.Link.{Link}
use Rattle.link.specs.declared.cause.Refusal.{Refusal}
use Rattle.link.specs.declared.SectionId.{SectionId}
use Rattle.link.specs.Bounds.{section_slots}
use Rattle.link.specs.Judge.{refused}
use Rattle.symbol.specs.Row as Symbol
use Rattle.sections.specs.Rows.{field, state_at, is_built}
use Rattle.gc_sections.specs.Each.{each}
use Rattle.gc_sections.specs.Roots.{symbol_id, section_id, value_lead, lead_of}
use Rattle.gc_sections.specs.Reach.{Walk, walked}
use Rattle.gc_sections.specs.Sweep.{Purged, dropped_now}
use Rattle.gc_sections.specs.Run.{Left, left, Lists, number_of, place_of, judged, purge_of, sweep_of, finish_of, finished, collect_of, run_of, dropped}
use Rattle.gc_laws.specs.Reached.{Reached}
use Rattle.gc_laws.proofs.Walk.{built-below}
use Rattle.gc_laws.proofs.Exact.{Exact, exact, elsewhere, lead-below}
use Rattle.gc_laws.specs.Proof.Paint.{paint, picked}
use Rattle.gc_laws.proofs.Paint.{length-painted, paint-hit, paint-miss, paint-falls}
use Rattle.gc_laws.specs.Proof.Swept.{state_cell, itself, doomed, taken, gone, takes_symbol, freed, symbol_cell}
use Rattle.gc_laws.proofs.Swept.{swept-is, purged-is}
use Rattle.gc_laws.proofs.Head.{sections-fit, slots-fit, symbols-fit, work-fits, run_is}

pub differ : (a b : ℕ) (q : Refusal) → Ok (dropped a b) ≡ Err q → ⊥
differ a b q e = let z : ◌≡◌ {A = ℕ} 0 1 = cc in omega arith

pub built-state : (sections : List ℕ) (n y : ℕ) → is_built sections n y ≡ true → state_at sections y ≡ 2
unfolding is_built
built-state sections n y e =
    by-test (leb n y) (λ t. absurd (apart (rw t at e)))
    (λ t. by-test (eqb (state_at sections y) 2) (λ u. eqb-true _ _ u) (λ u. absurd (apart (rw (t, u) at e))))

pub state-built : (sections : List ℕ) (n y : ℕ) → y < n → state_at sections y ≡ 2 → is_built sections n y ≡ true
unfolding is_built
state-built sections n y h e = rw (lt-leb _ _ h, eq-eqb _ _ e)

module _ (l : Link) (x : Lists) (symbols sections : List ℕ) (entry : Option SymbolId) (work : List ℕ) where
  abbrev n : ℕ
  n = l.sections

  abbrev R : ℕ → Type 0
  R = Reached l x symbols sections entry

  abbrev Built : ℕ → Type 0
  Built y = is_built sections n y ≡ true

  abbrev Unready : ℕ → Type 0
  Unready y = is_built sections n y ≡ false

  abbrev Lies : ℕ → ℕ → Type 0
  Lies i y = lead_of symbols l.symbols (symbol_id i) ≡ Some (section_id y)

  abbrev w : Walk
  w = walked l x.bytes x.names symbols sections x.lists x.marks entry work

  abbrev r : Left
  r = run_of l x symbols sections entry work

  -- ---- a refusal leaves the link as it was

  pub link_stays : r.link ≡ l
  unfolding run_of collect_of finished sweep_of purge_of
  link_stays =
      by-test (eqb (judged l x symbols sections work).number 0) (λ t. rw t (go w.visitor.unbuilt)) (λ t. rw t)
    where
      go : (u : Option SectionId) → (finish_of l symbols sections w.work u).link ≡ l
      go None = refl
      go (Some id) = refl

  pub refused-leaves : (number_of r.answer ≡ 0 → ⊥) → (r.symbols ≡ symbols) × (r.sections ≡ sections)
  unfolding run_of collect_of finished sweep_of purge_of
  refused-leaves ne =
      by-test (eqb (judged l x symbols sections work).number 0) (λ t. rw t (go w.visitor.unbuilt (rw t at ne))) (λ t. rw t (refl, refl))
    where
      go : (u : Option SectionId) → (number_of (finish_of l symbols sections w.work u).answer ≡ 0 → ⊥)
          → ((finish_of l symbols sections w.work u).symbols ≡ symbols) × ((finish_of l symbols sections w.work u).sections ≡ sections)
      go None k = absurd (k refl)
      go (Some id) k = (refl, refl)

  module _ (ok : (judged l x symbols sections work).number ≡ 0) where
    pub found : Exact l x symbols sections entry w
    found = exact l x symbols sections entry work (work-fits l x symbols sections work ok)

    -- ---- refused with 21: where something that is reached isn't built, at the lowest

    swept-answer : (k : Refusal) → (sweep_of l symbols sections w.work).answer ≡ Err k → ⊥
    unfolding sweep_of purge_of
    swept-answer k e = differ _ _ k e

    pub refused-lowest : (k : ℕ) → r.answer ≡ Err (refused 21 k) → R k × Unready k × ((y : ℕ) → R y → Unready y → k ≤ y)
    refused-lowest k e = go w.visitor.unbuilt refl (ap (λ (t : Left). t.answer) (sym (run_is l x symbols sections work ok entry)) ∙ e)
      where
        least : (id : SectionId) → w.visitor.unbuilt ≡ Some id → (y : ℕ) → R y → Unready y → id.0 ≤ y
        least id d y q u =
            let f = (found.all y q).low u in
            let s : Some id ≡ Some f.0 = sym d ∙ f.1 in
            let same : id ≡ f.0 = cc in
            omega (arith, f.2, ap (λ (m : SectionId). m.0) same)

        go : (u : Option SectionId) → w.visitor.unbuilt ≡ u → (finish_of l symbols sections w.work u).answer ≡ Err (refused 21 k)
            → R k × Unready k × ((y : ℕ) → R y → Unready y → k ≤ y)
        go None d f = absurd (swept-answer (refused 21 k) f)
        go (Some id) d f =
            let s : id.0 ≡ k = ap place_of f in
            let g = found.good.lowest id d in
            (subst R s g.0, subst Unready s g.1, (λ y q u. omega (arith, least id d y q u)))

    pub unbuilt-refused : (y : ℕ) → R y → Unready y → (k : ℕ) × (r.answer ≡ Err (refused 21 k))
    unbuilt-refused y q u =
        let f = (found.all y q).low u in
        (f.0.0, ap (λ (t : Left). t.answer) (run_is l x symbols sections work ok entry) ∙ ap (λ (v : Option SectionId). (finish_of l symbols sections w.work v).answer) f.1)

    -- ---- otherwise

    module _ (whole : (y : ℕ) → R y → Built y) where
      no-unbuilt : w.visitor.unbuilt ≡ None
      no-unbuilt = go w.visitor.unbuilt refl
        where
          go : (u : Option SectionId) → w.visitor.unbuilt ≡ u → u ≡ None
          go None d = refl
          go (Some id) d = let g = found.good.lowest id d in absurd (apart (sym g.1 ∙ whole id.0 g.0))

      abbrev pub D : ℕ → Bool
      D = doomed n sections w.work

      abbrev pub work₁ : List ℕ
      work₁ = each (paint D itself 2) n 0 w.work

      abbrev pub sections₁ : List ℕ
      sections₁ = each (paint D state_cell 3) n 0 sections

      abbrev pub cells : ℕ
      cells = l.slots

      abbrev pub goes : ℕ → Bool
      goes = gone (λ (y : ℕ). dropped_now work₁ n y) symbols l.symbols

      abbrev pub frees : ℕ → Bool
      frees = freed (λ (y : ℕ). dropped_now work₁ n y) symbols l.symbols cells

      unfoldable pub result : Left
      result =
          left (each (paint goes state_cell 2) l.symbols 0 symbols) (each (paint frees (symbol_cell symbols cells) 0) l.symbols 0 sections₁) work₁ l
          (Ok (dropped (0 + picked D n 0) (0 + picked goes l.symbols 0)))

      pub room : cells ≤ section_slots (length sections)
      room = slots-fit l x symbols sections work ok

      pub run-result : r ≡ result
      unfolding sweep_of purge_of result
      run-result =
          run_is l x symbols sections work ok entry
          ∙ ap (λ (u : Option SectionId). finish_of l symbols sections w.work u) no-unbuilt
          ∙ ap (purge_of l symbols) (swept-is n sections w.work)
          ∙ ap (λ (p : Purged). left p.rows.symbols p.rows.sections work₁ l (Ok (dropped (0 + picked D n 0) p.count)))
          (purged-is l work₁ symbols sections₁ (rw (length-painted D state_cell 3 n 0 sections) room))

      -- the answer counts both
      pub answer-counts : r.answer ≡ Ok (dropped (picked D n 0) (picked goes l.symbols 0))
      unfolding result
      answer-counts = rw run-result (rw (zero-add (picked D n 0), zero-add (picked goes l.symbols 0)))

      -- what is doomed is built and not reached
      pub doomed-yes : (y : ℕ) → Built y → (R y → ⊥) → D y ≡ true
      unfolding doomed
      doomed-yes y b ne =
          rw (b, eq-eqb (get_or w.work y 0) 0 (⊎_elim (λ z. z) (λ m. absurd (ne (found.good.sound y (built-below sections n y b) m).0)) (found.good.bit y (built-below sections n y b))))

      pub doomed-no : (y : ℕ) → D y ≡ true → Built y × (R y → ⊥)
      unfolding doomed
      doomed-no y e = go (is_built sections n y) refl (eqb (get_or w.work y 0) 0) refl e
        where
          go : (b : Bool) → is_built sections n y ≡ b → (c : Bool) → eqb (get_or w.work y 0) 0 ≡ c → cond b c false ≡ true → Built y × (R y → ⊥)
          go true eb true ec k = (eb, (λ q. let m : get_or w.work y 0 ≡ 1 = (found.all y q).mark eb in let z : get_or w.work y 0 ≡ 0 = eqb-true _ _ ec in omega arith))
          go true eb false ec k = absurd (apart k)
          go false eb c ec k = absurd (apart k)

      pub doomed-past : (y : ℕ) → n ≤ y → D y ≡ false
      unfolding doomed is_built
      doomed-past y h = rw (le-leb _ _ h)

      pub spared : (y : ℕ) → (D y ≡ true → ⊥) → D y ≡ false
      spared y ne = by-test (D y) (λ t. absurd (ne t)) (λ t. t)

      -- the work cells say what this call dropped
      pub now-doomed : (y : ℕ) → dropped_now work₁ n y ≡ D y
      unfolding dropped_now
      now-doomed y = by-test (ltb y n) (λ t. rw t (go (D y) refl (ltb-true _ _ t))) (λ t. rw t (sym (doomed-past y (ltb-false _ _ t))))
        where
          old : y < n → (D y ≡ true → ⊥) → get_or work₁ y 0 ≡ get_or w.work y 0
          old h ne = paint-miss D itself 2 n 0 w.work y (λ j a b e d. ne (rw d at e))

          go : (b : Bool) → D y ≡ b → y < n → cond (eqb (get_or work₁ y 0) 2) true false ≡ b
          go true e h = rw (paint-hit D itself 2 n 0 w.work y (omega arith) (omega arith) e (omega (arith, found.good.room)))
          go false e h =
              let same = old h (λ t. apart (sym e ∙ t)) in
              rw (ne_eqb (get_or work₁ y 0) 2 (λ k. ⊎_elim (λ z. omega (arith, same)) (λ m. omega (arith, same)) (found.good.bit y h)))

      -- ---- sections

      pub fit : n ≤ cells
      fit = sections-fit l x symbols sections work ok

      -- the cells of section rows that the passes over symbols and sections leave
      pub row_stays : (y f : ℕ) → y < cells → f < 8 → (f ≡ 0 → D y ≡ true → ⊥) → field result.sections y f ≡ field sections y f
      unfolding result
      row_stays y f h g ne =
          paint-miss frees (symbol_cell symbols cells) 0 l.symbols 0 sections₁ (y * 8 + f) (λ j a b e d. omega (arith, fit))
          ∙ paint-miss D state_cell 3 n 0 sections (y * 8 + f) (λ j a b e d. ne (omega arith) (let s : j ≡ y = omega arith in rw (← s) e))

      pub row-dropped : (y : ℕ) → D y ≡ true → state_at result.sections y ≡ 3
      unfolding result
      row-dropped y e =
          let h : y < n = built-below sections n y (doomed-no y e).0 in
          paint-miss frees (symbol_cell symbols cells) 0 l.symbols 0 sections₁ (state_cell y) (λ j a b q d. omega (arith, fit))
          ∙ paint-hit D state_cell 3 n 0 sections y (omega arith) (omega arith) e (omega (arith, fit, room))

      pub idle : (y : ℕ) → Built y → get_or w.work y 0 ≡ 0 → D y ≡ true
      unfolding doomed
      idle y b z = rw (b, eq-eqb _ _ z)

      -- kept exactly if reached
      pub reached-kept : (y : ℕ) → R y → is_built r.sections n y ≡ true
      reached-kept y q =
          let b = whole y q in
          let h = built-below sections n y b in
          rw run-result (state-built result.sections n y h (row_stays y 0 (omega (arith, fit)) (omega arith) (λ z e. (doomed-no y e).1 q) ∙ built-state sections n y b))

      pub kept-reached : (y : ℕ) → is_built r.sections n y ≡ true → R y
      kept-reached y e =
          let k : is_built result.sections n y ≡ true = rw run-result at e in
          let h = built-below result.sections n y k in
          let ne : D y ≡ true → ⊥ = λ t. let a = row-dropped y t in let b = built-state result.sections n y k in omega arith in
          let b : Built y = state-built sections n y h (sym (row_stays y 0 (omega (arith, fit)) (omega arith) (λ z. ne)) ∙ built-state result.sections n y k) in
          ⊎_elim (λ z. absurd (ne (idle y b z))) (λ m. (found.good.sound y h m).0) (found.good.bit y h)

      -- dropped exactly if built and not reached; every other cell of the sections' rows stays, those past the count too
      pub unreached-dropped : (y : ℕ) → Built y → (R y → ⊥) → state_at r.sections y ≡ 3
      unreached-dropped y b ne = rw run-result (row-dropped y (doomed-yes y b ne))

      pub others-stay : (y f : ℕ) → y < cells → f < 8 → (f ≡ 0 → Built y → R y) → field r.sections y f ≡ field sections y f
      others-stay y f h g k = rw run-result (row_stays y f h g (λ z e. (doomed-no y e).1 (k z (doomed-no y e).0)))

      -- ---- symbols

      pub goes-yes : (i y : ℕ) → Lies i y → D y ≡ true → goes i ≡ true
      unfolding gone
      goes-yes i y m e = rw m (now-doomed y ∙ e)

      pub goes-no : (i : ℕ) → goes i ≡ true → (y : ℕ) × (Lies i y) × (D y ≡ true)
      unfolding gone
      goes-no i e = go (lead_of symbols l.symbols (symbol_id i)) refl e
        where
          go : (k : Option SectionId) → lead_of symbols l.symbols (symbol_id i) ≡ k → taken (λ (y : ℕ). dropped_now work₁ n y) k ≡ true → (y : ℕ) × (Lies i y) × (D y ≡ true)
          go None d f = absurd (apart f)
          go (Some id) d f = (id.0, d, sym (now-doomed id.0) ∙ f)

      -- a symbol in a section that is dropped is removed
      pub symbol-removed : (i y : ℕ) → Lies i y → Built y → (R y → ⊥) → Symbol.state_at r.symbols i ≡ 2
      unfolding result
      symbol-removed i y m b ne =
          let h = lead-below symbols l.symbols i y m in
          rw run-result
          (paint-hit goes state_cell 2 l.symbols 0 symbols i (omega arith) (omega arith) (goes-yes i y m (doomed-yes y b ne)) (omega (arith, symbols-fit l x symbols sections work ok)))

      -- and no other: every other cell of the symbols' rows stays
      pub symbol-stays : (i f : ℕ) → f < 8 → (f ≡ 0 → (y : ℕ) → Lies i y → Built y → R y) → Symbol.field r.symbols i f ≡ Symbol.field symbols i f
      unfolding result
      symbol-stays i f h k =
          rw run-result
          (paint-miss goes state_cell 2 l.symbols 0 symbols (i * 8 + f)
          (λ j a b e d.
          let s : j ≡ i = omega arith in
          let z : f ≡ 0 = omega arith in
          let q = goes-no i (subst (λ (m : ℕ). goes m ≡ true) s e) in
          (doomed-no q.0 q.2).1 (k z q.0 q.1 (doomed-no q.0 q.2).0)))

      -- ---- what symbols lead to after the call

      pub row_same : (i f : ℕ) → f < 8 → goes i ≡ false → Symbol.field r.symbols i f ≡ Symbol.field symbols i f
      unfolding result
      row_same i f h e =
          rw run-result
          (paint-miss goes state_cell 2 l.symbols 0 symbols (i * 8 + f)
          (λ j a b t d. let s : j ≡ i = omega arith in apart (sym e ∙ subst (λ (m : ℕ). goes m ≡ true) s t)))

      pub lead-same : (i : ℕ) → goes i ≡ false → lead_of r.symbols l.symbols (symbol_id i) ≡ lead_of symbols l.symbols (symbol_id i)
      unfolding lead_of
      lead-same i e = rw (row_same i 0 (omega arith) e, row_same i 5 (omega arith) e, row_same i 6 (omega arith) e)

      pub lead-gone : (i : ℕ) → goes i ≡ true → lead_of r.symbols l.symbols (symbol_id i) ≡ None
      unfolding lead_of
      lead-gone i e =
          let q = goes-no i e in
          let d = doomed-no q.0 q.2 in
          rw (lt-leb _ _ (lead-below symbols l.symbols i q.0 q.1), eq-eqb _ _ (symbol-removed i q.0 q.1 d.0 d.1))

      pub lead-back : (i y : ℕ) → lead_of r.symbols l.symbols (symbol_id i) ≡ Some (section_id y) → Lies i y
      lead-back i y m = by-test (goes i) (λ t. absurd (elsewhere (section_id y) (sym (lead-gone i t) ∙ m))) (λ t. sym (lead-same i t) ∙ m)

      pub lead-on : (i y : ℕ) → Lies i y → R y → lead_of r.symbols l.symbols (symbol_id i) ≡ Some (section_id y)
      lead-on i y m q = by-test (goes i) (λ t. absurd (never (goes-no i t))) (λ t. lead-same i t ∙ m)
        where
          never : (z : ℕ) × (Lies i z) × (D z ≡ true) → ⊥
          never k =
              let e : Some (section_id y) ≡ Some (section_id k.0) = sym m ∙ k.1 in
              let s : section_id y ≡ section_id k.0 = cc in
              (doomed-no k.0 k.2).1 (subst R (ap (λ (v : SectionId). v.0) s) q)

      -- ---- section symbols

      lead-place : (i y : ℕ) → Lies i y → Symbol.field symbols i 6 ≡ y
      unfolding lead_of value_lead
      lead-place i y m =
          by-test (leb l.symbols i) (λ t. absurd (elsewhere (section_id y) (rw t at m)))
          (λ t. by-test (eqb (Symbol.field symbols i 0) 2) (λ u. absurd (elsewhere (section_id y) (rw (t, u) at m)))
          (λ u. go (eqb (Symbol.field symbols i 5) 2) (eqb (Symbol.field symbols i 5) 3) (eqb (Symbol.field symbols i 5) 4) (rw (t, u) at m)))
        where
          at : Some (section_id (Symbol.field symbols i 6)) ≡ Some (section_id y) → Symbol.field symbols i 6 ≡ y
          at e = let s : section_id (Symbol.field symbols i 6) ≡ section_id y = cc in ap (λ (v : SectionId). v.0) s

          go : (a b c : Bool)
              → cond a (Some (section_id (Symbol.field symbols i 6))) (cond b (Some (section_id (Symbol.field symbols i 6))) (cond c (Some (section_id (Symbol.field symbols i 6))) None))
              ≡ Some (section_id y) → Symbol.field symbols i 6 ≡ y
          go true b c e = at e
          go false true c e = at e
          go false false true e = at e
          go false false false e = absurd (elsewhere (section_id y) e)

      -- a section whose `Section` symbol is removed has no symbol any more; every other keeps its own
      pub section-symbol-dropped : (i y : ℕ) → Lies i y → Symbol.field symbols i 5 ≡ 2 → Built y → (R y → ⊥) → get_or r.sections (cells * 8 + y) 0 ≡ 0
      unfolding result freed takes_symbol
      section-symbol-dropped i y m k b ne =
          let e = lead-place i y m in
          let h = built-below sections n y b in
          let f : frees i ≡ true = rw (goes-yes i y m (doomed-yes y b ne), eq-eqb _ _ k, lt-ltb (Symbol.field symbols i 6) cells (omega (arith, fit))) in
          rw (run-result, ← e)
          (paint-hit frees (symbol_cell symbols cells) 0 l.symbols 0 sections₁ i (omega arith) (omega (arith, lead-below symbols l.symbols i y m)) f
          (omega (arith, fit, room, length-painted D state_cell 3 n 0 sections)))

      -- and none gets another
      pub section-symbol-falls : (y : ℕ) → get_or r.sections (cells * 8 + y) 0 ≤ get_or sections (cells * 8 + y) 0
      unfolding result
      section-symbol-falls y =
          let same : get_or sections₁ (cells * 8 + y) 0 ≡ get_or sections (cells * 8 + y) 0 =
          paint-miss D state_cell 3 n 0 sections (cells * 8 + y) (λ j a b e d. omega (arith, fit)) in
          rw (run-result, ← same) (paint-falls frees (symbol_cell symbols cells) l.symbols 0 sections₁ (cells * 8 + y))

      pub section-symbol-stays : (y : ℕ) → ((i : ℕ) → Lies i y → Symbol.field symbols i 5 ≡ 2 → Built y → R y)
          → get_or r.sections (cells * 8 + y) 0 ≡ get_or sections (cells * 8 + y) 0
      unfolding result freed takes_symbol
      section-symbol-stays y k =
          rw run-result
          (paint-miss frees (symbol_cell symbols cells) 0 l.symbols 0 sections₁ (cells * 8 + y)
          (λ j a b e d. never j (omega arith) (goes j) refl (eqb (Symbol.field symbols j 5) 2) refl e)
          ∙ paint-miss D state_cell 3 n 0 sections (cells * 8 + y) (λ j a b e d. omega (arith, fit)))
        where
          never : (j : ℕ) → Symbol.field symbols j 6 ≡ y → (b : Bool) → goes j ≡ b → (c : Bool) → eqb (Symbol.field symbols j 5) 2 ≡ c
              → cond b (cond c (ltb (Symbol.field symbols j 6) cells) false) false ≡ true → ⊥
          never j s true eb true ec e =
              let q = goes-no j eb in
              let d = doomed-no q.0 q.2 in
              let z : q.0 ≡ y = sym (lead-place j q.0 q.1) ∙ s in
              d.1 (subst R (sym z) (k j (subst (λ (v : ℕ). Lies j v) z q.1) (eqb-true _ _ ec) (subst Built z d.0)))
          never j s true eb false ec e = apart e
          never j s false eb c ec e = apart e
