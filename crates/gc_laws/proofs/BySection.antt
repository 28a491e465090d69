-- Theorems over specs/Proof/BySection.antt.
-- Assumes nothing.
use Rattle.link.specs.declared.SectionId.{SectionId}
use Rattle.link.specs.declared.SymbolId.{SymbolId}
use Prim.Native.Nat.{ℕ, zero, suc, ◌+◌, ◌*◌, ◌<◌, ◌≤◌}
use Rattle.std.proofs.Math.Decide.{ℕ_discrete}
use Rattle.std.proofs.Common.{arith, subst, ◌∙◌, length-set}
use Rattle.std.specs.Prelude.{◌≡◌, List, eqb, ltb, set, length, Option, None, Some}
use Rattle.std.proofs.Math.Path.{refl, sym, ap}
use Rattle.std.proofs.Math.Bool.{Bool, true, false, cond}
use borrow.Author.Tests.{eq-eqb, ne_eqb, lt-ltb, le-ltb, ltb-true, ltb-false, lt-leb}
use Rattle.cells.specs.Proof.Split.{by-test}
use Rattle.byte_slices.specs.Proof.Ways.{apart}
use Rattle.link.specs.declared.Link.{Link}
use Rattle.link.specs.Bounds.{section_slots}
use Rattle.symbol.specs.Row as Symbol
use Rattle.symbols.specs.Remove.{rows_of}
use Rattle.sections.specs.Rows.{is_built}
use Rattle.gc_sections.specs.Each.{each}
use Rattle.gc_sections.specs.Roots.{symbol_id, section_id, lead_of}
use Rattle.gc_sections.specs.Sweep.{dropped_now}
use Rattle.gc_sections.specs.Run.{Left, Lists, judged, run_of}
use Rattle.gc_laws.specs.Reached.{Reached}
use Rattle.gc_laws.proofs.Head.{symbols-fit}
use Rattle.gc_laws.proofs.Exact.{lead-below}
use Rattle.gc_laws.specs.Proof.Paint.{paint, either}
use Rattle.gc_laws.proofs.Paint.{length-painted, paint-hit, paint-miss, paint-none, each_last, paint-same, paint-both, paint-set}
use Rattle.gc_laws.specs.Proof.Swept.{state_cell, taken, gone, takes_symbol, freed, symbol_cell}
use Rattle.gc_laws.proofs.Swept.{removed-is}
use Rattle.gc_laws.proofs.Collected as C
use Rattle.gc_laws.specs.Proof.BySection.{by_section, purge_section, remove_section}

-- ---- tests on symbols that come from equal tests on sections

module _ (symbols : List ℕ) (count cells : ℕ) where
  pub gone_same : (p q : ℕ → Bool) → ((y : ℕ) → p y ≡ q y) → (i : ℕ) → gone p symbols count i ≡ gone q symbols count i
  unfolding gone
  gone_same p q f i = go (lead_of symbols count (symbol_id i))
    where
      go : (k : Option SectionId) → taken p k ≡ taken q k
      go None = refl
      go (Some x) = f x.0

  pub freed-same : (p q : ℕ → Bool) → ((y : ℕ) → p y ≡ q y) → (i : ℕ) → freed p symbols count cells i ≡ freed q symbols count cells i
  unfolding freed
  freed-same p q f i = rw (gone_same p q f i)

  gone-none : (p : ℕ → Bool) → ((y : ℕ) → p y ≡ false) → (i : ℕ) → gone p symbols count i ≡ false
  unfolding gone
  gone-none p f i = go (lead_of symbols count (symbol_id i))
    where
      go : (k : Option SectionId) → taken p k ≡ false
      go None = refl
      go (Some x) = f x.0

  freed-none : (p : ℕ → Bool) → ((y : ℕ) → p y ≡ false) → (i : ℕ) → freed p symbols count cells i ≡ false
  unfolding freed
  freed-none p f i = rw (gone-none p f i)

  gone-either : (p q : ℕ → Bool) (i : ℕ) → gone (either p q) symbols count i ≡ either (gone p symbols count) (gone q symbols count) i
  unfolding gone
  gone-either p q i = go (lead_of symbols count (symbol_id i))
    where
      go : (k : Option SectionId) → taken (either p q) k ≡ cond (taken p k) true (taken q k)
      go None = refl
      go (Some x) = refl

  freed-either : (p q : ℕ → Bool) (i : ℕ) → freed (either p q) symbols count cells i ≡ either (freed p symbols count cells) (freed q symbols count cells) i
  unfolding freed
  freed-either p q i = rw (gone-either p q i) (go (gone p symbols count i) (gone q symbols count i) (takes_symbol symbols cells i))
    where
      go : (a b c : Bool) → cond (cond a true b) c false ≡ cond (cond a c false) true (cond b c false)
      go true true true = refl
      go true true false = refl
      go true false true = refl
      go true false false = refl
      go false true true = refl
      go false true false = refl
      go false false c = refl

-- ---- section by section

module _ (l : Link) (symbols sections : List ℕ) (p : ℕ → Bool) (fit : l.sections ≤ l.slots) (room : l.slots ≤ section_slots (length sections)) (long : l.symbols * 8 ≤ length symbols) where
  abbrev k : ℕ
  k = l.symbols

  abbrev cells : ℕ
  cells = l.slots

  -- the sections below m that p takes
  unfoldable up_to : ℕ → ℕ → Bool
  up_to m y = cond (ltb y m) (p y) false

  abbrev goes : ℕ → ℕ → Bool
  goes m = gone (up_to m) symbols k

  abbrev frees : ℕ → ℕ → Bool
  frees m = freed (up_to m) symbols k cells

  abbrev dropped : ℕ → List ℕ
  dropped m = each (paint p state_cell 3) m 0 sections

  abbrev symbols_at : ℕ → List ℕ
  symbols_at m = each (paint (goes m) state_cell 2) k 0 symbols

  abbrev sections_at : ℕ → List ℕ
  sections_at m = each (paint (frees m) (symbol_cell symbols cells) 0) k 0 (dropped m)

  size : (m : ℕ) → length (sections_at m) ≡ length sections
  size m = length-painted (frees m) (symbol_cell symbols cells) 0 k 0 (dropped m) ∙ length-painted p state_cell 3 m 0 sections

  -- what stands in a row after the sections below m went
  field-same : (m i f : ℕ) → f < 8 → (f ≡ 0 → goes m i ≡ false) → Symbol.field (symbols_at m) i f ≡ Symbol.field symbols i f
  field-same m i f h e =
      paint-miss (goes m) state_cell 2 k 0 symbols (i * 8 + f)
      (λ j a b t d.
      let s : j ≡ i = omega arith in
      let z : f ≡ 0 = omega arith in
      apart (sym (e z) ∙ subst (λ (v : ℕ). goes m v ≡ true) s t))

  abbrev one : ℕ → ℕ → Bool
  one m y = eqb y m

  later-field : (m i f : ℕ) → 0 < f → f < 8 → Symbol.field (symbols_at m) i f ≡ Symbol.field symbols i f
  later-field m i f g h = field-same m i f h (λ z. absurd (never z g))
    where
      never : f ≡ 0 → 0 < f → ⊥
      never z g = omega arith

  lead-same : (m i : ℕ) → goes m i ≡ false → lead_of (symbols_at m) k (symbol_id i) ≡ lead_of symbols k (symbol_id i)
  unfolding lead_of
  lead-same m i e =
      rw (field-same m i 0 (omega arith) (λ z. e), later-field m i 5 (omega arith) (omega arith), later-field m i 6 (omega arith) (omega arith))

  goes-where : (m i : ℕ) → goes m i ≡ true → (y : ℕ) × (lead_of symbols k (symbol_id i) ≡ Some (section_id y)) × (up_to m y ≡ true)
  unfolding gone
  goes-where m i e = go (lead_of symbols k (symbol_id i)) refl e
    where
      go : (v : Option SectionId) → lead_of symbols k (symbol_id i) ≡ v → taken (up_to m) v ≡ true → (y : ℕ) × (lead_of symbols k (symbol_id i) ≡ Some (section_id y)) × (up_to m y ≡ true)
      go None d f = absurd (apart f)
      go (Some x) d f = (x.0, d, f)

  lead-gone : (m i : ℕ) → goes m i ≡ true → lead_of (symbols_at m) k (symbol_id i) ≡ None
  unfolding lead_of
  lead-gone m i e =
      let q = goes-where m i e in
      let h = lead-below symbols k i q.0 q.1 in
      rw (lt-leb _ _ h, eq-eqb (Symbol.field (symbols_at m) i 0) 2 (paint-hit (goes m) state_cell 2 k 0 symbols i (omega arith) (omega arith) e (omega arith)))

  below : (m y : ℕ) → up_to m y ≡ true → y < m
  unfolding up_to
  below m y e = by-test (ltb y m) (λ t. ltb-true _ _ t) (λ t. absurd (apart (rw t at e)))

  -- no symbol of section m went before
  test-same : (m i : ℕ) → gone (one m) (symbols_at m) k i ≡ gone (one m) symbols k i
  unfolding gone
  test-same m i = by-test (goes m i) there (λ t. rw (lead-same m i t))
    where
      there : goes m i ≡ true → taken (one m) (lead_of (symbols_at m) k (symbol_id i)) ≡ taken (one m) (lead_of symbols k (symbol_id i))
      there t =
          let q = goes-where m i t in
          rw (lead-gone m i t, q.1) (sym (ne_eqb q.0 m (λ e. omega (arith, below m q.0 q.2))))

  freed-one : (m i : ℕ) → freed (one m) (symbols_at m) k cells i ≡ freed (one m) symbols k cells i
  unfolding freed takes_symbol
  freed-one m i = rw (test-same m i, later-field m i 5 (omega arith) (omega arith), later-field m i 6 (omega arith) (omega arith))

  cell_same : (m i : ℕ) → symbol_cell (symbols_at m) cells i ≡ symbol_cell symbols cells i
  cell_same m i = rw (later-field m i 6 (omega arith) (omega arith))

  up_more : (m : ℕ) → p m ≡ true → (y : ℕ) → either (one m) (up_to m) y ≡ up_to (suc m) y
  unfolding up_to
  up_more m e y = go (ℕ_discrete y m)
    where
      go : Dec (y ≡ m) → cond (eqb y m) true (cond (ltb y m) (p y) false) ≡ cond (ltb y (suc m)) (p y) false
      go (yes d) = rw (d, eq-eqb m m refl, lt-ltb m (suc m) (omega arith)) (sym e)
      go (no ne) =
          rw (ne_eqb y m ne)
          (by-test (ltb y m) (λ t. rw (t, lt-ltb y (suc m) (let h : y < m = ltb-true _ _ t in omega arith)))
          (λ t. rw (t, le-ltb y (suc m) (let h : m ≤ y = ltb-false _ _ t in omega arith))))

  up_same : (m : ℕ) → p m ≡ false → (y : ℕ) → up_to m y ≡ up_to (suc m) y
  unfolding up_to
  up_same m e y = go (ℕ_discrete y m)
    where
      go : Dec (y ≡ m) → cond (ltb y m) (p y) false ≡ cond (ltb y (suc m)) (p y) false
      go (yes d) = rw (d, le-ltb m m (omega arith), lt-ltb m (suc m) (omega arith)) (sym e)
      go (no ne) =
          by-test (ltb y m) (λ t. rw (t, lt-ltb y (suc m) (let h : y < m = ltb-true _ _ t in omega arith)))
          (λ t. rw (t, le-ltb y (suc m) (let h : m ≤ y = ltb-false _ _ t in omega arith)))

  dropped-last : (m : ℕ) → dropped (suc m) ≡ paint p state_cell 3 m (dropped m)
  dropped-last m = each_last (paint p state_cell 3) m 0 sections ∙ ap (λ (v : ℕ). paint p state_cell 3 v (dropped m)) (omega arith)

  dropped-more : (m : ℕ) → p m ≡ true → dropped (suc m) ≡ set (dropped m) (m * 8 + 0) 3
  unfolding paint
  dropped-more m e = dropped-last m ∙ rw e

  dropped-same : (m : ℕ) → p m ≡ false → dropped (suc m) ≡ dropped m
  unfolding paint
  dropped-same m e = dropped-last m ∙ rw e

  rows_same : {a b c d : List ℕ} → a ≡ b → c ≡ d → rows_of a c ≡ rows_of b d
  rows_same e f = rw (e, f)

  step-taken : (m : ℕ) → m < l.sections → p m ≡ true
      → purge_section l m (rows_of (symbols_at m) (set (sections_at m) (m * 8 + 0) 3)) ≡ rows_of (symbols_at (suc m)) (sections_at (suc m))
  unfolding purge_section
  step-taken m h e =
      removed-is l (symbols_at m) (one m) (set (sections_at m) (m * 8 + 0) 3) (rw (length-set (sections_at m) (m * 8 + 0) 3, size m) room)
      ∙ rows_same
      (paint-same (gone (one m) (symbols_at m) k) (gone (one m) symbols k) state_cell state_cell 2 (test-same m) (λ i. refl) k 0 (symbols_at m)
      ∙ paint-both (gone (one m) symbols k) (goes m) state_cell 2 k symbols
      ∙ paint-same (either (gone (one m) symbols k) (goes m)) (goes (suc m)) state_cell state_cell 2
      (λ i. sym (gone-either symbols k cells (one m) (up_to m) i) ∙ gone_same symbols k cells (either (one m) (up_to m)) (up_to (suc m)) (up_more m e) i) (λ i. refl) k 0 symbols)
      (paint-same (freed (one m) (symbols_at m) k cells) (freed (one m) symbols k cells) (symbol_cell (symbols_at m) cells) (symbol_cell symbols cells) 0 (freed-one m) (cell_same m) k 0
      (set (sections_at m) (m * 8 + 0) 3)
      ∙ ap (each (paint (freed (one m) symbols k cells) (symbol_cell symbols cells) 0) k 0)
      (sym (paint-set (frees m) (symbol_cell symbols cells) 0 (m * 8 + 0) 3 (λ j q. omega arith) k 0 (dropped m)))
      ∙ paint-both (freed (one m) symbols k cells) (frees m) (symbol_cell symbols cells) 0 k (set (dropped m) (m * 8 + 0) 3)
      ∙ paint-same (either (freed (one m) symbols k cells) (frees m)) (frees (suc m)) (symbol_cell symbols cells) (symbol_cell symbols cells) 0
      (λ i. sym (freed-either symbols k cells (one m) (up_to m) i) ∙ freed-same symbols k cells (either (one m) (up_to m)) (up_to (suc m)) (up_more m e) i) (λ i. refl) k 0
      (set (dropped m) (m * 8 + 0) 3)
      ∙ ap (each (paint (frees (suc m)) (symbol_cell symbols cells) 0) k 0) (sym (dropped-more m e)))

  step_left : (m : ℕ) → p m ≡ false → rows_of (symbols_at m) (sections_at m) ≡ rows_of (symbols_at (suc m)) (sections_at (suc m))
  step_left m e =
      rows_same (paint-same (goes m) (goes (suc m)) state_cell state_cell 2 (gone_same symbols k cells (up_to m) (up_to (suc m)) (up_same m e)) (λ i. refl) k 0 symbols)
      (paint-same (frees m) (frees (suc m)) (symbol_cell symbols cells) (symbol_cell symbols cells) 0 (freed-same symbols k cells (up_to m) (up_to (suc m)) (up_same m e)) (λ i. refl) k 0
      (dropped m)
      ∙ ap (each (paint (frees (suc m)) (symbol_cell symbols cells) 0) k 0) (sym (dropped-same m e)))

  step : (m : ℕ) → m < l.sections → remove_section l p m (rows_of (symbols_at m) (sections_at m)) ≡ rows_of (symbols_at (suc m)) (sections_at (suc m))
  unfolding remove_section
  step m h = by-test (p m) (λ t. rw t (step-taken m h t)) (λ t. rw t (step_left m t))

  none_below : (y : ℕ) → up_to 0 y ≡ false
  unfolding up_to
  none_below y = rw (le-ltb y 0 (omega arith))

  start : rows_of symbols sections ≡ rows_of (symbols_at 0) (sections_at 0)
  unfolding each
  start =
      rows_same (sym (paint-none (goes 0) state_cell 2 k 0 symbols (λ j a b. gone-none symbols k cells (up_to 0) none_below j)))
      (sym (paint-none (frees 0) (symbol_cell symbols cells) 0 k 0 sections (λ j a b. freed-none symbols k cells (up_to 0) none_below j)))

  turns : (m : ℕ) → m ≤ l.sections → each (remove_section l p) m 0 (rows_of symbols sections) ≡ rows_of (symbols_at m) (sections_at m)
  unfolding each
  turns zero h = start
  turns (suc m) h =
      each_last (remove_section l p) m 0 (rows_of symbols sections)
      ∙ ap (λ (v : ℕ). remove_section l p v (each (remove_section l p) m 0 (rows_of symbols sections))) (omega arith)
      ∙ ap (remove_section l p m) (turns m (omega arith))
      ∙ step m h

  by-section : by_section l p (rows_of symbols sections) ≡ rows_of (symbols_at l.sections) (sections_at l.sections)
  unfolding by_section
  by-section = turns l.sections (omega arith)

  up-all : ((y : ℕ) → l.sections ≤ y → p y ≡ false) → (y : ℕ) → p y ≡ up_to l.sections y
  unfolding up_to
  up-all f y = by-test (ltb y l.sections) (λ t. rw t) (λ t. rw t (f y (ltb-false _ _ t)))

-- ---- the call

module _ (l : Link) (x : Lists) (symbols sections : List ℕ) (entry : Option SymbolId) (work : List ℕ) (ok : (judged l x symbols sections work).number ≡ 0)
    (whole : (y : ℕ) → Reached l x symbols sections entry y → is_built sections l.sections y ≡ true) where
  abbrev r : Left
  r = run_of l x symbols sections entry work

  -- built and not reached
  abbrev D : ℕ → Bool
  D = C.D l x symbols sections entry work ok whole

  now-up : (y : ℕ) → dropped_now (C.work₁ l x symbols sections entry work ok whole) l.sections y ≡ up_to l symbols sections D (C.fit l x symbols sections entry work ok whole) (C.room l x symbols sections entry work ok whole) (symbols-fit l x symbols sections work ok) l.sections y
  now-up y =
      C.now-doomed l x symbols sections entry work ok whole y
      ∙ up-all l symbols sections D (C.fit l x symbols sections entry work ok whole) (C.room l x symbols sections entry work ok whole) (symbols-fit l x symbols sections work ok) (C.doomed-past l x symbols sections entry work ok whole) y

  pub one-pass : rows_of r.symbols r.sections ≡ by_section l D (rows_of symbols sections)
  unfolding C.result
  one-pass =
      let fit = C.fit l x symbols sections entry work ok whole in
      let room = C.room l x symbols sections entry work ok whole in
      let long = symbols-fit l x symbols sections work ok in
      let cells = l.slots in
      let now : ℕ → Bool = λ y. dropped_now (C.work₁ l x symbols sections entry work ok whole) l.sections y in
      let up = up_to l symbols sections D fit room long l.sections in
      rw (C.run-result l x symbols sections entry work ok whole)
      (rows_same l symbols sections D fit room long
      (paint-same (gone now symbols l.symbols) (gone up symbols l.symbols) state_cell state_cell 2 (gone_same symbols l.symbols cells now up now-up) (λ i. refl) l.symbols 0 symbols)
      (paint-same (freed now symbols l.symbols cells) (freed up symbols l.symbols cells) (symbol_cell symbols cells) (symbol_cell symbols cells) 0
      (freed-same symbols l.symbols cells now up now-up) (λ i. refl) l.symbols 0 (each (paint D state_cell 3) l.sections 0 sections))
      ∙ sym (by-section l symbols sections D fit room long))
