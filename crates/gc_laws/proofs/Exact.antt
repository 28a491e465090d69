-- The walk finds exactly what is reached: each stage of it, then the whole.
-- Assumes nothing.
use Rattle.link.specs.declared.SymbolId.{SymbolId}
use Prim.Native.Nat.{ℕ, zero, suc, ◌+◌, ◌-◌, ◌<◌, ◌≤◌}
use Rattle.std.proofs.Math.Decide.{ℕ_discrete}
use Rattle.std.proofs.Common.{not-suc-le-zero, subst, ◌∙◌}
use native.Mathlib.Omega.{arith}
use Rattle.std.specs.Prelude.{◌≡◌, Bool, cond, List, leb, length, Option, None, Some}
use Rattle.std.proofs.Math.Path.{refl, sym, ap}
use Rattle.std.proofs.Math.Logic.{inl}
use Rattle.std.proofs.Math.Bool.{true, false}
use borrow.Author.Tests.{ltb-true, ltb-false, leb-true, leb-false, eqb-true, eqb-false}
use Rattle.std.proofs.Math.Dec.{eqb, ltb}
use Rattle.std.proofs.Math.ListN.{get_or}
use Rattle.cells.specs.Proof.Split.{by-test}
use Rattle.byte_slices.specs.Proof.Ways.{apart}
use Rattle.link.specs.declared.Link.{Link}
use Rattle.link.specs.declared.SectionId.{SectionId}
use Rattle.sections.specs.Rows.{first_at, count_at, is_built}
use Rattle.gc_sections.specs.Each.{each}
use Rattle.gc_sections.specs.Roots.{symbol_id, section_id, lead_of, is_root}
use Rattle.gc_sections.specs.Reach.{Walk, save_of, reach_lead, add_of, root_symbol, root_section, entry_of, end_of, relocation, relocations, follow, visit, clear_cell, start_of, roots_of, process_of, walked}
use Rattle.gc_sections.specs.Run.{Lists}
use Rattle.gc_laws.specs.Reached.{Names, Reached, marked, entered, root, step}
use Rattle.gc_laws.specs.Found as Found
use Rattle.gc_laws.proofs.Own.{built-own, own-built, leads-own, own-leads, root-own, own_root}
use Rattle.gc_laws.proofs.Marks.{marks-le, marks-none, cleared, length-cleared}
use Rattle.gc_laws.proofs.Walk.{Good, Ext, Seen, Steps, none, ext_refl, ext_trans, ext-seen, save-step, reach_step, each-steps, built-below}

pub elsewhere : (id : SectionId) → None ≡ Some id → ⊥
elsewhere id e = let z : ◌≡◌ {A = ℕ} 0 1 = cc in omega arith

pub lead-below : (symbols : List ℕ) (count i y : ℕ) → lead_of symbols count (symbol_id i) ≡ Some (section_id y) → i < count
unfolding lead_of
lead-below symbols count i y e = by-test (leb count i) (λ t. absurd (elsewhere (section_id y) (rw t at e))) (λ t. leb-false _ _ t)

pub root-built : (bytes names sections : List ℕ) (n i : ℕ) → is_root bytes names sections n i ≡ true → is_built sections n i ≡ true
unfolding is_root
root-built bytes names sections n i e = by-test (is_built sections n i) (λ t. t) (λ t. absurd (apart (rw t at e)))

-- the part of the lists in use that a section's relocations take
module _ (lists first count : ℕ) where
  pub end-first : first ≤ end_of lists first count
  unfolding end_of
  end-first =
      by-test (leb lists first) (λ t. rw t (omega arith))
      (λ t. let h : first < lists = leb-false _ _ t in by-test (leb (lists - first) count) (λ u. rw (t, u) (omega arith)) (λ u. rw (t, u) (omega arith)))

  pub end-within : (j : ℕ) → first ≤ j → j < end_of lists first count → (j - first < count) × (j < lists)
  unfolding end_of
  end-within j a b =
      by-test (leb lists first) (λ t. absurd (past (rw t at b)))
      (λ t. let h : first < lists = leb-false _ _ t in
      by-test (leb (lists - first) count) (λ u. let g : j < lists = rw (t, u) at b in let k : lists - first ≤ count = leb-true _ _ u in (omega arith, g))
      (λ u. let g : j < first + count = rw (t, u) at b in let k : count < lists - first = leb-false _ _ u in (omega arith, omega arith)))
    where
      past : j < first → ⊥
      past h = omega arith

  pub end-all : (k : ℕ) → k < count → first + k < lists → first + k < end_of lists first count
  unfolding end_of
  end-all k a b =
      by-test (leb lists first) (λ t. absurd (past (leb-true _ _ t)))
      (λ t. by-test (leb (lists - first) count) (λ u. rw (t, u) b) (λ u. rw (t, u) (omega arith)))
    where
      past : lists ≤ first → ⊥
      past h = omega arith

module _ (l : Link) (x : Lists) (symbols sections : List ℕ) (entry : Option SymbolId) where
  abbrev n : ℕ
  n = l.sections

  abbrev R : ℕ → Type 0
  R = Reached l x symbols sections entry

  abbrev Lies : ℕ → ℕ → Type 0
  Lies i y = lead_of symbols l.symbols (symbol_id i) ≡ Some (section_id y)

  abbrev Fine : Walk → Type 0
  Fine s = Good sections n R s

  abbrev Met : Walk → (ℕ → Type 0) → Walk → Type 0
  Met s In t = Steps sections n R s In t

  narrow : {s t : Walk} {A B : ℕ → Type 0} → Met s A t → ((y : ℕ) → B y → A y) → Met s B t
  narrow m f = record { good = m.good; ext = m.ext; seen = λ y b. m.seen y (f y b) }

  add_step : (i : ℕ) (s : Walk) → Fine s → ((y : ℕ) → Lies i y → R y) → Met s (λ y. Lies i y) (add_of l symbols sections (symbol_id i) s)
  unfolding add_of
  add_step i s g p = go (lead_of symbols l.symbols (symbol_id i)) refl
    where
      go : (k : Option SectionId) → lead_of symbols l.symbols (symbol_id i) ≡ k → Met s (λ y. Lies i y) (reach_lead sections n k s)
      go None e = none sections n R s (λ y. Lies i y) g (λ y m. absurd (elsewhere (section_id y) (sym e ∙ m)))
      go (Some id) e =
          narrow (reach_step sections n R s id.0 g (p id.0 e))
          (λ y m. let d : Some (section_id y) ≡ Some id = sym m ∙ e in let f : section_id y ≡ id = cc in ap (λ (k : SectionId). k.0) f)

  -- ---- roots

  symbol-step : (i : ℕ) (s : Walk) → Fine s → Met s (λ y. (get_or x.marks i 0 ≡ 0 → ⊥) × Lies i y) (root_symbol l symbols sections x.marks i s)
  unfolding root_symbol
  symbol-step i s g = go (eqb (get_or x.marks i 0) 0) refl
    where
      go : (b : Bool) → eqb (get_or x.marks i 0) 0 ≡ b
          → Met s (λ y. (get_or x.marks i 0 ≡ 0 → ⊥) × Lies i y) (cond b s (add_of l symbols sections (symbol_id i) s))
      go true e = none sections n R s (λ y. (get_or x.marks i 0 ≡ 0 → ⊥) × Lies i y) g (λ y m. absurd (m.0 (eqb-true _ _ e)))
      go false e = narrow (add_step i s g (λ y m. marked i (eqb-false _ _ e) (leads-own l x symbols sections i y m))) (λ y m. m.1)

  section-step : (i : ℕ) (s : Walk) → Fine s
      → Met s (λ y. (y ≡ i) × (is_root x.bytes x.names sections n i ≡ true)) (root_section n x.bytes x.names sections i s)
  unfolding root_section
  section-step i s g = go (is_root x.bytes x.names sections n i) refl
    where
      go : (b : Bool) → is_root x.bytes x.names sections n i ≡ b
          → Met s (λ y. (y ≡ i) × (is_root x.bytes x.names sections n i ≡ true)) (cond b (save_of n (section_id i) s) s)
      go true e = narrow (save-step sections n R s i g (root-built _ _ _ _ _ e) (let q = root-own l x symbols sections i e in root q.0 q.1)) (λ y m. m.0)
      go false e =
          none sections n R s (λ y. (y ≡ i) × (is_root x.bytes x.names sections n i ≡ true)) g (λ y m. absurd (apart (sym e ∙ m.1)))

  abbrev Entered : ℕ → Type 0
  Entered y = (i : ℕ) × (entry ≡ Some (symbol_id i)) × Lies i y

  entry-step : (e : Option SymbolId) (s : Walk) → entry ≡ e → Fine s → Met s Entered (entry_of l symbols sections e s)
  entry-step None s d g = none sections n R s Entered g (λ y m. absurd (never m.0 (sym d ∙ m.1)))
    where
      never : (i : ℕ) → None ≡ Some (symbol_id i) → ⊥
      never i e = let z : ◌≡◌ {A = ℕ} 0 1 = cc in omega arith
  entry-step (Some id) s d g =
      narrow (add_step id.0 s g (λ y m. entered id.0 d (leads-own l x symbols sections id.0 y m)))
      (λ y m. let f : Some (symbol_id m.0) ≡ Some id = sym m.1 ∙ d in let k : symbol_id m.0 ≡ id = cc in rw (← k) m.2)

  record Rooted (s t : Walk) : Type 0 where
    good : Fine t
    by-mark : (i y : ℕ) → (get_or x.marks i 0 ≡ 0 → ⊥) → Lies i y → Seen sections n t y
    by-root : (y : ℕ) → is_root x.bytes x.names sections n y ≡ true → Seen sections n t y
    by-entry : (i y : ℕ) → entry ≡ Some (symbol_id i) → Lies i y → Seen sections n t y

  roots-step : (s : Walk) → Fine s → Rooted s (roots_of l x.bytes x.names symbols sections x.marks entry s)
  unfolding roots_of
  roots-step s g =
      let a = each-steps sections n R (root_symbol l symbols sections x.marks) (λ i y. (get_or x.marks i 0 ≡ 0 → ⊥) × Lies i y) 0 l.symbols
      (λ j t p q f. symbol-step j t f) l.symbols 0 s (omega arith) (omega arith) g in
      let b = each-steps sections n R (root_section n x.bytes x.names sections) (λ i y. (y ≡ i) × (is_root x.bytes x.names sections n i ≡ true)) 0 n
      (λ j t p q f. section-step j t f) n 0 (each (root_symbol l symbols sections x.marks) l.symbols 0 s) (omega arith) (omega arith) a.good in
      let c = entry-step entry (each (root_section n x.bytes x.names sections) n 0 (each (root_symbol l symbols sections x.marks) l.symbols 0 s)) refl b.good in
      record {
        good = c.good;
        by-mark = λ i y ne m.
            ext-seen sections n (ext_trans sections n b.ext c.ext) (a.seen y (i, omega arith, lead-below symbols l.symbols i y m, (ne, m)));
        by-root = λ y e.
            ext-seen sections n c.ext (b.seen y (y, omega arith, built-below sections n y (root-built _ _ _ _ _ e), (refl, e)));
        by-entry = λ i y e m. c.seen y (i, e, m);
      }

  -- ---- relocations

  relocation-step : (y j : ℕ) (s : Walk) → R y → is_built sections n y ≡ true → first_at sections y ≤ j
      → j < end_of l.lists (first_at sections y) (count_at sections y) → Fine s
      → Met s (λ z. Lies (get_or x.lists j 0) z) (relocation l symbols sections x.lists j s)
  unfolding relocation
  relocation-step y j s r b lo hi g =
      let h = end-within l.lists (first_at sections y) (count_at sections y) j lo hi in
      let e : first_at sections y + (j - first_at sections y) ≡ j = omega arith in
      add_step (get_or x.lists j 0) s g
      (λ z m.
      step r (built-own l x symbols sections y b)
      (record { at = j - first_at sections y; within = h.0; listed = rw e h.1; leads = rw e (leads-own l x symbols sections (get_or x.lists j 0) z m) }))

  follow-step : (y : ℕ) (s : Walk) → R y → is_built sections n y ≡ true → Fine s
      → Met s (λ z. Names l x symbols sections y z) (follow l symbols sections x.lists y s)
  unfolding follow relocations
  follow-step y s r b g =
      let first = first_at sections y in
      let end = end_of l.lists first (count_at sections y) in
      let h : first ≤ end = end-first l.lists first (count_at sections y) in
      narrow
      (each-steps sections n R (relocation l symbols sections x.lists) (λ j z. Lies (get_or x.lists j 0) z) first end
      (λ j t p q f. relocation-step y j t r b p q f) (end - first) first s (omega arith) (omega arith) g)
      (λ z m. (first + m.at, omega arith, end-all l.lists first (count_at sections y) m.at m.within m.listed, own-leads l x symbols sections _ z m.leads))

  -- ---- the queue

  abbrev Closed : Walk → ℕ → Type 0
  Closed s y = (z : ℕ) → Names l x symbols sections y z → Seen sections n s z

  abbrev Visited : Walk → ℕ → Type 0
  Visited s h = (k : ℕ) → k < h → k < s.visitor.queued → Closed s (get_or s.work (n + k) 0)

  record Turn (s : Walk) (h : ℕ) (t : Walk) : Type 0 where
    good : Fine t
    ext : Ext sections n s t
    visited : Visited t h

  visited-more : (s t : Walk) (h k : ℕ) → Ext sections n s t → h < s.visitor.queued → Visited s h → Closed t (get_or s.work (n + h) 0) → k < h + 1 → Dec (k ≡ h)
      → Closed t (get_or t.work (n + k) 0)
  visited-more s t h k e l' v c q (yes d) = subst (Closed t) (sym (ap (λ (j : ℕ). get_or t.work (n + j) 0) d ∙ e.keep h l')) c
  visited-more s t h k e l' v c q (no ne) =
      let lt : k < h = omega arith in
      subst (Closed t) (sym (e.keep k (omega arith))) (λ z m. ext-seen sections n e (v k lt (omega arith) z m))

  visit-step : (h : ℕ) (s : Walk) → Fine s → Visited s h → Turn s (h + 1) (visit l symbols sections x.lists h s)
  unfolding visit
  visit-step h s g v = go (ltb h s.visitor.queued) refl
    where
      go : (b : Bool) → ltb h s.visitor.queued ≡ b → Turn s (h + 1) (cond b (follow l symbols sections x.lists (get_or s.work (n + h) 0) s) s)
      go true e =
          let y = get_or s.work (n + h) 0 in
          let lt : h < s.visitor.queued = ltb-true _ _ e in
          let q = g.queued h lt in
          let p = g.sound y q.0 q.1 in
          let m = follow-step y s p.0 p.1 g in
          record {
            good = m.good;
            ext = m.ext;
            visited = λ k a b. visited-more s (follow l symbols sections x.lists y s) h k m.ext lt v m.seen a (ℕ_discrete k h);
          }
      go false e =
          let le : s.visitor.queued ≤ h = ltb-false _ _ e in
          record { good = g; ext = ext_refl sections n s; visited = λ k a b. v k (omega arith) b }

  process-turns : (k h : ℕ) (s : Walk) → Fine s → Visited s h → h + k ≡ n → Turn s n (each (visit l symbols sections x.lists) k h s)
  unfolding each
  process-turns zero h s g v e = record { good = g; ext = ext_refl sections n s; visited = λ k a b. v k (omega arith) b }
  process-turns (suc k) h s g v e =
      let a = visit-step h s g v in
      let b = process-turns k (h + 1) (visit l symbols sections x.lists h s) a.good a.visited (omega arith) in
      record { good = b.good; ext = ext_trans sections n a.ext b.ext; visited = b.visited }

  -- ---- the whole

  start-good : (work : List ℕ) → n + n ≤ length work → Fine (start_of n work)
  unfolding start_of
  start-good work h =
      let zero-at : (y : ℕ) → y < n → get_or (each clear_cell n 0 work) y 0 ≡ 0 = λ y g. cleared n 0 work y (omega arith) (omega arith) in
      record {
        room = omega (arith, length-cleared n 0 work);
        count = marks-none n (each clear_cell n 0 work) zero-at;
        bit = λ y g. inl (zero-at y g);
        sound = λ y g m. absurd (never (zero-at y g) m);
        listed = λ y g m. absurd (never (zero-at y g) m);
        queued = λ k g. absurd (not-suc-le-zero g);
        lowest = λ id e. absurd (nobody id e);
      }
    where
      never : {v : ℕ} → v ≡ 0 → v ≡ 1 → ⊥
      never a b = omega arith

      nobody : (id : SectionId) → None ≡ Some id → ⊥
      nobody id e = let z : ◌≡◌ {A = ℕ} 0 1 = cc in omega arith

  abbrev pub Exact : Walk → Type 0
  Exact = Found.Exact l x symbols sections entry

  module _ (work : List ℕ) (enough : n + n ≤ length work) where
    abbrev s₁ : Walk
    s₁ = roots_of l x.bytes x.names symbols sections x.marks entry (start_of n work)

    abbrev s₂ : Walk
    s₂ = walked l x.bytes x.names symbols sections x.lists x.marks entry work

    begun : Rooted (start_of n work) s₁
    begun = roots-step (start_of n work) (start-good work enough)

    ended : Turn s₁ n s₂
    unfolding walked process_of
    ended = process-turns n 0 s₁ begun.good (λ k h. absurd (not-suc-le-zero h)) (omega arith)

    every : (y : ℕ) → R y → Seen sections n s₂ y
    every y (marked i ne m) = ext-seen sections n ended.ext (begun.by-mark i y ne (own-leads l x symbols sections i y m))
    every y (entered i e m) = ext-seen sections n ended.ext (begun.by-entry i y e (own-leads l x symbols sections i y m))
    every y (root b r) = ext-seen sections n ended.ext (begun.by-root y (own_root l x symbols sections y b r))
    every y (step {y = z} r b m) =
        let f = ended.good.listed z b.issued ((every z r).mark (own-built l x symbols sections z b)) in
        let few : s₂.visitor.queued ≤ n = omega (arith, ended.good.count, marks-le n s₂.work) in
        subst (λ (k : ℕ). Closed s₂ k) f.2 (ended.visited f.0 (omega (arith, f.1)) f.1) y m

    pub exact : Exact s₂
    exact = record { good = ended.good; all = every }
