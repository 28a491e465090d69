-- The plain collector's visits find exactly what is reached.
-- Assumes nothing.
use Rattle.link.specs.declared.SymbolId.{SymbolId}
use Prim.Native.Nat.{ℕ, zero, suc, ◌+◌, ◌-◌, ◌<◌, ◌≤◌}
use Rattle.std.proofs.Math.Decide.{ℕ_discrete}
use Rattle.std.proofs.Common.{sym, ap, ◌∙◌, inl, inr, ⊎_elim, eqb-true, ne_eqb, length-set, get_or-set_same, get_or-set_other}
use native.Mathlib.Omega.{arith}
use Rattle.std.specs.Prelude.{◌≡◌, refl, ◌⊎◌, Bool, true, false, cond, List, eqb, get_or, set, length, Option, None, Some}
use Rattle.std.proofs.Math.Path.{subst}
use Rattle.std.proofs.lemmas.Bool.{eqb-false}
use Rattle.cells.specs.Proof.Split.{by-test}
use Rattle.byte_slices.specs.Proof.Ways.{apart}
use Rattle.link.specs.declared.Link.{Link}
use Rattle.link.specs.declared.SectionId.{SectionId}
use Rattle.sections.specs.Rows.{first_at, count_at, is_built}
use Rattle.gc_sections.specs.Each.{each}
use Rattle.gc_sections.specs.Roots.{symbol_id, section_id, lead_of, is_root}
use Rattle.gc_sections.specs.Reach.{lower_of, end_of, clear_cell}
use Rattle.gc_sections.specs.Run.{Lists}
use Rattle.plain_collector.specs.Visit.{Visited, visited_of, unvisited, target_of, enter, enter_lead, visit_of, visited, marked_lead, root_lead, entry_lead, root_symbol, root_section, reached_of}
use Rattle.plain_collector.specs.Proof.Depth.{built-below, built-falls, relocation_to, follow, visit-is}
use Rattle.plain_laws.specs.Visits as Base
use Rattle.plain_laws.specs.Visits.{Marked, Low}
use Rattle.gc_laws.specs.Reached.{Names, Reached, marked, entered, root, step}
use Rattle.gc_laws.proofs.Own.{built-own, own-built, leads-own, own-leads, root-own, own_root}
use Rattle.gc_laws.proofs.Marks.{cleared, length-cleared}
use Rattle.gc_laws.proofs.Walk.{lowered, lower-new, lower-old}
use Rattle.gc_laws.proofs.Exact.{elsewhere, lead-below, end-first, end-within, end-all}

differ : {k : ℕ} → k ≡ 1 → k ≡ 0 → ⊥
differ m z = omega arith

module _ (l : Link) (x : Lists) (symbols sections : List ℕ) (entry : Option SymbolId) where
  abbrev n : ℕ
  n = l.sections

  abbrev R : ℕ → Type 0
  R = Reached l x symbols sections entry

  abbrev Built : ℕ → Type 0
  Built y = is_built sections n y ≡ true

  abbrev Unready : ℕ → Type 0
  Unready y = is_built sections n y ≡ false

  abbrev Lies : ℕ → ℕ → Type 0
  Lies i y = lead_of symbols l.symbols (symbol_id i) ≡ Some (section_id y)

  -- ---- what every visit keeps

  abbrev Good : Visited → Type 0
  Good = Base.Good l x symbols sections entry

  record Ext (s t : Visited) : Type 0 where
    mono : (y : ℕ) → y < n → Marked s y → Marked t y
    lower : (y : ℕ) → Low s y → Low t y

  ext_trans : {s t u : Visited} → Ext s t → Ext t u → Ext s u
  ext_trans a b = record { mono = λ y h m. b.mono y h (a.mono y h m); lower = λ y m. b.lower y (a.lower y m) }

  abbrev Seen : Visited → ℕ → Type 0
  Seen = Base.Seen l x symbols sections entry

  ext-seen : {s t : Visited} {y : ℕ} → Ext s t → Seen s y → Seen t y
  ext-seen {y = y} e m = record { mark = λ b. e.mono y (built-below sections n y b) (m.mark b); low = λ u. e.lower y (m.low u) }

  abbrev Closed : Visited → ℕ → Type 0
  Closed s y = (z : ℕ) → Names l x symbols sections y z → Seen s z

  -- the sections of In are met, and what a section that was marked on the way names was met
  record Steps (s : Visited) (In : ℕ → Type 0) (t : Visited) : Type 0 where
    good : Good t
    ext : Ext s t
    less : unvisited n t.work ≤ unvisited n s.work
    seen : (y : ℕ) → In y → Seen t y
    closed : (y : ℕ) → y < n → Marked t y → get_or s.work y 0 ≡ 0 → Closed t y

  narrow : {s t : Visited} {A B : ℕ → Type 0} → Steps s A t → ((y : ℕ) → B y → A y) → Steps s B t
  narrow m f = record { good = m.good; ext = m.ext; less = m.less; seen = λ y b. m.seen y (f y b); closed = m.closed }

  none : (s : Visited) (In : ℕ → Type 0) → Good s → ((y : ℕ) → In y → Seen s y) → Steps s In s
  none s In g f =
      record {
        good = g;
        ext = record { mono = λ y h m. m; lower = λ y m. m };
        less = omega arith;
        seen = f;
        closed = λ y h m z. absurd (differ m z);
      }

  -- what was marked before stays closed
  closed_on : {s t u : Visited} {A B : ℕ → Type 0} → Steps s A t → Steps t B u → (y : ℕ) → y < n → Marked u y → get_or s.work y 0 ≡ 0 → Closed u y
  closed_on a b y h m z =
      ⊎_elim (λ free. b.closed y h m free) (λ there k d. ext-seen b.ext (a.closed y h there z k d)) (a.good.bit y h)

  -- a loop
  module _ (f : ℕ → Visited → Visited) (In : ℕ → ℕ → Type 0) (lo hi depth : ℕ)
      (one : (j : ℕ) (s : Visited) → lo ≤ j → j < hi → Good s → unvisited n s.work ≤ depth → Steps s (In j) (f j s)) where
    each-steps : (k i : ℕ) (s : Visited) → lo ≤ i → i + k ≡ hi → Good s → unvisited n s.work ≤ depth
        → Steps s (λ y. (j : ℕ) × (i ≤ j) × (j < hi) × In j y) (each f k i s)
    unfolding each
    each-steps zero i s a e g u = none s (λ y. (j : ℕ) × (i ≤ j) × (j < hi) × In j y) g (λ y m. absurd (never m.0 m.1 m.2))
      where
        never : (j : ℕ) → i ≤ j → j < hi → ⊥
        never j h k = omega arith
    each-steps (suc k) i s a e g u =
        let here = one i s a (omega arith) g u in
        let rest = each-steps k (i + 1) (f i s) (omega arith) (omega arith) here.good (omega (arith, here.less)) in
        record {
          good = rest.good;
          ext = ext_trans here.ext rest.ext;
          less = omega (arith, here.less, rest.less);
          seen = λ y m. go (here.seen y) rest.ext (rest.seen y) m.0 m.1 m.2 m.3 (ℕ_discrete m.0 i);
          closed = closed_on here rest;
        }
      where
        go : {y : ℕ} {t : Visited} → (In i y → Seen (f i s) y) → Ext (f i s) t → ((j : ℕ) × (i + 1 ≤ j) × (j < hi) × In j y → Seen t y)
            → (j : ℕ) → i ≤ j → j < hi → In j y → Dec (j ≡ i) → Seen t y
        go {y = y} p q r j h b m (yes d) = ext-seen q (p (subst (λ (w : ℕ). In w y) d m))
        go p q r j h b m (no ne) = r (j, omega arith, b, m)

  -- ---- a section that is marked

  module _ (s : Visited) (y : ℕ) (g : Good s) (b : Built y) (z : get_or s.work y 0 ≡ 0) (r : R y) where
    abbrev s₁ : Visited
    s₁ = visited_of (set s.work y 1) s.unbuilt

    below : y < n
    below = built-below sections n y b

    at_same : (k : ℕ) → k ≡ y → get_or s₁.work k 0 ≡ 1
    at_same k e = rw e (get_or-set_same s.work y 1 0 (omega (arith, below, g.room)))

    at_other : (k : ℕ) → (k ≡ y → ⊥) → get_or s₁.work k 0 ≡ get_or s.work k 0
    at_other k ne = get_or-set_other s.work y k 1 0 ne

    bit₁ : (k : ℕ) → k < n → Dec (k ≡ y) → (get_or s₁.work k 0 ≡ 0) ⊎ (Marked s₁ k)
    bit₁ k h (yes e) = inr (at_same k e)
    bit₁ k h (no ne) = rw (at_other k ne) (g.bit k h)

    sound₁ : (k : ℕ) → k < n → Marked s₁ k → Dec (k ≡ y) → R k × Built k
    sound₁ k h m (yes e) = (rw e r, rw e b)
    sound₁ k h m (no ne) = g.sound k h (sym (at_other k ne) ∙ m)

    mono₁ : (k : ℕ) → Marked s k → Dec (k ≡ y) → Marked s₁ k
    mono₁ k m (yes e) = at_same k e
    mono₁ k m (no ne) = at_other k ne ∙ m

    good₁ : Good s₁
    good₁ = record {
      room = omega (arith, g.room, length-set s.work y 1);
      bit = λ k h. bit₁ k h (ℕ_discrete k y);
      sound = λ k h m. sound₁ k h m (ℕ_discrete k y);
      lowest = g.lowest;
    }

    falls : suc (unvisited n s₁.work) ≡ unvisited n s.work
    falls = built-falls sections n s.work y g.room b z

    -- and its relocations are followed
    followed : (t : Visited) → Steps s₁ (λ k. Names l x symbols sections y k) t → Steps s (λ k. k ≡ y) t
    followed t m = record {
      good = m.good;
      ext = record { mono = λ k h d. m.ext.mono k h (mono₁ k d (ℕ_discrete k y)); lower = λ k d. m.ext.lower k d };
      less = omega (arith, m.less, falls);
      seen = λ k e. record { mark = λ c. m.ext.mono k (rw e below) (at_same k e); low = λ u. absurd (apart (sym u ∙ rw e b)) };
      closed = λ k h d e. shut k h d e (ℕ_discrete k y);
    }
      where
        shut : (k : ℕ) → k < n → Marked t k → get_or s.work k 0 ≡ 0 → Dec (k ≡ y) → Closed t k
        shut k h d e (yes q) = subst (Closed t) (sym q) m.seen
        shut k h d e (no ne) = m.closed k h d (at_other k ne ∙ e)

  -- ---- a visit

  enter_step : (on : ℕ → Visited → Visited) (y : ℕ) (s : Visited) → Good s → R y
      → ((b : Built y) (z : get_or s.work y 0 ≡ 0) → Good (visited_of (set s.work y 1) s.unbuilt) → suc (unvisited n (set s.work y 1)) ≡ unvisited n s.work
      → Steps (visited_of (set s.work y 1) s.unbuilt) (λ k. Names l x symbols sections y k) (on y (visited_of (set s.work y 1) s.unbuilt)))
      → Steps s (λ k. k ≡ y) (enter sections n on y s)
  enter_step on y s g r more = go (is_built sections n y) (eqb (get_or s.work y 0) 0) refl refl
    where
      go : (b c : Bool) → is_built sections n y ≡ b → eqb (get_or s.work y 0) 0 ≡ c
          → Steps s (λ k. k ≡ y) (cond b (cond c (on y (visited_of (set s.work y 1) s.unbuilt)) s) (visited_of s.work (lower_of s.unbuilt (section_id y))))
      go true true e d =
          let z : get_or s.work y 0 ≡ 0 = eqb-true _ _ d in
          followed s y g e z r (on y (visited_of (set s.work y 1) s.unbuilt)) (more e z (good₁ s y g e z r) (falls s y g e z r))
      go true false e d =
          let m : Marked s y = ⊎_elim (λ z. absurd (eqb-false _ _ d z)) (λ m. m) (g.bit y (built-below sections n y e)) in
          none s (λ k. k ≡ y) g (λ k q. record { mark = λ c. rw q m; low = λ u. absurd (apart (sym u ∙ rw q e)) })
      go false c e d = record {
        good = record {
          room = g.room;
          bit = g.bit;
          sound = g.sound;
          lowest = λ id q. lowered (section_id y) s.unbuilt (λ k. R k × Unready k) (λ k f. g.lowest k f) (r, e) id q;
        };
        ext = record {
          mono = λ k h m. m;
          lower = λ k m. let f = lower-old (section_id y) s.unbuilt m.0 m.1 in (f.0, f.1, omega (arith, f.2, m.2));
        };
        less = omega arith;
        seen = λ k q. record {
          mark = λ a. absurd (apart (sym e ∙ (rw (← q) a)));
          low = λ a. let f = lower-new (section_id y) s.unbuilt in (f.0, f.1, omega (arith, f.2, q));
        };
        closed = λ k h m z. absurd (differ m z);
      }

  -- the sections that a lead names: one or none
  abbrev To : Option SectionId → ℕ → Type 0
  To k y = k ≡ Some (section_id y)

  lead-step : (on : ℕ → Visited → Visited) (k : Option SectionId) (s : Visited) → Good s → ((y : ℕ) → To k y → R y)
      → ((y : ℕ) → R y → (b : Built y) (z : get_or s.work y 0 ≡ 0) → Good (visited_of (set s.work y 1) s.unbuilt) → suc (unvisited n (set s.work y 1)) ≡ unvisited n s.work
      → Steps (visited_of (set s.work y 1) s.unbuilt) (λ k. Names l x symbols sections y k) (on y (visited_of (set s.work y 1) s.unbuilt)))
      → Steps s (To k) (enter_lead sections n on k s)
  lead-step on None s g p more = none s (To None) g (λ y m. absurd (elsewhere (section_id y) m))
  lead-step on (Some id) s g p more =
      narrow (enter_step on id.0 s g (p id.0 refl) (more id.0 (p id.0 refl)))
      (λ y m. let f : section_id y ≡ id = cc in ap (λ (k : SectionId). k.0) f)

  abbrev lists : List ℕ
  lists = x.lists

  abbrev Visits : ℕ → Type 0
  Visits depth = (k : Option SectionId) (s : Visited) → Good s → unvisited n s.work ≤ depth → ((y : ℕ) → To k y → R y) → Steps s (To k) (visit_of l symbols sections lists depth k s)

  relocation-step : (depth : ℕ) → Visits depth → (y j : ℕ) (t : Visited) → R y → Built y → first_at sections y ≤ j
      → j < end_of l.lists (first_at sections y) (count_at sections y) → Good t → unvisited n t.work ≤ depth
      → Steps t (λ z. Lies (get_or lists j 0) z) (relocation_to l symbols sections lists depth j t)
  relocation-step depth visits y j t r b lo hi h v =
      let w = end-within l.lists (first_at sections y) (count_at sections y) j lo hi in
      let e : first_at sections y + (j - first_at sections y) ≡ j = omega arith in
      visits (target_of l symbols lists j) t h v
      (λ z m.
      step r (built-own l x symbols sections y b)
      (record { at = j - first_at sections y; within = w.0; listed = rw e w.1; leads = rw e (leads-own l x symbols sections (get_or lists j 0) z m) }))

  follow-step : (depth : ℕ) → Visits depth → (y : ℕ) → R y → Built y → (t : Visited) → Good t → unvisited n t.work ≤ depth
      → Steps t (λ z. Names l x symbols sections y z) (follow l symbols sections lists (suc depth) y t)
  follow-step depth visits y r b t h v =
      let first = first_at sections y in
      let end = end_of l.lists first (count_at sections y) in
      let le : first ≤ end = end-first l.lists first (count_at sections y) in
      narrow
      (each-steps (relocation_to l symbols sections lists depth) (λ j z. Lies (get_or lists j 0) z) first end depth
      (λ j t a c h v. relocation-step depth visits y j t r b a c h v) (end - first) first t (omega arith) (omega arith) h v)
      (λ z m. (first + m.at, omega arith, end-all l.lists first (count_at sections y) m.at m.within m.listed, own-leads l x symbols sections _ z m.leads))

  -- the depth suffices
  visit-step : (depth : ℕ) → Visits depth
  visit-step zero k s g u p =
      rw (visit-is l symbols sections lists zero k s)
      (lead-step (follow l symbols sections lists zero) k s g p (λ y r b z h e. absurd (past e)))
    where
      past : {m : ℕ} → suc m ≡ unvisited n s.work → ⊥
      past e = omega arith
  visit-step (suc depth) k s g u p =
      rw (visit-is l symbols sections lists (suc depth) k s)
      (lead-step (follow l symbols sections lists (suc depth)) k s g p
      (λ y r b z h e. follow-step depth (visit-step depth) y r b (visited_of (set s.work y 1) s.unbuilt) h (omega arith)))

  visited-step : (k : Option SectionId) (s : Visited) → Good s → ((y : ℕ) → To k y → R y) → Steps s (To k) (visited l symbols sections lists k s)
  unfolding visited
  visited-step k s g p = visit-step (unvisited n s.work) k s g (omega arith) p

  -- ---- roots

  symbol-step : (i : ℕ) (s : Visited) → Good s → Steps s (λ y. (get_or x.marks i 0 ≡ 0 → ⊥) × Lies i y) (root_symbol l symbols sections lists x.marks i s)
  unfolding root_symbol marked_lead
  symbol-step i s g =
      narrow
      (visited-step (marked_lead symbols l.symbols x.marks i) s g
      (λ y m. by-test (eqb (get_or x.marks i 0) 0) (λ t. absurd (elsewhere (section_id y) (rw t at m)))
      (λ t. marked i (eqb-false _ _ t) (leads-own l x symbols sections i y (rw t at m)))))
      (λ y m. rw (ne_eqb _ _ m.0) m.1)

  section-step : (i : ℕ) (s : Visited) → Good s
      → Steps s (λ y. (y ≡ i) × (is_root x.bytes x.names sections n i ≡ true)) (root_section l x.bytes x.names symbols sections lists i s)
  unfolding root_section root_lead
  section-step i s g =
      narrow
      (visited-step (root_lead x.bytes x.names sections n i) s g
      (λ y m. by-test (is_root x.bytes x.names sections n i)
      (λ t. let d : Some (section_id i) ≡ Some (section_id y) = rw t at m in
      let f : section_id i ≡ section_id y = cc in
      let q = root-own l x symbols sections i t in
      subst R (ap (λ (k : SectionId). k.0) f) (root q.0 q.1))
      (λ t. absurd (elsewhere (section_id y) (rw t at m)))))
      (λ y m. rw m.1 (ap (λ (k : ℕ). Some (section_id k)) (sym m.0)))

  abbrev Entered : ℕ → Type 0
  Entered y = (i : ℕ) × (entry ≡ Some (symbol_id i)) × Lies i y

  entry-sound : (e : Option SymbolId) → entry ≡ e → (y : ℕ) → To (entry_lead symbols l.symbols e) y → R y
  entry-sound None d y m = absurd (elsewhere (section_id y) m)
  entry-sound (Some id) d y m = entered id.0 d (leads-own l x symbols sections id.0 y m)

  entry-met : (e : Option SymbolId) → entry ≡ e → (y : ℕ) → Entered y → To (entry_lead symbols l.symbols e) y
  entry-met None d y m = absurd (never m.0 (sym d ∙ m.1))
    where
      never : (i : ℕ) → None ≡ Some (symbol_id i) → ⊥
      never i e = let z : ◌≡◌ {A = ℕ} 0 1 = cc in omega arith
  entry-met (Some id) d y m =
      let f : Some (symbol_id m.0) ≡ Some id = sym m.1 ∙ d in
      let k : symbol_id m.0 ≡ id = cc in
      rw (← k) m.2

  -- ---- the whole

  abbrev Exact : Visited → Type 0
  Exact = Base.Exact l x symbols sections entry

  module _ (work : List ℕ) (enough : n ≤ length work) where
    abbrev s₀ : Visited
    s₀ = visited_of (each clear_cell n 0 work) None

    zero-at : (y : ℕ) → y < n → get_or s₀.work y 0 ≡ 0
    zero-at y g = cleared n 0 work y (omega arith) (omega arith)

    start-good : Good s₀
    start-good = record {
      room = omega (arith, length-cleared n 0 work);
      bit = λ y g. inl (zero-at y g);
      sound = λ y g m. absurd (never (zero-at y g) m);
      lowest = λ id e. absurd (nobody id e);
    }
      where
        never : {k : ℕ} → k ≡ 0 → k ≡ 1 → ⊥
        never z m = omega arith

        nobody : (id : SectionId) → None ≡ Some id → ⊥
        nobody id e = let z : ◌≡◌ {A = ℕ} 0 1 = cc in omega arith

    abbrev a₁ : Visited
    a₁ = each (root_symbol l symbols sections lists x.marks) l.symbols 0 s₀

    abbrev a₂ : Visited
    a₂ = each (root_section l x.bytes x.names symbols sections lists) n 0 a₁

    abbrev a₃ : Visited
    a₃ = visited l symbols sections lists (entry_lead symbols l.symbols entry) a₂

    abbrev ByMark : ℕ → Type 0
    ByMark y = (i : ℕ) × (0 ≤ i) × (i < l.symbols) × ((get_or x.marks i 0 ≡ 0 → ⊥) × Lies i y)

    abbrev ByRoot : ℕ → Type 0
    ByRoot y = (i : ℕ) × (0 ≤ i) × (i < n) × ((y ≡ i) × (is_root x.bytes x.names sections n i ≡ true))

    first : Steps s₀ ByMark a₁
    first =
        each-steps (root_symbol l symbols sections lists x.marks) (λ i y. (get_or x.marks i 0 ≡ 0 → ⊥) × Lies i y) 0 l.symbols (unvisited n s₀.work)
        (λ j t p q f u. symbol-step j t f) l.symbols 0 s₀ (omega arith) (omega arith) start-good (omega arith)

    second : Steps a₁ ByRoot a₂
    second =
        each-steps (root_section l x.bytes x.names symbols sections lists) (λ i y. (y ≡ i) × (is_root x.bytes x.names sections n i ≡ true)) 0 n (unvisited n a₁.work)
        (λ j t p q f u. section-step j t f) n 0 a₁ (omega arith) (omega arith) first.good (omega arith)

    third : Steps a₂ Entered a₃
    third = narrow (visited-step (entry_lead symbols l.symbols entry) a₂ second.good (entry-sound entry refl)) (entry-met entry refl)

    both : Steps s₀ ByMark a₂
    both =
        record {
          good = second.good;
          ext = ext_trans first.ext second.ext;
          less = omega (arith, first.less, second.less);
          seen = λ y m. ext-seen second.ext (first.seen y m);
          closed = closed_on first second;
        }

    every : (y : ℕ) → R y → Seen a₃ y
    every y (marked i ne m) =
        let k = own-leads l x symbols sections i y m in
        ext-seen third.ext (both.seen y (i, omega arith, lead-below symbols l.symbols i y k, (ne, k)))
    every y (entered i e m) = third.seen y (i, e, own-leads l x symbols sections i y m)
    every y (root b r) =
        let e = own_root l x symbols sections y b r in
        ext-seen third.ext (second.seen y (y, omega arith, b.issued, (refl, e)))
    every y (step {y = z} r b m) =
        closed_on both third z b.issued ((every z r).mark (own-built l x symbols sections z b)) (zero-at z b.issued) y m

    pub exact : Exact (reached_of l x.bytes x.names symbols sections lists x.marks entry work)
    unfolding reached_of
    exact = record { good = third.good; all = every }
