-- The walk finds exactly what is reached: the proof. Its invariant follows one section that is reached at a time.
-- Assumes nothing.
use Prim.Native.Nat.{ℕ, zero, suc, ◌+◌, ◌<◌, ◌≤◌}
use Rattle.std.proofs.Math.Decide.{ℕ_discrete}
use native.Mathlib.Omega.{arith}
use Rattle.std.specs.Prelude.{◌≡◌, ◌⊎◌, Bool, cond, List, leb, get_or, set, length, Option, None, Some}
use Rattle.std.proofs.Math.Path.{refl}
use Rattle.std.proofs.Common.{sym, ap, subst, ◌∙◌, inr, ⊎_elim, length-set, get_or-set_same, get_or-set_other}
use Rattle.std.proofs.Math.Bool.{true, false}
use borrow.Author.Tests.{ltb-true, ltb-false, leb-false, eqb-true, eqb-false}
use Rattle.std.proofs.Math.Dec.{eqb, ltb}
use Rattle.cells.specs.Proof.Split.{by-test}
use Rattle.byte_slices.specs.Proof.Ways.{apart}
use Rattle.link.specs.declared.SectionId.{SectionId}
use Rattle.sections.specs.Rows.{is_built}
use Rattle.gc_sections.specs.Each.{each}
use Rattle.gc_sections.specs.Roots.{section_id}
use Rattle.gc_sections.specs.Reach.{Walk, walk_of, visitor_of, queue, save_of, lower_of, reach_of}
use Rattle.gc_laws.specs.Found as Found
use Rattle.gc_laws.specs.Found.{Marked, Low}
use Rattle.gc_laws.proofs.Marks.{marks-past, marks-more, marks-lt}

pub built-below : (sections : List ℕ) (n y : ℕ) → is_built sections n y ≡ true → y < n
unfolding is_built
built-below sections n y e = by-test (leb n y) (λ t. absurd (apart (rw t at e))) (λ t. leb-false _ _ t)

-- ---- the lowest of two

module _ (id : SectionId) where
  pub lowered : (u : Option SectionId) (Q : ℕ → Type 0) → ((k : SectionId) → u ≡ Some k → Q k.0) → Q id.0 → (k : SectionId) → lower_of u id ≡ Some k → Q k.0
  lowered None Q f q k e = let z : id ≡ k = cc in subst (λ (m : SectionId). Q m.0) z q
  lowered (Some j) Q f q k e = go (ltb id.0 j.0) e
    where
      go : (b : Bool) → cond b (Some id) (Some j) ≡ Some k → Q k.0
      go true d = let z : id ≡ k = cc in subst (λ (m : SectionId). Q m.0) z q
      go false d = f k d

  pub lower-new : (u : Option SectionId) → (k : SectionId) × (lower_of u id ≡ Some k) × (k.0 ≤ id.0)
  lower-new None = (id, refl, omega arith)
  lower-new (Some j) = go (ltb id.0 j.0) refl
    where
      go : (b : Bool) → ltb id.0 j.0 ≡ b → (k : SectionId) × (cond b (Some id) (Some j) ≡ Some k) × (k.0 ≤ id.0)
      go true t = (id, refl, omega arith)
      go false t = (j, refl, ltb-false _ _ t)

  pub lower-old : (u : Option SectionId) (j : SectionId) → u ≡ Some j → (k : SectionId) × (lower_of u id ≡ Some k) × (k.0 ≤ j.0)
  lower-old None j e = absurd (let z : ◌≡◌ {A = ℕ} 0 1 = cc in omega arith)
  lower-old (Some i) j e = go (ltb id.0 i.0) refl
    where
      same : i.0 ≡ j.0
      same = let z : i ≡ j = cc in ap (λ (m : SectionId). m.0) z

      go : (b : Bool) → ltb id.0 i.0 ≡ b → (k : SectionId) × (cond b (Some id) (Some i) ≡ Some k) × (k.0 ≤ j.0)
      go true t = (id, refl, omega (arith, ltb-true id.0 i.0 t, same))
      go false t = (i, refl, omega (arith, same))

-- ---- what every walk keeps. P: what it is to be reached.

module _ (sections : List ℕ) (n : ℕ) where
  abbrev Built : ℕ → Type 0
  Built = Found.Built sections n

  abbrev Unready : ℕ → Type 0
  Unready = Found.Unready sections n

  abbrev pub Good : (ℕ → Type 0) → Walk → Type 0
  Good = Found.Good sections n

  -- a later walk
  pub record Ext (s t : Walk) : Type 0 where
    pub mono : (y : ℕ) → y < n → Marked s y → Marked t y
    pub keep : (k : ℕ) → k < s.visitor.queued → get_or t.work (n + k) 0 ≡ get_or s.work (n + k) 0
    pub grow : s.visitor.queued ≤ t.visitor.queued
    pub lower : (y : ℕ) → Low s y → Low t y

  pub ext_refl : (s : Walk) → Ext s s
  ext_refl s = record { mono = λ y h m. m; keep = λ k h. refl; grow = omega arith; lower = λ y m. m }

  pub ext_trans : {s t u : Walk} → Ext s t → Ext t u → Ext s u
  ext_trans {s} {t} {u} a b =
      record {
        mono = λ y h m. b.mono y h (a.mono y h m);
        keep = λ k h. b.keep k (omega (arith, a.grow)) ∙ a.keep k h;
        grow = omega (arith, a.grow, b.grow);
        lower = λ y m. b.lower y (a.lower y m);
      }

  abbrev pub Seen : Walk → ℕ → Type 0
  Seen = Found.Seen sections n

  pub ext-seen : {s t : Walk} {y : ℕ} → Ext s t → Seen s y → Seen t y
  ext-seen {y = y} e m = record { mark = λ b. e.mono y (built-below sections n y b) (m.mark b); low = λ u. e.lower y (m.low u) }

  module _ (P : ℕ → Type 0) where
    -- what meeting the sections of In gives
    pub record Steps (s : Walk) (In : ℕ → Type 0) (t : Walk) : Type 0 where
      pub good : Good P t
      pub ext : Ext s t
      pub seen : (y : ℕ) → In y → Seen t y

    pub none : (s : Walk) (In : ℕ → Type 0) → Good P s → ((y : ℕ) → In y → Seen s y) → Steps s In s
    none s In g f = record { good = g; ext = ext_refl s; seen = f }

    -- a section that enters the queue
    module _ (s : Walk) (y : ℕ) (g : Good P s) (b : Built y) (z : get_or s.work y 0 ≡ 0) (free : s.visitor.queued < n) where
      abbrev q : ℕ
      q = s.visitor.queued

      abbrev w1 : List ℕ
      w1 = set s.work y 1

      abbrev w2 : List ℕ
      w2 = set w1 (n + q) y

      below : y < n
      below = built-below sections n y b

      long : length w1 ≡ length s.work
      long = length-set s.work y 1

      at_other : (k : ℕ) → k < n → (k ≡ y → ⊥) → get_or w2 k 0 ≡ get_or s.work k 0
      at_other k h ne = get_or-set_other w1 (n + q) k y 0 (λ e. omega arith) ∙ get_or-set_other s.work y k 1 0 ne

      at_same : (k : ℕ) → k ≡ y → get_or w2 k 0 ≡ 1
      at_same k e =
          rw e (get_or-set_other w1 (n + q) y y 0 (λ d. omega (arith, below)) ∙ get_or-set_same s.work y 1 0 (omega (arith, below, g.room)))

      at_new : get_or w2 (n + q) 0 ≡ y
      at_new = get_or-set_same w1 (n + q) y 0 (omega (arith, long, g.room))

      at-queue : (k : ℕ) → k < q → get_or w2 (n + k) 0 ≡ get_or s.work (n + k) 0
      at-queue k h = get_or-set_other w1 (n + q) (n + k) y 0 (λ e. omega arith) ∙ get_or-set_other s.work y (n + k) 1 0 (λ e. omega (arith, below))

      kept : (k : ℕ) → k < n → Marked s k → get_or w2 k 0 ≡ 1
      kept k h m = at_other k h (λ e. let f : get_or s.work k 0 ≡ 0 = rw e z in omega arith) ∙ m

      bit' : (k : ℕ) → k < n → Dec (k ≡ y) → (get_or w2 k 0 ≡ 0) ⊎ (get_or w2 k 0 ≡ 1)
      bit' k h (yes e) = inr (at_same k e)
      bit' k h (no ne) = rw (at_other k h ne) (g.bit k h)

      sound' : P y → (k : ℕ) → k < n → get_or w2 k 0 ≡ 1 → Dec (k ≡ y) → P k × Built k
      sound' p k h m (yes e) = (rw e p, rw e b)
      sound' p k h m (no ne) = g.sound k h (sym (at_other k h ne) ∙ m)

      listed' : (k : ℕ) → k < n → get_or w2 k 0 ≡ 1 → Dec (k ≡ y) → (j : ℕ) × (j < q + 1) × (get_or w2 (n + j) 0 ≡ k)
      listed' k h m (yes e) = (q, omega arith, at_new ∙ sym e)
      listed' k h m (no ne) = let f = g.listed k h (sym (at_other k h ne) ∙ m) in (f.0, omega (arith, f.1), at-queue f.0 f.1 ∙ f.2)

      queued' : (k : ℕ) → k < q + 1 → Dec (k ≡ q) → (get_or w2 (n + k) 0 < n) × (get_or w2 (get_or w2 (n + k) 0) 0 ≡ 1)
      queued' k h (yes e) = rw (e, at_new) (below, at_same y refl)
      queued' k h (no ne) =
          let lt : k < q = omega arith in
          let f = g.queued k lt in
          rw (at-queue k lt) (f.0, kept (get_or s.work (n + k) 0) f.0 f.1)

      enter : P y → Steps s (λ k. k ≡ y) (queue n (section_id y) s)
      enter p = record {
        good = record {
          room = omega (arith, g.room, long, length-set w1 (n + q) y);
          count = marks-past n w1 (n + q) y (omega arith) ∙ marks-more n s.work y below (omega (arith, below, g.room)) z ∙ omega (arith, g.count);
          bit = λ k h. bit' k h (ℕ_discrete k y);
          sound = λ k h m. sound' p k h m (ℕ_discrete k y);
          listed = λ k h m. listed' k h m (ℕ_discrete k y);
          queued = λ k h. queued' k h (ℕ_discrete k q);
          lowest = λ id e. g.lowest id e;
        };
        ext = record { mono = λ k h m. kept k h m; keep = λ k h. at-queue k h; grow = omega arith; lower = λ k m. m };
        seen = λ k e. record { mark = λ c. at_same k e; low = λ u. absurd (apart (sym u ∙ rw e b)) };
      }

    marked-seen : (s : Walk) (y : ℕ) → Built y → Marked s y → (k : ℕ) → k ≡ y → Seen s k
    marked-seen s y b m k e = record { mark = λ c. rw e m; low = λ u. absurd (apart (sym u ∙ rw e b)) }

    pub save-step : (s : Walk) (y : ℕ) → Good P s → Built y → P y → Steps s (λ k. k ≡ y) (save_of n (section_id y) s)
    unfolding save_of
    save-step s y g b p = go (eqb (get_or s.work y 0) 0) (ltb s.visitor.queued n) refl refl
      where
        go : (c d : Bool) → eqb (get_or s.work y 0) 0 ≡ c → ltb s.visitor.queued n ≡ d
            → Steps s (λ k. k ≡ y) (cond c (cond d (queue n (section_id y) s) s) s)
        go true true ec ed = enter s y g b (eqb-true _ _ ec) (ltb-true _ _ ed) p
        go true false ec ed =
            absurd (omega (arith, marks-lt n s.work y (built-below sections n y b) (omega (arith, built-below sections n y b, g.room)) (eqb-true _ _ ec), g.count, ltb-false s.visitor.queued n ed))
        go false d ec ed =
            none s (λ k. k ≡ y) g (marked-seen s y b (⊎_elim (λ z. absurd (eqb-false _ _ ec z)) (λ m. m) (g.bit y (built-below sections n y b))))

    pub reach_step : (s : Walk) (y : ℕ) → Good P s → P y → Steps s (λ k. k ≡ y) (reach_of sections n (section_id y) s)
    unfolding reach_of
    reach_step s y g p = go (is_built sections n y) refl
      where
        go : (c : Bool) → is_built sections n y ≡ c → Steps s (λ k. k ≡ y) (cond c (save_of n (section_id y) s) (walk_of s.work (visitor_of s.visitor.queued (lower_of s.visitor.unbuilt (section_id y)))))
        go true e = save-step s y g e p
        go false e = record {
          good = record {
            room = g.room;
            count = g.count;
            bit = g.bit;
            sound = g.sound;
            listed = g.listed;
            queued = g.queued;
            lowest = λ id d. lowered (section_id y) s.visitor.unbuilt (λ k. P k × Unready k) (λ k f. g.lowest k f) (p, e) id d;
          };
          ext = record {
            mono = λ k h m. m;
            keep = λ k h. refl;
            grow = omega arith;
            lower = λ k m. let f = lower-old (section_id y) s.visitor.unbuilt m.0 m.1 in (f.0, f.1, omega (arith, f.2, m.2));
          };
          seen = λ k d. record {
            mark = λ c. absurd (apart (sym e ∙ (rw (← d) c)));
            low = λ c. let f = lower-new (section_id y) s.visitor.unbuilt in (f.0, f.1, omega (arith, f.2, d));
          };
        }

    -- a loop
    module _ (f : ℕ → Walk → Walk) (In : ℕ → ℕ → Type 0) (lo hi : ℕ) (one : (j : ℕ) (s : Walk) → lo ≤ j → j < hi → Good P s → Steps s (In j) (f j s)) where
      pub each-steps : (k i : ℕ) (s : Walk) → lo ≤ i → i + k ≡ hi → Good P s → Steps s (λ y. (j : ℕ) × (i ≤ j) × (j < hi) × In j y) (each f k i s)
      unfolding each
      each-steps zero i s a e g = none s (λ y. (j : ℕ) × (i ≤ j) × (j < hi) × In j y) g (λ y m. absurd (never m.0 m.1 m.2))
        where
          never : (j : ℕ) → i ≤ j → j < hi → ⊥
          never j h k = omega arith
      each-steps (suc k) i s a e g =
          let here = one i s a (omega arith) g in
          let rest = each-steps k (i + 1) (f i s) (omega arith) (omega arith) here.good in
          record {
            good = rest.good;
            ext = ext_trans here.ext rest.ext;
            seen = λ y m. go (here.seen y) rest.ext (rest.seen y) m.0 m.1 m.2 m.3 (ℕ_discrete m.0 i);
          }
        where
          go : {y : ℕ} {t : Walk} → (In i y → Seen (f i s) y) → Ext (f i s) t → ((j : ℕ) × (i + 1 ≤ j) × (j < hi) × In j y → Seen t y)
              → (j : ℕ) → i ≤ j → j < hi → In j y → Dec (j ≡ i) → Seen t y
          go {y = y} p x r j h b m (yes d) = ext-seen x (p (subst (λ (w : ℕ). In w y) d m))
          go p x r j h b m (no ne) = r (j, omega arith, b, m)
