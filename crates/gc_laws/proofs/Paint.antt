-- Theorems over specs/Proof/Paint.antt.
-- Assumes nothing.
use Prim.Native.Nat.{ℕ, zero, suc, ◌+◌, ◌<◌, ◌≤◌}
use Rattle.std.proofs.Math.Decide.{ℕ_discrete}
use Rattle.std.proofs.Math.Nat.{le_refl, le_trans}
use native.Mathlib.Omega.{arith}
use Rattle.std.specs.Prelude.{◌≡◌, ◌⊎◌, Bool, cond, List, set, eqb, ltb}
use Rattle.std.proofs.Math.Path.{refl, ap, subst}
use Rattle.std.proofs.Common.{sym, ◌∙◌, inl, inr, get_or-set_same, ext_get_or, eqb-true, eq-eqb, ltb-true, ltb-false}
use Rattle.std.proofs.Math.Bool.{true, false}
use Rattle.std.proofs.Math.ListN.{get_or, length, length-set, get_or-eq_default}
use Rattle.std.proofs.Math.Seq.{get_or-set_other}
use Rattle.std.proofs.lemmas.List.{set_comm}
use Rattle.cells.specs.Proof.Split.{by-test}
use Rattle.byte_slices.specs.Proof.Ways.{apart}
use Rattle.gc_sections.specs.Each.{each}
use Rattle.gc_laws.specs.Proof.Paint.{either, paint, picked}

module _ (p : ℕ → Bool) (g : ℕ → ℕ) (v : ℕ) where
  pub length-paint : (i : ℕ) (l : List ℕ) → length (paint p g v i l) ≡ length l
  unfolding paint
  length-paint i l = go (p i)
    where
      go : (b : Bool) → length (cond b (set l (g i) v) l) ≡ length l
      go true = length-set l (g i) v
      go false = refl

  pub length-painted : (k i : ℕ) (l : List ℕ) → length (each (paint p g v) k i l) ≡ length l
  unfolding each
  length-painted zero i l = refl
  length-painted (suc k) i l = length-painted k (i + 1) (paint p g v i l) ∙ length-paint i l

  paint-one : (i : ℕ) (l : List ℕ) (q : ℕ) → q < length l → get_or l q 0 ≡ v → get_or (paint p g v i l) q 0 ≡ v
  unfolding paint
  paint-one i l q h e = go (p i) (ℕ_discrete q (g i))
    where
      go : (b : Bool) → Dec (q ≡ g i) → get_or (cond b (set l (g i) v) l) q 0 ≡ v
      go true (yes d) = subst (λ (k : ℕ). get_or (set l k v) q 0 ≡ v) d (get_or-set_same l q v 0 h)
      go true (no ne) = get_or-set_other l (g i) q v 0 ne ∙ e
      go false d = e

  pub paint-stays : (k i : ℕ) (l : List ℕ) (q : ℕ) → q < length l → get_or l q 0 ≡ v → get_or (each (paint p g v) k i l) q 0 ≡ v
  unfolding each
  paint-stays zero i l q h e = e
  paint-stays (suc k) i l q h e = paint-stays k (i + 1) (paint p g v i l) q (omega (arith, length-paint i l)) (paint-one i l q h e)

  paint-here : (i : ℕ) (l : List ℕ) → p i ≡ true → g i < length l → get_or (paint p g v i l) (g i) 0 ≡ v
  unfolding paint
  paint-here i l e h = rw e (get_or-set_same l (g i) v 0 h)

  pub paint-hit : (k i : ℕ) (l : List ℕ) (j : ℕ) → i ≤ j → j < i + k → p j ≡ true → g j < length l → get_or (each (paint p g v) k i l) (g j) 0 ≡ v
  unfolding each
  paint-hit zero i l j a b e h = absurd (past a b)
    where
      past : i ≤ j → j < i + 0 → ⊥
      past a b = omega arith
  paint-hit (suc k) i l j a b e h =
      go (λ c. paint-hit k (i + 1) (paint p g v i l) j c (omega arith) e (omega (arith, length-paint i l))) (ℕ_discrete i j)
    where
      go : (i + 1 ≤ j → get_or (each (paint p g v) k (i + 1) (paint p g v i l)) (g j) 0 ≡ v) → Dec (i ≡ j) → get_or (each (paint p g v) k (i + 1) (paint p g v i l)) (g j) 0 ≡ v
      go r (yes d) =
          subst (λ (m : ℕ). get_or (each (paint p g v) k (i + 1) (paint p g v i l)) (g m) 0 ≡ v) d
          (paint-stays k (i + 1) (paint p g v i l) (g i) (omega (arith, length-paint i l, ap g d)) (paint-here i l (rw d e) (omega (arith, ap g d))))
      go r (no ne) = r (omega arith)

  paint-past : (i : ℕ) (l : List ℕ) (q : ℕ) → (p i ≡ true → g i ≡ q → ⊥) → get_or (paint p g v i l) q 0 ≡ get_or l q 0
  unfolding paint
  paint-past i l q n = go (p i) refl
    where
      go : (b : Bool) → p i ≡ b → get_or (cond b (set l (g i) v) l) q 0 ≡ get_or l q 0
      go true e = get_or-set_other l (g i) q v 0 (λ d. n e (sym d))
      go false e = refl

  pub paint-miss : (k i : ℕ) (l : List ℕ) (q : ℕ) → ((j : ℕ) → i ≤ j → j < i + k → p j ≡ true → g j ≡ q → ⊥) → get_or (each (paint p g v) k i l) q 0 ≡ get_or l q 0
  unfolding each
  paint-miss zero i l q n = refl
  paint-miss (suc k) i l q n =
      paint-miss k (i + 1) (paint p g v i l) q (λ j a b. n j (omega arith) (omega arith)) ∙ paint-past i l q (n i (omega arith) (omega arith))

-- cells that become 0: no cell grows
pub set-falls : (x : List ℕ) (c q : ℕ) → get_or (set x c 0) q 0 ≤ get_or x q 0
set-falls x c q = go (ℕ_discrete q c)
  where
    none : q ≡ c → get_or (set x c 0) q 0 ≡ 0
    none d =
        by-test (ltb c (length x)) (λ b. ap (λ (k : ℕ). get_or (set x c 0) k 0) d ∙ get_or-set_same x c 0 0 (ltb-true _ _ b))
        (λ b. get_or-eq_default (set x c 0) 0 {n = q} (omega (arith, length-set x c 0, ltb-false c (length x) b, d)))

    go : Dec (q ≡ c) → get_or (set x c 0) q 0 ≤ get_or x q 0
    go (yes d) = omega (arith, none d)
    go (no ne) = omega (arith, get_or-set_other x c q 0 0 ne)

module _ (p : ℕ → Bool) (g : ℕ → ℕ) where
  paint-fall : (i : ℕ) (l : List ℕ) (q : ℕ) → get_or (paint p g 0 i l) q 0 ≤ get_or l q 0
  unfolding paint
  paint-fall i l q = go (p i)
    where
      go : (b : Bool) → get_or (cond b (set l (g i) 0) l) q 0 ≤ get_or l q 0
      go true = set-falls l (g i) q
      go false = le_refl _

  pub paint-falls : (k i : ℕ) (l : List ℕ) (q : ℕ) → get_or (each (paint p g 0) k i l) q 0 ≤ get_or l q 0
  unfolding each
  paint-falls zero i l q = le_refl _
  paint-falls (suc k) i l q = le_trans (paint-falls k (i + 1) (paint p g 0 i l) q) (paint-fall i l q)

-- nothing is picked
module _ (p : ℕ → Bool) where
  pub picked_none : (k i : ℕ) → ((j : ℕ) → i ≤ j → j < i + k → p j ≡ false) → picked p k i ≡ 0
  unfolding picked
  picked_none zero i f = refl
  picked_none (suc k) i f = rw (f i (omega arith) (omega arith)) (omega (arith, picked_none k (i + 1) (λ j a b. f j (omega arith) (omega arith))))

  pub paint-none : (g : ℕ → ℕ) (v k i : ℕ) (l : List ℕ) → ((j : ℕ) → i ≤ j → j < i + k → p j ≡ false) → each (paint p g v) k i l ≡ l
  unfolding each paint
  paint-none g v zero i l f = refl
  paint-none g v (suc k) i l f = rw (f i (omega arith) (omega arith)) (paint-none g v k (i + 1) l (λ j a b. f j (omega arith) (omega arith)))

  -- is one picked?
  pub find : (k : ℕ) → ((i : ℕ) × (i < k) × (p i ≡ true)) ⊎ ((i : ℕ) → i < k → p i ≡ false)
  find zero = inr (λ i h. absurd (past h))
    where
      past : {i : ℕ} → i < 0 → ⊥
      past h = omega arith
  find (suc k) = go (find k) (p k) refl
    where
      go : ((i : ℕ) × (i < k) × (p i ≡ true)) ⊎ ((i : ℕ) → i < k → p i ≡ false) → (b : Bool) → p k ≡ b
          → ((i : ℕ) × (i < suc k) × (p i ≡ true)) ⊎ ((i : ℕ) → i < suc k → p i ≡ false)
      go (inl f) b e = inl (f.0, omega (arith, f.1), f.2)
      go (inr f) true e = inl (k, omega arith, e)
      go (inr f) false e = inr (λ i h. more i h (ℕ_discrete i k))
        where
          more : (i : ℕ) → i < suc k → Dec (i ≡ k) → p i ≡ false
          more i h (yes d) = rw d e
          more i h (no ne) = f i (omega arith)

-- ---- equal loops, two loops in one, a loop and a single cell

pub each_last : {S : Type 0} (f : ℕ → S → S) (k i : ℕ) (s : S) → each f (suc k) i s ≡ f (i + k) (each f k i s)
unfolding each
each_last f zero i s = ap (λ (m : ℕ). f m s) (omega arith)
each_last f (suc k) i s = each_last f k (i + 1) (f i s) ∙ ap (λ (m : ℕ). f m (each f k (i + 1) (f i s))) (omega arith)

pub paint-same : (p q : ℕ → Bool) (g h : ℕ → ℕ) (v : ℕ) → ((i : ℕ) → p i ≡ q i) → ((i : ℕ) → g i ≡ h i) → (k i : ℕ) (l : List ℕ)
    → each (paint p g v) k i l ≡ each (paint q h v) k i l
unfolding each paint
paint-same p q g h v a b zero i l = refl
paint-same p q g h v a b (suc k) i l = rw (a i, b i) (paint-same p q g h v a b k (i + 1) (cond (q i) (set l (h i) v) l))

module _ (p q : ℕ → Bool) (g : ℕ → ℕ) (v : ℕ) (k : ℕ) (l : List ℕ) where
  abbrev inner : List ℕ
  inner = each (paint q g v) k 0 l

  abbrev outer : List ℕ
  outer = each (paint p g v) k 0 inner

  long : length outer ≡ length l
  long = length-painted p g v k 0 inner ∙ length-painted q g v k 0 l

  hit : (j c : ℕ) → j < k → either p q j ≡ true → g j ≡ c → c < length l → get_or outer c 0 ≡ v
  hit j c h e d b = go (p j) refl e
    where
      go : (t : Bool) → p j ≡ t → cond t true (q j) ≡ true → get_or outer c 0 ≡ v
      go true s f =
          subst (λ (m : ℕ). get_or outer m 0 ≡ v) d (paint-hit p g v k 0 inner j (omega arith) (omega arith) s (omega (arith, length-painted q g v k 0 l)))
      go false s f =
          paint-stays p g v k 0 inner c (omega (arith, length-painted q g v k 0 l))
          (subst (λ (m : ℕ). get_or inner m 0 ≡ v) d (paint-hit q g v k 0 l j (omega arith) (omega arith) f (omega arith)))

  pick-left : (j : ℕ) → p j ≡ true → either p q j ≡ true
  pick-left j e = rw e

  pick-right : (j : ℕ) → q j ≡ true → either p q j ≡ true
  pick-right j e = rw e (always (p j))
    where
      always : (b : Bool) → cond b true true ≡ true
      always true = refl
      always false = refl

  pub paint-both : outer ≡ each (paint (either p q) g v) k 0 l
  paint-both =
      ext_get_or 0 outer (each (paint (either p q) g v) k 0 l) (long ∙ sym (length-painted (either p q) g v k 0 l))
      (λ c h. go c (omega (arith, long)) (find (λ (j : ℕ). cond (either p q j) (eqb (g j) c) false) k))
    where
      both : (a b : Bool) → cond a b false ≡ true → (a ≡ true) × (b ≡ true)
      both true b e = (refl, e)
      both false b e = absurd (apart e)

      go : (c : ℕ) → c < length l
          → ((j : ℕ) × (j < k) × (cond (either p q j) (eqb (g j) c) false ≡ true)) ⊎ ((j : ℕ) → j < k → cond (either p q j) (eqb (g j) c) false ≡ false)
          → get_or outer c 0 ≡ get_or (each (paint (either p q) g v) k 0 l) c 0
      go c h (inl f) =
          let b = both (either p q f.0) (eqb (g f.0) c) f.2 in
          let d : g f.0 ≡ c = eqb-true _ _ b.1 in
          hit f.0 c f.1 b.0 d h
          ∙ sym (subst (λ (m : ℕ). get_or (each (paint (either p q) g v) k 0 l) m 0 ≡ v) d (paint-hit (either p q) g v k 0 l f.0 (omega arith) (omega (arith, f.1)) b.0 (omega arith)))
      go c h (inr f) =
          let none : (j : ℕ) → j < k → either p q j ≡ true → g j ≡ c → ⊥ = λ j b e d. apart (sym (f j b) ∙ rw (e, eq-eqb _ _ d)) in
          paint-miss p g v k 0 inner c (λ j a b e d. none j (omega arith) (pick-left j e) d)
          ∙ paint-miss q g v k 0 l c (λ j a b e d. none j (omega arith) (pick-right j e) d)
          ∙ sym (paint-miss (either p q) g v k 0 l c (λ j a b e d. none j (omega arith) e d))

pub paint-set : (p : ℕ → Bool) (g : ℕ → ℕ) (v c u : ℕ) → ((j : ℕ) → c ≡ g j → ⊥) → (k i : ℕ) (l : List ℕ) → each (paint p g v) k i (set l c u) ≡ set (each (paint p g v) k i l) c u
unfolding each paint
paint-set p g v c u n zero i l = refl
paint-set p g v c u n (suc k) i l = ap (each (paint p g v) k (i + 1)) (go (p i)) ∙ paint-set p g v c u n k (i + 1) (cond (p i) (set l (g i) v) l)
  where
    go : (b : Bool) → cond b (set (set l c u) (g i) v) (set l c u) ≡ set (cond b (set l (g i) v) l) c u
    go true = set_comm l c (g i) u v (n i)
    go false = refl
