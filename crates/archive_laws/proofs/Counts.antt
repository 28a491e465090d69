-- Tests, counts, and how many members a list of entries can have.
-- Assumes nothing.
use Prim.Native.Nat.{ℕ, zero, suc, ◌-◌, ◌<◌, ◌≤◌}
use Rattle.std.proofs.Common.{not-suc-le-zero, arith, sym, ◌∙◌}
use Rattle.std.proofs.Math.Decide.{ℕ_discrete}
use Rattle.std.specs.Prelude.{◌≡◌, Bool, ◌&&◌, length}
use Rattle.std.proofs.Math.Path.{refl, ap}
use Rattle.std.proofs.Math.Bool.{true, false, cond, not}
use mathlib.Core.List.{List, [], ◌∷◌}
use Rattle.std.proofs.Math.Dec.{eqb}
use borrow.Author.Tests.{eqb-true, eq-eqb, ne_eqb}
use Rattle.archive_laws.specs.Members.{Same, among, Once, more, cnt, any_below, is_first, members}
use Rattle.archive_laws.specs.Counts.{First, Below, one_more}

pub clash : {P : Type 0} (a : Bool) → a ≡ true → a ≡ false → P
clash a p q = let f : ◌≡◌ {A = ℕ} 0 1 = cc in absurd (omega arith)

pub both : (a b : Bool) → a ≡ true → b ≡ true → a && b ≡ true
both a b p q = rw (p, q)

pub left-of : (a b : Bool) → a && b ≡ true → a ≡ true
left-of true b e = refl
left-of false b e = e

pub right_of : (a b : Bool) → a && b ≡ true → b ≡ true
right_of true b e = e
right_of false b e = clash false e refl

pub any-in : (f : ℕ → Bool) (n j : ℕ) → j < n → f j ≡ true → any_below f n ≡ true
unfolding any_below
any-in f zero j h e = absurd (not-suc-le-zero h)
any-in f (suc n) j h e = go (f n) refl (ℕ_discrete j n) (λ l. any-in f n j l e)
  where
    go : (b : Bool) → f n ≡ b → Dec (j ≡ n) → (j < n → any_below f n ≡ true) → cond b true (any_below f n) ≡ true
    go true q d r = refl
    go false q (yes d) r = clash (f n) (rw d at e) q
    go false q (no d) r = r (omega arith)

pub any_out : (f : ℕ → Bool) (n : ℕ) → any_below f n ≡ true → (j : ℕ) × (j < n) × (f j ≡ true)
unfolding any_below
any_out f zero e = clash false e refl
any_out f (suc n) e = go (f n) refl e (λ q. any_out f n q)
  where
    go : (b : Bool) → f n ≡ b → cond b true (any_below f n) ≡ true → (any_below f n ≡ true → (j : ℕ) × (j < n) × (f j ≡ true))
        → (j : ℕ) × (j < suc n) × (f j ≡ true)
    go true q r i = (n, omega arith, q)
    go false q r i = let x = i r in (x.0, omega (arith, x.1), x.2)

pub any_none : (f : ℕ → Bool) (n : ℕ) → ((j : ℕ) → j < n → f j ≡ false) → any_below f n ≡ false
any_none f n h = go (any_below f n) refl
  where
    go : (b : Bool) → any_below f n ≡ b → any_below f n ≡ false
    go false e = e
    go true e = let x = any_out f n e in clash (f x.0) x.2 (h x.0 x.1)

pub cnt-le : (f : ℕ → Bool) (n : ℕ) → cnt f n ≤ n
unfolding cnt
cnt-le f zero = omega arith
cnt-le f (suc n) = go (f n) (cnt-le f n)
  where
    go : (b : Bool) → cnt f n ≤ n → cond b (suc (cnt f n)) (cnt f n) ≤ suc n
    go true h = omega arith
    go false h = omega arith

pub cnt-mono : (f g : ℕ → Bool) (n : ℕ) → ((k : ℕ) → k < n → f k ≡ true → g k ≡ true) → cnt f n ≤ cnt g n
unfolding cnt
cnt-mono f g zero h = omega arith
cnt-mono f g (suc n) h = go (f n) (g n) (λ e. h n (omega arith) e) (cnt-mono f g n (λ k l e. h k (omega arith) e))
  where
    go : (a b : Bool) → (a ≡ true → b ≡ true) → cnt f n ≤ cnt g n → cond a (suc (cnt f n)) (cnt f n) ≤ cond b (suc (cnt g n)) (cnt g n)
    go true true i l = omega arith
    go true false i l = clash false (i refl) refl
    go false true i l = omega arith
    go false false i l = l

pub cnt-less : (f g : ℕ → Bool) (n r : ℕ) → ((k : ℕ) → k < n → f k ≡ true → g k ≡ true) → r < n → f r ≡ false → g r ≡ true → suc (cnt f n) ≤ cnt g n
unfolding cnt
cnt-less f g zero r h l a b = absurd (not-suc-le-zero l)
cnt-less f g (suc n) r h l a b =
    go (f n) (g n) refl refl (ℕ_discrete r n) (cnt-mono f g n (λ k q e. h k (omega arith) e)) (λ q. cnt-less f g n r (λ k p e. h k (omega arith) e) q a b)
  where
    go : (x y : Bool) → f n ≡ x → g n ≡ y → Dec (r ≡ n) → cnt f n ≤ cnt g n → (r < n → suc (cnt f n) ≤ cnt g n)
        → suc (cond x (suc (cnt f n)) (cnt f n)) ≤ cond y (suc (cnt g n)) (cnt g n)
    go true true ex ey (yes q) m i = clash (f n) ex (rw q at a)
    go true false ex ey (yes q) m i = clash (f n) ex (rw q at a)
    go false true ex ey (yes q) m i = omega arith
    go false false ex ey (yes q) m i = clash (g n) (rw q at b) ey
    go true true ex ey (no q) m i = omega (arith, i (omega arith))
    go true false ex ey (no q) m i = clash (g n) (h n (omega arith) ex) ey
    go false true ex ey (no q) m i = omega (arith, i (omega arith))
    go false false ex ey (no q) m i = i (omega arith)

module _ (keys : ℕ → ℕ) where
  pub first-of : (n k : ℕ) → k < n → (h : ℕ) × First keys k h
  unfolding is_first
  first-of zero k q = absurd (not-suc-le-zero q)
  first-of (suc n) k q = go (any_below (λ j. eqb (keys j) (keys k)) k) refl (λ j r. first-of n j r)
    where
      go : (b : Bool) → any_below (λ j. eqb (keys j) (keys k)) k ≡ b → ((j : ℕ) → j < n → (h : ℕ) × First keys j h) → (h : ℕ) × First keys k h
      go false e r = (k, record { low = omega arith; same = refl; first = ap not e })
      go true e r =
          let x = any_out (λ j. eqb (keys j) (keys k)) k e in
          let y = r x.0 (omega (arith, x.1)) in
          (y.0, record { low = omega (arith, x.1, y.1.low); same = y.1.same ∙ eqb-true (keys x.0) (keys k) x.2; first = y.1.first })

  -- there is one such entry
  pub first_one : (h j : ℕ) → is_first keys h ≡ true → is_first keys j ≡ true → Same keys h j → h ≡ j
  unfolding is_first
  first_one h j a b e = go (ℕ_discrete h j)
    where
      not-below : (x y : ℕ) → not (any_below (λ i. eqb (keys i) (keys y)) y) ≡ true → Same keys x y → x < y → ⊥
      not-below x y t f l =
          clash (not (any_below (λ i. eqb (keys i) (keys y)) y)) t
          (ap not (any-in (λ i. eqb (keys i) (keys y)) y x l (eq-eqb (keys x) (keys y) f)))

      up : h < j → h ≡ j
      up l = absurd (not-below h j b e l)

      down : j < h → h ≡ j
      down l = absurd (not-below j h a (sym e) l)

      go : Dec (h ≡ j) → h ≡ j
      go (yes q) = q
      go (no q) = split (h - j) refl
        where
          split : (d : ℕ) → h - j ≡ d → h ≡ j
          split zero z = up (omega arith)
          split (suc d) z = down (omega arith)

  -- of one member, or another's
  pub among_same : (q : List ℕ) (j k : ℕ) → Same keys j k → among keys j q ≡ among keys k q
  unfolding among
  among_same [] j k e = refl
  among_same (x ∷ q) j k e = rw (e, among_same q j k e)

  pub among-here : (q : List ℕ) (j k : ℕ) → Same keys j k → among keys k (j ∷ q) ≡ true
  unfolding among
  among-here q j k e = rw (eq-eqb (keys j) (keys k) e)

  pub among_there : (q : List ℕ) (j k : ℕ) → (Same keys j k → ⊥) → among keys k (j ∷ q) ≡ among keys k q
  unfolding among
  among_there q j k n = rw (ne_eqb (keys j) (keys k) n)

  pub among-more : (q : List ℕ) (j k : ℕ) → among keys k q ≡ true → among keys k (j ∷ q) ≡ true
  unfolding among
  among-more q j k e = go (eqb (keys j) (keys k))
    where
      go : (b : Bool) → cond b true (among keys k q) ≡ true
      go true = refl
      go false = e

  -- entry j is the first of a member of q
  abbrev heads : List ℕ → ℕ → Bool
  heads q j = is_first keys j && among keys j q

  count-once : (c : ℕ) (q : List ℕ) → Once keys q → Below keys c q → length q ≤ cnt (heads q) c
  count-once c [] o b = omega arith
  count-once c (k ∷ q) (more f o) (one_more h b) =
      let x = first-of c k h in
      let r : ℕ = x.0 in
      let same-r : Same keys k r = sym x.1.same in
      let was : heads q r ≡ false = rw (among_same q r k x.1.same, f) (and-false (is_first keys r)) in
      let now : heads (k ∷ q) r ≡ true = both (is_first keys r) (among keys r (k ∷ q)) x.1.first (among-here q k r same-r) in
      omega (arith, count-once c q o b, cnt-less (heads q) (heads (k ∷ q)) c r (λ j l e. grow j e) (omega (arith, x.1.low)) was now)
    where
      and-false : (b : Bool) → b && false ≡ false
      and-false true = refl
      and-false false = refl

      grow : (j : ℕ) → heads q j ≡ true → heads (k ∷ q) j ≡ true
      grow j e = both (is_first keys j) (among keys j (k ∷ q)) (left-of (is_first keys j) (among keys j q) e) (among-more q k j (right_of (is_first keys j) (among keys j q) e))

  pub once-members : (c : ℕ) (q : List ℕ) → Once keys q → Below keys c q → length q ≤ members keys c
  once-members c q o b =
      omega (arith, count-once c q o b, cnt-mono (heads q) (is_first keys) c (λ j l e. left-of (is_first keys j) (among keys j q) e))
