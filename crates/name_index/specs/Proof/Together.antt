-- New rows that are put in one by one, or sorted and from behind, get the same places: lists in order with the same ids are equal.
-- Assumes nothing.
use Rattle.std.specs.Prelude.{ℕ, zero, suc, ◌+◌, ◌-◌, ◌<◌, ◌≤◌, ◌≡◌, refl, ◌≢◌, ◌⊎◌, List, [], ◌∷◌, eqb, ltb, get_or, length}
use Rattle.std.specs.List.{insert}
use Rattle.std.specs.declared.cmp.Ordering.TheVariants.{Less, Greater}
use Rattle.std.proofs.Common.{arith, sym, ap, subst, ◌∙◌, inl, inr}
use Rattle.std.proofs.lemmas.List.Edits.{length-insert, get_or-insert_below, get_or-insert_at, get_or-insert_above}
use borrow.Author.Tests.{eqb-true, eqb-false, ltb-true, ltb-false}
use Rattle.cells.specs.Proof.Split.{by-test}
use Rattle.name_index.specs.Named.{Rows, name_of_row}
use Rattle.name_index.specs.InOrder.{name_in, InOrder}
use Rattle.name_index.specs.Arrivals.{put_in}
use Rattle.name_index.specs.Proof.Order.{order, itself, turned, less-less}
use Rattle.name_index.specs.Proof.Inserted.{in-order-more}

-- ---- what a list has

pub record Has (xs : List ℕ) (z : ℕ) : Type 0 where
  pub at : ℕ
  pub low : at < length xs
  pub is : get_or xs at 0 ≡ z

pub none : {P : Type 0} {z : ℕ} → Has [] z → P
none h = let l = h.low in absurd (omega (arith, l))

pub head : {x : ℕ} (xs : List ℕ) → Has (x ∷ xs) x
head xs = record { at = 0; low = omega arith; is = refl }

pub tail : {x z : ℕ} (xs : List ℕ) → Has xs z → Has (x ∷ xs) z
tail xs h = record { at = suc h.at; low = let l = h.low in omega (arith, l); is = h.is }

parted : {P : Type 0} {x z : ℕ} (xs : List ℕ) (k : ℕ) → k < length (x ∷ xs) → get_or (x ∷ xs) k 0 ≡ z → (x ≡ z → P) → (Has xs z → P) → P
parted xs zero l e f g = f e
parted xs (suc k) l e f g = g (record { at = k; low = omega (arith, l); is = e })

pub either : {P : Type 0} {x z : ℕ} (xs : List ℕ) → Has (x ∷ xs) z → (x ≡ z → P) → (Has xs z → P) → P
either xs h f g = parted xs h.at h.low h.is f g

module _ (xs : List ℕ) (k x : ℕ) (within : k ≤ length xs) where
  pub has-new : Has (insert xs k x) x
  has-new = record { at = k; low = omega (arith, length-insert xs k x within); is = get_or-insert_at xs k x 0 within }

  pub has-old : {z : ℕ} → Has xs z → Has (insert xs k x) z
  has-old h =
      let l = h.low in
      by-test (ltb h.at k)
      (λ t. record { at = h.at; low = omega (arith, l, length-insert xs k x within); is = get_or-insert_below xs k x 0 h.at (ltb-true _ _ t) within ∙ h.is })
      (λ t. record {
        at = h.at + 1;
        low = omega (arith, l, length-insert xs k x within);
        is = get_or-insert_above xs k x 0 h.at (ltb-false _ _ t) within ∙ h.is;
      })

  pub has-either : {P : Type 0} {z : ℕ} → Has (insert xs k x) z → (x ≡ z → P) → (Has xs z → P) → P
  has-either h f g =
      let l : h.at < length xs + 1 = let q = h.low in omega (arith, q, length-insert xs k x within) in
      by-test (ltb h.at k)
      (λ t. let b : h.at < k = ltb-true _ _ t in
      g (record { at = h.at; low = omega (arith, l); is = sym (get_or-insert_below xs k x 0 h.at b within) ∙ h.is }))
      (λ t. let b : k ≤ h.at = ltb-false _ _ t in
      by-test (eqb h.at k)
      (λ u. f (sym (ap (λ (i : ℕ). get_or (insert xs k x) i 0) (eqb-true _ _ u) ∙ get_or-insert_at xs k x 0 within) ∙ h.is))
      (λ u. let n : h.at ≢ k = eqb-false _ _ u in
      let a : k < h.at = omega (arith, n, b) in
      let e : h.at - 1 + 1 ≡ h.at = omega (arith, a) in
      g (record {
        at = h.at - 1;
        low = omega (arith, l, a);
        is = sym (get_or-insert_above xs k x 0 (h.at - 1) (omega (arith, a)) within) ∙ ap (λ (i : ℕ). get_or (insert xs k x) i 0) e ∙ h.is;
      })))

-- ---- lists in order

module _ (r : Rows) where
  pub in-tail : (x : ℕ) (xs : List ℕ) → InOrder r (x ∷ xs) → InOrder r xs
  in-tail x xs s i j g h = s (suc i) (suc j) (omega (arith, g)) (omega (arith, h))

  pub head-less : (x : ℕ) (xs : List ℕ) → InOrder r (x ∷ xs) → {z : ℕ} → Has xs z → order (name_of_row r x) (name_of_row r z) ≡ Less
  head-less x xs s {z} h =
      subst (λ (y : ℕ). order (name_of_row r x) (name_of_row r y) ≡ Less) h.is (s 0 (suc h.at) (omega arith) (let l = h.low in omega (arith, l)))

  pub not-itself : {P : Type 0} (x : ℕ) → order (name_of_row r x) (name_of_row r x) ≡ Less → P
  not-itself x l = let e = itself (name_of_row r x) in absurd (cc)

  pub unique : (xs ys : List ℕ) → InOrder r xs → InOrder r ys → ((z : ℕ) → Has xs z → Has ys z) → ((z : ℕ) → Has ys z → Has xs z) → xs ≡ ys
  unique [] [] a b f g = refl
  unique [] (y ∷ ys) a b f g = none (g y (head ys))
  unique (x ∷ xs) [] a b f g = none (f x (head xs))
  unique (x ∷ xs) (y ∷ ys) a b f g =
      let e : x ≡ y =
      either ys (f x (head xs)) (λ q. sym q)
      (λ h. either xs (g y (head ys)) (λ q. q) (λ k. not-itself x (less-less _ (name_of_row r y) _ (head-less x xs a k) (head-less y ys b h)))) in
      let rest : xs ≡ ys =
      unique xs ys (in-tail x xs a) (in-tail y ys b)
      (λ z h. either ys (f z (tail xs h))
      (λ q. not-itself x (subst (λ (v : ℕ). order (name_of_row r x) (name_of_row r v) ≡ Less) (sym (e ∙ q)) (head-less x xs a h)))
      (λ k. k))
      (λ z h. either xs (g z (tail ys h))
      (λ q. not-itself y (subst (λ (v : ℕ). order (name_of_row r y) (name_of_row r v) ≡ Less) (sym (sym e ∙ q)) (head-less y ys b h)))
      (λ k. k)) in
      rw (e, rest)

-- ---- ids among places

-- l has old's ids and the new ones, no other, in order
pub record Joined (r : Rows) (old new l : List ℕ) : Type 0 where
  pub sorted : InOrder r l
  pub long : length l ≡ length old + length new
  pub from-old : (z : ℕ) → Has old z → Has l z
  pub from-new : (z : ℕ) → Has new z → Has l z
  pub only : (z : ℕ) → Has l z → Has old z ⊎ Has new z

pub of-either : {A B P : Type 0} → A ⊎ B → (A → P) → (B → P) → P
of-either (inl a) f g = f a
of-either (inr b) f g = g b

-- so there is one such list
pub joined-same : (r : Rows) (old new again l m : List ℕ) → Joined r old new l → Joined r old again m → ((z : ℕ) → Has new z → Has again z)
    → ((z : ℕ) → Has again z → Has new z)
    → l ≡ m
joined-same r old new again l m a b f g =
    unique r l m a.sorted b.sorted (λ z h. of-either (a.only z h) (b.from-old z) (λ k. b.from-new z (f z k)))
    (λ z h. of-either (b.only z h) (a.from-old z) (λ k. a.from-new z (g z k)))

-- a place among old's for a name
pub record Goes (r : Rows) (old name : List ℕ) (place : ℕ) : Type 0 where
  pub within : place ≤ length old
  pub below : (i : ℕ) → i < place → order (name_in r old i) name ≡ Less
  pub above : (i : ℕ) → place ≤ i → i < length old → order (name_in r old i) name ≡ Greater

-- each id's
abbrev pub EachGoes : Rows → List ℕ → List ℕ → List ℕ → Type 0
EachGoes r old ids places = (j : ℕ) → j < length ids → Goes r old (name_in r ids j) (get_or places j 0)

-- a greater name's place isn't before a lesser one's
pub rising : (r : Rows) (old : List ℕ) (x y p q : ℕ) → order (name_of_row r x) (name_of_row r y) ≡ Less → Goes r old (name_of_row r x) p
    → Goes r old (name_of_row r y) q → p ≤ q
rising r old x y p q l a b =
    by-test (ltb q p)
    (λ t.
    let h : q < p = ltb-true _ _ t in
    let w = a.within in
    let up : order (name_in r old q) (name_of_row r y) ≡ Less = less-less _ (name_of_row r x) _ (a.below q h) l in
    let down : order (name_in r old q) (name_of_row r y) ≡ Greater = b.above q (omega arith) (omega (arith, h, w)) in
    absurd (cc))
    (λ t. ltb-false _ _ t)

module _ (r : Rows) (old : List ℕ) where
  -- the ids put in from the last on: the places before the first one's are as they were
  pub record PutIn (ids places l : List ℕ) : Type 0 where
    pub joined : Joined r old ids l
    pub front : (i : ℕ) → i < length old → ((j : ℕ) → j < length ids → i < get_or places j 0) → get_or l i 0 ≡ get_or old i 0

  put-none : InOrder r old → (places : List ℕ) → PutIn [] places old
  put-none s places =
      record {
        joined = record { sorted = s; long = omega arith; from-old = λ z h. h; from-new = λ z h. none h; only = λ z h. inl h };
        front = λ i h f. refl;
      }

  module _ (x p : ℕ) (ids places l : List ℕ) (sorted : InOrder r old) (ranks : InOrder r (x ∷ ids)) (goes : EachGoes r old (x ∷ ids) (p ∷ places))
      (b : PutIn ids places l) where
    first : Goes r old (name_of_row r x) p
    first = goes 0 (omega arith)

    later : (j : ℕ) → j < length ids → p ≤ get_or places j 0
    later j h =
        rising r old x (get_or ids j 0) p (get_or places j 0) (ranks 0 (suc j) (omega arith) (omega (arith, h))) first (goes (suc j) (omega (arith, h)))

    within : p ≤ length l
    within = let w = first.within in let e = b.joined.long in omega (arith, w, e)

    kept : (i : ℕ) → i < p → get_or l i 0 ≡ get_or old i 0
    kept i h = b.front i (let w = first.within in omega (arith, w, h)) (λ j g. let a = later j g in omega (arith, a, h))

    before : (i : ℕ) → i < p → order (name_in r l i) (name_of_row r x) ≡ Less
    before i h = subst (λ (y : ℕ). order (name_of_row r y) (name_of_row r x) ≡ Less) (sym (kept i h)) (first.below i h)

    greater : (i m : ℕ) → p ≤ i → i < length l → m < length old → get_or old m 0 ≡ get_or l i 0 → order (name_in r l i) (name_of_row r x) ≡ Greater
    greater i m a h g e =
        by-test (ltb m p)
        (λ t.
        let c : m < p = ltb-true _ _ t in
        let s = b.joined.sorted m i (omega (arith, a, c)) h in
        not-itself r (get_or l i 0) (subst (λ (y : ℕ). order (name_of_row r y) (name_in r l i) ≡ Less) (kept m c ∙ e) s))
        (λ t. subst (λ (y : ℕ). order (name_of_row r y) (name_of_row r x) ≡ Greater) e (first.above m (ltb-false _ _ t) g))

    after : (i : ℕ) → p ≤ i → i < length l → order (name_in r l i) (name_of_row r x) ≡ Greater
    after i a h =
        of-either (b.joined.only (get_or l i 0) (record { at = i; low = h; is = refl }))
        (λ k. greater i k.at a h k.low k.is)
        (λ k. turned (name_of_row r x) (name_in r l i) Less (head-less r x ids ranks k))

    put-more : PutIn (x ∷ ids) (p ∷ places) (insert l p x)
    put-more =
        record {
          joined =
              record {
                sorted = in-order-more r l p x within b.joined.sorted before after;
                long = let e = b.joined.long in omega (arith, e, length-insert l p x within);
                from-old = λ z h. has-old l p x within (b.joined.from-old z h);
                from-new = λ z h. either ids h (λ e. subst (Has (insert l p x)) e (has-new l p x within)) (λ k. has-old l p x within (b.joined.from-new z k));
                only = λ z h. has-either l p x within h (λ e. inr (subst (Has (x ∷ ids)) e (head ids)))
                    (λ k. of-either (b.joined.only z k) (λ q. inl q) (λ q. inr (tail ids q)));
              };
          front = λ i h f.
              get_or-insert_below l p x 0 i (f 0 (omega arith)) within ∙ b.front i h (λ j g. f (suc j) (omega (arith, g)));
        }

  pub put-in : InOrder r old → (ids places : List ℕ) → length ids ≤ length places → InOrder r ids → EachGoes r old ids places
      → PutIn ids places (put_in old ids places)
  unfolding put_in
  put-in sorted [] places h ranks goes = put-none sorted places
  put-in sorted (x ∷ ids) [] h ranks goes = absurd (omega (arith, h))
  put-in sorted (x ∷ ids) (p ∷ places) h ranks goes =
      put-more x p ids places (put_in old ids places) sorted ranks goes
      (put-in sorted ids places (omega (arith, h)) (in-tail r x ids ranks) (λ j g. goes (suc j) (omega (arith, g))))
