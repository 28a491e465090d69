-- Rows put in one by one, and sorted and from behind.
-- Assumes nothing.
use Rattle.std.specs.Prelude.{ℕ, ◌+◌, ◌≤◌, ◌≡◌, refl, ◌≢◌, List, ◌++◌, ltb, get_or, drop, length}
use Rattle.std.specs.List.{Contains}
use Rattle.std.specs.List.Sorted.{IsPermutation}
use Rattle.std.specs.declared.cmp.Ordering.TheVariants.{Less, Equal, Greater}
use Rattle.std.proofs.Common.{arith, sym, ap, subst, ◌∙◌, length-take-le}
use Rattle.std.proofs.lemmas.List.Sorted.{IsPermutation-sym, length_permutation, Contains-permutation}
use Rattle.std.proofs.lemmas.List.Elements.{Contains-get_or}
use Rattle.std.proofs.lemmas.Grind.{get_or_default_zero}
use borrow.Author.Tests.{ltb-true, ltb-false}
use Rattle.cells.specs.Proof.Split.{by-test}
use Rattle.name_index.specs.Named.{Rows, name_of_row}
use Rattle.name_index.specs.Index.{Index, index_of, used, rows_put}
use Rattle.name_index.specs.InOrder.{name_in, InOrder}
use Rattle.name_index.specs.Arrivals.{global_rows, put_in, put_together}
use Rattle.name_index.specs.Proof.Order.{order, itself}
use Rattle.name_index.specs.Proof.Together.{Has, joined-same, Goes, EachGoes, rising, PutIn, put-in}
use Rattle.name_index.specs.Proof.Moves.{Rising}
use Rattle.name_index.specs.Proof.OneByOne.{Put, New, rows-put}

-- ids in order, each with its name's place
pub record Found (r : Rows) (i : Index) (ids found : List ℕ) : Type 0 where
  pub room : i.count + length ids ≤ length i.places
  pub ranks : InOrder r ids
  pub goes : EachGoes r (used i) ids found

-- these places rise
pub found-rises : (r : Rows) (i : Index) (ids found : List ℕ) → Found r i ids found → length ids ≤ length found → Rising i.count ids found
found-rises r i ids found f h =
    record {
      lent = h;
      within = λ j g. let w = (f.goes j g).within in let o = f.room in omega (arith, w, length-take-le i.count i.places (omega (arith, o)));
      climbing = λ a b g k.
          rising r (used i) (get_or ids a 0) (get_or ids b 0) (get_or found a 0) (get_or found b 0) (f.ranks a b g k) (f.goes a (omega (arith, g, k)))
          (f.goes b k);
    }

contained : {xs : List ℕ} {z : ℕ} → Contains xs z → Has xs z
contained {xs} {z} c = record { at = c.0; low = c.1; is = sym (get_or_default_zero xs c.0 z c.1) ∙ c.2 }

pub permuted : (xs ys : List ℕ) → IsPermutation xs ys → (z : ℕ) → Has xs z → Has ys z
permuted xs ys p z h =
    contained (Contains-permutation xs ys z p (subst (Contains xs) h.is (Contains-get_or xs h.at 0 h.low)))

module _ (r : Rows) where
  equal-not-less : {P : Type 0} (x y : List ℕ) → x ≡ y → order x y ≡ Less → P
  equal-not-less x y e l = let q : order x y ≡ Equal = ap (λ (n : List ℕ). order n y) e ∙ itself y in absurd (cc)

  equal-not-greater : {P : Type 0} (x y : List ℕ) → x ≡ y → order x y ≡ Greater → P
  equal-not-greater x y e l = let q : order x y ≡ Equal = ap (λ (n : List ℕ). order n y) e ∙ itself y in absurd (cc)

  -- of ids in order no two have one name
  one-place : (ids : List ℕ) → InOrder r ids → (x y : ℕ) → Has ids x → Has ids y → name_of_row r x ≡ name_of_row r y → x ≡ y
  one-place ids s x y h k e =
      let q : name_in r ids h.at ≡ name_in r ids k.at = ap (name_of_row r) h.is ∙ e ∙ ap (name_of_row r) (sym k.is) in
      by-test (ltb h.at k.at) (λ t. equal-not-less _ _ q (s h.at k.at (ltb-true _ _ t) k.low))
      (λ t. by-test (ltb k.at h.at) (λ u. equal-not-less _ _ (sym q) (s k.at h.at (ltb-true _ _ u) h.low))
      (λ u.
      let same : h.at ≡ k.at = omega (arith, ltb-false h.at k.at t, ltb-false k.at h.at u) in
      sym h.is ∙ ap (λ (i : ℕ). get_or ids i 0) same ∙ k.is))

  -- an id that goes to a place bears no name of the places
  not-there : (old : List ℕ) (x place z : ℕ) → Goes r old (name_of_row r x) place → Has old z → name_of_row r z ≢ name_of_row r x
  not-there old x place z g h e =
      let q : name_in r old h.at ≡ name_of_row r x = ap (name_of_row r) h.is ∙ e in
      by-test (ltb h.at place) (λ t. equal-not-less _ _ q (g.below h.at (ltb-true _ _ t)))
      (λ t. equal-not-greater _ _ q (g.above h.at (ltb-false _ _ t) h.low))

  goes-to : (old ids places : List ℕ) → EachGoes r old ids places → (x : ℕ) (h : Has ids x) → Goes r old (name_of_row r x) (get_or places h.at 0)
  goes-to old ids places g x h = subst (λ (y : ℕ). Goes r old (name_of_row r y) (get_or places h.at 0)) h.is (g h.at h.low)

  index-is : (y : Index) (l : List ℕ) (c : ℕ) → y.places ≡ l → y.count ≡ c → index_of l c ≡ y
  index-is y l c e f = subst (λ (m : List ℕ). index_of m c ≡ y) e (subst (λ (n : ℕ). index_of y.places n ≡ y) f refl)

  module _ (i : Index) (id n : ℕ) (ids places : List ℕ) (sorted : InOrder r (used i)) (ranks : InOrder r ids)
      (same : IsPermutation (global_rows r id n) ids) where
    abbrev rows : List ℕ
    rows = global_rows r id n

    there : (z : ℕ) → Has rows z → Has ids z
    there = permuted rows ids same

    back : (z : ℕ) → Has ids z → Has rows z
    back = permuted ids rows (IsPermutation-sym rows ids same)

    long : length ids ≡ length rows
    long = length_permutation rows ids same

    new : EachGoes r (used i) ids places → New r i rows
    new goes =
        record {
          unlisted = λ z x h k. let t = there x k in not-there (used i) x (get_or places t.at 0) z (goes-to (used i) ids places goes x t) h;
          apart = λ x y h k e. one-place ids ranks x y (there x h) (there y k) e;
        }

    pub together : i.count + length ids ≤ length i.places → id + n ≤ 65536 → length ids ≤ length places → EachGoes r (used i) ids places
        → put_together i ids places ≡ rows_put r i id n
    unfolding put_together
    together room small lent goes =
        let a : Put r i rows (rows_put r i id n) = rows-put r i id n (omega (arith, room, long)) small sorted (new goes) in
        let b : PutIn r (used i) ids places (put_in (used i) ids places) = put-in r (used i) sorted ids places lent ranks goes in
        let e : put_in (used i) ids places ≡ used (rows_put r i id n) =
        joined-same r (used i) ids rows (put_in (used i) ids places) (used (rows_put r i id n)) b.joined a.joined back there in
        let c : (rows_put r i id n).count ≡ i.count + length ids = omega (arith, a.counted, long) in
        index-is (rows_put r i id n) (put_in (used i) ids places ++ drop (i.count + length ids) i.places) (i.count + length ids)
        (a.places ∙ ap (λ (l : List ℕ). l ++ drop (rows_put r i id n).count i.places) (sym e)
        ∙ ap (λ (k : ℕ). put_in (used i) ids places ++ drop k i.places) c) c
