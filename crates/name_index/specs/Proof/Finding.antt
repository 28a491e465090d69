-- Loops over ids: whether they are in order, which rows aren't local, and the place of each.
-- Assumes nothing.
use Rattle.std.specs.Prelude.{ℕ, suc, ◌+◌, ◌-◌, ◌*◌, ◌<◌, ◌≤◌, ◌≡◌, refl, ◌≢◌, List, ◌∷◌, ◌++◌, [], eqb, ltb, get_or, set, take, drop, length, Err, Option}
use Rattle.std.specs.Prelude.{Some}
use Rattle.std.specs.declared.cmp.Ordering.TheVariants.{Less, Greater}
use Rattle.std.proofs.Common.{arith, sym, ap, subst, ◌∙◌, append_assoc, length-take, length-take-le, length-drop, length-set, get_or-set_same}
use Rattle.std.proofs.Common.{get_or-set_other, eq-eqb, ne_eqb}
use Rattle.std.proofs.lemmas.List.{get_or-take, get_or-drop, take_more_set}
use borrow.Author.Tests.{eqb-true, eqb-false, ltb-true, ltb-false}
use Rattle.cells.specs.Proof.Split.{by-test}
use Rattle.symbol.specs.Row.{scope_at}
use Rattle.symbol.specs.Layout.{local}
use Rattle.name_index.specs.declared.Met.{Met}
use Rattle.name_index.specs.Named.{Rows, name_of_row}
use Rattle.name_index.specs.Seek.{seek_of}
use Rattle.name_index.specs.InOrder.{name_in, InOrder}
use Rattle.name_index.specs.Arrivals.{global_rows}
use Rattle.name_index.specs.Proof.Order.{order, turned, less-less}
use Rattle.name_index.specs.Proof.Sought.{missed-in, missed-below, missed-above}
use Rattle.name_index.specs.Proof.Together.{Goes}

-- ---- in order as far as n ids

abbrev pub OrderTo : Rows → List ℕ → ℕ → Type 0
OrderTo r ids n = (i j : ℕ) → i < j → j < n → order (name_in r ids i) (name_in r ids j) ≡ Less

module _ (r : Rows) (ids : List ℕ) where
  pub order-start : OrderTo r ids 1
  order-start i j g h = absurd (omega (arith, g, h))

  pub order-more : (n : ℕ) → 0 < n → OrderTo r ids n → order (name_in r ids (n - 1)) (name_in r ids n) ≡ Less → OrderTo r ids (n + 1)
  order-more n z s l i j g h =
      by-test (eqb j n)
      (λ t.
      let e : j ≡ n = eqb-true _ _ t in
      let last : order (name_in r ids i) (name_in r ids n) ≡ Less =
      by-test (eqb i (n - 1)) (λ u. subst (λ (k : ℕ). order (name_in r ids k) (name_in r ids n) ≡ Less) (sym (eqb-true _ _ u)) l)
      (λ u. let o : i ≢ n - 1 = eqb-false _ _ u in less-less _ (name_in r ids (n - 1)) _ (s i (n - 1) (omega (arith, o, g, e, z)) (omega (arith, z))) l) in
      subst (λ (k : ℕ). order (name_in r ids i) (name_in r ids k) ≡ Less) (sym e) last)
      (λ t. let o : j ≢ n = eqb-false _ _ t in s i j g (omega (arith, o, h)))

  pub order-all : (n : ℕ) → length ids ≤ n → OrderTo r ids n → InOrder r ids
  order-all n w s i j g h = s i j g (omega (arith, h, w))

-- how one name was found to stand to the next
pub stood-less : (r : Rows) (i j : ℕ) (x y : List ℕ) → x ≡ name_of_row r i → y ≡ name_of_row r j → Less ≡ order x y
    → order (name_of_row r i) (name_of_row r j) ≡ Less
stood-less r i j x y e f g = sym (g ∙ ap (λ (n : List ℕ). order n y) e ∙ ap (order (name_of_row r i)) f)

-- ---- the rows that aren't local

module _ (r : Rows) (from to : ℕ) (ids : List ℕ) (count id : ℕ) (h : id < to)
    (so-far : take count ids ++ global_rows r id (to - id) ≡ global_rows r from (to - from))
  where
    left : to - id ≡ suc (to - (id + 1))
    left = omega (arith, h)

    pub gathered-not : scope_at r.symbols id ≡ local → take count ids ++ global_rows r (id + 1) (to - (id + 1)) ≡ global_rows r from (to - from)
    unfolding global_rows
    gathered-not e =
        let one : global_rows r id (to - id) ≡ global_rows r (id + 1) (to - (id + 1)) = ap (global_rows r id) left ∙ rw (eq-eqb _ _ e) refl in
        sym (ap (λ (l : List ℕ). take count ids ++ l) one) ∙ so-far

    pub gathered-one : scope_at r.symbols id ≢ local → count < length ids
        → take (count + 1) (set ids count id) ++ global_rows r (id + 1) (to - (id + 1)) ≡ global_rows r from (to - from)
    unfolding global_rows
    gathered-one e room =
        let one : global_rows r id (to - id) ≡ id ∷ global_rows r (id + 1) (to - (id + 1)) = ap (global_rows r id) left ∙ rw (ne_eqb _ _ e) refl in
        ap (λ (l : List ℕ). l ++ global_rows r (id + 1) (to - (id + 1))) (take_more_set ids count id room)
        ∙ append_assoc (take count ids) (id ∷ []) (global_rows r (id + 1) (to - (id + 1)))
        ∙ sym (ap (λ (l : List ℕ). take count ids ++ l) one) ∙ so-far

-- ---- a place near the end

-- the part of a list in order
pub part-in-order : (r : Rows) (places : List ℕ) (low high : ℕ) → high ≤ length places → InOrder r places → InOrder r (take (high - low) (drop low places))
part-in-order r places low high h s i j g k =
    let long : length (take (high - low) (drop low places)) ≤ high - low = omega (arith, length-take (high - low) (drop low places)) in
    let e = get_or-take (high - low) (drop low places) i 0 (omega (arith, g, k, long)) ∙ get_or-drop low places i 0 in
    let f = get_or-take (high - low) (drop low places) j 0 (omega (arith, k, long)) ∙ get_or-drop low places j 0 in
    rw (e, f) (s (low + i) (low + j) (omega (arith, g)) (omega (arith, k, long, h)))

-- those before low are less, those from high on are greater
pub record Between (r : Rows) (places name : List ℕ) (low high : ℕ) : Type 0 where
  pub rises : low ≤ high
  pub within : high ≤ length places
  pub less : (i : ℕ) → i < low → order (name_in r places i) name ≡ Less
  pub greater : (i : ℕ) → high ≤ i → i < length places → order (name_in r places i) name ≡ Greater

-- all from high on are greater
pub record Past (r : Rows) (places name : List ℕ) (high step : ℕ) : Type 0 where
  pub within : high ≤ length places
  pub steps : 0 < step
  pub greater : (i : ℕ) → high ≤ i → i < length places → order (name_in r places i) name ≡ Greater

module _ (r : Rows) (places name : List ℕ) where
  pub past-start : Past r places name (length places) 1
  past-start = record { within = omega arith; steps = omega arith; greater = λ i g h. absurd (omega (arith, g, h)) }

  module _ (sorted : InOrder r places) (high step : ℕ) (p : Past r places name high step) where
    pub past-more : step ≤ high → order (name_in r places (high - step)) name ≡ Greater → Past r places name (high - step) (step * 2)
    past-more h e =
        record {
          within = let w = p.within in omega (arith, w);
          steps = let s = p.steps in omega (arith, s);
          greater = λ i g k.
              by-test (eqb i (high - step)) (λ t. subst (λ (n : ℕ). order (name_in r places n) name ≡ Greater) (sym (eqb-true _ _ t)) e)
              (λ t.
              let n : i ≢ high - step = eqb-false _ _ t in
              let down : order name (name_in r places (high - step)) ≡ Less = turned _ name Greater e in
              turned name _ Less (less-less name _ _ down (sorted (high - step) i (omega (arith, g, n)) k)));
        }

    -- the one a step back is less
    pub past-less : step ≤ high → order (name_in r places (high - step)) name ≡ Less → Between r places name (high - step + 1) high
    past-less h e =
        record {
          rises = let s = p.steps in omega (arith, h, s);
          within = p.within;
          less = λ i g.
              by-test (eqb i (high - step)) (λ t. subst (λ (n : ℕ). order (name_in r places n) name ≡ Less) (sym (eqb-true _ _ t)) e)
              (λ t.
              let n : i ≢ high - step = eqb-false _ _ t in
              less-less (name_in r places i) (name_in r places (high - step)) name
              (sorted i (high - step) (omega (arith, g, n)) (let w = p.within in let s = p.steps in omega (arith, w, s, h))) e);
          greater = p.greater;
        }

    pub past-all : Between r places name 0 high
    past-all = record { rises = omega arith; within = p.within; less = λ i g. absurd (omega (arith, g)); greater = p.greater }

  -- where it is halved between low and high
  module _ (sorted : InOrder r places) (low high : ℕ) (p : Between r places name low high) where
    pub past-found : (k : ℕ) (part : List ℕ) (m : Met) → part ≡ take (high - low) (drop low places) → m ≡ seek_of r part name → m.place ≡ Err k
        → Goes r places name (low + k)
    past-found k part m is-part is-met missed =
        let w = p.within in
        let h = p.rises in
        let here : List ℕ = take (high - low) (drop low places) in
        let long : length here ≡ high - low = omega (arith, length-take (high - low) (drop low places), length-drop low places, w) in
        let s = part-in-order r places low high w sorted in
        let is : (seek_of r here name).place ≡ Err k = ap (λ (n : Met). n.place) (ap (λ (l : List ℕ). seek_of r l name) (sym is-part) ∙ sym is-met) ∙ missed in
        let at : (i : ℕ) → low ≤ i → i < high → name_in r here (i - low) ≡ name_in r places i =
        λ i g f.
        let back : low + (i - low) ≡ i = omega (arith, g) in
        ap (name_of_row r) (get_or-take (high - low) (drop low places) (i - low) 0 (omega (arith, g, f)) ∙ get_or-drop low places (i - low) 0
        ∙ ap (λ (n : ℕ). get_or places n 0) back) in
        let few = missed-in r here s name k is in
        record {
          within = omega (arith, few, long, w, h);
          below = λ i g.
              by-test (ltb i low) (λ t. p.less i (ltb-true _ _ t))
              (λ t.
              let a : low ≤ i = ltb-false _ _ t in
              let b : i < high = omega (arith, g, few, long, h) in
              subst (λ (n : List ℕ). order n name ≡ Less) (at i a b) (missed-below r here s name k is (i - low) (omega (arith, g, a))));
          above = λ i g f.
              by-test (ltb i high)
              (λ t.
              let b : i < high = ltb-true _ _ t in
              let a : low ≤ i = omega (arith, g) in
              subst (λ (n : List ℕ). order n name ≡ Greater) (at i a b)
              (missed-above r here s name k is (i - low) (omega (arith, g, a)) (omega (arith, a, b, long))))
              (λ t. p.greater i (ltb-false _ _ t) f);
        }

-- ---- the places of the ids from one on; high is the last one's that was found

pub record FoundFrom (r : Rows) (places ids found : List ℕ) (high left : ℕ) : Type 0 where
  pub within : high ≤ length places
  pub few : left ≤ length ids
  pub lent : length ids ≤ length found
  pub goes : (j : ℕ) → left ≤ j → j < length ids → Goes r places (name_in r ids j) (get_or found j 0)
  pub greater : (i j : ℕ) → high ≤ i → i < length places → j < left → order (name_in r places i) (name_in r ids j) ≡ Greater

module _ (r : Rows) (places ids found : List ℕ) where
  pub finding-start : length ids ≤ length found → FoundFrom r places ids found (length places) (length ids)
  finding-start l =
      record {
        within = omega arith;
        few = omega arith;
        lent = l;
        goes = λ j g h. absurd (omega (arith, g, h));
        greater = λ i j g h k. absurd (omega (arith, g, h));
      }

  module _ (ranks : InOrder r ids) (high k place : ℕ) (f : FoundFrom r places ids found high (k + 1)) (o : Goes r (take high places) (name_in r ids k) place)
    where
      abbrev id : ℕ
      id = get_or ids k 0

      part-long : length (take high places) ≡ high
      part-long = let w = f.within in length-take-le high places w

      place-within : place ≤ high
      place-within = let w = o.within in omega (arith, part-long, w)

      below : (i : ℕ) → i < place → order (name_in r places i) (name_of_row r id) ≡ Less
      below i h =
          let e = get_or-take high places i 0 (omega (arith, h, place-within)) in
          subst (λ (n : ℕ). order (name_of_row r n) (name_of_row r id) ≡ Less) e (o.below i h)

      above : (i : ℕ) → place ≤ i → i < length places → order (name_in r places i) (name_of_row r id) ≡ Greater
      above i g h =
          by-test (ltb i high)
          (λ t.
          let b : i < high = ltb-true _ _ t in
          let e = get_or-take high places i 0 b in
          subst (λ (n : ℕ). order (name_of_row r n) (name_of_row r id) ≡ Greater) e (o.above i g (omega (arith, b, part-long))))
          (λ t. f.greater i k (ltb-false _ _ t) h (omega arith))

      pub finding-more : FoundFrom r places ids (set found k place) place k
      finding-more =
          record {
            within = let w = f.within in omega (arith, w, place-within);
            few = let w = f.few in omega (arith, w);
            lent = let l = f.lent in omega (arith, l, length-set found k place);
            goes = λ j g h.
                by-test (eqb j k)
                (λ t.
                let e : j ≡ k = eqb-true _ _ t in
                let own : get_or (set found k place) k 0 ≡ place = get_or-set_same found k place 0 (let l = f.lent in omega (arith, l, h, e)) in
                let one : Goes r places (name_of_row r id) place =
                record { within = let w = f.within in omega (arith, w, place-within); below = below; above = above } in
                subst (λ (n : ℕ). Goes r places (name_in r ids n) (get_or (set found k place) n 0)) (sym e)
                (subst (Goes r places (name_of_row r id)) (sym own) one))
                (λ t.
                let n : j ≢ k = eqb-false _ _ t in
                subst (Goes r places (name_in r ids j)) (sym (get_or-set_other found k j place 0 n)) (f.goes j (omega (arith, g, n)) h));
            greater = λ i j g h l.
                let down = turned (name_in r places i) (name_of_row r id) Greater (above i g h) in
                let lower : order (name_in r ids j) (name_in r places i) ≡ Less =
                less-less _ (name_of_row r id) _ (ranks j k l (let w = f.few in omega (arith, w))) down in
                turned (name_in r ids j) (name_in r places i) Less lower;
          }

pub some-is : {a b : ℕ} → ◌≡◌ {A = Option ℕ} (Some a) (Some b) → a ≡ b
some-is e = cc
