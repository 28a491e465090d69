-- Rows that get their names' places, one after the other, leave the index with just the global names, in order.
-- Assumes nothing.
use Rattle.std.specs.Prelude.{ℕ, zero, suc, ◌+◌, ◌-◌, ◌<◌, ◌≤◌, ◌≡◌, refl, ◌≢◌, List, eqb, ltb, get_or, drop, length, Result, Ok, Err}
use Rattle.std.specs.List.{insert}
use Rattle.std.proofs.Common.{arith, sym, ap, subst, ◌∙◌, length-append, length-drop, length-take-le}
use Rattle.std.proofs.lemmas.List.{take_at}
use Rattle.std.proofs.lemmas.List.Edits.{length-insert, get_or-insert_below, get_or-insert_at, get_or-insert_above}
use borrow.Author.Tests.{eqb-true, eqb-false, ltb-true, ltb-false}
use Rattle.cells.specs.Proof.Split.{by-test}
use Rattle.interner_laws.specs.Good.{Good}
use Rattle.symbol.specs.Row.{scope_at}
use Rattle.symbol_resolution.specs.Holder.{global_at}
use Rattle.symbol_laws.specs.History.{State, store}
use Rattle.name_index.specs.Named.{name_of_row}
use Rattle.name_index.specs.Seek.{seek_of}
use Rattle.name_index.specs.Index.{Index, used, inserted, row_put, rows_put}
use Rattle.name_index.specs.Proof.Ways.{row-placed, row-local}
use Rattle.name_index_laws.specs.InOrder.{InOrder}
use Rattle.name_index_laws.proofs.Terms as Laws
use Rattle.index_laws.specs.Bearing.{name_id, Bears}
use Rattle.index_laws.specs.Listed.{rows_at, Placed, Lists}

below : (m c : ℕ) → m ≢ c → m ≤ c → m < c
below m c u h = by-test (ltb m c) (λ t. ltb-true _ _ t) (λ t. absurd (u (omega (arith, ltb-false m c t))))

-- ---- an inserted id

module _ (x : Index) (k id : ℕ) (h : k ≤ x.count) (room : x.count < length x.places) where
  abbrev y : Index
  y = inserted x k id

  long : length (used x) ≡ x.count
  long = length-take-le x.count x.places (omega arith)

  in-range : k ≤ length (used x)
  in-range = omega (arith, long)

  inserted-long : length (insert (used x) k id) ≡ x.count + 1
  inserted-long = length-insert (used x) k id in-range ∙ ap (λ (n : ℕ). n + 1) long

  pub used-inserted : used y ≡ insert (used x) k id
  unfolding inserted
  used-inserted = take_at (insert (used x) k id) (drop (x.count + 1) x.places) (x.count + 1) inserted-long

  pub places-inserted : length y.places ≡ length x.places
  unfolding inserted
  places-inserted =
      length-append (insert (used x) k id) (drop (x.count + 1) x.places)
      ∙ omega (arith, inserted-long, length-drop (x.count + 1) x.places)

  pub count-inserted : y.count ≡ x.count + 1
  unfolding inserted
  count-inserted = refl

  pub at-front : (i : ℕ) → i < k → get_or (used y) i 0 ≡ get_or (used x) i 0
  at-front i l = ap (λ (u : List ℕ). get_or u i 0) used-inserted ∙ get_or-insert_below (used x) k id 0 i l in-range

  pub at-own : get_or (used y) k 0 ≡ id
  at-own = ap (λ (u : List ℕ). get_or u k 0) used-inserted ∙ get_or-insert_at (used x) k id 0 in-range

  pub at-moved : (i : ℕ) → k ≤ i → get_or (used y) (i + 1) 0 ≡ get_or (used x) i 0
  at-moved i l = ap (λ (u : List ℕ). get_or u (i + 1) 0) used-inserted ∙ get_or-insert_above (used x) k id 0 i l in-range

  -- what holds of each id that stood there, and of the new one
  pub each : (P : ℕ → Type 0) → ((i : ℕ) → i < x.count → P (get_or (used x) i 0)) → P id → (i : ℕ) → i < y.count → P (get_or (used y) i 0)
  each P old own i l =
      by-test (ltb i k)
      (λ t. let a : i < k = ltb-true i k t in subst P (sym (at-front i a)) (old i (omega arith)))
      (λ t.
      let a : k ≤ i = ltb-false i k t in
      by-test (eqb i k) (λ e. subst (λ (j : ℕ). P (get_or (used y) j 0)) (sym (eqb-true _ _ e)) (subst P (sym at-own) own))
      (λ e.
      let b : i - 1 + 1 ≡ i = let c : k < i = below k i (λ q. eqb-false i k e (sym q)) a in omega arith in
      let c : k < i = below k i (λ q. eqb-false i k e (sym q)) a in
      subst (λ (j : ℕ). P (get_or (used y) j 0)) b (subst P (sym (at-moved (i - 1) (omega arith))) (old (i - 1) (omega (arith, l, count-inserted))))))

  -- what had a place has one
  pub still : (i : ℕ) → Placed x i → Placed y i
  still i p =
      by-test (ltb p.place k)
      (λ t. record { place = p.place; low = let a = p.low in omega (arith, count-inserted, a); is = at-front p.place (ltb-true _ _ t) ∙ p.is })
      (λ t. record { place = p.place + 1; low = let a = p.low in omega (arith, count-inserted, a); is = at-moved p.place (ltb-false _ _ t) ∙ p.is })

  pub new : Placed y id
  new = record { place = k; low = omega (arith, count-inserted, h); is = at-own }

-- ---- one row

module _ (t : State) (b : Bears t) (names : Good (store t)) (few : t.link.symbols ≤ 65535) where
  -- two rows of one name are one
  pub one-row : (i j : ℕ) → i < t.link.symbols → j < t.link.symbols → scope_at t.symbols i ≢ 0 → scope_at t.symbols j ≢ 0
      → name_of_row (rows_at t) i ≡ name_of_row (rows_at t) j → i ≡ j
  one-row i j h l u v e =
      let p = b.borne i h u in
      let q = b.borne j l v in
      sym p.found ∙ ap (global_at t.names) (names.chained.distinct (name_id t i) (name_id t j) p.issued q.issued e) ∙ q.found

  -- the lists, over as many places
  pub record Goes (x y : Index) (m : ℕ) : Type 0 where
    pub lists : Lists t y m
    pub long : length y.places ≡ length x.places

  module _ (x : Index) (m : ℕ) (low : m < t.link.symbols) (lent : t.link.symbols ≤ length x.places) (l : Lists t x m) where
    room : x.count < length x.places
    room = let f = l.few in omega arith

    unlisted : scope_at t.symbols m ≡ 0 → Lists t x (m + 1)
    unlisted z =
        record {
          room = l.room;
          few = let f = l.few in omega arith;
          counted = λ k h. let f = l.counted k h in omega arith;
          global = l.global;
          sorted = l.sorted;
          all = λ i h u.
              by-test (eqb i m) (λ e. absurd (u (ap (scope_at t.symbols) (eqb-true _ _ e) ∙ z)))
              (λ e. l.all i (below i m (eqb-false _ _ e) (omega arith)) u);
        }

    abbrev name : List ℕ
    name = name_of_row (rows_at t) m

    listed : (k : ℕ) → scope_at t.symbols m ≢ 0 → (seek_of (rows_at t) (used x) name).place ≡ Err k → Goes x (inserted x k m) (m + 1)
    listed k u e =
        let a = Laws.missed-in (rows_at t) (used x) l.sorted name k e in
        let h : k ≤ x.count = omega (arith, a, long x k m (omega (arith, a, length-take-le x.count x.places l.room)) room) in
        record {
          lists =
              record {
                room = let f = l.few in omega (arith, places-inserted x k m h room, count-inserted x k m h room, room);
                few = let f = l.few in omega (arith, count-inserted x k m h room);
                counted = each x k m h room (λ (i : ℕ). i < m + 1) (λ i a. let f = l.counted i a in omega arith) (omega arith);
                global = each x k m h room (λ (i : ℕ). scope_at t.symbols i ≢ 0) l.global u;
                sorted = subst (InOrder (rows_at t)) (sym (used-inserted x k m h room)) (Laws.stays-in-order (rows_at t) (used x) l.sorted name m k refl e);
                all = λ i a v.
                    by-test (eqb i m) (λ q. subst (Placed (inserted x k m)) (sym (eqb-true _ _ q)) (new x k m h room))
                    (λ q. still x k m h room i (l.all i (below i m (eqb-false _ _ q) (omega arith)) v));
              };
          long = places-inserted x k m h room;
        }

    -- no row before it has its name
    unmet : (k : ℕ) → scope_at t.symbols m ≢ 0 → (seek_of (rows_at t) (used x) name).place ≡ Ok k → ⊥
    unmet k u e =
        let a = Laws.met-is (rows_at t) (used x) l.sorted name k e in
        let h : k < x.count = omega (arith, a.0, length-take-le x.count x.places l.room) in
        let c = l.counted k h in
        let q : get_or (used x) k 0 ≡ m = one-row (get_or (used x) k 0) m (omega arith) low (l.global k h) u a.1 in
        omega (arith, c, q)

    by-place : scope_at t.symbols m ≢ 0 → (p : Result ℕ ℕ) → (seek_of (rows_at t) (used x) name).place ≡ p → Goes x (row_put (rows_at t) x m) (m + 1)
    by-place u (Ok k) e = absurd (unmet k u e)
    by-place u (Err k) e =
        subst (λ (y : Index). Goes x y (m + 1)) (sym (row-placed (rows_at t) x m name _ u room (omega arith) refl refl k e)) (listed k u e)

    pub put-one : Goes x (row_put (rows_at t) x m) (m + 1)
    put-one =
        by-test (eqb (scope_at t.symbols m) 0)
        (λ a.
        let z : scope_at t.symbols m ≡ 0 = eqb-true _ _ a in
        subst (λ (y : Index). Goes x y (m + 1)) (sym (row-local (rows_at t) x m z)) (record { lists = unlisted z; long = refl }))
        (λ a. by-place (eqb-false _ _ a) (seek_of (rows_at t) (used x) name).place refl)

  -- ---- all rows from m on

  pub put-many : (n : ℕ) (x : Index) (m : ℕ) → m + n ≤ t.link.symbols → t.link.symbols ≤ length x.places → Lists t x m
      → Goes x (rows_put (rows_at t) x m n) (m + n)
  unfolding rows_put
  put-many zero x m h lent l = let e : m + 0 ≡ m = omega arith in rw e (record { lists = l; long = refl })
  put-many (suc n) x m h lent l =
      let g : Goes x (row_put (rows_at t) x m) (m + 1) = put-one x m (omega arith) lent l in
      let e : m + 1 + n ≡ m + suc n = omega arith in
      let r : Goes (row_put (rows_at t) x m) (rows_put (rows_at t) (row_put (rows_at t) x m) (m + 1) n) (m + 1 + n) =
      put-many n (row_put (rows_at t) x m) (m + 1) (omega arith) (omega (arith, g.long)) g.lists in
      subst (Goes x (rows_put (rows_at t) (row_put (rows_at t) x m) (m + 1) n)) e (record { lists = r.lists; long = r.long ∙ g.long })
