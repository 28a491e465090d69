-- Rows of new names, put in one by one.
-- Assumes nothing.
use Rattle.std.specs.Prelude.{ℕ, zero, suc, ◌+◌, ◌-◌, ◌<◌, ◌≤◌, ◌≡◌, refl, ◌≢◌, List, [], ◌∷◌, ◌++◌, eqb, ltb, get_or, drop, length, Result, Ok, Err}
use Rattle.std.specs.List.{insert}
use Rattle.std.proofs.Common.{arith, sym, ap, subst, ◌∙◌, inl, inr, length-take-le, length-append, length-drop, eq-eqb, ne_eqb}
use Rattle.std.proofs.lemmas.List.{take_at, take-append-drop}
use Rattle.std.proofs.lemmas.List.Edits.{length-insert}
use Rattle.std.proofs.lemmas.Slice.{drop-append-drop}
use borrow.Author.Tests.{eqb-true, eqb-false, ltb-true}
use Rattle.cells.specs.Proof.Split.{by-test}
use Rattle.symbol.specs.Row.{scope_at}
use Rattle.symbol.specs.Layout.{local}
use Rattle.name_index.specs.Named.{Rows, name_of_row}
use Rattle.name_index.specs.Seek.{seek_of}
use Rattle.name_index.specs.Index.{Index, used, inserted, put_at, row_put, rows_put}
use Rattle.name_index.specs.InOrder.{InOrder}
use Rattle.name_index.specs.Arrivals.{global_rows}
use Rattle.name_index.specs.Proof.Ways.{row-placed, row-local}
use Rattle.name_index.specs.Proof.Sought.{met-is, missed-in, stays-in-order}
use Rattle.name_index.specs.Proof.Together.{Has, none, head, tail, either, has-new, has-old, has-either, Joined, of-either}

pub used-long : (i : Index) → i.count ≤ length i.places → length (used i) ≡ i.count
used-long i h = length-take-le i.count i.places h

-- ---- an inserted id

module _ (i : Index) (k id : ℕ) (within : k ≤ i.count) (room : i.count < length i.places) where
  at-used : k ≤ length (used i)
  at-used = omega (arith, within, used-long i (omega (arith, room)))

  list-long : length (insert (used i) k id) ≡ i.count + 1
  list-long = length-insert (used i) k id at-used ∙ ap (λ (n : ℕ). n + 1) (used-long i (omega (arith, room)))

  pub used-inserted : used (inserted i k id) ≡ insert (used i) k id
  unfolding inserted
  used-inserted = take_at (insert (used i) k id) (drop (i.count + 1) i.places) (i.count + 1) list-long

  pub count-inserted : (inserted i k id).count ≡ i.count + 1
  unfolding inserted
  count-inserted = refl

  pub room-inserted : (inserted i k id).count ≤ length (inserted i k id).places
  unfolding inserted
  room-inserted = omega (arith, list-long, length-append (insert (used i) k id) (drop (i.count + 1) i.places))

  pub places-inserted : (inserted i k id).places ≡ used (inserted i k id) ++ drop (inserted i k id).count i.places
  unfolding inserted
  places-inserted = ap (λ (l : List ℕ). l ++ drop (i.count + 1) i.places) (sym used-inserted)

-- ---- the ids put among the places in use; behind these nothing changes

pub record Put (r : Rows) (i : Index) (ids : List ℕ) (y : Index) : Type 0 where
  pub joined : Joined r (used i) ids (used y)
  pub counted : y.count ≡ i.count + length ids
  pub places : y.places ≡ used y ++ drop y.count i.places

module _ (r : Rows) where
  pub put-nothing : (i : Index) → InOrder r (used i) → Put r i [] i
  put-nothing i s =
      record {
        joined = record { sorted = s; long = omega arith; from-old = λ z h. h; from-new = λ z h. none h; only = λ z h. inl h };
        counted = omega arith;
        places = sym (take-append-drop i.count i.places);
      }

  put-then : (i y z : Index) (id : ℕ) (ids : List ℕ) → i.count ≤ length i.places → Put r i (id ∷ []) y → Put r y ids z → Put r i (id ∷ ids) z
  put-then i y z id ids room a b =
      let long : length (used y) ≡ y.count = let e = a.joined.long in let c = a.counted in omega (arith, e, c, used-long i room) in
      record {
        joined =
            record {
              sorted = b.joined.sorted;
              long = let e = a.joined.long in let f = b.joined.long in omega (arith, e, f);
              from-old = λ v h. b.joined.from-old v (a.joined.from-old v h);
              from-new = λ v h. either ids h (λ e. b.joined.from-old v (a.joined.from-new v (subst (Has (id ∷ [])) e (head [])))) (λ k. b.joined.from-new v k);
              only = λ v h. of-either (b.joined.only v h)
                  (λ k. of-either (a.joined.only v k) (λ q. inl q) (λ q. either [] q (λ e. inr (subst (Has (id ∷ ids)) e (head ids))) (λ n. none n)))
                  (λ k. inr (tail ids k));
            };
        counted = let c = a.counted in let d = b.counted in omega (arith, c, d);
        places =
            b.places
            ∙ ap (λ (l : List ℕ). used z ++ l)
            (ap (drop z.count) a.places ∙ drop-append-drop y.count i.places (used y) z.count (let d = b.counted in omega (arith, d)) long);
      }

  -- one row
  module _ (i : Index) (id : ℕ) (global : scope_at r.symbols id ≢ 0) (room : i.count < length i.places) (small : id ≤ 65535) (sorted : InOrder r (used i))
      (new : (z : ℕ) → Has (used i) z → name_of_row r z ≢ name_of_row r id)
    where
      abbrev name : List ℕ
      name = name_of_row r id

      long : length (used i) ≡ i.count
      long = used-long i (omega (arith, room))

      placed : (k : ℕ) → (seek_of r (used i) name).place ≡ Err k → Put r i (id ∷ []) (row_put r i id)
      placed k e =
          let w : k ≤ i.count = omega (arith, long, missed-in r (used i) sorted name k e) in
          let u = at-used i k id w room in
          let joined : Joined r (used i) (id ∷ []) (insert (used i) k id) =
          record {
            sorted = stays-in-order r (used i) sorted name id k refl e;
            long = omega (arith, length-insert (used i) k id u);
            from-old = λ z h. has-old (used i) k id u h;
            from-new = λ z h. either [] h (λ q. subst (Has (insert (used i) k id)) q (has-new (used i) k id u)) (λ n. none n);
            only = λ z h. has-either (used i) k id u h (λ q. inr (subst (Has (id ∷ [])) q (head []))) (λ q. inl q);
          } in
          let all : Put r i (id ∷ []) (inserted i k id) =
          record {
            joined = subst (Joined r (used i) (id ∷ [])) (sym (used-inserted i k id w room)) joined;
            counted = count-inserted i k id w room;
            places = places-inserted i k id w room;
          } in
          subst (Put r i (id ∷ [])) (sym (row-placed r i id name (seek_of r (used i) name) global room small refl refl k e)) all

      found : (m : Result ℕ ℕ) → (seek_of r (used i) name).place ≡ m → Put r i (id ∷ []) (row_put r i id)
      found (Err k) e = placed k e
      found (Ok k) e =
          let m = met-is r (used i) sorted name k e in
          absurd (new (get_or (used i) k 0) (record { at = k; low = m.0; is = refl }) m.1)

      pub row-put : Put r i (id ∷ []) (row_put r i id)
      row-put = found (seek_of r (used i) name).place refl

  -- ---- rows in turn

  pub from-on : (id n : ℕ) {z : ℕ} → Has (global_rows r id n) z → id ≤ z
  unfolding global_rows
  from-on id zero h = none h
  from-on id (suc n) {z} h =
      by-test (eqb (scope_at r.symbols id) local)
      (λ t. let k : Has (global_rows r (id + 1) n) z = rw t at h in omega (arith, from-on (id + 1) n k))
      (λ t. let k : Has (id ∷ global_rows r (id + 1) n) z = rw t at h in
      either (global_rows r (id + 1) n) k (λ e. omega (arith, e)) (λ q. omega (arith, from-on (id + 1) n q)))

  global-left-out : (id n : ℕ) → scope_at r.symbols id ≡ local → global_rows r id (suc n) ≡ global_rows r (id + 1) n
  unfolding global_rows
  global-left-out id n e = rw (eq-eqb _ _ e)

  global-kept : (id n : ℕ) → scope_at r.symbols id ≢ local → global_rows r id (suc n) ≡ id ∷ global_rows r (id + 1) n
  unfolding global_rows
  global-kept id n e = rw (ne_eqb _ _ e)

  -- no row's name stands at a place, and no two rows have one name
  pub record New (i : Index) (ids : List ℕ) : Type 0 where
    pub unlisted : (z x : ℕ) → Has (used i) z → Has ids x → name_of_row r z ≢ name_of_row r x
    pub apart : (x y : ℕ) → Has ids x → Has ids y → name_of_row r x ≡ name_of_row r y → x ≡ y

  pub rows-put : (i : Index) (id n : ℕ) → i.count + length (global_rows r id n) ≤ length i.places → id + n ≤ 65536 → InOrder r (used i)
      → New i (global_rows r id n)
      → Put r i (global_rows r id n) (rows_put r i id n)
  unfolding rows_put global_rows
  rows-put i id zero room small sorted new = put-nothing i sorted
  rows-put i id (suc n) room small sorted new =
      by-test (eqb (scope_at r.symbols id) local)
      (λ t.
      let z : scope_at r.symbols id ≡ local = eqb-true _ _ t in
      let e = global-left-out id n z in
      let all : Put r i (global_rows r (id + 1) n) (rows_put r i (id + 1) n) =
      rows-put i (id + 1) n (subst (λ (l : List ℕ). i.count + length l ≤ length i.places) e room) (omega (arith, small)) sorted (subst (New i) e new) in
      subst (λ (l : List ℕ). Put r i l (rows_put r (row_put r i id) (id + 1) n)) (sym e)
      (subst (λ (y : Index). Put r i (global_rows r (id + 1) n) (rows_put r y (id + 1) n)) (sym (row-local r i id z)) all))
      (λ t.
      let z : scope_at r.symbols id ≢ local = eqb-false _ _ t in
      let e = global-kept id n z in
      let ids : List ℕ = global_rows r (id + 1) n in
      let more : i.count + length (id ∷ ids) ≤ length i.places = subst (λ (l : List ℕ). i.count + length l ≤ length i.places) e room in
      let fresh : New i (id ∷ ids) = subst (New i) e new in
      let a : Put r i (id ∷ []) (row_put r i id) =
      row-put i id z (omega (arith, more)) (omega (arith, small)) sorted (λ v h. fresh.unlisted v id h (head ids)) in
      let y : Index = row_put r i id in
      let left : New y ids =
      record {
        unlisted = λ v x h k q.
            of-either (a.joined.only v h) (λ o. fresh.unlisted v x o (tail ids k) q)
            (λ o. either [] o
            (λ w. let s : id ≡ x = fresh.apart id x (head ids) (tail ids k) (ap (name_of_row r) w ∙ q) in
            absurd (omega (arith, from-on (id + 1) n k, s))) (λ w. none w));
        apart = λ x v h k q. fresh.apart x v (tail ids h) (tail ids k) q;
      } in
      let long : length y.places ≡ length i.places =
      let u = used-long i (omega (arith, more)) in
      ap length a.places ∙ omega (arith, more, length-append (used y) (drop y.count i.places), length-drop y.count i.places, a.joined.long, a.counted, u) in
      let b : Put r y ids (rows_put r y (id + 1) n) =
      rows-put y (id + 1) n (omega (arith, more, long, a.counted)) (omega (arith, small)) a.joined.sorted left in
      subst (λ (l : List ℕ). Put r i l (rows_put r y (id + 1) n)) (sym e) (put-then i y (rows_put r y (id + 1) n) id ids (omega (arith, more)) a b))

  -- ---- any rows leave the places in order

  pub record Orderly (i : Index) : Type 0 where
    pub sorted : InOrder r (used i)
    pub room : i.count ≤ length i.places

  row-orderly : (i : Index) (id : ℕ) → Orderly i → Orderly (row_put r i id)
  unfolding row_put
  row-orderly i id o =
      by-test (eqb (scope_at r.symbols id) local) (λ t. rw t o)
      (λ t. by-test (ltb i.count (length i.places))
      (λ u. by-test (ltb id 65536) (λ v. rw (t, u, v) (sought (seek_of r (used i) (name_of_row r id)).place refl (ltb-true _ _ u))) (λ v. rw (t, u, v) o))
      (λ u. rw (t, u) o))
    where
      sought : (m : Result ℕ ℕ) → (seek_of r (used i) (name_of_row r id)).place ≡ m → i.count < length i.places → Orderly (put_at i id m)
      sought (Ok k) e room = o
      sought (Err k) e room =
          let w : k ≤ i.count = omega (arith, used-long i o.room, missed-in r (used i) o.sorted (name_of_row r id) k e) in
          record {
            sorted = subst (InOrder r) (sym (used-inserted i k id w room)) (stays-in-order r (used i) o.sorted (name_of_row r id) id k refl e);
            room = room-inserted i k id w room;
          }

  pub rows-orderly : (i : Index) (id n : ℕ) → Orderly i → Orderly (rows_put r i id n)
  unfolding rows_put
  rows-orderly i id zero o = o
  rows-orderly i id (suc n) o = rows-orderly (row_put r i id) (id + 1) n (row-orderly i id o)

  pub rows-split : (i : Index) (id m n : ℕ) → rows_put r i id (m + n) ≡ rows_put r (rows_put r i id m) (id + m) n
  unfolding rows_put
  rows-split i id zero n =
      let e : id + 0 ≡ id = omega arith in
      let z : 0 + n ≡ n = omega arith in
      rw (e, z) refl
  rows-split i id (suc m) n =
      let e : id + suc m ≡ id + 1 + m = omega arith in
      let z : suc m + n ≡ suc (m + n) = omega arith in
      ap (rows_put r i id) z ∙ rows-split (row_put r i id) (id + 1) m n ∙ ap (λ (k : ℕ). rows_put r (rows_put r (row_put r i id) (id + 1) m) k n) (sym e)

  pub rows-batch : (i y : Index) (id mid to : ℕ) → id ≤ mid → mid ≤ to → y ≡ rows_put r i id (mid - id)
      → rows_put r i id (to - id) ≡ rows_put r y mid (to - mid)
  rows-batch i y id mid to g h e =
      let all : to - id ≡ mid - id + (to - mid) = omega (arith, g, h) in
      let on : id + (mid - id) ≡ mid = omega (arith, g) in
      ap (rows_put r i id) all ∙ rows-split i id (mid - id) (to - mid) ∙ ap (λ (k : ℕ). rows_put r (rows_put r i id (mid - id)) k (to - mid)) on
      ∙ ap (λ (x : Index). rows_put r x mid (to - mid)) (sym e)
