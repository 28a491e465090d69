-- The ways through the search and the insertion: w is what is met from here on. As many turns are left as places weren't read.
-- Assumes nothing.
use Rattle.std.specs.Prelude.{ℕ, zero, suc, ◌+◌, ◌-◌, ◌<◌, ◌≤◌, ◌≡◌, refl, List, ◌∷◌, ◌++◌, set, take, drop, length, get_or, Err, Ok, ◌≢◌}
use Rattle.std.specs.declared.cmp.Ordering.{Ordering}
use Rattle.std.specs.declared.cmp.Ordering.TheVariants.{Less, Equal, Greater}
use Rattle.std.specs.Ordering.{nat_cmp}
use Rattle.std.specs.Cmp.Lexicographic.{slice_cmp}
use Rattle.std.proofs.Common.{arith, sym, ap, ◌∙◌, le-ltb, lt-ltb, eq-eqb, ne_eqb, append_assoc, length-take-le}
use Rattle.std.proofs.Math.Nat.{sub-zero}
use Rattle.std.specs.List.{copy_within}
use Rattle.std.proofs.lemmas.List.{take-take, drop-take, take_more, set_at}
use Rattle.symbol.specs.Row.{scope_at}
use Rattle.name_index.specs.declared.Met.{Met}
use Rattle.name_index.specs.Named.{Rows, name_of_row}
use Rattle.name_index.specs.Seek.{met_at, middle, halve, stands, seek_of}
use Rattle.name_index.specs.Index.{Index, index_of, used, inserted, put_at, row_put, rows_put}

-- one turn, of n and one
module _ (f : ℕ → Ordering) (n low high reads : ℕ) (l : low < high) where
  pub turn-up : f (middle low high) ≡ Less → halve f (suc n) low high reads ≡ halve f n (middle low high + 1) high (reads + 1)
  unfolding halve
  turn-up e = rw (lt-ltb _ _ l, e)

  pub turn-met : f (middle low high) ≡ Equal → halve f (suc n) low high reads ≡ met_at (Ok (middle low high)) (reads + 1)
  unfolding halve
  turn-met e = rw (lt-ltb _ _ l, e)

  pub turn-down : f (middle low high) ≡ Greater → halve f (suc n) low high reads ≡ halve f n low (middle low high) (reads + 1)
  unfolding halve
  turn-down e = rw (lt-ltb _ _ l, e)

pub turn-end : (f : ℕ → Ordering) (n low high reads : ℕ) → high ≤ low → halve f n low high reads ≡ met_at (Err low) reads
unfolding halve
turn-end f zero low high reads l = refl
turn-end f (suc n) low high reads l = rw (le-ltb _ _ l)

-- how the name at a place was found to stand
pub stood : (r : Rows) (places x part : List ℕ) (k : ℕ) (o : Ordering) → part ≡ name_of_row r (get_or places k 0) → o ≡ slice_cmp nat_cmp part x
    → stands r places x k ≡ o
unfolding stands
stood r places x part k o e f = sym (f ∙ ap (λ (p : List ℕ). slice_cmp nat_cmp p x) e)

-- the loop: what is met from here is what is met from the start
pub record Halving (r : Rows) (places x : List ℕ) (low high reads : ℕ) : Type 0 where
  pub few : reads + (high - low) ≤ length places
  pub in-range : low ≤ high
  pub lent : high ≤ length places
  pub same : seek_of r places x ≡ halve (stands r places x) (length places - reads) low high reads

module _ (r : Rows) (places x : List ℕ) where
  pub halving-start : Halving r places x 0 (length places) 0
  unfolding seek_of
  halving-start = record { few = omega arith; in-range = omega arith; lent = omega arith; same = rw (sub-zero (length places)) }

  module _ (low high reads : ℕ) (h : Halving r places x low high reads) where
    pub halving-end : high ≤ low → met_at (Err low) reads ≡ seek_of r places x
    halving-end l = sym (h.same ∙ turn-end _ (length places - reads) low high reads l)

    module _ (l : low < high) where
      turns : length places - reads ≡ suc (length places - (reads + 1))
      turns = let f = h.few in omega arith

      on : {m : Met} → halve (stands r places x) (suc (length places - (reads + 1))) low high reads ≡ m → seek_of r places x ≡ m
      on e = h.same ∙ ap (λ (n : ℕ). halve (stands r places x) n low high reads) turns ∙ e

      pub halving-met : stands r places x (middle low high) ≡ Equal → met_at (Ok (middle low high)) (reads + 1) ≡ seek_of r places x
      halving-met e = sym (on (turn-met _ _ low high reads l e))

      pub halving-up : stands r places x (middle low high) ≡ Less → Halving r places x (middle low high + 1) high (reads + 1)
      halving-up e =
          let f = h.few in
          let k = h.lent in
          record { few = omega arith; in-range = omega arith; lent = k; same = on (turn-up _ _ low high reads l e) }

      pub halving-down : stands r places x (middle low high) ≡ Greater → Halving r places x low (middle low high) (reads + 1)
      halving-down e =
          let f = h.few in
          let k = h.lent in
          record { few = omega arith; in-range = omega arith; lent = omega arith; same = on (turn-down _ _ low high reads l e) }

-- places moved up by one, and the id written at its own
pub insert-done : (l m : List ℕ) (c k id : ℕ) → k ≤ c → c < length l → m ≡ copy_within l k c (k + 1)
    → index_of (set m k id) (c + 1) ≡ inserted (index_of l c) k id
unfolding inserted
insert-done l m c k id h room e =
    let end : k + 1 + (c - k) ≡ c + 1 = omega arith in
    let all : k + (c - k) ≡ c = omega arith in
    let some : k < length l = omega arith in
    let rest : List ℕ = take (c - k) (drop k l) ++ drop (c + 1) l in
    let parts : m ≡ take k l ++ (get_or l k 0 ∷ rest) =
    e ∙ rw (end, take_more l k 0 some) (simp append_assoc) in
    let moved : set m k id ≡ take k l ++ (id ∷ rest) =
    ap (λ (x : List ℕ). set x k id) parts ∙ set_at (take k l) (get_or l k 0) rest id k (length-take-le k l (omega arith)) in
    let back : drop k (take c l) ≡ take (c - k) (drop k l) = ap (λ (n : ℕ). drop k (take n l)) (sym all) ∙ drop-take k (c - k) l in
    ap (λ (x : List ℕ). index_of x (c + 1))
    (moved ∙ sym (rw (take-take k c l h, back) (append_assoc (take k l) (id ∷ take (c - k) (drop k l)) (drop (c + 1) l))))

-- a global row, where a place is left
module _ (r : Rows) (i : Index) (id : ℕ) (name : List ℕ) (m : Met) (global : scope_at r.symbols id ≢ 0) (room : i.count < length i.places) (small : id ≤ 65535)
    (named : name ≡ name_of_row r id) (met : m ≡ seek_of r (used i) name) where
  row-sought : row_put r i id ≡ put_at i id m.place
  unfolding row_put
  row-sought = rw (ne_eqb _ _ global, lt-ltb _ _ room, lt-ltb id 65536 (omega arith), met, named)

  pub row-placed : (k : ℕ) → m.place ≡ Err k → row_put r i id ≡ inserted i k id
  row-placed k e = row-sought ∙ ap (put_at i id) e

  pub row-known : (k : ℕ) → m.place ≡ Ok k → row_put r i id ≡ i
  row-known k e = row-sought ∙ ap (put_at i id) e

pub row-local : (r : Rows) (i : Index) (id : ℕ) → scope_at r.symbols id ≡ 0 → row_put r i id ≡ i
unfolding row_put
row-local r i id z = rw (eq-eqb _ _ z)

-- the rows from an id on, one at a time
module _ (r : Rows) (to : ℕ) where
  pub rows-more : (i : Index) (id : ℕ) → id < to → rows_put r i id (to - id) ≡ rows_put r (row_put r i id) (id + 1) (to - (id + 1))
  unfolding rows_put
  rows-more i id h = let e : to - id ≡ suc (to - (id + 1)) = omega arith in rw e

  pub rows-none : (i : Index) (id : ℕ) → to ≤ id → rows_put r i id (to - id) ≡ i
  unfolding rows_put
  rows-none i id h = let e : to - id ≡ 0 = omega arith in rw e
