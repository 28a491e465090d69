-- Laws of the definitions of Rekeyed.antt.
-- Assumes nothing.
use Rattle.std.specs.Prelude.{ℕ, ◌+◌, ◌*◌, ◌<◌, ◌≤◌, ◌≡◌, refl, Bool, false, cond, List, ◌≢◌, eqb, ltb, length, get_or, set}
use Rattle.std.proofs.Common.{arith, ap, ◌∙◌, length-set, get_or-set_same, get_or-set_other, eqb-true, ltb-true, ltb-false}
use Rattle.std.proofs.Math.Path.{sym, subst}
use Rattle.std.proofs.Math.Bool.{true}
use Rattle.std.proofs.Math.Seq.{set_out}
use Rattle.std.proofs.lemmas.Bool.{eqb-false}
use Rattle.cells.specs.Proof.Split.{by-test}
use Rattle.link.specs.declared.Link.{Link}
use Rattle.link.specs.declared.Interned.{Interned}
use Rattle.interner.specs.Names.{Store, store_of, find_of, room_of, fits_of, added, keep_of}
use Rattle.interner_laws.specs.Good.{Good, count, used, name_rows_in, cell, name, find}
use Rattle.interner_laws.proofs.Find.{found, find-known, find-new, new_none, find-low}
use Rattle.interner_laws.proofs.Same as Same
use Rattle.interner_laws.proofs.Same.{good-same}
use Rattle.interner_laws.specs.Interns.{id_of}
use Rattle.interner_laws.proofs.Interns.{keep-good}
use Rattle.symbol_laws.proofs.Issue.{room-free}
use Rattle.key_laws.specs.Rekeyed.{keyed, rekeyed, Rekeyed, Moved}
use Rattle.key_laws.proofs.Rekeyed.{added-long, added-cells}

module _ {S : Type 0} (store : S → Store) (under : List ℕ → S → S) (k : ℕ) where
  pub moved : (s : S) (n : List ℕ) → Rekeyed k (store s) n → Moved store under k s (under n s)
  moved s n e = record { names = n; is = refl; alike = e }

  -- both go the same way
  pub moved_cond : (b : Bool) (s t u v : S) → (b ≡ true → Moved store under k s t) → (b ≡ false → Moved store under k u v)
      → Moved store under k (cond b s u) (cond b t v)
  moved_cond true s t u v f g = f refl
  moved_cond false s t u v f g = g refl

-- ---- what is read

module _ (k : ℕ) (s : Store) (n : List ℕ) (e : Rekeyed k s n) where
  rowed : (i : ℕ) → i < count s → i < name_rows_in s
  rowed i h = omega (arith, e.good.chained.rows_in)

  -- a cell of an issued name but its link
  pub cell_same : (i f : ℕ) → i < count s → f < 8 → f ≢ 2 → get_or n (i * 8 + f) 0 ≡ cell s i f
  cell_same i f h l u = e.cells i f (rowed i h) l u

  -- what a row tells of its name, issued or not
  pub row-name-same : (i : ℕ) → i < name_rows_in s → name (rekeyed k n s) i ≡ name s i
  row-name-same i h = rw (e.cells i 0 h (omega arith) (λ z. omega arith), e.cells i 1 h (omega arith) (λ z. omega arith))

  pub name-same : (i : ℕ) → i < count s → name (rekeyed k n s) i ≡ name s i
  name-same i h = row-name-same i (rowed i h)

  pub find-same : (x : List ℕ) → find_of s.bytes n (keyed k s.link) x ≡ find_of s.bytes s.names s.link x
  find-same x =
      by-test (ltb (find s x) (count s))
      (λ b. let h : find s x < count s = ltb-true _ _ b in
      find-known (rekeyed k n s) x e.other.chained (find s x) h (name-same (find s x) h ∙ (found s x e.good.chained).hit h))
      (λ b. let h : find s x ≡ count s = omega (arith, ltb-false (find s x) (count s) b, find-low s x) in
      find-new (rekeyed k n s) x e.other.chained (λ i l q. new_none s x e.good.chained h i l (sym (name-same i l) ∙ q)) ∙ sym h)

  pub id_same : (x : List ℕ) → id_of (rekeyed k n s) x ≡ id_of s x
  id_same x = ap (λ (i : ℕ). record { 0 = i }) (find-same x)

  pub room-same : (m : ℕ) → room_of (rekeyed k n s) m ≡ room_of s m
  unfolding room_of
  room-same m = rw e.long

  pub fits-same : (id : Interned) (m : ℕ) → fits_of (rekeyed k n s) id m ≡ fits_of s id m
  unfolding fits_of
  fits-same id m = rw (room-same m)

-- ---- what is written

-- a cell set alike in lists that are alike there
pub set_same : (l m : List ℕ) (i v j : ℕ) → length m ≡ length l → get_or m j 0 ≡ get_or l j 0 → get_or (set m i v) j 0 ≡ get_or (set l i v) j 0
set_same l m i v j n e =
    by-test (eqb j i)
    (λ a.
    let z : j ≡ i = eqb-true _ _ a in
    by-test (ltb i (length l))
    (λ b.
    let k : i < length l = ltb-true _ _ b in
    rw z (get_or-set_same m i v 0 (rw n k) ∙ sym (get_or-set_same l i v 0 k)))
    (λ b.
    let k : length l ≤ i = ltb-false _ _ b in
    rw (set_out m i v (rw n k), set_out l i v k) e))
    (λ a. let u : j ≢ i = eqb-false _ _ a in get_or-set_other m i j v 0 u ∙ e ∙ sym (get_or-set_other l i j v 0 u))

module _ (k : ℕ) (s : Store) (n : List ℕ) (e : Rekeyed k s n) where
  -- other counts
  pub with-counts : (l : Link) → l.names ≡ count s → l.bytes ≡ used s → l.chains ≡ name_rows_in s → l.key ≡ s.link.key
      → Rekeyed k (store_of s.bytes s.names l) n
  with-counts l a b c d =
      record {
        long = e.long;
        cells = λ i f h. e.cells i f (rw c at h);
        good = good-same s (store_of s.bytes s.names l)
            (record { bytes = refl; long = refl; cells = λ i f h u. refl; heads = λ q h u. refl; chains = c; key = d; counted = a; filled = b }) e.good;
        other = good-same (rekeyed k n s) (rekeyed k n (store_of s.bytes s.names l))
            (record { bytes = refl; long = refl; cells = λ i f h u. refl; heads = λ q h u. refl; chains = c; key = refl; counted = a; filled = b }) e.other;
      }

  -- a cell from the third on of a row
  pub with_cell : (i f v : ℕ) → i < name_rows_in s → 3 ≤ f → f < 8 → Rekeyed k (store_of s.bytes (set s.names (i * 8 + f) v) s.link) (set n (i * 8 + f) v)
  with_cell i f v h lo hi =
      record {
        long = length-set n (i * 8 + f) v ∙ e.long ∙ sym (length-set s.names (i * 8 + f) v);
        cells = λ j g l m u. set_same s.names n (i * 8 + f) v (j * 8 + g) e.long (e.cells j g l m u);
        good = good-same s (store_of s.bytes (set s.names (i * 8 + f) v) s.link) (Same.set-alike s s.link i f v refl refl refl refl h lo hi) e.good;
        other = good-same (rekeyed k n s) (store_of s.bytes (set n (i * 8 + f) v) (keyed k s.link))
            (Same.set-alike (rekeyed k n s) (keyed k s.link) i f v refl refl refl refl h lo hi) e.other;
      }

module _ (k : ℕ) (s : Store) (n : List ℕ) (e : Rekeyed k s n) (x : List ℕ) where
  pub keep-moved : (id : Interned) → id ≡ id_of s x → Moved (λ t. t) (rekeyed k) k (keep_of s id x) (keep_of (rekeyed k n s) id x)
  unfolding keep_of
  keep-moved id q =
      let g : Good (keep_of s id x) = subst (λ (i : Interned). Good (keep_of s i x)) (sym q) (keep-good s x e.good) in
      let g' : Good (keep_of (rekeyed k n s) id x) =
      subst (λ (i : Interned). Good (keep_of (rekeyed k n s) i x)) (id_same k s n e x ∙ sym q) (keep-good (rekeyed k n s) x e.other) in
      by-test (ltb id.0 (count s)) (λ a. rw a (moved (λ t. t) (rekeyed k) k s n e))
      (λ a.
      by-test (room_of s (length x))
      (λ b.
      let b' : room_of (rekeyed k n s) (length x) ≡ true = room-same k s n e (length x) ∙ b in
      rw (a, b, b')
      (record {
        names = (added (rekeyed k n s) x).names;
        is = refl;
        alike = record {
          long = added-long k s n e.long e.cells x;
          cells = added-cells k s n e.long e.cells x (room-free s (length x) b);
          good = rw (a, b) at g;
          other = rw (a, b') at g';
        };
      }))
      (λ b. rw (a, b, room-same k s n e (length x) ∙ b) (moved (λ t. t) (rekeyed k) k s n e)))
