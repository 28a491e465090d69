-- What other calls may change: a table that differs only in cells 3 to 7 of its rows, or in the link's other counts, is as good and answers the same.
-- Assumes nothing.
use Rattle.std.specs.Prelude.{ℕ, ◌+◌, ◌*◌, ◌-◌, ◌<◌, ◌≤◌, ◌≡◌, refl, List, ltb, length, get_or, set}
use Rattle.std.proofs.Common.{arith, le_refl, ap, sym, ◌∙◌, length-set, get_or-set_other, ltb-true, ltb-false}
use Rattle.cells.specs.Proof.Split.{by-test}
use Rattle.link.specs.declared.Link.{Link}
use Rattle.link.specs.Bounds.{name_rows}
use Rattle.interner.specs.Names.{Store, store_of}
use Rattle.interner_laws.specs.Good.{Chained, Good, Stays, Alike, count, used, name_rows_in, name, next, chain, head, find}
use Rattle.interner_laws.proofs.Find.{some_below, find-known, find-new, new_none, found, find-low}
use Rattle.interner_laws.proofs.Written.{head-behind, head-within, head-cell-same}

pub alike-none : (s : Store) → Alike s s
alike-none s =
    record { bytes = refl; long = refl; cells = λ i f h k. refl; heads = λ q h k. refl; chains = refl; key = refl; counted = refl; filled = refl }

pub alike_both : (s t u : Store) → Alike s t → Alike t u → Alike s u
alike_both s t u p q =
    record {
      bytes = q.bytes ∙ p.bytes;
      long = q.long ∙ p.long;
      cells = λ i f h k. q.cells i f (rw p.counted h) k ∙ p.cells i f h k;
      heads = λ c h k. q.heads c (rw p.chains h) (rw p.long k) ∙ p.heads c h k;
      chains = q.chains ∙ p.chains;
      key = q.key ∙ p.key;
      counted = q.counted ∙ p.counted;
      filled = q.filled ∙ p.filled;
    }

-- a store to such a cell
pub set-alike : (s : Store) (l : Link) (i f v : ℕ) → l.names ≡ count s → l.bytes ≡ used s → l.chains ≡ s.link.chains → l.key ≡ s.link.key → i < name_rows_in s → 3 ≤ f → f < 8
    → Alike s (store_of s.bytes (set s.names (i * 8 + f) v) l)
set-alike s l i f v c u e k h low high =
    record {
      bytes = refl;
      long = length-set s.names (i * 8 + f) v;
      cells = λ j g k m. get_or-set_other s.names (i * 8 + f) (j * 8 + g) v 0 (λ e. omega arith);
      heads = λ q k m. get_or-set_other s.names (i * 8 + f) q v 0 (λ e. omega arith);
      chains = e;
      key = k;
      counted = c;
      filled = u;
    }

module _ (s t : Store) (a : Alike s t) where
  pub name-same : (i : ℕ) → i < count s → name t i ≡ name s i
  name-same i h = rw (a.cells i 0 h (omega arith), a.cells i 1 h (omega arith), a.bytes)

  pub alike-stays : Stays s t
  alike-stays = record { grows = rw a.counted (le_refl _); olds = name-same }

  next-same : (i : ℕ) → i < count s → next t i ≡ next s i
  next-same i h = a.cells i 2 h (omega arith)

  below : (i : ℕ) → i < count t → i < count s
  below i h = rw a.counted at h

  module _ (g : Chained s) where
    lent_same : name_rows_in t ≤ name_rows (length t.names)
    lent_same = rw (a.chains, a.long) g.rows-lent

    chain_same : (y : List ℕ) → chain t y ≡ chain s y
    chain_same y = head-cell-same t.link s.link (length t.names) (length s.names) y a.chains a.key lent_same g.rows-lent

    of-same : (i : ℕ) → i < count s → chain t (name t i) ≡ chain s (name s i)
    of-same i h = chain_same (name t i) ∙ ap (chain s) (name-same i h)

    head-same : (y : List ℕ) → head t y ≡ head s y
    head-same y =
        ap (λ (k : ℕ). get_or t.names k 0) (chain_same y)
        ∙ a.heads (chain s y) (head-behind s.link (length s.names) y g.rows-lent) (head-within s.link (length s.names) y g.rows-lent g.rows-some)

    pub chained_same : Chained t
    chained_same =
        record {
          rows-some = rw a.chains g.rows-some;
          rows-lent = lent_same;
          rows_in = rw (a.chains, a.counted) g.rows_in;
          bytes-in = rw (a.bytes, a.filled) g.bytes-in;
          names_in = λ i h. let k : i < count s = below i h in rw (a.cells i 0 k (omega arith), a.cells i 1 k (omega arith), a.filled) (g.names_in i k);
          distinct = λ i j h k e. g.distinct i j (below i h) (below j k) (sym (name-same i (below i h)) ∙ e ∙ name-same j (below j k));
          head-low = λ y. omega (arith, g.head-low y, head-same y, a.counted);
          head-own = λ y z.
              let z' : head s y ≡ 0 → ⊥ = λ w. z (head-same y ∙ w) in
              ap (λ (k : ℕ). chain t (name t (k - 1))) (head-same y) ∙ of-same (head s y - 1) (some_below _ _ (g.head-low y) z') ∙ g.head-own y z' ∙ sym (chain_same y);
          head-gap = λ y j l h c.
              let k : j < count s = below j h in
              g.head-gap y j (omega (arith, head-same y)) k (sym (of-same j k) ∙ c ∙ chain_same y);
          next_low = λ i h. omega (arith, g.next_low i (below i h), next-same i (below i h));
          next-own = λ i h z.
              let k : i < count s = below i h in
              let z' : next s i ≡ 0 → ⊥ = λ w. z (next-same i k ∙ w) in
              let l : next s i ≤ count s = omega (arith, g.next_low i k) in
              ap (λ (k : ℕ). chain t (name t (k - 1))) (next-same i k) ∙ of-same (next s i - 1) (some_below _ _ l z') ∙ g.next-own i k z' ∙ sym (of-same i k);
          next-gap = λ i j h l b c.
              let k : i < count s = below i h in
              let m : j < count s = omega arith in
              g.next-gap i j k (omega (arith, next-same i k)) b (sym (of-same j m) ∙ c ∙ of-same i k);
        }

  module _ (g : Good s) where
    pub good-same : Good t
    good-same = record { chained = chained_same g.chained; some = rw a.counted g.some; empty = name-same 0 g.some ∙ g.empty }

    pub find-same : (x : List ℕ) → find t x ≡ find s x
    find-same x =
        by-test (ltb (find s x) (count s))
        (λ b. let h : find s x < count s = ltb-true _ _ b in
        find-known t x good-same.chained (find s x) (rw a.counted h) (name-same (find s x) h ∙ (found s x g.chained).hit h))
        (λ b. let h : find s x ≡ count s = omega (arith, ltb-false (find s x) (count s) b, find-low s x) in
        find-new t x good-same.chained (λ i l e. new_none s x g.chained h i (below i l) (sym (name-same i (below i l)) ∙ e))
        ∙ a.counted ∙ sym h)
