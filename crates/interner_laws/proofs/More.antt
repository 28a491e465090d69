-- A table with one name more.
-- Assumes nothing.
use Rattle.std.specs.Prelude.{ℕ, ◌+◌, ◌*◌, ◌-◌, ◌<◌, ◌≤◌, ◌≡◌, refl, Bool, true, List, eqb, ltb, leb, length, get_or}
use Rattle.std.proofs.Common.{arith, eq-or-lt_of_le, ap, sym, subst, ◌∙◌, ⊎_elim, eqb-true, ltb-true, ltb-false, leb-false}
use Rattle.std.proofs.lemmas.Bool.{eqb-false}
use Rattle.cells.specs.Proof.Split.{by-test}
use Rattle.byte_slices.specs.Bytes.{part}
use Rattle.byte_slices.specs.Proof.Ways.{pick, apart}
use Rattle.link.specs.declared.Link.{Link}
use Rattle.link.specs.Bounds.{lesser, name_rows, name_bytes}
use Rattle.interner.specs.Names.{Store, room_of, added}
use Rattle.interner_laws.specs.Good.{Chained, Stays, Issued, Untouched, rest, count, used, name_rows_in, cell, name, next, chain, head}
use Rattle.interner_laws.proofs.Find.{some_below}
use Rattle.interner_laws.proofs.Written.{copied-long, copied-old, copied-new, copied-before, copied_behind, head-behind, head-within, head-cell-same, linked_long, row_old, row_new, head-new, head-old}

-- what adding x to s leaves, whatever the cells hold
pub record More (s : Store) (x : List ℕ) (t : Store) : Type 0 where
  pub row-free : count s < name_rows_in s
  pub row-lent : name_rows_in s ≤ name_rows (length s.names)
  pub bytes-free : used s + length x ≤ name_bytes (length s.bytes)
  pub rows_same : length t.names ≡ length s.names
  pub bytes_same : length t.bytes ≡ length s.bytes
  pub one_more : count t ≡ count s + 1
  pub filled : used t ≡ used s + length x
  pub others : rest t.link ≡ rest s.link
  pub cells : (i f : ℕ) → i < name_rows_in s → (i ≡ count s → ⊥) → f < 8 → cell t i f ≡ cell s i f
  pub start_is : cell t (count s) 0 ≡ used s
  pub length-is : cell t (count s) 1 ≡ length x
  pub next-is : next t (count s) ≡ head s x
  pub head-is : (y : List ℕ) → chain s y ≡ chain s x → head t y ≡ count s + 1
  pub heads : (y : List ℕ) → (chain s y ≡ chain s x → ⊥) → head t y ≡ head s y
  pub part-old : (a n : ℕ) → a + n ≤ used s → part t.bytes a n ≡ part s.bytes a n
  pub part-new : part t.bytes (used s) (length x) ≡ x
  pub before : (k : ℕ) → k < used s → get_or t.bytes k 0 ≡ get_or s.bytes k 0
  pub behind : (k : ℕ) → used s + length x ≤ k → get_or t.bytes k 0 ≡ get_or s.bytes k 0

-- ---- what room says

lesser-low : (a b : ℕ) → lesser a b ≤ b
unfolding lesser
lesser-low a b = pick (λ (k : ℕ). k ≤ b) (ltb a b) _ _ (λ t. omega (arith, ltb-true a b t)) (λ t. omega arith)

pub bytes_low : (n : ℕ) → name_bytes n ≤ n
bytes_low n = lesser-low 1048576 n

record Room (s : Store) (n : ℕ) : Type 0 where
  row : count s < name_rows_in s
  lent : name_rows_in s ≤ name_rows (length s.names)
  bytes : used s + n ≤ name_bytes (length s.bytes)

has_room : (s : Store) (n : ℕ) → room_of s n ≡ true → Room s n
unfolding room_of
has_room s n =
    let most : ℕ = name_bytes (length s.bytes) in
    pick (λ (t : Bool). t ≡ true → Room s n) (ltb (name_rows (length s.names)) (name_rows_in s)) _ _
    (λ l q. absurd (apart q))
    (λ l. pick (λ (t : Bool). t ≡ true → Room s n) (leb (name_rows_in s) (count s)) _ _
    (λ e q. absurd (apart q))
    (λ e. pick (λ (t : Bool). t ≡ true → Room s n) (ltb most (used s)) _ _
    (λ f q. absurd (apart q))
    (λ f. pick (λ (t : Bool). t ≡ true → Room s n) (ltb (most - used s) n) _ _
    (λ h q. absurd (apart q))
    (λ h q. record { row = leb-false _ _ e; lent = ltb-false _ _ l; bytes = omega (arith, ltb-false most (used s) f, ltb-false (most - used s) n h) }))))

module _ (s : Store) (x : List ℕ) (r : room_of s (length x) ≡ true) where
  pub added_more : More s x (added s x)
  added_more =
      let room : Room s (length x) = has_room s (length x) r in
      let row : count s < name_rows_in s = room.row in
      let n : ℕ = length s.names in
      let lent : name_rows_in s ≤ name_rows n = room.lent in
      let some : 0 < name_rows_in s = omega arith in
      let fits : used s + length x ≤ length s.bytes = omega (arith, room.bytes, bytes_low (length s.bytes)) in
      let at : ℕ = chain s x in
      let back : name_rows_in s * 8 ≤ at = head-behind s.link n x lent in
      let long : length (added s x).names ≡ n = linked_long s.names (count s) (used s) (length x) at in
      let same_head : (y : List ℕ) → head (added s x) y ≡ get_or (added s x).names (chain s y) 0 =
      λ y. ap (λ (k : ℕ). get_or (added s x).names k 0)
      (head-cell-same (added s x).link s.link (length (added s x).names) n y refl refl (rw long lent) lent) in
      record {
        row-free = row;
        row-lent = lent;
        bytes-free = room.bytes;
        rows_same = long;
        bytes_same = copied-long s.bytes x (used s) fits;
        one_more = refl;
        filled = refl;
        others = refl;
        cells = row_old s.names (count s) (used s) (length x) at (name_rows_in s) lent row back;
        start_is = row_new s.names (count s) (used s) (length x) at (name_rows_in s) lent row back 0 (omega arith);
        length-is = row_new s.names (count s) (used s) (length x) at (name_rows_in s) lent row back 1 (omega arith);
        next-is = row_new s.names (count s) (used s) (length x) at (name_rows_in s) lent row back 2 (omega arith);
        head-is = λ y e.
            same_head y ∙ ap (λ (k : ℕ). get_or (added s x).names k 0) e
            ∙ head-new s.names (count s) (used s) (length x) at (name_rows_in s) lent row back (head-within s.link n x lent some);
        heads = λ y e. same_head y ∙ head-old s.names (count s) (used s) (length x) at (name_rows_in s) lent row back (chain s y) (head-behind s.link n y lent) e;
        part-old = copied-old s.bytes x (used s) fits;
        part-new = copied-new s.bytes x (used s) fits;
        before = copied-before s.bytes x (used s) fits;
        behind = copied_behind s.bytes x (used s) fits;
      }

-- ---- it is chained, and keeps what there was

module _ (s t : Store) (x : List ℕ) (m : More s x t) where
  pub more-untouched : Untouched s t
  more-untouched =
      record {
        rows_same = m.rows_same;
        bytes_same = m.bytes_same;
        more-names = omega (arith, m.one_more);
        more_bytes = omega (arith, m.filled);
        old-rows = λ i f h l k. m.cells i f l (λ e. omega arith) k;
        free-rows = λ i f h l k. m.cells i f l (λ e. omega (arith, m.one_more)) k;
        old-bytes = m.before;
        free_bytes = λ k h. m.behind k (omega (arith, m.filled));
        others = m.others;
      }

  module _ (g : Chained s) where
    abbrev n : ℕ
    n = count s

    rowed : (i : ℕ) → i < n → i < name_rows_in s
    rowed i h = omega (arith, g.rows_in)

    old : (i f : ℕ) → i < n → f < 8 → cell t i f ≡ cell s i f
    old i f h k = m.cells i f (rowed i h) (λ e. omega arith) k

    name-old : (i : ℕ) → i < n → name t i ≡ name s i
    name-old i h = rw (old i 0 h (omega arith), old i 1 h (omega arith)) (m.part-old (cell s i 0) (cell s i 1) (g.names_in i h))

    name_new : name t n ≡ x
    name_new = rw (m.start_is, m.length-is) m.part-new

    pub more_stays : Stays s t
    more_stays = record { grows = omega (arith, m.one_more); olds = name-old }

    pub more-issued : Issued t (count s) x
    more-issued = record { low = omega (arith, m.one_more); right = name_new }

    chains-same : name_rows_in t ≡ name_rows_in s
    chains-same = ap (λ (l : Link). l.chains) m.others

    chain_same : (y : List ℕ) → chain t y ≡ chain s y
    chain_same y =
        head-cell-same t.link s.link (length t.names) (length s.names) y chains-same (ap (λ (l : Link). l.key) m.others)
        (rw (chains-same, m.rows_same) g.rows-lent) g.rows-lent

    of-old : (i : ℕ) → i < n → chain t (name t i) ≡ chain s (name s i)
    of-old i h = chain_same (name t i) ∙ ap (chain s) (name-old i h)

    of-new : chain t (name t n) ≡ chain s x
    of-new = chain_same (name t n) ∙ ap (chain s) name_new

    -- i is the new name or an old one
    last : (P : ℕ → Type 0) (i : ℕ) → i < count t → P n → (i < n → P i) → P i
    last P i h p q = ⊎_elim (λ (e : i ≡ n). subst P (sym e) p) q (eq-or-lt_of_le (omega (arith, m.one_more)))

    -- y is of the chain of x or of another
    either : {P : Type 0} (y : List ℕ) → (chain s y ≡ chain s x → P) → ((chain s y ≡ chain s x → ⊥) → P) → P
    either y p q = by-test (eqb (chain s y) (chain s x)) (λ e. p (eqb-true _ _ e)) (λ e. q (eqb-false _ _ e))

    names_in : (i : ℕ) → i < count t → cell t i 0 + cell t i 1 ≤ used t
    names_in i h =
        last (λ (i : ℕ). cell t i 0 + cell t i 1 ≤ used t) i h (omega (arith, m.start_is, m.length-is, m.filled))
        (λ k. omega (arith, g.names_in i k, old i 0 k (omega arith), old i 1 k (omega arith), m.filled))

    head-low : (y : List ℕ) → head t y ≤ count t
    head-low y = either y (λ e. omega (arith, m.head-is y e, m.one_more)) (λ e. omega (arith, m.heads y e, g.head-low y, m.one_more))

    head-own : (y : List ℕ) → (head t y ≡ 0 → ⊥) → chain t (name t (head t y - 1)) ≡ chain t y
    head-own y z =
        either y
        (λ e. let k : head t y - 1 ≡ n = omega (arith, m.head-is y e) in ap (λ (i : ℕ). chain t (name t i)) k ∙ of-new ∙ sym e ∙ sym (chain_same y))
        (λ e. let o : head t y ≡ head s y = m.heads y e in
        let z' : head s y ≡ 0 → ⊥ = λ w. z (o ∙ w) in
        ap (λ (k : ℕ). chain t (name t (k - 1))) o ∙ of-old (head s y - 1) (some_below _ _ (g.head-low y) z') ∙ g.head-own y z' ∙ sym (chain_same y))

    head-gap : (y : List ℕ) (j : ℕ) → head t y ≤ j → j < count t → chain t (name t j) ≡ chain t y → ⊥
    head-gap y j l h c =
        either y
        (λ e. omega (arith, m.head-is y e, m.one_more))
        (λ e. last (λ (j : ℕ). head t y ≤ j → chain t (name t j) ≡ chain t y → ⊥) j h
        (λ l c. e (sym (chain_same y) ∙ sym c ∙ of-new))
        (λ k l c. g.head-gap y j (omega (arith, m.heads y e)) k (sym (of-old j k) ∙ c ∙ chain_same y))
        l c)

    next_low : (i : ℕ) → i < count t → next t i ≤ i
    next_low i h = last (λ (i : ℕ). next t i ≤ i) i h (omega (arith, m.next-is, g.head-low x)) (λ k. omega (arith, old i 2 k (omega arith), g.next_low i k))

    next-own : (i : ℕ) → i < count t → (next t i ≡ 0 → ⊥) → chain t (name t (next t i - 1)) ≡ chain t (name t i)
    next-own i h =
        last (λ (i : ℕ). (next t i ≡ 0 → ⊥) → chain t (name t (next t i - 1)) ≡ chain t (name t i)) i h
        (λ z. let z' : head s x ≡ 0 → ⊥ = λ w. z (m.next-is ∙ w) in
        ap (λ (k : ℕ). chain t (name t (k - 1))) m.next-is ∙ of-old (head s x - 1) (some_below _ _ (g.head-low x) z') ∙ g.head-own x z' ∙ sym of-new)
        (λ k z. let o : next t i ≡ next s i = old i 2 k (omega arith) in
        let z' : next s i ≡ 0 → ⊥ = λ w. z (o ∙ w) in
        let l : next s i ≤ n = omega (arith, g.next_low i k) in
        ap (λ (k : ℕ). chain t (name t (k - 1))) o ∙ of-old (next s i - 1) (some_below _ _ l z') ∙ g.next-own i k z' ∙ sym (of-old i k))

    next-gap : (i j : ℕ) → i < count t → next t i ≤ j → j < i → chain t (name t j) ≡ chain t (name t i) → ⊥
    next-gap i j h =
        last (λ (i : ℕ). next t i ≤ j → j < i → chain t (name t j) ≡ chain t (name t i) → ⊥) i h
        (λ l k e. g.head-gap x j (omega (arith, m.next-is)) k (sym (of-old j k) ∙ e ∙ of-new))
        (λ k l b e. let jn : j < n = omega arith in g.next-gap i j k (omega (arith, old i 2 k (omega arith))) b (sym (of-old j jn) ∙ e ∙ of-old i k))

    module _ (unknown : (i : ℕ) → i < count s → name s i ≡ x → ⊥) where
      distinct : (i j : ℕ) → i < count t → j < count t → name t i ≡ name t j → i ≡ j
      distinct i j p q =
          last (λ (i : ℕ). name t i ≡ name t j → i ≡ j) i p
          (last (λ (j : ℕ). name t n ≡ name t j → n ≡ j) j q (λ e. refl) (λ h e. absurd (unknown j h (sym (name-old j h) ∙ sym e ∙ name_new))))
          (λ k. last (λ (j : ℕ). name t i ≡ name t j → i ≡ j) j q
          (λ e. absurd (unknown i k (sym (name-old i k) ∙ e ∙ name_new)))
          (λ h e. g.distinct i j k h (sym (name-old i k) ∙ e ∙ name-old j h)))

      pub more-chained : Chained t
      more-chained =
          record {
            rows-some = rw chains-same g.rows-some;
            rows-lent = rw (chains-same, m.rows_same) g.rows-lent;
            rows_in = rw chains-same (omega (arith, m.one_more, m.row-free));
            bytes-in = rw (m.bytes_same, m.filled) m.bytes-free;
            names_in = names_in;
            distinct = distinct;
            head-low = head-low;
            head-own = head-own;
            head-gap = head-gap;
            next_low = next_low;
            next-own = next-own;
            next-gap = next-gap;
          }
