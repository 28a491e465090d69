-- What a new name leaves in the bytes, in its row and at the heads.
-- Assumes nothing.
use Rattle.std.specs.Prelude.{ℕ, ◌+◌, ◌*◌, ◌-◌, ◌/◌, ◌%◌, ◌<◌, ◌≤◌, ◌≡◌, List, [], ◌∷◌, ◌++◌, length, take, drop}
use Rattle.std.proofs.Common.{arith, le_refl, ap, sym, ◌∙◌, append_assoc, length-drop, take-append-drop, drop_at, length-take-le, get_or-drop, get_or-take, lt-ltb, le-ltb}
use Rattle.std.proofs.Math.Nat.{mod-lt, div-add-mod'}
use Rattle.std.proofs.Math.Path.{refl, subst}
use Rattle.std.proofs.Math.ListN.{get_or, length-set, get_or-append}
use Rattle.std.proofs.Math.Seq.{paste, take-append_seam, take-length, get_or-set_same, get_or-set_other}
use Rattle.std.proofs.lemmas.List.{take-append-le, drop-append-le}
use Rattle.std.proofs.lemmas.List.Edits.{length-paste, drop-paste}
use Rattle.cells.specs.Rows.{put_row}
use Rattle.cells.specs.Proof.Rows.{length-put_row, row_same, row_other}
use Rattle.byte_slices.specs.Bytes.{part, copied}
use Rattle.byte_slices.specs.Proof.Ways.{copied-whole}
use Rattle.link.specs.declared.Link.{Link}
use Rattle.link.specs.Bounds.{name_rows}
use Rattle.interner.specs.Hash.{spread, head_cell}
use Rattle.keyed_hash.specs.Keyed.{hash_of}
use Rattle.keyed_hash.specs.Proof.Ways.{hash-small}
use Rattle.interner.specs.Proof.Ways.{spread-below}
use Rattle.interner.specs.Names.{linked}

-- ---- bytes

-- a part that ends within the first of two joined lists
part-front : (p q : List ℕ) (a n : ℕ) → a + n ≤ length p → part (p ++ q) a n ≡ part p a n
part-front p q a n h =
    let ha : a ≤ length p = omega arith in
    let hn : n ≤ length (drop a p) = omega (arith, length-drop a p) in
    rw (drop-append-le a p q ha, take-append-le n (drop a p) q hn)

module _ (d x : List ℕ) (at : ℕ) (room : at + length x ≤ length d) where
  whole : copied d at x ≡ paste d at x (length x)
  whole = sym (copied-whole d x (paste d at x (length x)) at (omega arith) (omega arith) refl)

  low : at ≤ length d
  low = omega arith

  pub copied-long : length (copied d at x) ≡ length d
  copied-long = ap length whole ∙ length-paste d at x (length x) room (le_refl _)

  pub copied-old : (a n : ℕ) → a + n ≤ at → part (copied d at x) a n ≡ part d a n
  copied-old a n h =
      let l : a + n ≤ length (take at d) = omega (arith, length-take-le at d low) in
      rw (whole, append_assoc (take at d) (take (length x) x) (drop (at + length x) d))
      (part-front (take at d) (take (length x) x ++ drop (at + length x) d) a n l
      ∙ sym (part-front (take at d) (drop at d) a n l)
      ∙ ap (λ (b : List ℕ). part b a n) (take-append-drop at d))

  pub copied-new : part (copied d at x) at (length x) ≡ x
  copied-new =
      rw (
        whole,
        append_assoc (take at d) (take (length x) x) (drop (at + length x) d),
        take-length x,
        drop_at (take at d) (x ++ drop (at + length x) d) at (length-take-le at d low),
      )
      (take-append_seam x _)

  pub copied-before : (k : ℕ) → k < at → get_or (copied d at x) k 0 ≡ get_or d k 0
  copied-before k h =
      let l : k < length (take at d) = omega (arith, length-take-le at d low) in
      rw (whole, append_assoc (take at d) (take (length x) x) (drop (at + length x) d))
      (get_or-append (take at d) (take (length x) x ++ drop (at + length x) d) 0 k l ∙ get_or-take at d k 0 h)

  pub copied_behind : (k : ℕ) → at + length x ≤ k → get_or (copied d at x) k 0 ≡ get_or d k 0
  copied_behind k h =
      let m : ℕ = at + length x in
      let e : k ≡ m + (k - m) = omega arith in
      subst (λ (k : ℕ). get_or (copied d at x) k 0 ≡ get_or d k 0) (sym e)
      (sym (get_or-drop m (copied d at x) (k - m) 0)
      ∙ ap (λ (l : List ℕ). get_or l (k - m) 0) (ap (drop m) whole ∙ drop-paste d at x (length x) low (le_refl _))
      ∙ get_or-drop m d (k - m) 0)

-- ---- heads lie behind the rows

module _ (l : Link) (n : ℕ) (x : List ℕ) (lent : l.chains ≤ name_rows n) where
  head-is : head_cell l n x ≡ l.chains * 8 + spread l.chains (hash_of l.key x)
  unfolding head_cell
  head-is = simp (le-ltb (name_rows n) l.chains lent)

  pub head-behind : l.chains * 8 ≤ head_cell l n x
  head-behind = omega (arith, head-is)

  module _ (some : 0 < l.chains) where
    pub head-before : head_cell l n x < l.chains * 9
    head-before = omega (arith, head-is, spread-below l.chains (hash_of l.key x) (hash-small l.key x) some)

    pub head-within : head_cell l n x < n
    head-within = omega (arith, head-before)

pub head-out : (l : Link) (n : ℕ) (x : List ℕ) → name_rows n < l.chains → head_cell l n x ≡ n
unfolding head_cell
head-out l n x h = simp (lt-ltb (name_rows n) l.chains h)

-- where a link's chains begin follows from its number of rows, its key, and that they are lent
pub head-cell-same : (k l : Link) (m n : ℕ) (x : List ℕ) → k.chains ≡ l.chains → k.key ≡ l.key → k.chains ≤ name_rows m → l.chains ≤ name_rows n
    → head_cell k m x ≡ head_cell l n x
head-cell-same k l m n x e f p q =
    head-is k m x p ∙ ap (λ (c : ℕ). c * 8 + spread c (hash_of k.key x)) e ∙ ap (λ (y : ℕ). l.chains * 8 + spread l.chains (hash_of y x)) f ∙ sym (head-is l n x q)

-- ---- the row

module _ (names : List ℕ) (count start len head : ℕ) where
  abbrev row : List ℕ
  row = start ∷ len ∷ get_or names head 0 ∷ 0 ∷ 0 ∷ 0 ∷ 0 ∷ 0 ∷ []

  abbrev stored : List ℕ
  stored = put_row names count row

  pub linked_long : length (linked names count start len head) ≡ length names
  unfolding linked
  linked_long = length-set stored head (count + 1) ∙ length-put_row names count row

  module _ (rows : ℕ) (lent : rows ≤ name_rows (length names)) (free : count < rows) (behind : rows * 8 ≤ head) where
    pub row_old : (i f : ℕ) → i < rows → (i ≡ count → ⊥) → f < 8 → get_or (linked names count start len head) (i * 8 + f) 0 ≡ get_or names (i * 8 + f) 0
    unfolding linked
    row_old i f l n h =
        get_or-set_other stored head (i * 8 + f) (count + 1) 0 (λ e. omega arith) ∙ row_other names count row i f refl h n

    pub row_new : (f : ℕ) → f < 8 → get_or (linked names count start len head) (count * 8 + f) 0 ≡ get_or row f 0
    unfolding linked
    row_new f h =
        get_or-set_other stored head (count * 8 + f) (count + 1) 0 (λ e. omega arith) ∙ row_same names count row f refl h (omega arith)

    pub head-new : head < length names → get_or (linked names count start len head) head 0 ≡ count + 1
    unfolding linked
    head-new h = get_or-set_same stored head (count + 1) 0 (omega (arith, length-put_row names count row))

    pub head-old : (q : ℕ) → rows * 8 ≤ q → (q ≡ head → ⊥) → get_or (linked names count start len head) q 0 ≡ get_or names q 0
    unfolding linked
    head-old q h n =
        let e : q / 8 * 8 + q % 8 ≡ q = div-add-mod' q 8 in
        let l : q % 8 < 8 = mod-lt q (omega arith) in
        get_or-set_other stored head q (count + 1) 0 n
        ∙ subst (λ (k : ℕ). get_or stored k 0 ≡ get_or names k 0) e
        (row_other names count row (q / 8) (q % 8) refl l (λ z. omega arith))
