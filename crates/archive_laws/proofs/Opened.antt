-- The rows of some indexes, index by index: each entry's name and key are those of its own index (Archives.antt).
-- Assumes nothing.
use Prim.Native.Nat.{ℕ, zero, suc, ◌+◌, ◌*◌, ◌-◌, ◌<◌, ◌≤◌}
use Rattle.std.proofs.Common.{arith, add-one, sym, ap, subst, ◌∙◌, drop-drop, suc-add}
use Rattle.std.proofs.Math.Decide.{ℕ_discrete}
use Rattle.std.specs.Prelude.{◌≡◌, refl, Bool, true, false, cond, ◌||◌, List, eqb, ltb, take, drop, length}
use Rattle.std.proofs.lemmas.List.{drop-take, take-take, length-drop, length-take}
use borrow.Author.Tests.{eq-eqb, ne_eqb, lt-ltb, le-ltb, ltb-false}
use Rattle.link.specs.Bounds.{lesser}
use Rattle.gabi.specs.StringTable.{ended, name_at}
use Rattle.gabi.proofs.StringTableLaws.{name-part, name-inside}
use Rattle.byte_slices.specs.Bytes.{part}
use Rattle.archive_index.specs.Index.{offset_of, after_of, names_at, place_of, name_of, cut_of}
use Rattle.archive_index.specs.Archives.{Archives, start_at, end_at, index_at, count_at, entries_from, entries_in, member_from, name_from, name_in, key_of, key_in}
use Rattle.archive_index.specs.Rows.{enter_of, enter_all, place_at, rows_from, rows_of}
use Rattle.archive_laws.specs.AcceptedStart.{Whole}
use Rattle.archive_laws.proofs.Entries.{Entered, enter-entered, no-entries}

-- ---- names

-- where a name isn't cut short
pub has-name : (s : List ℕ) (p : ℕ) → (after_of s p ≡ 0 → ⊥) → ended s p ≡ true
unfolding after_of
has-name s p n = go (ended s p) n
  where
    go : (t : Bool) → (cond t (p + length (name_at s p) + 1) 0 ≡ 0 → ⊥) → t ≡ true
    go true f = refl
    go false f = absurd (f refl)

pub placed : (s : List ℕ) (c k p : ℕ) → place_of s c k ≡ p → place_of s c (k + 1) ≡ after_of s p
unfolding place_of
placed s c k p q = ap (λ (i : ℕ). place_of s c i) (add-one k) ∙ ap (after_of s) q

-- a name of a part of s lies in s
module _ (s : List ℕ) (o m p : ℕ) (has : ended (part s o m) p ≡ true) where
  abbrev y : List ℕ
  y = part s o m

  size : after_of y p - (p + 1) ≡ length (name_at y p)
  unfolding after_of
  size = rw has (omega arith)

  inside : p + length (name_at y p) < length y
  inside = name-inside y p has

  begins : lesser o (length s) ≡ o
  unfolding lesser
  begins = go (ltb o (length s)) refl
    where
      go : (b : Bool) → ltb o (length s) ≡ b → cond b o (length s) ≡ o
      go true e = refl
      go false e = absurd (omega (arith, ltb-false o (length s) e, inside, length-take m (drop o s), length-drop o s))

  pub lies-in : take (after_of y p - (p + 1)) (drop (lesser o (length s) + p) s) ≡ name_at y p
  lies-in =
      let n : ℕ = length (name_at y p) in
      let few : n ≤ m - p = omega (arith, inside, length-take m (drop o s)) in
      let whole : p + (m - p) ≡ m = omega (arith, inside, length-take m (drop o s)) in
      rw (size, begins)
      (ap (take n) (sym (drop-drop p o s)) ∙ sym (take-take n (m - p) (drop p (drop o s)) few)
      ∙ ap (take n) (sym (drop-take p (m - p) (drop o s)) ∙ ap (λ (i : ℕ). drop p (take i (drop o s))) whole) ∙ sym (name-part y p has))

-- ---- the entries of one index

-- f is g from b on, for n numbers
abbrev Behind : {A : Type 0} → (ℕ → A) → ℕ → ℕ → (ℕ → A) → Type 0
Behind f b n g = (i : ℕ) → i < n → f (b + i) ≡ g i

-- of n names that are whole the first ones are
pub first-whole : (x : List ℕ) (n m k p : ℕ) → k + (n + m) ≤ cut_of x p (n + m) k → k + n ≤ cut_of x p n k
unfolding cut_of
first-whole x zero m k p g = omega arith
first-whole x (suc n) m k p g = go (ℕ_discrete (after_of x p) 0) (λ i. first-whole x n m (k + 1) (after_of x p) i)
  where
    more : k + suc (n + m) ≤ cond (eqb (after_of x p) 0) k (cut_of x (after_of x p) (n + m) (k + 1))
    more = subst (λ (y : ℕ). k + y ≤ cut_of x p y k) (suc-add n m) g

    go : Dec (after_of x p ≡ 0) → (k + 1 + (n + m) ≤ cut_of x (after_of x p) (n + m) (k + 1) → k + 1 + n ≤ cut_of x (after_of x p) n (k + 1))
        → k + suc n ≤ cond (eqb (after_of x p) 0) k (cut_of x (after_of x p) n (k + 1))
    go (yes z) r = absurd (omega (arith, rw (eq-eqb (after_of x p) 0 z) at more))
    go (no z) r =
        let rest : k + 1 + (n + m) ≤ cut_of x (after_of x p) (n + m) (k + 1) = omega (arith, rw (ne_eqb (after_of x p) 0 z) at more) in
        rw (ne_eqb (after_of x p) 0 z) (omega (arith, r rest))

-- what holds of the rows of no entry, and of those of one entry more, holds of all
module _ (a : Archives) (keys : ℕ → ℕ) (named : ℕ → List ℕ) (c : ℕ) (Good : ℕ → List ℕ → Type 0)
    (step : (k : ℕ) (l : List ℕ) → k < c → (p n : ℕ) → take n (drop p a.bytes) ≡ named k → Good k l → Good (k + 1) (enter_of l k (keys k) p n)) where
  -- the first ones of an index
  module _ (j b : ℕ) (of-key : Behind keys b (count_at a j) (λ i. key_of j (offset_of (index_at a j) i)))
      (of-name : Behind named b (count_at a j) (λ i. name_of (index_at a j) (count_at a j) i)) where
    abbrev x : List ℕ
    x = index_at a j

    index-good : (n i p : ℕ) (l : List ℕ) → i + n ≤ count_at a j → b + count_at a j ≤ c → place_of x (count_at a j) i ≡ p → i + n ≤ cut_of x p n i → Good (b + i) l
        → Good (b + (i + n)) (enter_all j x (place_at a j) n (b + i) i p l)
    unfolding enter_all cut_of name_of index_at
    index-good zero i p l e low q g y = let f : b + i ≡ b + (i + 0) = omega arith in subst (λ (k : ℕ). Good k l) f y
    index-good (suc n) i p l e low q g y =
        go (ℕ_discrete (after_of x p) 0) (λ g' y'. index-good n (i + 1) (after_of x p) next (omega arith) low (placed x (count_at a j) i p q) g' y')
      where
        next : List ℕ
        next = enter_of l (b + i) (key_of j (offset_of x i)) (place_at a j + p) (after_of x p - (p + 1))

        back : b + (i + 1) ≡ b + i + 1
        back = omega arith

        far : b + (i + 1 + n) ≡ b + (i + suc n)
        far = omega arith

        entered : (after_of x p ≡ 0 → ⊥) → Good (b + (i + 1)) next
        entered z =
            let has : ended x p ≡ true = has-name x p z in
            let in-index : i < count_at a j = omega arith in
            let name : name_at x p ≡ named (b + i) = ap (name_at x) (sym q) ∙ sym (of-name i in-index) in
            let lies : take (after_of x p - (p + 1)) (drop (place_at a j + p) a.bytes) ≡ named (b + i) =
            lies-in a.bytes (start_at a j) (end_at a j - start_at a j) p has ∙ name in
            rw (back, ← of-key i in-index) (step (b + i) l (omega arith) (place_at a j + p) (after_of x p - (p + 1)) lies y)

        go : Dec (after_of x p ≡ 0)
            → (i + 1 + n ≤ cut_of x (after_of x p) n (i + 1) → Good (b + (i + 1)) next → Good (b + (i + 1 + n)) (enter_all j x (place_at a j) n (b + (i + 1)) (i + 1) (after_of x p) next))
            → Good (b + (i + suc n)) (enter_all j x (place_at a j) n (b + i + 1) (i + 1) (after_of x p) next)
        go (yes z) r = absurd (omega (arith, rw (eq-eqb (after_of x p) 0 z) at g))
        go (no z) r = rw (← back, ← far) (r (omega (arith, rw (ne_eqb (after_of x p) 0 z) at g)) (entered z))

  -- an entry is of some index
  some : (n j e : ℕ) → e < entries_from a n j → n ≡ 0 → ⊥
  unfolding entries_from
  some zero j e h z = omega arith
  some (suc n) j e h z = omega arith

  either : (x : Bool) → x || true ≡ true
  either true = refl
  either false = refl

  -- those of the n indexes from j on
  pub archives-good : (n j b : ℕ) (l : List ℕ) → ((e : ℕ) → e < entries_from a n j → keys (b + e) ≡ key_of (member_from a n j e).archive (member_from a n j e).offset)
      → ((e : ℕ) → named (b + e) ≡ name_from a n j e) → b + entries_from a n j ≡ c → Whole a n j → Good b l → Good c (rows_from a n j b l)
  unfolding rows_from entries_from member_from name_from place_of
  archives-good zero j b l k m e w y = let f : b ≡ c = omega arith in subst (λ (x : ℕ). Good x l) f y
  archives-good (suc n) j b l k m e w y =
      archives-good n (j + 1) (b + count_at a j) (enter_all j (index_at a j) (place_at a j) (count_at a j) b 0 (names_at (count_at a j)) l) later-keys later-names (omega arith)
      (λ i g h. w i (omega arith) (omega arith)) entered
    where
      later : (e : ℕ) → b + count_at a j + e ≡ b + (count_at a j + e)
      later e = omega arith

      past : (e : ℕ) → ltb (count_at a j + e) (count_at a j) ≡ false
      past e = le-ltb (count_at a j + e) (count_at a j) (omega arith)

      rest : (e : ℕ) → count_at a j + e - count_at a j ≡ e
      rest e = omega arith

      later-keys : (e : ℕ) → e < entries_from a n (j + 1) → keys (b + count_at a j + e) ≡ key_of (member_from a n (j + 1) e).archive (member_from a n (j + 1) e).offset
      later-keys e h = ap keys (later e) ∙ k (count_at a j + e) (omega arith) ∙ rw (past e, rest e, ne_eqb n 0 (some n (j + 1) e h))

      later-names : (e : ℕ) → named (b + count_at a j + e) ≡ name_from a n (j + 1) e
      later-names e = ap named (later e) ∙ m (count_at a j + e) ∙ rw (past e, rest e)

      own-keys : Behind keys b (count_at a j) (λ i. key_of j (offset_of (index_at a j) i))
      own-keys i h = k i (omega arith) ∙ rw (lt-ltb i (count_at a j) h, either (eqb n 0))

      own-names : Behind named b (count_at a j) (λ i. name_of (index_at a j) (count_at a j) i)
      own-names i h = m i ∙ rw (lt-ltb i (count_at a j) h)

      entered : Good (b + count_at a j) (enter_all j (index_at a j) (place_at a j) (count_at a j) b 0 (names_at (count_at a j)) l)
      entered =
          let z : b + 0 ≡ b = omega arith in
          let u : 0 + count_at a j ≡ count_at a j = omega arith in
          let whole = w j (omega arith) (omega arith) in
          let r : Good (b + (0 + count_at a j)) (enter_all j (index_at a j) (place_at a j) (count_at a j) (b + 0) 0 (names_at (count_at a j)) l) =
          index-good j b own-keys own-names (count_at a j) 0 (names_at (count_at a j)) l (omega arith) (omega arith) refl (omega (arith, whole)) (subst (λ (i : ℕ). Good i l) (sym z) y) in
          rw (u, z) at r

-- the rows of indexes whose names are whole
pub rows-entered : (a : Archives) (l : List ℕ) → entries_in a * 8 ≤ length l → Whole a (length a.ends) 0
    → Entered a.bytes (key_in a) (name_in a) (entries_in a) (entries_in a) (rows_of a l)
rows-entered a l r w =
    archives-good a (key_in a) (name_in a) (entries_in a) (Entered a.bytes (key_in a) (name_in a) (entries_in a))
    (λ k m h p n lies y. enter-entered a.bytes (key_in a) (name_in a) (entries_in a) k m y p n lies h) (length a.ends) 0 0 l (λ e h. ap (key_in a) (zero-plus e)) (λ e. ap (name_in a) (zero-plus e)) (omega arith) w
    (no-entries a.bytes (key_in a) (name_in a) (entries_in a) l r)
  where
    zero-plus : (e : ℕ) → 0 + e ≡ e
    zero-plus e = omega arith
