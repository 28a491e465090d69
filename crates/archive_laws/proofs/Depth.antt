-- However the offsets of indexes are chosen, the search for an entry's member looks at no more than 37 entries, 33 of one archive: below a node at depth i
-- the keys have their i lowest bits in common, and a key has 36, of one archive 32.
-- Assumes nothing.
use Prim.Native.Nat.{ℕ, zero, suc, ◌+◌, ◌*◌, ◌-◌, ◌/◌, ◌%◌, ◌<◌, ◌≤◌}
use Rattle.std.proofs.Common.{not-suc-le-zero, add-one, ap, ◌∙◌, length-set, get_or-set_same, get_or-set_other, eq-eqb, ne_eqb}
use Rattle.std.proofs.Math.Decide.{ℕ_discrete}
use native.Mathlib.Omega.{arith}
use Rattle.std.specs.Prelude.{◌≡◌, List, [], ◌∷◌, eqb, get_or, set, take, drop, length}
use Rattle.std.proofs.Math.Path.{refl, sym, subst}
use Rattle.std.proofs.Math.Bool.{cond}
use Rattle.cells.specs.Proof.Rows.{row_same, row_other}
use Rattle.archive_index.specs.declared.opening.Spot.{Spot}
use Rattle.archive_index.specs.declared.opening.Spot.TheVariants.{Known, Free}
use Rattle.archive_index.specs.Index.{count_of, names_at, cut_of}
use Rattle.archive_index.specs.Archives.{Archives, one, entries_in, name_in, key_in}
use Rattle.archive_index.specs.Rows.{key_at, child_at, side_of, descend, spot_of, row_of, entered, enter_of, rows_of}
use Rattle.archive_laws.proofs.Bits.{half, half-word, half-key, Agree, half-more, agree-none, agree-back, agree_on, agree-more, agree-all}
use Rattle.archive_laws.specs.AcceptedStart.{Whole}
use Rattle.archive_laws.proofs.Entries.{Entered, Seen, seen, low-side, enter-entered, no-entries}
use Rattle.archive_laws.proofs.Opened.{archives-good}
use Rattle.archive_laws.proofs.EveryIndex.{offset-small, key-small}
use Rattle.archive_laws.proofs.One.{index-one, entries-one, key-one}

module _ (s : List ℕ) (keys : ℕ → ℕ) (named : ℕ → List ℕ) (c : ℕ) where
  -- entry x is entry j's child in field f
  record Edge (depth : ℕ → ℕ) (j f x : ℕ) : Type 0 where
    level : depth x ≡ depth j + 1
    above : Agree (depth j) (keys x) (keys j)
    side : side_of (half (depth j) (keys x)) ≡ f

  record Tree (k : ℕ) (l : List ℕ) : Type 0 where
    depth : ℕ → ℕ
    top : depth 0 ≡ 0
    edge : (j f : ℕ) → j < k → 2 ≤ f → f < 4 → (child_at l j f ≡ 0 → ⊥) → Edge depth j f (child_at l j f - 1)

  module _ (k : ℕ) (l : List ℕ) (y : Entered s keys named c k l) (t : Tree k l) where
    abbrev depth : ℕ → ℕ
    depth = t.depth

    -- entry at is on the way of offset o, of which q is left
    record On (o at q : ℕ) : Type 0 where
      above : Agree (depth at) (keys at) o
      rest : q ≡ half (depth at) o

    on-top : (o : ℕ) → On o 0 o
    unfolding half
    on-top o = record {
      above = rw t.top (agree-none (keys 0) o);
      rest = sym (rw t.top);
    }

    on-down : (o at q : ℕ) → at < k → (child_at l at (side_of q) ≡ 0 → ⊥) → On o at q → On o (child_at l at (side_of q) - 1) (q / 2)
    on-down o at q h z w =
        let e = t.edge at (side_of q) h (omega arith) (low-side q) z in
        let x = child_at l at (side_of q) - 1 in
        let deep : depth x ≡ suc (depth at) = e.level ∙ add-one (depth at) in
        let bit : half (depth at) (keys x) % 2 ≡ half (depth at) o % 2 = omega (arith, e.side, ap (λ (n : ℕ). n % 2) w.rest) in
        record {
          above =
              subst (λ (n : ℕ). Agree n (keys x) o) (sym deep)
              (agree-more (depth at) (keys x) o (agree_on (depth at) (keys x) (keys at) o e.above w.above) bit);
          rest = ap (λ (n : ℕ). n / 2) w.rest ∙ sym (half-more (depth at) o) ∙ ap (λ (n : ℕ). half n o) (sym deep);
        }

    -- an empty cell where the search ended is on the way
    abbrev Hangs : ℕ → Spot → Type 0
    Hangs o (Known r) = Unit {0}
    Hangs o (Free a f) = (Agree (depth a) (keys a) o) × (side_of (half (depth a) o) ≡ f)

    hangs : (o d n at q : ℕ) → at < k → On o at q → Hangs o (descend l o d at q n)
    unfolding descend
    hangs o d zero at q h w = tt
    hangs o d (suc n) at q h w = go (ℕ_discrete (key_at l at) o) (ℕ_discrete (child_at l at f) 0) (λ i j. hangs o d n (child_at l at f - 1) (q / 2) i j)
      where
        f : ℕ
        f = side_of q

        go : Dec (key_at l at ≡ o) → Dec (child_at l at f ≡ 0)
            → (child_at l at f - 1 < k → On o (child_at l at f - 1) (q / 2) → Hangs o (descend l o d (child_at l at f - 1) (q / 2) n))
            → Hangs o (cond (eqb (key_at l at) o) (Known at) (cond (eqb (child_at l at f) 0) (Free at f) (descend l o d (child_at l at f - 1) (q / 2) n)))
        go (yes e) z r = rw (eq-eqb (key_at l at) o e) tt
        go (no e) (yes z) r = rw (ne_eqb (key_at l at) o e, eq-eqb (child_at l at f) 0 z) (w.above, ap side_of (sym w.rest))
        go (no e) (no z) r =
            let down = y.below at f h (omega arith) (low-side q) in
            rw (ne_eqb (key_at l at) o e, ne_eqb (child_at l at f) 0 z) (r (omega arith) (on-down o at q h z w))

    -- keys have so many bits: i levels above the last one, i + 1 entries are looked at and no more
    module _ (bits : ℕ) (small : (j : ℕ) → half bits (keys j) ≡ 0) (o : ℕ) (low : half bits o ≡ 0) (d : ℕ) where
      enough : (i n at q : ℕ) → at < k → On o at q → depth at + i ≡ bits → i < n → descend l o d at q n ≡ descend l o d at q (suc i)
      unfolding descend
      enough i zero at q h w e g = absurd (not-suc-le-zero g)
      enough zero (suc n) at q h w e g =
          let last : depth at ≡ bits = omega arith in
          let found : keys at ≡ o = agree-all bits (keys at) o (subst (λ (x : ℕ). Agree x (keys at) o) last w.above) (small at) low in
          rw (eq-eqb (key_at l at) o (y.keyed at h ∙ found))
      enough (suc i) (suc n) at q h w e g =
          go (ℕ_discrete (child_at l at f) 0) (λ a b u. enough i n (child_at l at f - 1) (q / 2) a b u (omega arith))
        where
          f : ℕ
          f = side_of q

          go : Dec (child_at l at f ≡ 0)
              → (child_at l at f - 1 < k → On o (child_at l at f - 1) (q / 2) → depth (child_at l at f - 1) + i ≡ bits
              → descend l o d (child_at l at f - 1) (q / 2) n ≡ descend l o d (child_at l at f - 1) (q / 2) (suc i))
              → cond (eqb (key_at l at) o) (Known at) (cond (eqb (child_at l at f) 0) (Free at f) (descend l o d (child_at l at f - 1) (q / 2) n))
              ≡ cond (eqb (key_at l at) o) (Known at) (cond (eqb (child_at l at f) 0) (Free at f) (descend l o d (child_at l at f - 1) (q / 2) (suc i)))
          go (yes z) r = rw (eq-eqb (child_at l at f) 0 z)
          go (no z) r =
              let down = y.below at f h (omega arith) (low-side q) in
              let deep = (t.edge at f h (omega arith) (low-side q) z).level in
              rw (r (omega arith) (on-down o at q h z w) (omega arith))

      short-search : (n : ℕ) → 0 < k → bits < n → descend l o d 0 o n ≡ descend l o d 0 o (suc bits)
      short-search n h g = enough bits n 0 o h (on-top o) (omega (arith, t.top)) (omega arith)

    -- ---- entry k is entered

    module _ (h : k < c) (p n : ℕ) where
      childless : (m : List ℕ) (r g : ℕ) → length m ≡ length l → 2 ≤ g → g < 4 → child_at (row_of m k r p n (keys k)) k g ≡ 0
      childless m r g e a b = go (ℕ_discrete g 2)
        where
          own : (i : ℕ) → i < 8 → child_at (row_of m k r p n (keys k)) k i ≡ get_or (0 ∷ r ∷ 0 ∷ 0 ∷ p ∷ n ∷ 0 ∷ keys k ∷ []) i 0
          own i u = row_same m k (0 ∷ r ∷ 0 ∷ 0 ∷ p ∷ n ∷ 0 ∷ keys k ∷ []) i refl u (omega (arith, y.room))

          go : Dec (g ≡ 2) → child_at (row_of m k r p n (keys k)) k g ≡ 0
          go (yes q) = rw q (own 2 (omega arith))
          go (no q) = let u : g ≡ 3 = omega arith in rw u (own 3 (omega arith))

      other : (m : List ℕ) (r j g : ℕ) → (j ≡ k → ⊥) → g < 4 → child_at (row_of m k r p n (keys k)) j g ≡ child_at m j g
      other m r j g e b = row_other m k (0 ∷ r ∷ 0 ∷ 0 ∷ p ∷ n ∷ 0 ∷ keys k ∷ []) j g refl (omega arith) e

      known-tree : (r : ℕ) → Tree (k + 1) (row_of l k r p n (keys k))
      known-tree r = record { depth = depth; top = t.top; edge = λ j f i a b z. edge j f i a b z (ℕ_discrete j k) }
        where
          edge : (j f : ℕ) → j < k + 1 → 2 ≤ f → f < 4 → (child_at (row_of l k r p n (keys k)) j f ≡ 0 → ⊥) → Dec (j ≡ k) → Edge depth j f (child_at (row_of l k r p n (keys k)) j f - 1)
          edge j f i a b z (yes e) = absurd (z (rw e (childless l r f refl a b)))
          edge j f i a b z (no e) =
              let q = other l r j f e b in
              subst (λ (x : ℕ). Edge depth j f (x - 1)) (sym q) (t.edge j f (omega arith) a b (λ u. z (q ∙ u)))

      free-tree : (a f : ℕ) → a < k → 2 ≤ f → f < 4 → Hangs (keys k) (Free a f) → Tree (k + 1) (row_of (set l (a * 8 + f) (k + 1)) k k p n (keys k))
      free-tree a f low u v (above, side) = record {
        depth = deeper;
        top = old 0 (omega arith) ∙ t.top;
        edge = λ j g i x b z. edge j g i x b z (ℕ_discrete j k) (ℕ_discrete (j * 8 + g) (a * 8 + f));
      }
        where
          m : List ℕ
          m = set l (a * 8 + f) (k + 1)

          deeper : ℕ → ℕ
          deeper j = cond (eqb j k) (depth a + 1) (depth j)

          old : (j : ℕ) → j < k → deeper j ≡ depth j
          old j i = rw (ne_eqb j k (λ e. omega arith))

          own : deeper k ≡ depth a + 1
          own = rw (eq-eqb k k refl)

          edge : (j g : ℕ) → j < k + 1 → 2 ≤ g → g < 4 → (child_at (row_of m k k p n (keys k)) j g ≡ 0 → ⊥) → Dec (j ≡ k) → Dec (j * 8 + g ≡ a * 8 + f)
              → Edge deeper j g (child_at (row_of m k k p n (keys k)) j g - 1)
          edge j g i x b z (yes e) w = absurd (z (rw e (childless m k g (length-set l (a * 8 + f) (k + 1)) x b)))
          edge j g i x b z (no e) (yes w) =
              let cell : child_at (row_of m k k p n (keys k)) j g ≡ k + 1 =
              other m k j g e b ∙ ap (λ (q : ℕ). get_or m q 0) w ∙ get_or-set_same l (a * 8 + f) (k + 1) 0 (omega (arith, y.room)) in
              let here : child_at (row_of m k k p n (keys k)) j g - 1 ≡ k = omega arith in
              let same-j : j ≡ a = omega arith in
              let same-g : g ≡ f = omega arith in
              rw (here, same-j, same-g)
              (record {
                level = own ∙ ap (λ (q : ℕ). q + 1) (sym (old a low));
                above = rw (old a low) (agree-back (depth a) (keys a) (keys k) above);
                side = rw (old a low) side;
              })
          edge j g i x b z (no e) (no w) =
              let cell : child_at (row_of m k k p n (keys k)) j g ≡ child_at l j g = other m k j g e b ∙ get_or-set_other l (a * 8 + f) (j * 8 + g) (k + 1) 0 w in
              let before = t.edge j g (omega arith) x b (λ q. z (cell ∙ q)) in
              let down = y.below j g (omega arith) x b in
              let up = y.later j g (omega arith) x b (λ q. z (cell ∙ q)) in
              let at_j : deeper j ≡ depth j = old j (omega arith) in
              let at_x : deeper (child_at l j g - 1) ≡ depth (child_at l j g - 1) = old (child_at l j g - 1) (omega arith) in
              rw cell (record {
                level = at_x ∙ before.level ∙ ap (λ (q : ℕ). q + 1) (sym at_j);
                above = rw at_j before.above;
                side = rw at_j before.side;
              })

      spot-tree : (x : Spot) → Seen s keys named c k l y x → Tree (k + 1) (entered l k x p n (keys k))
      spot-tree (Known r) i = known-tree r
      spot-tree (Free a f) (i, low, u, v, z, e) =
          free-tree a f low u v (subst (Hangs (keys k)) e (hangs (keys k) k k 0 (keys k) (omega arith) (on-top (keys k))))

    enter-tree : k < c → (p n : ℕ) → Tree (k + 1) (enter_of l k (keys k) p n)
    unfolding enter_of
    enter-tree h p n = spot-tree h p n (spot_of l k (keys k)) (seen s keys named c k l y)

  -- ---- the first entries

  record Both (k : ℕ) (l : List ℕ) : Type 0 where
    rows : Entered s keys named c k l
    tree : Tree k l

  both-none : (l : List ℕ) → c * 8 ≤ length l → Both 0 l
  both-none l r = record { rows = no-entries s keys named c l r; tree = record { depth = λ j. 0; top = refl; edge = λ j f u a b z. absurd (not-suc-le-zero u) } }

  both-more : (k : ℕ) (l : List ℕ) → k < c → (p n : ℕ) → take n (drop p s) ≡ named k → Both k l → Both (k + 1) (enter_of l k (keys k) p n)
  both-more k l h p n lies y = record { rows = enter-entered s keys named c k l y.rows p n lies h; tree = enter-tree k l y.rows y.tree h p n }

-- the rows of indexes whose names are whole: the search for a member is at its end after one entry more than keys have bits
pub shallow : (a : Archives) (l : List ℕ) → entries_in a * 8 ≤ length l → Whole a (length a.ends) 0 → (bits : ℕ) → ((e : ℕ) → half bits (key_in a e) ≡ 0) → 0 < entries_in a
    → (o d n : ℕ) → half bits o ≡ 0 → bits < n → descend (rows_of a l) o d 0 o n ≡ descend (rows_of a l) o d 0 o (suc bits)
shallow a l r w bits small some o d n low g =
    let y : Both a.bytes (key_in a) (name_in a) (entries_in a) (entries_in a) (rows_of a l) =
    archives-good a (key_in a) (name_in a) (entries_in a) (Both a.bytes (key_in a) (name_in a) (entries_in a)) (both-more a.bytes (key_in a) (name_in a) (entries_in a)) (length a.ends) 0 0 l
    (λ e h. ap (key_in a) (zero-plus e)) (λ e. ap (name_in a) (zero-plus e)) (omega arith) w (both-none a.bytes (key_in a) (name_in a) (entries_in a) l r) in
    short-search a.bytes (key_in a) (name_in a) (entries_in a) (entries_in a) (rows_of a l) y.rows y.tree bits small o low d n some g
  where
    zero-plus : (e : ℕ) → 0 + e ≡ e
    zero-plus e = omega arith

-- of bytes: in several archives 37 steps suffice
pub shallow-several : (a : Archives) → ((i : ℕ) → get_or a.bytes i 0 < 256) → length a.ends ≤ 16 → (l : List ℕ) → entries_in a * 8 ≤ length l → Whole a (length a.ends) 0 → 0 < entries_in a
    → (o d n : ℕ) → o < 0x1000000000 → 37 ≤ n → descend (rows_of a l) o d 0 o n ≡ descend (rows_of a l) o d 0 o 37
shallow-several a bytes few l room w some o d n low g = shallow a l room w 36 (λ e. half-key (key_in a e) (key-small a bytes few e)) some o d n (half-key o low) g

-- in one 33
pub shallow-one : (s : List ℕ) → ((i : ℕ) → get_or s i 0 < 256) → (l : List ℕ) → count_of s * 8 ≤ length l → count_of s ≤ cut_of s (names_at (count_of s)) (count_of s) 0 → 0 < count_of s
    → (o d n : ℕ) → o < 0x100000000 → 33 ≤ n → descend (rows_of (one s) l) o d 0 o n ≡ descend (rows_of (one s) l) o d 0 o 33
shallow-one s bytes l room w some o d n low g =
    shallow (one s) l (omega (arith, room, entries-one s)) whole 32 (λ e. half-word (key_in (one s) e) (omega (arith, key-one s e, offset-small s bytes e)))
    (omega (arith, some, entries-one s)) o d n (half-word o low) g
  where
    whole : Whole (one s) 1 0
    whole i a b = let z : i ≡ 0 = omega arith in rw (z, index-one s) w
