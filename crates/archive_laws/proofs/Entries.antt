-- The rows that the start makes say what the indexes say: each entry's name, and the first entry of its member, found in a tree of first entries.
-- Assumes nothing.
use Prim.Native.Nat.{ℕ, zero, suc, ◌+◌, ◌*◌, ◌-◌, ◌/◌, ◌%◌, ◌<◌, ◌≤◌}
use Rattle.std.proofs.Common.{not-suc-le-zero, mod-lt, sym, ◌∙◌, length-set, get_or-set_same, get_or-set_other}
use Rattle.std.proofs.Math.Decide.{ℕ_discrete}
use native.Mathlib.Omega.{arith}
use Rattle.std.specs.Prelude.{◌≡◌, Bool, cond, List, [], ◌∷◌, get_or, set, take, drop}
use Rattle.std.proofs.Math.Path.{refl, ap, subst}
use Rattle.std.proofs.Math.Bool.{true, false, not}
use Rattle.std.proofs.Math.Dec.{eqb}
use Rattle.std.proofs.Math.ListN.{length}
use borrow.Author.Tests.{eq-eqb, ne_eqb}
use Rattle.cells.specs.Proof.Rows.{length-put_row, row_same, row_other}
use Rattle.archive_index.specs.declared.opening.Spot.{Spot}
use Rattle.archive_index.specs.declared.opening.Spot.TheVariants.{Known, Free}
use Rattle.archive_index.specs.Rows.{required_at, member_at, key_at, child_at, pass_at, stored_name, side_of, descend, spot_of, row_of, entered, enter_of}
use Rattle.archive_laws.specs.Members.{Same, any_below, is_first}
use Rattle.archive_laws.specs.Counts.{First}
use Rattle.archive_laws.proofs.Counts.{clash, any-in, first-of}

-- ---- where a search ends

abbrev is_known : Spot → Bool
is_known (Known r) = true
is_known (Free a f) = false

abbrev parent_of : Spot → ℕ
parent_of (Known r) = r
parent_of (Free a f) = a

abbrev field_of : Spot → ℕ
field_of (Known r) = 0
field_of (Free a f) = f

apart : {P : Type 0} (r a f : ℕ) → Free a f ≡ Known r → P
apart r a f e = clash true refl (sym (ap is_known e))

pub low-side : (q : ℕ) → side_of q < 4
low-side q = let h : q % 2 < 2 = mod-lt q (omega arith) in omega arith

-- a child's cell is as it was, or it was empty and entry k stands there now
data Child (k x y : ℕ) : Type 0 where
  kept : y ≡ x → Child k x y
  grown : x ≡ 0 → y ≡ k + 1 → Child k x y

-- of whatever the entries are the entries of: entry k's member is known by the key `keys k`, its name is `named k`
module _ (s : List ℕ) (keys : ℕ → ℕ) (named : ℕ → List ℕ) (c : ℕ) where
  -- the rows of the first k entries; a child is later than its parent, and the search for a first entry's member ends at that entry
  pub record Entered (k : ℕ) (l : List ℕ) : Type 0 where
    pub room : c * 8 ≤ length l
    pub name : (j : ℕ) → j < k → stored_name s l j ≡ named j
    pub keyed : (j : ℕ) → j < k → key_at l j ≡ keys j
    pub member : (j : ℕ) → j < k → First keys j (member_at l j)
    pub unqueued : (j : ℕ) → j < k → pass_at l j ≡ 0
    pub unmarked : (j : ℕ) → j < k → required_at l j ≡ 0
    pub below : (j f : ℕ) → j < k → 2 ≤ f → f < 4 → child_at l j f ≤ k
    pub later : (j f : ℕ) → j < k → 2 ≤ f → f < 4 → (child_at l j f ≡ 0 → ⊥) → j + 1 < child_at l j f
    pub met : (h : ℕ) → h < k → is_first keys h ≡ true → (d n : ℕ) → k ≤ n → descend l (keys h) d 0 (keys h) n ≡ Known h

  -- no entry before a first one is of its member
  none_before : (j k : ℕ) → is_first keys k ≡ true → j < k → Same keys j k → ⊥
  unfolding is_first
  none_before j k i h e =
      let some : any_below (λ x. eqb (keys x) (keys k)) k ≡ true = any-in (λ x. eqb (keys x) (keys k)) k j h (eq-eqb (keys j) (keys k) e) in
      clash true refl (sym i ∙ ap not some)

  module _ (k : ℕ) (l : List ℕ) (y : Entered k l) where
    -- ---- the search

    abbrev Ends : ℕ → Spot → Type 0
    Ends o (Known r) = (r < k) × (keys r ≡ o)
    Ends o (Free a f) = (a < k) × (2 ≤ f) × (f < 4) × (child_at l a f ≡ 0)

    ends : (o d n at q : ℕ) → at < k → k ≤ at + n → Ends o (descend l o d at q n)
    unfolding descend
    ends o d zero at q h g = absurd (omega arith)
    ends o d (suc n) at q h g = go (ℕ_discrete (key_at l at) o) (ℕ_discrete (child_at l at f) 0) (λ i j. ends o d n (child_at l at f - 1) (q / 2) i j)
      where
        f : ℕ
        f = side_of q

        go : Dec (key_at l at ≡ o) → Dec (child_at l at f ≡ 0)
            → (child_at l at f - 1 < k → k ≤ child_at l at f - 1 + n → Ends o (descend l o d (child_at l at f - 1) (q / 2) n))
            → Ends o (cond (eqb (key_at l at) o) (Known at) (cond (eqb (child_at l at f) 0) (Free at f) (descend l o d (child_at l at f - 1) (q / 2) n)))
        go (yes e) t r = rw (eq-eqb (key_at l at) o e) (h, sym (y.keyed at h) ∙ e)
        go (no e) (yes z) r = rw (ne_eqb (key_at l at) o e, eq-eqb (child_at l at f) 0 z) (h, omega arith, low-side q, z)
        go (no e) (no z) r =
            let up = y.later at f h (omega arith) (low-side q) z in
            let down = y.below at f h (omega arith) (low-side q) in
            rw (ne_eqb (key_at l at) o e, ne_eqb (child_at l at f) 0 z) (r (omega arith) (omega arith))

    -- what is known of entry k where its search ended
    abbrev pub Seen : Spot → Type 0
    Seen (Known r) = First keys k r × (is_first keys k ≡ true → k ≡ 0)
    Seen (Free a f) = First keys k k × (a < k) × (2 ≤ f) × (f < 4) × (child_at l a f ≡ 0) × (descend l (keys k) k 0 (keys k) k ≡ Free a f)

    -- an earlier entry of the member
    earlier : (r : ℕ) → First keys k r → r < k → Seen (Known r)
    earlier r f h = (f, λ i. absurd (none_before r k i h f.same))

    searched : 0 < k → Seen (descend l (keys k) k 0 (keys k) k)
    searched h = go (first-of keys (k + 1) k (omega arith))
      where
        o : ℕ
        o = keys k

        new : First keys k k → (x : Spot) → descend l o k 0 o k ≡ x → Ends o x → Seen x
        new f (Known r) e i = absurd (none_before r k f.first i.0 i.1)
        new f (Free a g) e i = (f, i.0, i.1, i.2, i.3, e)

        go : ((r : ℕ) × First keys k r) → Seen (descend l o k 0 o k)
        go (r, f) = by (ℕ_discrete r k)
          where
            by : Dec (r ≡ k) → Seen (descend l o k 0 o k)
            by (yes e) = new (rw e at f) (descend l o k 0 o k) refl (ends o k k 0 o h (omega arith))
            by (no e) =
                let low : r < k = omega (arith, f.low) in
                let hit : descend l o k 0 o k ≡ Known r = subst (λ (x : ℕ). descend l x k 0 x k ≡ Known r) f.same (y.met r low f.first k k (omega arith)) in
                subst Seen (sym hit) (earlier r f low)

    pub seen : Seen (spot_of l k (keys k))
    unfolding spot_of
    seen = go (ℕ_discrete k 0) (ℕ_discrete (key_at l (k - 1)) (keys k))
      where
        root : k ≡ 0 → First keys k k
        root z = go (first-of keys (k + 1) k (omega arith))
          where
            go : ((r : ℕ) × First keys k r) → First keys k k
            go (r, f) = let e : r ≡ k = omega (arith, f.low) in rw e at f

        go : Dec (k ≡ 0) → Dec (key_at l (k - 1) ≡ keys k)
            → Seen (cond (eqb k 0) (Known k) (cond (eqb (key_at l (k - 1)) (keys k)) (Known (member_at l (k - 1))) (descend l (keys k) k 0 (keys k) k)))
        go (yes z) t = rw (eq-eqb k 0 z) (root z, λ i. z)
        go (no z) (yes e) =
            let f = y.member (k - 1) (omega arith) in
            rw (ne_eqb k 0 z, eq-eqb (key_at l (k - 1)) (keys k) e)
            (earlier (member_at l (k - 1)) (record { low = omega (arith, f.low); same = f.same ∙ sym (y.keyed (k - 1) (omega arith)) ∙ e; first = f.first }) (omega (arith, f.low)))
        go (no z) (no e) = rw (ne_eqb k 0 z, ne_eqb (key_at l (k - 1)) (keys k) e) (searched (omega arith))

    -- ---- the search in later rows, in which no child of an earlier entry was replaced

    module _ (m : List ℕ) (same-key : (j : ℕ) → j < k → key_at m j ≡ key_at l j) (children : (j f : ℕ) → j < k → 2 ≤ f → f < 4 → Child k (child_at l j f) (child_at m j f)) where
      still : (j f : ℕ) → j < k → 2 ≤ f → f < 4 → (child_at l j f ≡ 0 → ⊥) → child_at m j f ≡ child_at l j f
      still j f h a b z = go (children j f h a b)
        where
          go : Child k (child_at l j f) (child_at m j f) → child_at m j f ≡ child_at l j f
          go (kept e) = e
          go (grown e q) = absurd (z e)

      -- who was met is met
      met-still : (o d r n at q : ℕ) → at < k → descend l o d at q n ≡ Known r → descend m o d at q n ≡ Known r
      unfolding descend
      met-still o d r zero at q h e = e
      met-still o d r (suc n) at q h e =
          go (ℕ_discrete (key_at l at) o) (ℕ_discrete (child_at l at f) 0) e (λ i g. met-still o d r n (child_at l at f - 1) (q / 2) i g)
        where
          f : ℕ
          f = side_of q

          go : Dec (key_at l at ≡ o) → Dec (child_at l at f ≡ 0)
              → cond (eqb (key_at l at) o) (Known at) (cond (eqb (child_at l at f) 0) (Free at f) (descend l o d (child_at l at f - 1) (q / 2) n)) ≡ Known r
              → (child_at l at f - 1 < k → descend l o d (child_at l at f - 1) (q / 2) n ≡ Known r → descend m o d (child_at l at f - 1) (q / 2) n ≡ Known r)
              → cond (eqb (key_at m at) o) (Known at) (cond (eqb (child_at m at f) 0) (Free at f) (descend m o d (child_at m at f - 1) (q / 2) n)) ≡ Known r
          go (yes t) z g i = rw (same-key at h, eq-eqb (key_at l at) o t) (rw (eq-eqb (key_at l at) o t) at g)
          go (no t) (yes z) g i = apart r at f (rw (ne_eqb (key_at l at) o t, eq-eqb (child_at l at f) 0 z) at g)
          go (no t) (no z) g i =
              let down = y.below at f h (omega arith) (low-side q) in
              rw (still at f h (omega arith) (low-side q) z, same-key at h, ne_eqb (key_at l at) o t, ne_eqb (child_at l at f) 0 z)
              (i (omega arith) (rw (ne_eqb (key_at l at) o t, ne_eqb (child_at l at f) 0 z) at g))

      -- where an empty cell was met, entry k is met now
      met-new : (a f : ℕ) → key_at m k ≡ keys k → child_at m a f ≡ k + 1 → (d e n : ℕ) (at q i : ℕ) → at < k → n < i → descend l (keys k) d at q n ≡ Free a f
          → descend m (keys k) e at q i ≡ Known k
      unfolding descend
      met-new a f v₀ w d e n at q zero h g r = absurd (not-suc-le-zero g)
      met-new a f v₀ w d e zero at q (suc i) h g r = apart d a f (sym r)
      met-new a f v₀ w d e (suc n) at q (suc i) h g r =
          go (ℕ_discrete (key_at l at) (keys k)) (ℕ_discrete (child_at l at x) 0) r (λ u v. met-new a f v₀ w d e n (child_at l at x - 1) (q / 2) i u (omega arith) v)
        where
          x : ℕ
          x = side_of q

          here : (j : ℕ) → 0 < j → descend m (keys k) e (k + 1 - 1) (q / 2) j ≡ Known k
          here zero u = absurd (omega arith)
          here (suc j) u = let back : k + 1 - 1 ≡ k = omega arith in rw (back, v₀, eq-eqb (keys k) (keys k) refl)

          go : Dec (key_at l at ≡ keys k) → Dec (child_at l at x ≡ 0)
              → cond (eqb (key_at l at) (keys k)) (Known at)
              (cond (eqb (child_at l at x) 0) (Free at x) (descend l (keys k) d (child_at l at x - 1) (q / 2) n)) ≡ Free a f
              → (child_at l at x - 1 < k → descend l (keys k) d (child_at l at x - 1) (q / 2) n ≡ Free a f
              → descend m (keys k) e (child_at l at x - 1) (q / 2) i ≡ Known k)
              → cond (eqb (key_at m at) (keys k)) (Known at)
              (cond (eqb (child_at m at x) 0) (Free at x) (descend m (keys k) e (child_at m at x - 1) (q / 2) i)) ≡ Known k
          go (yes t) z u v = apart at a f (sym (rw (eq-eqb (key_at l at) (keys k) t) at u))
          go (no t) (yes z) u v =
              let found : Free at x ≡ Free a f = rw (ne_eqb (key_at l at) (keys k) t, eq-eqb (child_at l at x) 0 z) at u in
              let own : child_at m at x ≡ k + 1 = ap (λ (j : ℕ). child_at m j x) (ap parent_of found) ∙ ap (λ (j : ℕ). child_at m a j) (ap field_of found) ∙ w in
              rw (same-key at h, ne_eqb (key_at l at) (keys k) t, own, ne_eqb (k + 1) 0 (λ j. omega arith)) (here i (omega arith))
          go (no t) (no z) u v =
              let down = y.below at x h (omega arith) (low-side q) in
              rw (still at x h (omega arith) (low-side q) z, same-key at h, ne_eqb (key_at l at) (keys k) t, ne_eqb (child_at l at x) 0 z)
              (v (omega arith) (rw (ne_eqb (key_at l at) (keys k) t, ne_eqb (child_at l at x) 0 z) at u))

    -- ---- entry k is entered

    -- its name lies at p
    module _ (p n₀ : ℕ) (lies : take n₀ (drop p s) ≡ named k) (h : k < c) where
      -- its row is written over cells m, which differ from the rows so far in a child at most
      module _ (m : List ℕ) (r : ℕ) (f : First keys k r) (room : length m ≡ length l) (rest : (j g : ℕ) → g < 8 → (2 ≤ g → g < 4 → ⊥) → get_or m (j * 8 + g) 0 ≡ get_or l (j * 8 + g) 0)
          (children : (j g : ℕ) → j < k → 2 ≤ g → g < 4 → Child k (child_at l j g) (child_at m j g)) where
        abbrev row : List ℕ
        row = 0 ∷ r ∷ 0 ∷ 0 ∷ p ∷ n₀ ∷ 0 ∷ keys k ∷ []

        abbrev t : List ℕ
        t = row_of m k r p n₀ (keys k)

        own : (g : ℕ) → g < 8 → get_or t (k * 8 + g) 0 ≡ get_or row g 0
        own g i = row_same m k row g refl i (omega (arith, y.room))

        other : (j g : ℕ) → (j ≡ k → ⊥) → g < 8 → get_or t (j * 8 + g) 0 ≡ get_or m (j * 8 + g) 0
        other j g e i = row_other m k row j g refl i e

        as-was : (j g : ℕ) → (j ≡ k → ⊥) → g < 8 → (2 ≤ g → g < 4 → ⊥) → get_or t (j * 8 + g) 0 ≡ get_or l (j * 8 + g) 0
        as-was j g e i q = other j g e i ∙ rest j g i q

        childless : (g : ℕ) → 2 ≤ g → g < 4 → child_at t k g ≡ 0
        childless g a b = go (ℕ_discrete g 2)
          where
            go : Dec (g ≡ 2) → child_at t k g ≡ 0
            go (yes e) = rw e (own 2 (omega arith))
            go (no e) = let q : g ≡ 3 = omega arith in rw q (own 3 (omega arith))

        family : (j g : ℕ) → j < k → 2 ≤ g → g < 4 → Child k (child_at l j g) (child_at t j g)
        family j g i a b = subst (Child k (child_at l j g)) (sym (other j g (λ e. omega arith) (omega arith))) (children j g i a b)

        same-key : (j : ℕ) → j < k → key_at t j ≡ key_at l j
        same-key j i = as-was j 7 (λ e. omega arith) (omega arith) (λ u v. omega arith)

        own-key : key_at t k ≡ keys k
        own-key = own 7 (omega arith)

        module _ (own-met : is_first keys k ≡ true → (d n : ℕ) → k + 1 ≤ n → descend t (keys k) d 0 (keys k) n ≡ Known k) where
          name-k : stored_name s t k ≡ named k
          name-k = rw (own 4 (omega arith), own 5 (omega arith)) lies

          row-entered : Entered (k + 1) t
          row-entered = record {
            room = omega (arith, y.room, length-put_row m k row);
            name = λ j g. name j g (ℕ_discrete j k);
            keyed = λ j g. keyed j g (ℕ_discrete j k);
            member = λ j g. member j g (ℕ_discrete j k);
            unqueued = λ j g. unqueued j g (ℕ_discrete j k);
            unmarked = λ j g. unmarked j g (ℕ_discrete j k);
            below = λ j g i a b. below j g i a b (ℕ_discrete j k);
            later = λ j g i a b z. later j g i a b z (ℕ_discrete j k);
            met = λ j g i d n q. met j g i d n q (ℕ_discrete j k);
          }
            where
              name : (j : ℕ) → j < k + 1 → Dec (j ≡ k) → stored_name s t j ≡ named j
              name j g (yes e) = rw e name-k
              name j g (no e) = rw (as-was j 4 e (omega arith) (λ u v. omega arith), as-was j 5 e (omega arith) (λ u v. omega arith)) (y.name j (omega arith))

              keyed : (j : ℕ) → j < k + 1 → Dec (j ≡ k) → key_at t j ≡ keys j
              keyed j g (yes e) = rw e (own 7 (omega arith))
              keyed j g (no e) = as-was j 7 e (omega arith) (λ u v. omega arith) ∙ y.keyed j (omega arith)

              member : (j : ℕ) → j < k + 1 → Dec (j ≡ k) → First keys j (member_at t j)
              member j g (yes e) = rw (e, own 1 (omega arith)) f
              member j g (no e) = rw (as-was j 1 e (omega arith) (λ u v. omega arith)) (y.member j (omega arith))

              unqueued : (j : ℕ) → j < k + 1 → Dec (j ≡ k) → pass_at t j ≡ 0
              unqueued j g (yes e) = rw e (own 6 (omega arith))
              unqueued j g (no e) = as-was j 6 e (omega arith) (λ u v. omega arith) ∙ y.unqueued j (omega arith)

              unmarked : (j : ℕ) → j < k + 1 → Dec (j ≡ k) → required_at t j ≡ 0
              unmarked j g (yes e) = rw e (own 0 (omega arith))
              unmarked j g (no e) = as-was j 0 e (omega arith) (λ u v. omega arith) ∙ y.unmarked j (omega arith)

              below : (j g : ℕ) → j < k + 1 → 2 ≤ g → g < 4 → Dec (j ≡ k) → child_at t j g ≤ k + 1
              below j g i a b (yes e) = let z : child_at t j g ≡ 0 = rw e (childless g a b) in omega arith
              below j g i a b (no e) = go (family j g (omega arith) a b)
                where
                  go : Child k (child_at l j g) (child_at t j g) → child_at t j g ≤ k + 1
                  go (kept q) = let u = y.below j g (omega arith) a b in omega arith
                  go (grown q v) = omega arith

              later : (j g : ℕ) → j < k + 1 → 2 ≤ g → g < 4 → (child_at t j g ≡ 0 → ⊥) → Dec (j ≡ k) → j + 1 < child_at t j g
              later j g i a b z (yes e) = absurd (z (rw e (childless g a b)))
              later j g i a b z (no e) = go (family j g (omega arith) a b)
                where
                  go : Child k (child_at l j g) (child_at t j g) → j + 1 < child_at t j g
                  go (kept q) = let u = y.later j g (omega arith) a b (λ w. z (q ∙ w)) in omega arith
                  go (grown q v) = omega arith

              met : (j : ℕ) → j < k + 1 → is_first keys j ≡ true → (d n : ℕ) → k + 1 ≤ n → Dec (j ≡ k)
                  → descend t (keys j) d 0 (keys j) n ≡ Known j
              met j g i d n q (yes e) =
                  subst (λ (x : ℕ). descend t (keys x) d 0 (keys x) n ≡ Known x) (sym e) (own-met (rw e at i) d n q)
              met j g i d n q (no e) =
                  met-still t same-key family (keys j) d j n 0 (keys j) (omega arith) (y.met j (omega arith) i d n (omega arith))

      known-entered : (r : ℕ) → Seen (Known r) → Entered (k + 1) (row_of l k r p n₀ (keys k))
      unfolding descend
      known-entered r (f, i) = row-entered l r f refl (λ j g a b. refl) (λ j g a b q. kept refl) own-met
        where
          own-met : is_first keys k ≡ true → (d n : ℕ) → k + 1 ≤ n → descend (row_of l k r p n₀ (keys k)) (keys k) d 0 (keys k) n ≡ Known k
          own-met a d zero b = absurd (omega arith)
          own-met a d (suc n) b =
              let z = i a in
              let top : key_at (row_of l k r p n₀ (keys k)) 0 ≡ keys k =
              subst (λ (x : ℕ). key_at (row_of l k r p n₀ (keys k)) x ≡ keys k) z (own-key l r f refl (λ j g a b. refl) (λ j g a b q. kept refl)) in
              rw (eq-eqb (key_at (row_of l k r p n₀ (keys k)) 0) (keys k) top) (ap Known (sym z))

      free-entered : (a f : ℕ) → Seen (Free a f) → Entered (k + 1) (row_of (set l (a * 8 + f) (k + 1)) k k p n₀ (keys k))
      free-entered a f (i, low, u, v, z, e) =
          row-entered m k i (length-set l (a * 8 + f) (k + 1)) rest children
          (λ w d n g. met-new (row_of m k k p n₀ (keys k)) (same-key m k i (length-set l (a * 8 + f) (k + 1)) rest children) (family m k i (length-set l (a * 8 + f) (k + 1)) rest children) a f (own-key m k i (length-set l (a * 8 + f) (k + 1)) rest children) hung k d k 0 (keys k) n (omega arith) (omega arith) e)
        where
          m : List ℕ
          m = set l (a * 8 + f) (k + 1)

          rest : (j g : ℕ) → g < 8 → (2 ≤ g → g < 4 → ⊥) → get_or m (j * 8 + g) 0 ≡ get_or l (j * 8 + g) 0
          rest j g b n = get_or-set_other l (a * 8 + f) (j * 8 + g) (k + 1) 0 (λ q. n (omega arith) (omega arith))

          children : (j g : ℕ) → j < k → 2 ≤ g → g < 4 → Child k (child_at l j g) (child_at m j g)
          children j g b x w = go (ℕ_discrete (j * 8 + g) (a * 8 + f))
            where
              go : Dec (j * 8 + g ≡ a * 8 + f) → Child k (child_at l j g) (child_at m j g)
              go (yes q) =
                  grown (ap (λ (n : ℕ). get_or l n 0) q ∙ z) (ap (λ (n : ℕ). get_or m n 0) q ∙ get_or-set_same l (a * 8 + f) (k + 1) 0 (omega (arith, y.room)))
              go (no q) = kept (get_or-set_other l (a * 8 + f) (j * 8 + g) (k + 1) 0 q)

          hung : child_at (row_of m k k p n₀ (keys k)) a f ≡ k + 1
          hung =
              row_other m k (0 ∷ k ∷ 0 ∷ 0 ∷ p ∷ n₀ ∷ 0 ∷ keys k ∷ []) a f refl (omega arith) (λ q. omega arith)
              ∙ get_or-set_same l (a * 8 + f) (k + 1) 0 (omega (arith, y.room))

      pub enter-entered : Entered (k + 1) (enter_of l k (keys k) p n₀)
      unfolding enter_of
      enter-entered = go (spot_of l k (keys k)) seen
        where
          go : (x : Spot) → Seen x → Entered (k + 1) (entered l k x p n₀ (keys k))
          go (Known r) i = known-entered r i
          go (Free a f) i = free-entered a f i

  pub no-entries : (l : List ℕ) → c * 8 ≤ length l → Entered 0 l
  no-entries l r = record {
    room = r;
    name = λ j h. absurd (not-suc-le-zero h);
    keyed = λ j h. absurd (not-suc-le-zero h);
    member = λ j h. absurd (not-suc-le-zero h);
    unqueued = λ j h. absurd (not-suc-le-zero h);
    unmarked = λ j h. absurd (not-suc-le-zero h);
    below = λ j f h a b. absurd (not-suc-le-zero h);
    later = λ j f h a b z. absurd (not-suc-le-zero h);
    met = λ j h i d n q. absurd (not-suc-le-zero h);
  }
