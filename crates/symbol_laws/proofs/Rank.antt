-- Theorems over specs/Rank.antt.
-- Assumes nothing.
use Rattle.std.specs.Prelude.{ℕ, zero, suc, ◌+◌, ◌<◌, ◌≤◌, ◌≡◌, refl, Bool, cond, not, ◌&&◌, List, [], ◌∷◌, ◌++◌, eqb, ltb}
use Rattle.std.proofs.Common.{arith, sym, ap, ◌∙◌, subst, append_assoc, append-nil, ltb-true, ltb-false, eqb-true, eq-eqb, ne_eqb}
use Rattle.std.proofs.Math.Bool.{true, false}
use Rattle.std.proofs.lemmas.Bool.{eqb-false}
use Rattle.cells.specs.Proof.Split.{by-test}
use Rattle.symbol.specs.declared.Row.{Row}
use Rattle.symbol_resolution.specs.Decide.{reference_rank, rank_of}
use Rattle.symbol_laws.specs.Rank.{All, common, count, defines, first, first_by_rank, ranked, reference_of, strong_definition, strong_reference, weak, weak_definition}
use Rattle.symbol_laws.specs.Rank as Base

module _ (P : Row → Type 0) where
  all_append : (a b : List Row) → All P a → All P b → All P (a ++ b)
  all_append [] b p q = q
  all_append (x ∷ a) b p q = (p.0, all_append a b p.1 q)

all_map : (P Q : Row → Type 0) → ((x : Row) → P x → Q x) → (l : List Row) → All P l → All Q l
all_map P Q f [] p = tt
all_map P Q f (x ∷ l) p = (f x p.0, all_map P Q f l p.1)

module _ (p : Row → Bool) where
  pub first-left : (l : List Row) (d : Row) → All (λ x. p x ≡ false) l → first p l d ≡ d
  first-left [] d a = refl
  first-left (x ∷ l) d a = rw a.0 (first-left l d a.1)

  first-at : (before : List Row) (r : Row) (after : List Row) (d : Row) → All (λ x. p x ≡ false) before → p r ≡ true → first p (before ++ r ∷ after) d ≡ r
  first-at [] r after d a e = rw e
  first-at (x ∷ before) r after d a e = rw a.0 (first-at before r after d a.1 e)

  first-never : ((x : Row) → p x ≡ false) → (l : List Row) (d : Row) → first p l d ≡ d
  first-never f l d = first-left l d (every l)
    where
      every : (l : List Row) → All (λ x. p x ≡ false) l
      every [] = tt
      every (x ∷ l) = (f x, every l)

  first-same : (q : Row → Bool) → ((x : Row) → p x ≡ q x) → (l : List Row) (d : Row) → first p l d ≡ first q l d
  first-same q f [] d = refl
  first-same q f (x ∷ l) d = rw (f x, first-same q f l d)

-- ---- any rank

module _ (rank : Row → ℕ) where
  abbrev best : Row → List Row → Row
  best = Base.best rank

  abbrev FirstOfGreatestRank : (l : List Row) (r : Row) → Type 0
  FirstOfGreatestRank = Base.FirstOfGreatestRank rank

  -- a search under way: c stands for what is passed
  passed : (xs before : List Row) (c : Row) (between : List Row) → All (λ x. rank x < rank c) before → All (λ x. rank x ≤ rank c) between
      → FirstOfGreatestRank (before ++ c ∷ (between ++ xs)) (best c xs)
  passed [] before c between p q =
      record { before = before; after = between; place = ap (λ (l : List Row). before ++ c ∷ l) (append-nil between); lower = p; no-higher = q }
  passed (x ∷ xs) before c between p q =
      by-test (ltb (rank c) (rank x))
      (λ t.
      let h : rank c < rank x = ltb-true _ _ t in
      rw (t, ← append_assoc before (c ∷ between) (x ∷ xs))
      (passed xs (before ++ (c ∷ between)) x []
      (all_append (λ y. rank y < rank x) before (c ∷ between) (all_map _ _ (λ y k. omega arith) before p) (h, all_map _ _ (λ y k. omega arith) between q)) tt))
      (λ t.
      let h : rank x ≤ rank c = ltb-false _ _ t in
      rw (t, ← append_assoc between (x ∷ []) xs) (passed xs before c (between ++ (x ∷ [])) p (all_append (λ y. rank y ≤ rank c) between (x ∷ []) q (h, tt))))

  pub best-first : (c : Row) (xs : List Row) → FirstOfGreatestRank (c ∷ xs) (best c xs)
  best-first c xs = passed xs [] c [] tt tt

  -- one more at the end
  pub best-snoc : (c : Row) (xs : List Row) (y : Row) → best c (xs ++ (y ∷ [])) ≡ cond (ltb (rank (best c xs)) (rank y)) y (best c xs)
  best-snoc c [] y = refl
  best-snoc c (x ∷ xs) y = best-snoc (cond (ltb (rank c) (rank x)) x c) xs y

  abbrev highest : ℕ → Row → List Row → Row
  highest = Base.highest rank

  module _ (c : Row) (xs : List Row) where
    -- before a row of rank 0 there is none
    lowest : (before : List Row) (r : Row) (after : List Row) → c ∷ xs ≡ before ++ r ∷ after → All (λ x. rank x < rank r) before → rank r ≤ 0 → r ≡ c
    lowest [] r after e a z = sym (ap (λ (l : List Row). first (λ x. true) l c) e)
    lowest (x ∷ before) r after e a z = absurd (omega (arith, a.0, z))

    below : (k m n : ℕ) → m ≤ n → n ≤ k → eqb m (suc k) ≡ false
    below k m n h i = ne_eqb m (suc k) (λ q. omega (arith, h, i, q))

    pub best-highest : (k : ℕ) → rank (best c xs) ≤ k → best c xs ≡ highest k c xs
    best-highest zero h = let b = best-first c xs in lowest b.before (best c xs) b.after b.place b.lower h
    best-highest (suc k) h =
        let b = best-first c xs in
        by-test (eqb (rank (best c xs)) (suc k))
        (λ t.
        let e : rank (best c xs) ≡ suc k = eqb-true _ _ t in
        sym
        (ap (λ (l : List Row). first (λ x. eqb (rank x) (suc k)) l (highest k c xs)) b.place
        ∙ first-at (λ x. eqb (rank x) (suc k)) b.before (best c xs) b.after (highest k c xs)
        (all_map _ _ (λ y m. ne_eqb (rank y) (suc k) (λ q. omega (arith, e, m, q))) b.before b.lower) t))
        (λ t.
        let u : rank (best c xs) ≤ k = omega (arith, h, eqb-false (rank (best c xs)) (suc k) t) in
        best-highest k u
        ∙ sym
        (ap (λ (l : List Row). first (λ x. eqb (rank x) (suc k)) l (highest k c xs)) b.place
        ∙ first-left (λ x. eqb (rank x) (suc k)) (b.before ++ best c xs ∷ b.after) (highest k c xs)
        (all_append (λ x. eqb (rank x) (suc k) ≡ false) b.before (best c xs ∷ b.after)
        (all_map _ _ (λ y m. below k (rank y) (rank (best c xs)) (omega (arith, m)) u) b.before b.lower)
        (t, all_map _ _ (λ y m. below k (rank y) (rank (best c xs)) m u) b.after b.no-higher))))

pub undefined-not-common : (kind : ℕ) → eqb kind 7 ≡ true → eqb kind 8 ≡ false
undefined-not-common kind u = let q : kind ≡ 7 = eqb-true _ _ u in rw q

-- a row's rank, by whether it defines, whether it is common and whether it is weak
module _ (r : Row) (P : ℕ → Bool → Bool → Bool → Type 0) where
  by_kind : (gabi : Bool) → P 4 true false false → ((w : Bool) → P 3 true true w) → P 2 true false true → P (cond gabi 1 0) false false false → P 0 false false true
      → P (ranked gabi r) (defines r) (common r) (weak r)
  unfolding rank_of reference_rank
  by_kind true sd cd wd sr wr =
      by-test (eqb r.value.kind 7)
      (λ u. let c = undefined-not-common r.value.kind u in by-test (weak r) (λ w. rw (u, c, w) wr) (λ w. rw (u, c, w) sr))
      (λ u. by-test (common r) (λ c. rw (u, c) (cd (weak r))) (λ c. by-test (weak r) (λ w. rw (u, c, w) wd) (λ w. rw (u, c, w) sd)))
  by_kind false sd cd wd sr wr =
      by-test (eqb r.value.kind 7)
      (λ u. let c = undefined-not-common r.value.kind u in by-test (weak r) (λ w. rw (u, c, w) wr) (λ w. rw (u, c, w) sr))
      (λ u. by-test (common r) (λ c. rw (u, c) (cd (weak r))) (λ c. by-test (weak r) (λ w. rw (u, c, w) wd) (λ w. rw (u, c, w) sd)))

module _ (r : Row) where
  four_is : (gabi : Bool) → eqb (ranked gabi r) 4 ≡ strong_definition r
  four_is true = by_kind r (λ n d c w. eqb n 4 ≡ ((d && not c) && not w)) true refl (λ w. refl) refl refl refl
  four_is false = by_kind r (λ n d c w. eqb n 4 ≡ ((d && not c) && not w)) false refl (λ w. refl) refl refl refl

  pub three-is : (gabi : Bool) → eqb (ranked gabi r) 3 ≡ common r
  three-is true = by_kind r (λ n d c w. eqb n 3 ≡ c) true refl (λ w. refl) refl refl refl
  three-is false = by_kind r (λ n d c w. eqb n 3 ≡ c) false refl (λ w. refl) refl refl refl

  two_is : (gabi : Bool) → eqb (ranked gabi r) 2 ≡ weak_definition r
  two_is true = by_kind r (λ n d c w. eqb n 2 ≡ ((d && not c) && w)) true refl (λ w. refl) refl refl refl
  two_is false = by_kind r (λ n d c w. eqb n 2 ≡ ((d && not c) && w)) false refl (λ w. refl) refl refl refl

  one-is : eqb (ranked true r) 1 ≡ strong_reference r
  one-is = by_kind r (λ n d c w. eqb n 1 ≡ (not d && not w)) true refl (λ w. refl) refl refl refl

  one-never : eqb (ranked false r) 1 ≡ false
  one-never = by_kind r (λ n d c w. eqb n 1 ≡ false) false refl (λ w. refl) refl refl refl

  pub strong-rank : (gabi : Bool) → strong_definition r ≡ true → ranked gabi r ≡ 4
  strong-rank gabi e = eqb-true _ _ (four_is gabi ∙ e)

  pub rank-strong : (gabi : Bool) → ranked gabi r ≡ 4 → strong_definition r ≡ true
  rank-strong gabi e = sym (four_is gabi) ∙ eq-eqb _ _ e

  pub rank_most : (gabi : Bool) → ranked gabi r ≤ 4
  rank_most true = by_kind r (λ n d c w. n ≤ 4) true (omega arith) (λ w. omega arith) (omega arith) (omega arith) (omega arith)
  rank_most false = by_kind r (λ n d c w. n ≤ 4) false (omega arith) (λ w. omega arith) (omega arith) (omega arith) (omega arith)

-- both profiles' wordings are the first of the greatest rank
pub best-terms : (gabi : Bool) (c : Row) (xs : List Row) → best (ranked gabi) c xs ≡ first_by_rank gabi c xs
best-terms gabi c xs =
    let l : List Row = c ∷ xs in
    best-highest (ranked gabi) c xs 4 (rank_most (best (ranked gabi) c xs) gabi)
    ∙ first-same (λ x. eqb (ranked gabi x) 4) strong_definition (λ x. four_is x gabi) l _
    ∙ ap (first strong_definition l)
    (first-same (λ x. eqb (ranked gabi x) 3) common (λ x. three-is x gabi) l _
    ∙ ap (first common l)
    (first-same (λ x. eqb (ranked gabi x) 2) weak_definition (λ x. two_is x gabi) l _ ∙ ap (first weak_definition l) (reference gabi)))
  where
    reference : (g : Bool) → first (λ x. eqb (ranked g x) 1) (c ∷ xs) c ≡ reference_of g c xs
    reference true = first-same (λ x. eqb (ranked true x) 1) strong_reference one-is (c ∷ xs) c
    reference false = first-never (λ x. eqb (ranked false x) 1) one-never (c ∷ xs) c

-- under a holder of a rank below a common's there is no common
pub best-under : (gabi : Bool) (c : Row) (xs : List Row) → ranked gabi (best (ranked gabi) c xs) < 3 → All (λ x. common x ≡ false) (c ∷ xs)
best-under gabi c xs h =
    let r : Row = best (ranked gabi) c xs in
    let b = best-first (ranked gabi) c xs in
    subst (All (λ x. common x ≡ false)) (sym b.place)
    (all_append (λ x. common x ≡ false) b.before (r ∷ b.after) (all_map _ _ (λ y k. low y (omega arith)) b.before b.lower)
    (low r h, all_map _ _ (λ y k. low y (omega arith)) b.after b.no-higher))
  where
    low : (y : Row) → ranked gabi y < 3 → common y ≡ false
    low y k = sym (three-is y gabi) ∙ ne_eqb (ranked gabi y) 3 (λ q. omega (arith, k, q))

-- ---- strong definitions

pub count-append : (p : Row → Bool) (a b : List Row) → count p (a ++ b) ≡ count p a + count p b
count-append p [] b = omega arith
count-append p (x ∷ a) b = let i = count-append p a b in by-test (p x) (λ t. rw t (omega arith)) (λ t. rw t i)

module _ (gabi : Bool) where
  none-strong : (l : List Row) → All (λ x. ranked gabi x < 4) l → count strong_definition l ≡ 0
  none-strong [] a = refl
  none-strong (x ∷ l) a =
      by-test (strong_definition x) (λ t. let h : ranked gabi x < 4 = a.0 in absurd (omega (arith, strong-rank x gabi t))) (λ t. rw t (none-strong l a.1))

  -- under a holder that isn't strong no add was
  pub best-low : (c : Row) (xs : List Row) → ranked gabi (best (ranked gabi) c xs) < 4 → count strong_definition (c ∷ xs) ≡ 0
  best-low c xs h =
      let r : Row = best (ranked gabi) c xs in
      let b = best-first (ranked gabi) c xs in
      ap (count strong_definition) b.place
      ∙ none-strong (b.before ++ r ∷ b.after)
      (all_append (λ x. ranked gabi x < 4) b.before (r ∷ b.after) (all_map _ _ (λ y k. omega arith) b.before b.lower)
      (h, all_map _ _ (λ y k. omega arith) b.after b.no-higher))

  pub best-counts : (c : Row) (xs : List Row) → strong_definition (best (ranked gabi) c xs) ≡ true → 1 ≤ count strong_definition (c ∷ xs)
  best-counts c xs e =
      let r : Row = best (ranked gabi) c xs in
      let b = best-first (ranked gabi) c xs in
      let one : count strong_definition (r ∷ b.after) ≡ suc (count strong_definition b.after) = rw e in
      omega (arith, ap (count strong_definition) b.place, count-append strong_definition b.before (r ∷ b.after), one)
