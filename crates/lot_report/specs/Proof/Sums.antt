-- Counts and sums of rows, and lines of figures.
-- Assumes nothing.
use Rattle.std.specs.List.{range_with_len}
use Rattle.std.proofs.lemmas.List.Elements.{filter-append}
use Rattle.std.proofs.lemmas.List.Sums.{sum_by-append, length-filter}
use Rattle.std.specs.Prelude.{ℕ, zero, suc, ◌+◌, ◌-◌, ◌<◌, ◌≤◌, ◌≡◌, refl, Bool, true, false, cond, List, [], ◌∷◌, ◌++◌, count_by, sum_by, filter, eqb, ltb, get_or, set, length, Option, Some, None, Result, Ok, Err}
use Rattle.std.proofs.Common.{arith, add-one, sym, ap, ◌∙◌, eqb-true, ltb-true, ltb-false, length-append, length-set, get_or-set_same, get_or-set_other, ext_get_or}
use Rattle.std.proofs.lemmas.Bool.{eqb-false}
use borrow.Author.Tests.{eq-eqb, ne_eqb, lt-ltb, le-ltb}
use Rattle.cells.specs.Proof.Split.{by-test}
use Rattle.lot_report.specs.Count.{ids, count_below, sum_below, bound, checked}
use Rattle.lot_report.specs.Figures.{plus_of, fits_of}
use Rattle.lot_report.specs.declared.Figures.{Figures}
use Rattle.lot_report.specs.declared.Report.{Report}
use Rattle.lot_report.specs.Report.{line_of, lent_in, report_of, added, counted_of, add_title_of}
use Rattle.lot_report.specs.Figures.{Title, figures_of}
use Rattle.link.specs.declared.cause.Refusal.{Refusal}
use Rattle.link.specs.Judge.{judged, judge_of, refused}
use Rattle.link.specs.Proof.Judged.{judged-err, judged-refused, judged-fine}

-- ---- sums that 64 bits hold

pub checked-none : (n : ℕ) → ◌≡◌ {A = Option ℕ} (checked n) None → bound ≤ n
unfolding checked
checked-none n e = by-test (ltb n bound) (λ t. absurd (let z : ◌≡◌ {A = Option ℕ} (Some n) None = rw t at e in cc)) (λ t. ltb-false n bound t)

pub checked-some : (n v : ℕ) → checked n ≡ Some v → (v ≡ n) × (n < bound)
unfolding checked
checked-some n v e =
    by-test (ltb n bound) (λ t. let z : ◌≡◌ {A = Option ℕ} (Some n) (Some v) = rw t at e in (cc, ltb-true n bound t))
    (λ t. absurd (let z : ◌≡◌ {A = Option ℕ} None (Some v) = rw t at e in cc))

-- ---- counts and sums over rows

numbers-next : (a n : ℕ) → range_with_len a (n + 1) ≡ range_with_len a n ++ (a + n) ∷ []
numbers-next a zero = let e : a + 0 ≡ a = omega arith in rw e refl
numbers-next a (suc n) =
    let e : a + suc n ≡ a + 1 + n = omega arith in
    let f : suc n + 1 ≡ suc (n + 1) = omega arith in
    rw (e, f) (ap (λ (l : List ℕ). a ∷ l) (numbers-next (a + 1) n))

pub ids-next : (n : ℕ) → ids (n + 1) ≡ ids n ++ n ∷ []
ids-next n = let e : 0 + n ≡ n = omega arith in numbers-next 0 n ∙ ap (λ (k : ℕ). ids n ++ k ∷ []) e

module _ (p : ℕ → Bool) where
  last-counts : (xs : List ℕ) (n : ℕ) → count_by p (xs ++ n ∷ []) ≡ cond (p n) (count_by p xs + 1) (count_by p xs)
  last-counts xs n =
      sym (length-filter p (xs ++ n ∷ []))
      ∙ rw (filter-append p xs (n ∷ []), length-append (filter p xs) (filter p (n ∷ [])), length-filter p xs) (by-test (p n) (λ t. rw t refl) (λ t. rw t (omega arith)))

  pub count-next : (n : ℕ) → count_below p (n + 1) ≡ cond (p n) (count_below p n + 1) (count_below p n)
  unfolding count_below
  count-next n = rw (ids-next n) (last-counts (ids n) n)

  pub count-none : 0 ≡ count_below p 0
  unfolding count_below
  count-none = refl

  pub counted : (n c : ℕ) (b : Bool) → c ≡ count_below p n → b ≡ p n → b ≡ true → c + 1 ≡ count_below p (n + 1)
  counted n c b e q t = rw (count-next n, sym q, t, e)

  pub uncounted : (n c : ℕ) (b : Bool) → c ≡ count_below p n → b ≡ p n → b ≡ false → c ≡ count_below p (n + 1)
  uncounted n c b e q t = rw (count-next n, sym q, t, e)

  module _ (f : ℕ → ℕ) where
    last-sums : (xs : List ℕ) (n : ℕ) → sum_by f (filter p (xs ++ n ∷ [])) ≡ cond (p n) (sum_by f (filter p xs) + f n) (sum_by f (filter p xs))
    last-sums xs n = by-test (p n)
        (λ t. rw (filter-append p xs (n ∷ []), t, sum_by-append f (filter p xs) (n ∷ [])) (omega arith))
        (λ t. rw (filter-append p xs (n ∷ []), t, sum_by-append f (filter p xs) []) (omega arith))

    pub sum-next : (n : ℕ) → sum_below p f (n + 1) ≡ cond (p n) (sum_below p f n + f n) (sum_below p f n)
    unfolding sum_below
    sum-next n = rw (ids-next n) (last-sums (ids n) n)

    sum-more : (n : ℕ) → sum_below p f n ≤ sum_below p f (n + 1)
    sum-more n = by-test (p n) (λ t. rw (sum-next n, t) (omega arith)) (λ t. rw (sum-next n, t) (omega arith))

    -- what follows only adds
    sum-grows : (n k : ℕ) → sum_below p f n ≤ sum_below p f (n + k)
    sum-grows n zero = let e : n + 0 ≡ n = omega arith in rw e (omega arith)
    sum-grows n (suc k) =
        let e : n + suc k ≡ n + k + 1 = omega arith in
        rw e (omega (arith, sum-grows n k, sum-more (n + k)))

    pub sum-none : 0 ≡ sum_below p f 0
    unfolding sum_below
    sum-none = refl

    pub summed : (n s t : ℕ) (b : Bool) → s ≡ sum_below p f n → b ≡ p n → b ≡ true → t ≡ s + f n → t ≡ sum_below p f (n + 1)
    summed n s t b e q h u = rw (sum-next n, sym q, h, u, e)

    pub unsummed : (n s : ℕ) (b : Bool) → s ≡ sum_below p f n → b ≡ p n → b ≡ false → s ≡ sum_below p f (n + 1)
    unsummed n s b e q h = rw (sum-next n, sym q, h, e)

    -- a sum that is too large on the way is too large at the end
    pub sum-past : (n m s : ℕ) (b : Bool) → n < m → s ≡ sum_below p f n → b ≡ p n → b ≡ true → bound ≤ s + f n → ◌≡◌ {A = Option ℕ} None (checked (sum_below p f m))
    unfolding checked
    sum-past n m s b h e q t u =
        let next : sum_below p f (n + 1) ≡ s + f n = sym (summed n s (s + f n) b e q t refl) in
        let g = sum-grows (n + 1) (m - (n + 1)) in
        let k : n + 1 + (m - (n + 1)) ≡ m = omega (arith, h) in
        let z : bound ≤ sum_below p f m = omega (arith, u, next, rw k at g) in
        sym (rw (le-ltb (sum_below p f m) bound z))

    pub sum-whole : (n m s : ℕ) → m ≤ n → n ≤ m → s < bound → s ≡ sum_below p f n → Some s ≡ checked (sum_below p f m)
    unfolding checked
    sum-whole n m s g k h e = let q : n ≡ m = omega (arith, g, k) in rw (sym q, sym e, lt-ltb s bound h)

-- ---- figure by figure

pub plus-at : (a b : List ℕ) (j : ℕ) → j < length a → j < length b → get_or (plus_of a b) j 0 ≡ get_or a j 0 + get_or b j 0
unfolding plus_of
plus-at [] b j h k = absurd (omega arith)
plus-at (x ∷ xs) [] j h k = absurd (omega arith)
plus-at (x ∷ xs) (y ∷ ys) zero h k = refl
plus-at (x ∷ xs) (y ∷ ys) (suc j) h k = plus-at xs ys j (omega arith) (omega arith)

pub plus-long : (a b : List ℕ) → length a ≡ length b → length (plus_of a b) ≡ length a
unfolding plus_of
plus-long [] b e = refl
plus-long (x ∷ xs) [] e = sym e
plus-long (x ∷ xs) (y ∷ ys) e = ap suc (plus-long xs ys (omega (arith, e)))

pub fits-not : (xs : List ℕ) (j : ℕ) → j < length xs → bound ≤ get_or xs j 0 → fits_of xs ≡ false
unfolding fits_of
fits-not [] j h k = absurd (omega arith)
fits-not (x ∷ xs) zero h k = rw (le-ltb x bound k)
fits-not (x ∷ xs) (suc j) h k = by-test (ltb x bound) (λ t. rw t (fits-not xs j (omega arith) k)) (λ t. rw t)

pub fits-all : (xs : List ℕ) → ((j : ℕ) → j < length xs → get_or xs j 0 < bound) → fits_of xs ≡ true
unfolding fits_of
fits-all [] h = refl
fits-all (x ∷ xs) h = rw (lt-ltb x bound (h 0 (omega arith))) (fits-all xs (λ j k. h (suc j) (omega arith)))

-- what is summed up to figure i
pub record Summed (a b s : List ℕ) (i : ℕ) : Type 0 where
  pub long : length s ≡ 13
  pub sums : (j : ℕ) → j < i → get_or s j 0 ≡ get_or a j 0 + get_or b j 0
  pub small : (j : ℕ) → j < i → get_or a j 0 + get_or b j 0 < bound

pub summed-none : (a b s : List ℕ) → length s ≡ 13 → Summed a b s 0
summed-none a b s n = record { long = n; sums = λ j h. absurd (omega arith); small = λ j h. absurd (omega arith) }

pub summed-more : (a b s : List ℕ) (i v : ℕ) → Summed a b s i → i < 13 → v ≡ get_or a i 0 + get_or b i 0 → v < bound → Summed a b (set s i v) (i + 1)
summed-more a b s i v q h e k =
    record {
      long = length-set s i v ∙ q.long;
      sums = λ j l. by-test (eqb j i)
          (λ t. let f : j ≡ i = eqb-true j i t in rw f (get_or-set_same s i v 0 (rw q.long h) ∙ e))
          (λ t. let n : j ≡ i → ⊥ = eqb-false j i t in get_or-set_other s i j v 0 n ∙ q.sums j (omega (arith, l, n)));
      small = λ j l. by-test (eqb j i)
          (λ t. let f : j ≡ i = eqb-true j i t in rw (f, sym e) k)
          (λ t. let n : j ≡ i → ⊥ = eqb-false j i t in q.small j (omega (arith, l, n)));
    }

pub summed-past : (a b : List ℕ) (i : ℕ) → length a ≡ 13 → length b ≡ 13 → i < 13 → bound ≤ get_or a i 0 + get_or b i 0
    → ◌≡◌ {A = Option Figures} None (line_of (plus_of a b))
unfolding line_of
summed-past a b i m n h k =
    let e : fits_of (plus_of a b) ≡ false = fits-not (plus_of a b) i (omega (arith, plus-long a b (m ∙ sym n), m, h)) (rw (plus-at a b i (omega (arith, m, h)) (omega (arith, n, h))) k) in
    rw e

abbrev some_line : List ℕ → Option Figures
some_line l = Some (record { 0 = l })

pub summed-all : (a b s : List ℕ) (i : ℕ) → length a ≡ 13 → length b ≡ 13 → 13 ≤ i → Summed a b s i
    → Some (record { 0 = s }) ≡ line_of (plus_of a b)
unfolding line_of
summed-all a b s i m n h q =
    let o : length s ≡ 13 = q.long in
    let long : length (plus_of a b) ≡ 13 = plus-long a b (m ∙ sym n) ∙ m in
    let at : (j : ℕ) → j < 13 → get_or (plus_of a b) j 0 ≡ get_or a j 0 + get_or b j 0 = λ j l. plus-at a b j (omega (arith, m, l)) (omega (arith, n, l)) in
    let e : fits_of (plus_of a b) ≡ true = fits-all (plus_of a b) (λ j l. rw (at j (rw long at l)) (q.small j (omega (arith, rw long at l, h)))) in
    let f : s ≡ plus_of a b = ext_get_or 0 s (plus_of a b) (o ∙ sym long) (λ j l. q.sums j (omega (arith, rw o at l, h)) ∙ sym (at j (rw o at l))) in
    rw e (ap some_line f)

-- ---- a title's line

pub line-none : (xs : List ℕ) → ◌≡◌ {A = Option Figures} (line_of xs) None → fits_of xs ≡ false
unfolding line_of
line-none xs e = by-test (fits_of xs) (λ t. absurd (let z : some_line xs ≡ None = rw t at e in cc)) (λ t. t)

pub line-some : (xs : List ℕ) (f : Figures) → line_of xs ≡ Some f → (fits_of xs ≡ true) × (f ≡ record { 0 = xs })
unfolding line_of
line-some xs f e =
    by-test (fits_of xs) (λ t. let z : some_line xs ≡ Some f = rw t at e in (t, cc))
    (λ t. absurd (let z : ◌≡◌ {A = Option Figures} None (Some f) = rw t at e in cc))

pub line-whole : (xs ys : List ℕ) → xs ≡ ys → fits_of xs ≡ true → some_line xs ≡ line_of ys
unfolding line_of
line-whole xs ys e h = rw (sym e, h)

pub line-past : (xs : List ℕ) (j : ℕ) → j < length xs → bound ≤ get_or xs j 0 → ◌≡◌ {A = Option Figures} None (line_of xs)
unfolding line_of
line-past xs j h k = rw (fits-not xs j h k)

pub fits-thirteen : (a b c d e f g h i j k l m : ℕ)
    → a < bound → b < bound → c < bound → d < bound → e < bound → f < bound → g < bound → h < bound → i < bound → j < bound → k < bound → l < bound → m < bound
    → fits_of (a ∷ b ∷ c ∷ d ∷ e ∷ f ∷ g ∷ h ∷ i ∷ j ∷ k ∷ l ∷ m ∷ []) ≡ true
unfolding fits_of
fits-thirteen a b c d e f g h i j k l m p0 p1 p2 p3 p4 p5 p6 p7 p8 p9 pa pb pc =
    simp (
      lt-ltb _ _ p0,
      lt-ltb _ _ p1,
      lt-ltb _ _ p2,
      lt-ltb _ _ p3,
      lt-ltb _ _ p4,
      lt-ltb _ _ p5,
      lt-ltb _ _ p6,
      lt-ltb _ _ p7,
      lt-ltb _ _ p8,
      lt-ltb _ _ p9,
      lt-ltb _ _ pa,
      lt-ltb _ _ pb,
      lt-ltb _ _ pc,
    )
