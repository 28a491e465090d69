-- Theorems over specs/Standing.antt.
-- Assumes nothing.
use Rattle.std.specs.Prelude.{ℕ, ◌<◌, ◌≡◌, refl, Bool, cond, ◌||◌, List, [], ◌∷◌, ◌++◌, eqb, ltb, max}
use Rattle.std.proofs.Common.{arith, sym, ap, ◌∙◌, subst, ltb-true, eqb-true}
use Rattle.std.proofs.Math.Nat.{max-zero, zero-max}
use Rattle.std.proofs.Math.Bool.{true, false}
use Rattle.std.proofs.lemmas.Bool.{false≢true}
use Rattle.cells.specs.Proof.Split.{by-test}
use Rattle.link.specs.declared.Interned.{Interned}
use Rattle.symbol.specs.declared.Row.{Row}
use Rattle.symbol.specs.Codes.{visibility_at}
use Rattle.symbol.specs.Hidden.{hidden_code, hide_code, show_code, passes, with_scope, hide_if, pass_hidden}
use Rattle.symbol.specs.Layout.{refuses_scope}
use Rattle.symbol_resolution.specs.Decide.{weak_of, reference_rank, rank_of}
use Rattle.symbol_resolution.specs.Apply.{joined}
use Rattle.upcoming_symbol.specs.Judge.{judge_of}
use Rattle.upcoming_symbol.specs.Upcoming.{library_code, external_row_of}
use Rattle.symbol_laws.specs.Rank.{All, common, ranked, best, largest, size, alignment, sized, joined_in}
use Rattle.symbol_laws.proofs.Rank.{best-first, best-snoc, best-under, three-is}
use Rattle.symbol_laws.proofs.Rows.{Packs}
use Rattle.symbol_laws.specs.Hidden.{hides, is_hidden, some_hidden}
use Rattle.symbol_laws.specs.Standing.{SameButHidden, hidden_by, row_after, standing, unhidden}

-- the test of a code says what its row's visibility is
pub code-hides : (v : ℕ) → hidden_code v ≡ hides (visibility_at v)
unfolding hidden_code visibility_at
code-hides v =
    by-test (eqb v 1) (λ a. let q : v ≡ 1 = eqb-true _ _ a in rw q)
    (λ a.
    by-test (eqb v 2) (λ b. rw (a, b))
    (λ b.
    by-test (eqb v 3) (λ c. let q : v ≡ 3 = eqb-true _ _ c in rw q) (λ c. by-test (eqb v 4) (λ d. rw (a, b, c, d)) (λ d. rw (a, b, c, d)))))

-- ---- one row made hidden

code-own : (v : ℕ) → hidden_code v ≡ true → hide_code v ≡ v
unfolding hidden_code hide_code
code-own v e =
    by-test (eqb v 2) (λ a. let q : v ≡ 2 = eqb-true _ _ a in rw q)
    (λ a. by-test (eqb v 4) (λ b. let q : v ≡ 4 = eqb-true _ _ b in rw q) (λ b. absurd (false≢true (rw (a, b) at e))))

hide-code-own : (v : ℕ) → hides (visibility_at v) ≡ true → hide_code v ≡ v
hide-code-own v e = code-own v (code-hides v ∙ e)

code-hidden : (v : ℕ) → hidden_code (hide_code v) ≡ true
unfolding hidden_code hide_code
code-hidden v = by-test (eqb v 3) (λ a. rw a) (λ a. by-test (eqb v 4) (λ b. rw (a, b)) (λ b. rw (a, b)))

hidden-code : (v : ℕ) → hides (visibility_at (hide_code v)) ≡ true
hidden-code v = sym (code-hides (hide_code v)) ∙ code-hidden v

weak-code : (v : ℕ) → weak_of (hide_code v) ≡ weak_of v
unfolding weak_of hide_code
weak-code v = by-test (eqb v 3) (λ a. rw a) (λ a. by-test (eqb v 4) (λ b. rw (a, b)) (λ b. rw (a, b)))

hide-none : (r : Row) → hide_if false r ≡ r
unfolding hide_if
hide-none r = refl

pub hide-own : (r : Row) → hide_if (is_hidden r) r ≡ r
unfolding hide_if
hide-own r = by-test (is_hidden r) (λ a. rw a (ap (with_scope r) (hide-code-own r.scope a))) (λ a. rw a)

hidden-if : (h : Bool) (r : Row) → is_hidden (hide_if h r) ≡ (h || is_hidden r)
unfolding hide_if
hidden-if true r = hidden-code r.scope
hidden-if false r = refl

pub hide-rest : (h : Bool) (r : Row) → SameButHidden (hide_if h r) r
unfolding hide_if
hide-rest true r = record { name = refl; kind = refl; file = refl; weakness = weak-code r.scope; value = refl; size = refl }
hide-rest false r = record { name = refl; kind = refl; file = refl; weakness = refl; value = refl; size = refl }

rank-if : (gabi h : Bool) (r : Row) → ranked gabi (hide_if h r) ≡ ranked gabi r
unfolding hide_if rank_of reference_rank
rank-if gabi true r = rw (weak-code r.scope)
rank-if gabi false r = refl

or_assoc : (a b c : Bool) → ((a || b) || c) ≡ (a || (b || c))
or_assoc true b c = refl
or_assoc false b c = refl

or-none : (a : Bool) → (a || false) ≡ a
or-none true = refl
or-none false = refl

or-again : (a b c : Bool) → ((a || (b || c)) || b) ≡ (a || (b || c))
or-again true b c = refl
or-again false true c = refl
or-again false false c = or-none c

pub any_append : (a b : List Row) → some_hidden (a ++ b) ≡ (some_hidden a || some_hidden b)
any_append [] b = refl
any_append (x ∷ a) b = rw (any_append a b, or_assoc (is_hidden x) (some_hidden a) (some_hidden b))

-- the row of the greatest rank is one of them
any-best : (rank : Row → ℕ) (c : Row) (xs : List Row) → (some_hidden (c ∷ xs) || is_hidden (best rank c xs)) ≡ some_hidden (c ∷ xs)
any-best rank c xs =
    let r : Row = best rank c xs in
    let b = best-first rank c xs in
    let e : some_hidden (c ∷ xs) ≡ (some_hidden b.before || (is_hidden r || some_hidden b.after)) =
    ap some_hidden b.place ∙ any_append b.before (r ∷ b.after) in
    ap (λ (h : Bool). h || is_hidden r) e ∙ or-again (some_hidden b.before) (is_hidden r) (some_hidden b.after) ∙ sym e

-- ---- commons joined

largest-none : (f : Row → ℕ) (l : List Row) → All (λ x. common x ≡ false) l → largest f l ≡ 0
largest-none f [] a = refl
largest-none f (x ∷ l) a = rw a.0 (largest-none f l a.1)

max_assoc : (a b c : ℕ) → max (max a b) c ≡ max a (max b c)
max_assoc a b c = omega arith

-- one more at the end
largest-snoc : (f : Row → ℕ) (l : List Row) (y : Row) → largest f (l ++ (y ∷ [])) ≡ cond (common y) (max (largest f l) (f y)) (largest f l)
largest-snoc f [] y = by-test (common y) (λ c. rw (c, max-zero (f y), zero-max (f y))) (λ c. rw c)
largest-snoc f (x ∷ l) y =
    by-test (common x)
    (λ d. rw (d, largest-snoc f l y) (by-test (common y) (λ c. rw c (sym (max_assoc (f x) (largest f l) (f y)))) (λ c. rw c)))
    (λ d. rw (d, largest-snoc f l y))

joined-common : (l : List Row) (r : Row) → common r ≡ true → joined_in l r ≡ sized r (largest size l) (largest alignment l)
joined-common l r c = rw c

-- what isn't common is joined with nothing
pub joined-plain : (l : List Row) (r : Row) → common r ≡ false → joined_in l r ≡ r
joined-plain l r c = rw c

join-plain : (r y : Row) → common r ≡ false → joined r y ≡ r
unfolding joined
join-plain r y c = rw c

join-behind : (r y : Row) → common r ≡ true → common y ≡ false → joined r y ≡ r
unfolding joined
join-behind r y c d = rw (c, d)

join-common : (r y : Row) → common r ≡ true → common y ≡ true → joined r y ≡ sized r (max r.size y.size) (max r.value.a y.value.a)
unfolding joined
join-common r y c d = rw (c, d)

resized : (r : Row) (s t a b : ℕ) → s ≡ t → a ≡ b → sized r s a ≡ sized r t b
resized r s t a b p q = rw (p, q)

largest-common : (f : Row → ℕ) (l : List Row) (y : Row) → common y ≡ true → largest f (l ++ (y ∷ [])) ≡ max (largest f l) (f y)
largest-common f l y c = largest-snoc f l y ∙ rw c

largest-behind : (f : Row → ℕ) (l : List Row) (y : Row) → common y ≡ false → largest f (l ++ (y ∷ [])) ≡ largest f l
largest-behind f l y c = largest-snoc f l y ∙ rw c

-- a row that holds the name, joined with one more add that stays behind it
joined-snoc : (l : List Row) (r y : Row) → joined_in (l ++ (y ∷ [])) r ≡ joined (joined_in l r) y
joined-snoc l r y =
    let more : List Row = l ++ (y ∷ []) in
    by-test (common r)
    (λ c.
    let now : Row = sized r (largest size l) (largest alignment l) in
    joined-common more r c
    ∙ by-test (common y)
    (λ d. resized r _ _ _ _ (largest-common size l y d) (largest-common alignment l y d) ∙ sym (join-common now y c d))
    (λ d. resized r _ _ _ _ (largest-behind size l y d) (largest-behind alignment l y d) ∙ sym (join-behind now y c d))
    ∙ ap (λ (q : Row). joined q y) (sym (joined-common l r c)))
    (λ c. joined-plain more r c ∙ sym (join-plain r y c) ∙ ap (λ (q : Row). joined q y) (sym (joined-plain l r c)))

-- an add that takes the name from rows of lower rank: the commons among them are none
joined-own : (l : List Row) (y : Row) → (common y ≡ true → All (λ x. common x ≡ false) l) → joined_in (l ++ (y ∷ [])) y ≡ y
joined-own l y f =
    by-test (common y)
    (λ c. joined-common (l ++ (y ∷ [])) y c ∙ resized y _ _ _ _ (own size c) (own alignment c))
    (λ c. joined-plain (l ++ (y ∷ [])) y c)
  where
    own : (g : Row → ℕ) → common y ≡ true → largest g (l ++ (y ∷ [])) ≡ g y
    own g c = largest-common g l y c ∙ rw (largest-none g l (f c), zero-max (g y))

-- hidden and joined are apart
joined-hidden : (a : Bool) (r y : Row) → joined (hide_if a r) y ≡ hide_if a (joined r y)
unfolding hide_if joined
joined-hidden true r y = by-test (common r) (λ c. rw c (by-test (common y) (λ d. rw d) (λ d. rw d))) (λ c. rw c)
joined-hidden false r y = refl

pub hidden-joined : (l : List Row) (r : Row) → is_hidden (joined_in l r) ≡ is_hidden r
hidden-joined l r = by-test (common r) (λ c. rw c) (λ c. rw c)

-- so are its kind, its scope and its names
pub joined-stays : (A : Type 0) (f : Row → A) → ((r : Row) (s a : ℕ) → f (sized r s a) ≡ f r) → (l : List Row) (r : Row) → f (joined_in l r) ≡ f r
joined-stays A f g l r = by-test (common r) (λ c. ap f (joined-common l r c) ∙ g r (largest size l) (largest alignment l)) (λ c. ap f (joined-plain l r c))

rank-joined : (gabi : Bool) (l : List Row) (r : Row) → ranked gabi (joined_in l r) ≡ ranked gabi r
unfolding rank_of reference_rank
rank-joined gabi l r = by-test (common r) (λ c. ap (ranked gabi) (joined-common l r c)) (λ c. ap (ranked gabi) (joined-plain l r c))

pub rank-by : (gabi : Bool) (l : List Row) (r : Row) → ranked gabi (hidden_by gabi l r) ≡ ranked gabi r
rank-by false l r = refl
rank-by true l r = rank-if true (some_hidden l) r

-- of a name's row, hidden and joined
pub rank-after : (gabi : Bool) (l : List Row) (r : Row) → ranked gabi (hidden_by gabi l (joined_in l r)) ≡ ranked gabi r
rank-after gabi l r = rank-by gabi l (joined_in l r) ∙ rank-joined gabi l r

-- the first add
pub after_first : (gabi : Bool) (r : Row) → row_after gabi r [] ≡ r
after_first false r = joined-own [] r (λ c. tt)
after_first true r =
    ap (hidden_by true (r ∷ [])) (joined-own [] r (λ c. tt)) ∙ ap (λ (h : Bool). hide_if h r) (or-none (is_hidden r)) ∙ hide-own r

-- a: whether an earlier add is hidden. To an add that takes the place, and to a row that stays
taken : (a : Bool) (y : Row) → hide_if (a || is_hidden y) y ≡ hide_if a y
taken true y = refl
taken false y = hide-own y ∙ sym (hide-none y)

passed : (a h : Bool) (b : Row) → hide_if (a || h) b ≡ hide_if h (hide_if a b)
unfolding hide_if
passed true true b = ap (with_scope b) (sym (hide-code-own (hide_code b.scope) (hidden-code b.scope)))
passed true false b = refl
passed false true b = refl
passed false false b = refl

-- an add of greater rank: if it is common, none before it was
under : (gabi : Bool) (c : Row) (xs : List Row) (y : Row) → ltb (ranked gabi (best (ranked gabi) c xs)) (ranked gabi y) ≡ true → common y ≡ true
    → All (λ x. common x ≡ false) (c ∷ xs)
under gabi c xs y t k =
    let q : ranked gabi y ≡ 3 = eqb-true _ _ (three-is y gabi ∙ k) in
    best-under gabi c xs (omega (arith, q, ltb-true (ranked gabi (best (ranked gabi) c xs)) (ranked gabi y) t))

pub after-snoc : (gabi : Bool) (c : Row) (xs : List Row) (y : Row) → row_after gabi c (xs ++ (y ∷ [])) ≡ standing gabi (row_after gabi c xs) y
unfolding pass_hidden passes
after-snoc false c xs y =
    let b : Row = best (ranked false) c xs in
    rw (best-snoc (ranked false) c xs y, rank-joined false (c ∷ xs) b, hide-none y, hide-none (joined (joined_in (c ∷ xs) b) y))
    (by-test (ltb (ranked false b) (ranked false y)) (λ t. rw t (joined-own (c ∷ xs) y (under false c xs y t)))
    (λ t. rw t (joined-snoc (c ∷ xs) b y)))
after-snoc true c xs y =
    let a : Bool = some_hidden (c ∷ xs) in
    let b : Row = best (ranked true) c xs in
    let j : Row = joined_in (c ∷ xs) b in
    let more : some_hidden ((c ∷ xs) ++ (y ∷ [])) ≡ (a || is_hidden y) = any_append (c ∷ xs) (y ∷ []) ∙ ap (◌||◌ a) (or-none (is_hidden y)) in
    let old : hidden_code (hide_if a j).scope ≡ a =
    code-hides (hide_if a j).scope ∙ hidden-if a j ∙ ap (◌||◌ a) (hidden-joined (c ∷ xs) b) ∙ any-best (ranked true) c xs in
    rw (more, best-snoc (ranked true) c xs y, rank-if true a j, rank-joined true (c ∷ xs) b, old, code-hides y.scope)
    (by-test (ltb (ranked true b) (ranked true y))
    (λ t. rw t (ap (hide_if (a || is_hidden y)) (joined-own (c ∷ xs) y (under true c xs y t)) ∙ taken a y))
    (λ t.
    rw t
    (ap (hide_if (a || is_hidden y)) (joined-snoc (c ∷ xs) b y) ∙ passed a (is_hidden y) (joined j y)
    ∙ ap (hide_if (is_hidden y)) (sym (joined-hidden a j y)))))

-- ---- what the row is, by profile

-- hidden exactly if some add of the name is
pub hidden-by : (c : Row) (xs : List Row) → is_hidden (row_after true c xs) ≡ some_hidden (c ∷ xs)
hidden-by c xs =
    hidden-if (some_hidden (c ∷ xs)) (joined_in (c ∷ xs) (best (ranked true) c xs))
    ∙ ap (◌||◌ (some_hidden (c ∷ xs))) (hidden-joined (c ∷ xs) (best (ranked true) c xs)) ∙ any-best (ranked true) c xs

pub same_by : (gabi : Bool) (l : List Row) (r : Row) → SameButHidden (hidden_by gabi l r) r
same_by false l r = record { name = refl; kind = refl; file = refl; weakness = refl; value = refl; size = refl }
same_by true l r = hide-rest (some_hidden l) r

pub pass-rest : (gabi : Bool) (v : ℕ) (r : Row) → SameButHidden (pass_hidden gabi v r) r
unfolding pass_hidden
pass-rest gabi v r = hide-rest (passes gabi v) r

-- a row that has what would pass stays as it is
pub pass-none : (gabi : Bool) (v : ℕ) (r : Row) → passes gabi v ≡ false → pass_hidden gabi v r ≡ r
unfolding pass_hidden
pass-none gabi v r e = rw e (hide-none r)

pub pass-had : (gabi : Bool) (v : ℕ) (r : Row) → is_hidden r ≡ true → pass_hidden gabi v r ≡ r
unfolding pass_hidden
pass-had gabi v r e = by-test (passes gabi v) (λ a. rw a (rw e at (hide-own r))) (λ a. rw a (hide-none r))

shown-code : (k : ℕ) → hidden_code (show_code k) ≡ false
unfolding hidden_code show_code
shown-code k = by-test (eqb k 3) (λ a. rw a) (λ a. by-test (eqb k 4) (λ b. rw (a, b)) (λ b. rw (a, b)))

-- "Adds from shared objects hide no row, not even one they hold"
code-shown : (k : ℕ) → hidden_code (library_code true k) ≡ false
unfolding library_code passes
code-shown k = by-test (hidden_code k) (λ a. rw a (shown-code k)) (λ a. rw a a)

pub library-shown : (name : Interned) (b v : ℕ) → is_hidden (external_row_of true name b v) ≡ false
unfolding external_row_of
library-shown name b v = sym (code-hides (library_code true (judge_of b v))) ∙ code-shown (judge_of b v)

library-plain : (k : ℕ) → hidden_code k ≡ false → library_code true k ≡ k
unfolding library_code passes
library-plain k e = rw e

pub library-visible : (k : ℕ) → visibility_at (library_code true k) ≡ unhidden (visibility_at k)
unfolding library_code passes hidden_code show_code visibility_at
library-visible k =
    by-test (eqb k 1) (λ a. let q : k ≡ 1 = eqb-true _ _ a in rw q)
    (λ a.
    by-test (eqb k 2) (λ b. let q : k ≡ 2 = eqb-true _ _ b in rw q)
    (λ b.
    by-test (eqb k 3) (λ c. let q : k ≡ 3 = eqb-true _ _ c in rw q)
    (λ c. by-test (eqb k 4) (λ d. let q : k ≡ 4 = eqb-true _ _ d in rw q) (λ d. ap visibility_at (library-plain k (rw (b, d))) ∙ rw (a, b, c, d)))))

-- and nothing else of it changes: whether it is refused, local, weak
module _ (P : ℕ → ℕ → Type 0) (same : (k : ℕ) → P k k) (global : P 1 2) (weakly : P 3 4) where
  library-by : (gabi : Bool) (k : ℕ) → P (library_code gabi k) k
  unfolding library_code passes hidden_code show_code
  library-by false k = same k
  library-by true k =
      by-test (eqb k 2) (λ a. let q : k ≡ 2 = eqb-true _ _ a in rw q global)
      (λ a. by-test (eqb k 4) (λ b. let q : k ≡ 4 = eqb-true _ _ b in rw q weakly) (λ b. rw (a, b) (same k)))

pub library-refused : (gabi : Bool) (k : ℕ) → refuses_scope (library_code gabi k) ≡ refuses_scope k
library-refused = library-by (λ x k. refuses_scope x ≡ refuses_scope k) (λ k. refl) refl refl

pub library-number : (gabi : Bool) (k : ℕ) → refuses_scope k ≡ true → library_code gabi k ≡ k
library-number = library-by (λ x k. refuses_scope k ≡ true → x ≡ k) (λ k e. refl) (λ e. absurd (false≢true e)) (λ e. absurd (false≢true e))

-- what holds of the number of a refusal
pub library-holds : (P : ℕ → Type 0) (gabi : Bool) (k : ℕ) → (refuses_scope k ≡ true → P k) → refuses_scope (library_code gabi k) ≡ true → P (library_code gabi k)
library-holds P gabi k f e = let q : refuses_scope k ≡ true = sym (library-refused gabi k) ∙ e in subst P (sym (library-number gabi k q)) (f q)

pub library-local : (gabi : Bool) (k : ℕ) → eqb (library_code gabi k) 0 ≡ eqb k 0
library-local = library-by (λ x k. eqb x 0 ≡ eqb k 0) (λ k. refl) refl refl

pub library-weak : (gabi : Bool) (k : ℕ) → weak_of (library_code gabi k) ≡ weak_of k
unfolding weak_of
library-weak = library-by (λ x k. weak_of x ≡ weak_of k) (λ k. refl) refl refl

-- in the old profile it has the code that it asks for
pub library-old : (name : Interned) (b v : ℕ) → (external_row_of false name b v).scope ≡ judge_of b v
unfolding external_row_of library_code passes
library-old name b v = refl

-- ---- in a cell of scope and type

hide-small : (v : ℕ) → v < 8 → hide_code v < 8
unfolding hide_code
hide-small v h = by-test (eqb v 3) (λ a. rw a (omega arith)) (λ a. by-test (eqb v 4) (λ b. rw (a, b) (omega arith)) (λ b. rw (a, b) (omega arith)))

hide-packs : (h : Bool) (r : Row) → Packs r → Packs (hide_if h r)
unfolding hide_if
hide-packs true r p = record { scope = hide-small r.scope p.scope; type = p.type }
hide-packs false r p = p

pub pass-packs : (gabi : Bool) (v : ℕ) (r : Row) → Packs r → Packs (pass_hidden gabi v r)
unfolding pass_hidden
pass-packs gabi v r p = hide-packs (passes gabi v) r p

pub joined-packs : (r y : Row) → Packs r → Packs (joined r y)
unfolding joined
joined-packs r y p = by-test (common r) (λ c. rw c (by-test (common y) (λ d. rw d (record { scope = p.scope; type = p.type })) (λ d. rw d p))) (λ c. rw c p)

-- what joining leaves of a row: all but its size and its alignment
pub record Rest (r q : Row) : Type 0 where
  pub name : r.name ≡ q.name
  pub file : r.file ≡ q.file
  pub scope : r.scope ≡ q.scope
  pub kind : r.value.kind ≡ q.value.kind
  pub b : r.value.b ≡ q.value.b

pub joined-rest : (r y : Row) → Rest (joined r y) r
unfolding joined
joined-rest r y = by-test (common r) (λ c. rw c (by-test (common y) (λ d. rw d (record { name = refl; file = refl; scope = refl; kind = refl; b = refl })) (λ d. rw d same))) (λ c. rw c same)
  where
    same : Rest r r
    same = record { name = refl; file = refl; scope = refl; kind = refl; b = refl }
