-- Laws of the definitions of Rows.antt.
-- Assumes nothing.
use Prim.Native.Nat.{ℕ, zero, suc, ◌+◌, ◌*◌, ◌<◌, ◌≤◌}
use Rattle.std.specs.Prelude.{◌≡◌, refl, List, [], ◌∷◌, ◌++◌, ◌≢◌, ltb, get_or, set, take, length}
use Rattle.std.proofs.lemmas.List.{take_more}
use Rattle.std.proofs.Common.{length-take-le, sym, ap, ◌∙◌, add-zero, add-suc, suc-add, le_of_suc-le-suc, not-suc-le-zero, length-set, get_or-set_same, get_or-set_other, ltb-true, ltb-false}
use native.Mathlib.Omega.{arith}
use Rattle.std.proofs.lemmas.List.Edits.{sets}
use Rattle.std.proofs.Math.Seq.{length-sets}
use Rattle.cells.specs.Proof.Split.{by-test}
use Rattle.cells.specs.Rows.{put_row}

low : (vs l : List ℕ) (a k : ℕ) → k < a → get_or (sets l a vs) k 0 ≡ get_or l k 0
low [] l a k h = refl
low (v ∷ vs) l a k h = low vs (set l a v) (suc a) k (omega arith) ∙ get_or-set_other l a k v 0 (λ e. omega arith)

high : (vs l : List ℕ) (a k : ℕ) → a + length vs ≤ k → get_or (sets l a vs) k 0 ≡ get_or l k 0
high [] l a k h = refl
high (v ∷ vs) l a k h = high vs (set l a v) (suc a) k (omega arith) ∙ get_or-set_other l a k v 0 (λ e. omega arith)

within : (vs l : List ℕ) (a m : ℕ) → m < length vs → a + length vs ≤ length l → get_or (sets l a vs) (a + m) 0 ≡ get_or vs m 0
within [] l a m h g = absurd (not-suc-le-zero h)
within (v ∷ vs) l a zero h g =
    ap (λ (k : ℕ). get_or (sets (set l a v) (suc a) vs) k 0) (add-zero a)
    ∙ low vs (set l a v) (suc a) a (omega arith)
    ∙ get_or-set_same l a v 0 (omega arith)
within (v ∷ vs) l a (suc m) h g =
    ap (λ (k : ℕ). get_or (sets (set l a v) (suc a) vs) k 0) (add-suc a m ∙ sym (suc-add a m))
    ∙ within vs (set l a v) (suc a) m (le_of_suc-le-suc h) (omega (arith, length-set l a v))

pub length-put_row : (l : List ℕ) (i : ℕ) (vs : List ℕ) → length (put_row l i vs) ≡ length l
unfolding put_row
length-put_row l i vs = length-sets l (i * 8) vs

pub row_same : (l : List ℕ) (i : ℕ) (vs : List ℕ) (f : ℕ) → length vs ≡ 8 → f < 8 → i * 8 + 8 ≤ length l → get_or (put_row l i vs) (i * 8 + f) 0 ≡ get_or vs f 0
unfolding put_row
row_same l i vs f e h g = within vs l (i * 8) f (omega arith) (omega arith)

pub row_other : (l : List ℕ) (i : ℕ) (vs : List ℕ) (j f : ℕ) → length vs ≡ 8 → f < 8 → j ≢ i → get_or (put_row l i vs) (j * 8 + f) 0 ≡ get_or l (j * 8 + f) 0
unfolding put_row
row_other l i vs j f e h n =
    by-test (ltb j i) (λ t. low vs l (i * 8) (j * 8 + f) (omega (arith, ltb-true j i t)))
    (λ t. high vs l (i * 8) (j * 8 + f) (omega (arith, ltb-false j i t, below j i n (ltb-false j i t))))
  where
    below : (j i : ℕ) → j ≢ i → i ≤ j → i < j
    below j i n h = by-test (ltb i j) (λ t. ltb-true i j t) (λ t. absurd (n (omega (arith, ltb-false i j t))))

-- one cell more
sets-more : (vs l : List ℕ) (a v : ℕ) → sets l a (vs ++ v ∷ []) ≡ set (sets l a vs) (a + length vs) v
sets-more [] l a v = rw (add-zero a)
sets-more (w ∷ vs) l a v = sets-more vs (set l a w) (suc a) v ∙ ap (λ (k : ℕ). set (sets (set l a w) (suc a) vs) k v) (suc-add a (length vs) ∙ sym (add-suc a (length vs)))

pub put_row-none : (l : List ℕ) (i : ℕ) (vs : List ℕ) → l ≡ put_row l i (take 0 vs)
unfolding put_row
put_row-none l i vs = refl

pub put_row-more : (l : List ℕ) (i : ℕ) (vs : List ℕ) (f v : ℕ) → f < length vs → v ≡ get_or vs f 0 → set (put_row l i (take f vs)) (i * 8 + f) v ≡ put_row l i (take (f + 1) vs)
unfolding put_row
put_row-more l i vs f v h e =
    let n : length (take f vs) ≡ f = length-take-le f vs (omega arith) in
    rw (take_more vs f 0 h, sets-more (take f vs) l (i * 8) (get_or vs f 0), n, e)
