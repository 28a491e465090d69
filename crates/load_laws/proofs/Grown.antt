-- Ids appended to the lists.
-- Assumes nothing.
use Rattle.std.specs.Prelude.{ℕ, ◌+◌, ◌-◌, ◌<◌, ◌≤◌, ◌≡◌, refl, List, [], ◌∷◌, ◌++◌, length, take, drop, set}
use Rattle.std.proofs.Common.{add-one, add-zero, arith, sym, ap, ◌∙◌, append-nil, append_assoc, length-set, length-append, length-drop, take-append-drop, length-take-le, take_all, take-suc-set, take_at, drop_at}
use Rattle.std.proofs.lemmas.List.{take-append-le, drop-append-le}
use Rattle.byte_slices.specs.Bytes.{part}

-- of lists whose first n cells are in use, more has m in use: the same, and then the ids
pub record Grown (lists : List ℕ) (n : ℕ) (more : List ℕ) (m : ℕ) (ids : List ℕ) : Type 0 where
  pub count : m ≡ n + length ids
  pub long : length more ≡ length lists
  pub within : m ≤ length more
  pub appended : take m more ≡ take n lists ++ ids

pub grown-none : (lists : List ℕ) (n : ℕ) → n ≤ length lists → Grown lists n lists n []
grown-none lists n h = record { count = sym (add-zero n); long = refl; within = h; appended = sym (append-nil (take n lists)) }

pub grown-one : (lists : List ℕ) (n id : ℕ) → n < length lists → Grown lists n (set lists n id) (n + 1) (id ∷ [])
grown-one lists n id h =
    record {
      count = refl;
      long = length-set lists n id;
      within = rw (length-set lists n id) (omega arith);
      appended = rw add-one (take-suc-set lists n id h);
    }

pub grown-both : (a b c : List ℕ) (n m k : ℕ) (xs ys : List ℕ) → Grown a n b m xs → Grown b m c k ys → Grown a n c k (xs ++ ys)
grown-both a b c n m k xs ys p q =
    record {
      count = omega (arith, p.count, q.count, length-append xs ys);
      long = q.long ∙ p.long;
      within = q.within;
      appended = q.appended ∙ ap (λ (l : List ℕ). l ++ ys) p.appended ∙ append_assoc (take n a) xs ys;
    }

-- ---- a part of what is in use

window : (l : List ℕ) (f q m : ℕ) → m ≤ length l → f + q ≤ m → take q (drop f l) ≡ take q (drop f (take m l))
window l f q m h g =
    let t : length (take m l) ≡ m = length-take-le m l h in
    let d : length (drop f (take m l)) ≡ m - f = length-drop f (take m l) ∙ ap (λ (k : ℕ). k - f) t in
    ap (λ (x : List ℕ). take q (drop f x)) (sym (take-append-drop m l))
    ∙ ap (λ (x : List ℕ). take q x) (drop-append-le f (take m l) (drop m l) (omega arith))
    ∙ take-append-le q (drop f (take m l)) (drop m l) (omega arith)

module _ (lists b c : List ℕ) (n m k : ℕ) (xs ys : List ℕ) (h : n ≤ length lists) (p : Grown lists n b m xs) (q : Grown b m c k ys) where
  first-long : length (take n lists) ≡ n
  first-long = length-take-le n lists h

  pub first_part : part c n (m - n) ≡ xs
  first_part =
      let s : m - n ≡ length xs = omega (arith, p.count) in
      let all : take k c ≡ take n lists ++ (xs ++ ys) = (grown-both lists b c n m k xs ys p q).appended in
      window c n (m - n) k q.within (omega (arith, p.count, q.count))
      ∙ ap (λ (l : List ℕ). take (m - n) (drop n l)) all
      ∙ ap (λ (l : List ℕ). take (m - n) l) (drop_at (take n lists) (xs ++ ys) n first-long)
      ∙ take_at xs ys (m - n) (sym s)

  pub second-part : part c m (k - m) ≡ ys
  second-part =
      let s : k - m ≡ length ys = omega (arith, q.count) in
      let t : length (take m b) ≡ m = length-take-le m b p.within in
      window c m (k - m) k q.within (omega (arith, q.count))
      ∙ ap (λ (l : List ℕ). take (k - m) (drop m l)) q.appended
      ∙ ap (λ (l : List ℕ). take (k - m) l) (drop_at (take m b) ys m t)
      ∙ take_all (k - m) ys (omega (arith, s))

  -- what was in use stays
  pub before_same : take n c ≡ take n lists
  before_same =
      let all : take k c ≡ take n lists ++ (xs ++ ys) = (grown-both lists b c n m k xs ys p q).appended in
      window c 0 n k q.within (omega (arith, p.count, q.count))
      ∙ ap (λ (l : List ℕ). take n l) all
      ∙ take_at (take n lists) (xs ++ ys) n first-long
