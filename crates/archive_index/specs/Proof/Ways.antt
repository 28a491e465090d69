-- The ways through the functions.
-- Assumes nothing.
use Rattle.std.specs.Prelude.{ℕ, min, Option, Some, None, Result, Ok, Err, unwrap_or, cond, suc, ◌+◌, ◌-◌, ◌/◌, ◌<◌, ◌≤◌, ◌≡◌, Bool, true, false, ◌||◌, List, eqb, length}
use Rattle.std.proofs.Common.{ap, ◌∙◌}
use native.Mathlib.Omega.{arith}
use Rattle.std.proofs.Math.Path.{refl, sym}
use borrow.Author.Tests.{eq-eqb, ne_eqb, lt-ltb, le-ltb}
use Rattle.gabi.specs.StringTable.{ended, name_at}
use Rattle.gabi.proofs.StringTableLaws.{name-inside}
use Rattle.strings.specs.Lookup.{Looked, looked, look_ended}
use Rattle.link.specs.Proof.Ways.{min-lesser}
use Rattle.link.specs.declared.cause.Refusal.{Refusal}
use Rattle.link.specs.Judge.{refused, none, judged}
use Rattle.link.specs.Proof.Judged.{first, judged-err, judged-refused, judged-fine, first-stops}
use Rattle.archive_index.specs.Contract.{Answers}
use Rattle.archive_index.specs.Index.{count_of, offset_of, after_of, after_in, names_at, cut_of}
use Rattle.archive_index.specs.declared.opening.Spot.{Spot}
use Rattle.archive_index.specs.Rows.{key_at, child_at, side_of, descend, enter_of, enter_all, place_at, rows_from, rows_of, rows_in}
use Rattle.archive_index.specs.Open.{judge_cut, offsets_in, judge_index, judge_rows, first_not, judge_each, judge_from, judge_archives, judge_of, left, opened_as, answer_in, open_of}
use Rattle.archive_index.specs.Archives.{Archives, key_of, index_at, count_at, entries_from, entries_in, member, member_from}
use Rattle.archive_index.specs.declared.several.Member.{Member}

-- ---- names

module _ (s : List ℕ) (p : ℕ) (x : List ℕ) (f : Bool) (e : looked x f ≡ look_ended s p) where
  name-is : x ≡ name_at s p
  name-is = ap (λ (y : Looked). y.name) e

  found-is : f ≡ ended s p
  found-is = ap (λ (y : Looked). y.found) e

  pub after-fits : f ≡ true → p + length x < length s
  after-fits h = rw name-is (name-inside s p (sym found-is ∙ h))

  module _ (t : Option ℕ) where
    pub after-found : f ≡ true → t ≡ Some (p + length x + 1) → t ≡ after_in s p
    unfolding after_in
    after-found h q = q ∙ sym (rw (← found-is, h, ← name-is))

    pub after-cut : f ≡ false → t ≡ None → t ≡ after_in s p
    unfolding after_in
    after-cut h q = q ∙ sym (rw (← found-is, h))

-- 0 stands for no place
module _ (s : List ℕ) (p : ℕ) (t : Option ℕ) where
  pub after-or : t ≡ after_in s p → unwrap_or t 0 ≡ after_of s p
  unfolding after_in after_of
  after-or e = rw e (go (ended s p))
    where
      go : (b : Bool) → unwrap_or (cond b (Some (p + length (name_at s p) + 1)) None) 0 ≡ cond b (p + length (name_at s p) + 1) 0
      go true = refl
      go false = refl

  pub after-some : (e : ℕ) → t ≡ after_in s p → t ≡ Some e → (e ≡ after_of s p) × (e ≡ 0 → ⊥)
  unfolding after_in after_of
  after-some e q h = go (ended s p) (sym h ∙ q)
    where
      go : (b : Bool) → Some e ≡ cond b (Some (p + length (name_at s p) + 1)) None → (e ≡ cond b (p + length (name_at s p) + 1) 0) × (e ≡ 0 → ⊥)
      go true f = let g : e ≡ p + length (name_at s p) + 1 = cc in (g, λ z. omega arith)
      go false f = absurd cc

  pub after-none : t ≡ after_in s p → t ≡ None → after_of s p ≡ 0
  unfolding after_in after_of
  after-none q h = go (ended s p) (sym h ∙ q)
    where
      go : (b : Bool) → None ≡ cond b (Some (p + length (name_at s p) + 1)) None → cond b (p + length (name_at s p) + 1) 0 ≡ 0
      go true f = absurd cc
      go false f = refl

-- one turn less to go
pub one_more : (n k : ℕ) → k < n → n - k ≡ suc (n - (k + 1))
one_more n k h = omega arith

module _ (s : List ℕ) (c k p e w : ℕ) where
  pub cut_on : (t : Option ℕ) → k < c → t ≡ after_in s p → t ≡ Some e → w ≡ cut_of s p (c - k) k → w ≡ cut_of s e (c - (k + 1)) (k + 1)
  unfolding cut_of
  cut_on t h f g q = let i = after-some s p t e f g in q ∙ rw (one_more c k h) (simp (← i.0, ne_eqb _ _ i.1))

  pub cut-here : (t : Option ℕ) (r : Result Unit Refusal) (b : ℕ) → k < c → t ≡ after_in s p → t ≡ None → w ≡ cut_of s p (c - k) k → r ≡ Err (refused 1 (b + k))
      → r ≡ judged (judge_cut w c b)
  unfolding cut_of judged
  cut-here t r b h f z q i =
      let j : k ≡ w = sym (q ∙ rw (one_more c k h) (simp (eq-eqb _ _ (after-none s p t f z)))) in
      i ∙ rw j (sym (rw (lt-ltb _ _ (rw j at h))))

-- ---- rows

module _ (l : List ℕ) (o k at q n : ℕ) (w : Spot) where
  pub descend-on : (x y u : ℕ) → n < k → u ≡ key_at l at → (u ≡ o → ⊥) → x ≡ side_of q → y ≡ child_at l at x → (y ≡ 0 → ⊥)
      → w ≡ descend l o k at q (k - n) → w ≡ descend l o k (y - 1) (q / 2) (k - (n + 1))
  unfolding descend
  descend-on x y u h f g i j z e = e ∙ rw (one_more k n h) (simp (← f, ne_eqb _ _ g, ← i, ← j, ne_eqb _ _ z))

module _ (j : ℕ) (s : List ℕ) (o n b i p : ℕ) (w l : List ℕ) where
  pub enter-start : w ≡ enter_all j s o n b 0 p l → w ≡ enter_all j s o (n - 0) (b + 0) 0 p l
  enter-start q = let z : b + 0 ≡ b = omega arith in let y : n - 0 ≡ n = omega arith in rw (z, y) q

  pub enter-on : (x e : ℕ) (m : List ℕ) → i < n → e ≡ after_of s p → x ≡ offset_of s i → m ≡ enter_of l (b + i) (key_of j x) (o + p) (e - p - 1)
      → w ≡ enter_all j s o (n - i) (b + i) i p l → w ≡ enter_all j s o (n - (i + 1)) (b + (i + 1)) (i + 1) e m
  unfolding enter_all
  enter-on x e m h f g d q =
      let z : b + (i + 1) ≡ b + i + 1 = omega arith in
      let y : e - p - 1 ≡ e - (p + 1) = omega arith in
      q ∙ rw (one_more n i h) (rw (z, d, y, g, f) refl)

  pub enter-end : n ≤ i → w ≡ enter_all j s o (n - i) (b + i) i p l → l ≡ w
  unfolding enter_all
  enter-end h q = let z : n - i ≡ 0 = omega arith in sym (q ∙ rw z)

-- the place after a name lies in the index
pub after-low : (s : List ℕ) (p : ℕ) → after_of s p ≤ length s
unfolding after_of
after-low s p = go (ended s p) refl
  where
    go : (b : Bool) → ended s p ≡ b → cond b (p + length (name_at s p) + 1) 0 ≤ length s
    go true e = omega (arith, name-inside s p e)
    go false e = omega arith

-- ---- an index

module _ (s : List ℕ) (b : ℕ) (r : Result Unit Refusal) where
  pub index-offsets : (c x : ℕ) → 4 ≤ length s → c ≡ count_of s → offsets_in (length s) < c → x ≡ min 65535 (b + offsets_in (length s)) → r ≡ Err (refused 1 x)
      → r ≡ judged (judge_index s b)
  unfolding judge_index judged
  index-offsets c x h e g i q =
      let k : judge_index s b ≡ refused 1 x = rw (i, min-lesser 65535 (b + offsets_in (length s)), le-ltb _ _ h, ← e, lt-ltb _ _ g) in q ∙ sym (rw k)

-- ---- numbers up to the first that fails

module _ (f : ℕ → Bool) (n j w : ℕ) where
  pub not-start : w ≡ first_not f n 0 → w ≡ first_not f (n - 0) 0
  not-start q = let z : n - 0 ≡ n = omega arith in rw z q

  pub not-on : (b : Bool) → j < n → b ≡ f j → b ≡ true → w ≡ first_not f (n - j) j → w ≡ first_not f (n - (j + 1)) (j + 1)
  unfolding first_not
  not-on b h e t q = q ∙ rw (one_more n j h) (simp (← e, t))

  module _ (number : ℕ) (r : Result Unit Refusal) where
    pub not-here : (b : Bool) → j < n → b ≡ f j → b ≡ false → first_not f n 0 ≡ first_not f (n - j) j → (number ≡ 0 → ⊥) → r ≡ Err (refused number j)
        → r ≡ judged (judge_each f n number)
    unfolding first_not judge_each judged
    not-here b h e t q z i =
        let d : first_not f n 0 ≡ j = q ∙ rw (one_more n j h) (simp (← e, t)) in
        i ∙ sym (rw (d, lt-ltb _ _ h, ne_eqb _ _ z))

    pub not-end : n ≤ j → first_not f n 0 ≡ first_not f (n - j) j → r ≡ Ok tt → r ≡ judged (judge_each f n number)
    unfolding first_not judge_each judged
    not-end h q i =
        let z : n - j ≡ 0 = omega arith in
        let d : first_not f n 0 ≡ j = q ∙ rw z in
        i ∙ sym (rw (d, le-ltb _ _ h))

-- ---- archive by archive

or-true : (b : Bool) → b || true ≡ true
or-true true = refl
or-true false = refl

module _ (a : Archives) (n j : ℕ) where
  pub entries-on : (w x c : ℕ) (s : List ℕ) → j < n → s ≡ index_at a j → c ≡ count_of s → w ≡ x + entries_from a (n - j) j → w ≡ x + c + entries_from a (n - (j + 1)) (j + 1)
  unfolding entries_from
  entries-on w x c s h f e q = let i : entries_from a (n - j) j ≡ c + entries_from a (n - (j + 1)) (j + 1) = rw (one_more n j h) (rw (e, f) refl) in omega arith

  pub entries-end : (w x : ℕ) → n ≤ j → w ≡ x + entries_from a (n - j) j → x ≡ w
  unfolding entries_from
  entries-end w x h q = let z : n - j ≡ 0 = omega arith in let i : entries_from a (n - j) j ≡ 0 = rw z in omega arith

  module _ (e c : ℕ) (w : Member) where
    pub member-here : (o : ℕ) (t : Member) (s : List ℕ) → j < n → s ≡ index_at a j → c ≡ count_of s → e < c → o ≡ offset_of s e → t ≡ member j o → w ≡ member_from a (n - j) j e
        → t ≡ w
    unfolding member_from
    member-here o t s h z f g i d q = d ∙ sym (q ∙ rw (one_more n j h) (rw (← z, ← f, lt-ltb _ _ g, or-true (eqb (n - (j + 1)) 0)) (rw i refl)))

    pub member-last : (o : ℕ) (t : Member) (s : List ℕ) → j < n → s ≡ index_at a j → j + 1 ≡ n → o ≡ offset_of s e → t ≡ member j o → w ≡ member_from a (n - j) j e → t ≡ w
    unfolding member_from
    member-last o t s h z f i d q = let y : n - (j + 1) ≡ 0 = omega arith in d ∙ sym (q ∙ rw (one_more n j h) (rw (← z, y) (rw i refl)))

    pub member-on : (s : List ℕ) → j < n → s ≡ index_at a j → c ≡ count_of s → (j + 1 ≡ n → ⊥) → c ≤ e → w ≡ member_from a (n - j) j e
        → w ≡ member_from a (n - (j + 1)) (j + 1) (e - c)
    unfolding member_from
    member-on s h z f y g q =
        let x : n - (j + 1) ≡ 0 → ⊥ = λ (i : n - (j + 1) ≡ 0). y (omega arith) in
        q ∙ rw (one_more n j h) (rw (← z, ← f, le-ltb _ _ g, ne_eqb (n - (j + 1)) 0 x) refl)

    pub member-end : (t : Member) → n ≤ j → j ≤ n → t ≡ member n 0 → w ≡ member_from a (n - j) j e → t ≡ w
    unfolding member_from
    member-end t h g i q = let z : n - j ≡ 0 = omega arith in let y : j ≡ n = omega arith in i ∙ sym (q ∙ rw z (rw y refl))

  module _ (b : ℕ) where
    pub contents-on : (w : Refusal) (c : ℕ) (u : Unit {0}) (s : List ℕ) → j < n → s ≡ index_at a j → c ≡ count_of s → Ok u ≡ judged (judge_index s b) → w ≡ judge_from a (n - j) j b
        → w ≡ judge_from a (n - (j + 1)) (j + 1) (b + c)
    unfolding judge_from
    contents-on w c u s h i e f q =
        let z : (judge_index s b).number ≡ 0 = judged-fine (judge_index s b) u (sym f) in
        q ∙ rw (one_more n j h) (rw (← i, z, ← e) refl)

    pub contents-stop : (w r : Refusal) (t : Result Unit Refusal) (s : List ℕ) → j < n → s ≡ index_at a j → Err r ≡ judged (judge_index s b) → w ≡ judge_from a (n - j) j b → t ≡ Err r
        → t ≡ judged w
    unfolding judge_from
    contents-stop w r t s h i f q d =
        let e : w ≡ first (judge_index s b) (judge_from a (n - (j + 1)) (j + 1) (b + count_at a j)) = q ∙ rw (one_more n j h) (rw (← i) refl) in
        rw e (first-stops (judge_index s b) (judge_from a (n - (j + 1)) (j + 1) (b + count_at a j)) r t d (sym f))

    pub contents-end : (w : Refusal) (t : Result Unit Refusal) → n ≤ j → w ≡ judge_from a (n - j) j b → t ≡ Ok tt → t ≡ judged w
    unfolding judge_from judged
    contents-end w t h q d = let z : n - j ≡ 0 = omega arith in let e : w ≡ none = q ∙ rw z in d ∙ sym (rw e)

    pub rows-on : (w m l s : List ℕ) (c o : ℕ) → j < n → s ≡ index_at a j → c ≡ count_of s → o ≡ place_at a j → m ≡ enter_all j s o (count_of s) b 0 (names_at (count_of s)) l
        → w ≡ rows_from a (n - j) j b l → w ≡ rows_from a (n - (j + 1)) (j + 1) (b + c) m
    unfolding rows_from
    rows-on w m l s c o h z e f d q = q ∙ rw (one_more n j h) (rw (e, d, f, z) refl)

    pub rows-end : (w l : List ℕ) → n ≤ j → w ≡ rows_from a (n - j) j b l → l ≡ w
    unfolding rows_from
    rows-end w l h q = let z : n - j ≡ 0 = omega arith in sym (q ∙ rw z)

module _ (rows n e : ℕ) where
  pub rows-short : (t : Result Unit Refusal) → e ≡ n → rows < e → t ≡ Err (refused 2 0) → t ≡ judged (judge_rows rows n)
  unfolding judged
  rows-short t h i q = let l : rows < n = omega arith in q ∙ sym (rw (lt-ltb _ _ l))

  pub rows-enough : e ≡ n → e ≤ rows → Ok tt ≡ judged (judge_rows rows n)
  unfolding judged
  rows-enough h i = let l : n ≤ rows = omega arith in sym (rw (le-ltb _ _ l))

-- ---- the start

module _ (a : Archives) (l : List ℕ) where
  pub open-many : (r : Result ℕ Refusal) (m : List ℕ) → 16 < length a.ends → m ≡ l → r ≡ Err (refused 1 16) → Answers (open_of a l) m r
  unfolding open_of judge_of
  open-many r m h e q = rw (lt-ltb _ _ h) (record { cells = e; answer = q })

  module _ (few : length a.ends ≤ 16) where
    few-is : judge_of a (rows_in l) ≡ judge_archives a (rows_in l)
    unfolding judge_of
    few-is = rw (le-ltb _ _ few)

    pub open-refused : (f : Refusal) (r : Result ℕ Refusal) (m : List ℕ) → Err f ≡ judged (judge_archives a (rows_in l)) → m ≡ l → r ≡ Err f → Answers (open_of a l) m r
    unfolding open_of
    open-refused f r m h e q =
        let d : f ≡ judge_archives a (rows_in l) = judged-err (judge_archives a (rows_in l)) f (sym h) in
        rw (few-is, ne_eqb _ _ (judged-refused (judge_archives a (rows_in l)) f (sym h))) (record { cells = e; answer = q ∙ ap Err d ∙ sym (rw (ne_eqb _ _ (judged-refused (judge_archives a (rows_in l)) f (sym h)))) })

    pub open-made : (u : Unit {0}) (r : Result ℕ Refusal) (m : List ℕ) → Ok u ≡ judged (judge_archives a (rows_in l)) → m ≡ rows_of a l → r ≡ Ok (entries_in a) → Answers (open_of a l) m r
    unfolding open_of
    open-made u r m h e q = rw (few-is, judged-fine (judge_archives a (rows_in l)) u (sym h)) (record { cells = e; answer = q })

-- by a refusal there are no entries
pub open-none : (a : Archives) (l : List ℕ) (f : Refusal) → Err f ≡ answer_in (open_of a l).opened → (open_of a l).opened.entries ≡ 0
unfolding open_of
open-none a l f = go (eqb (judge_of a (rows_in l)).number 0)
  where
    go : (b : Bool) → Err f ≡ answer_in (cond b (left (rows_of a l) (opened_as (entries_in a) none)) (left l (opened_as 0 (judge_of a (rows_in l))))).opened
        → (cond b (left (rows_of a l) (opened_as (entries_in a) none)) (left l (opened_as 0 (judge_of a (rows_in l))))).opened.entries ≡ 0
    go true e = absurd cc
    go false e = refl
