-- The ways through the functions.
-- Assumes nothing.
use Rattle.std.specs.Prelude.{ℕ, zero, suc, ◌+◌, ◌-◌, ◌<◌, ◌≤◌, ◌≡◌, refl, Bool, true, false, cond, List, eqb, ltb, get_or, set, length, replicate, Ok, Err}
use Rattle.std.proofs.Common.{sym, ap, ◌∙◌, arith, sub-eq-zero_of_le, get_or-set_same, get_or-set_other, length-set, add-zero, zero-add, add-one}
use Rattle.std.proofs.lemmas.List.{get_or_past, length-replicate}
use Rattle.std.proofs.Math.ListN.{get_or-replicate}
use Rattle.std.proofs.lemmas.List.Edits.{sets}
use borrow.Author.Tests.{eqb-true, eqb-false, eq-eqb, ne_eqb, lt-ltb, le-ltb, ltb-true, ltb-false}
use Rattle.cells.specs.Search.{any_from}
use Rattle.cells.specs.Proof.Split.{by-test}
use Rattle.archive_index.specs.Rows.{member_at, queue_at}
use Rattle.archive_index.specs.Open.{entry_bound}
use Rattle.archive_index.specs.Proof.Ways.{one_more}
use Rattle.link.specs.declared.cause.Refusal.{Refusal}
use Rattle.link.specs.Judge.{refused, judged}
use Rattle.link.specs.Proof.Judged.{judged-err, judged-refused, judged-fine}
use Rattle.archive_walk.specs.declared.Walk.{Walk}
use Rattle.archive_walk.specs.Look.{Table, judge_table}
use Rattle.shadowed_members.specs.Shadowed.{offered_among, told_at, those, left, listed, list_left, told_in, fits_index, shadowed_of}
use Rattle.shadowed_members.specs.Marks.{is_marked, Marked}

-- ---- the marks

yes-no : (b : Bool) → cond b true false ≡ b
yes-no true = refl
yes-no false = refl

none : (b : Bool) → cond b false false ≡ false
none true = refl
none false = refl

-- one number more at the end
pub any-more : (p : ℕ → Bool) (i n : ℕ) → any_from p i (suc n) ≡ cond (any_from p i n) true (p (i + n))
unfolding any_from
any-more p i zero = yes-no (p i) ∙ ap p (sym (add-zero i))
any-more p i (suc n) =
    by-test (p i) (λ e. rw e) (λ e. rw e (any-more p (i + 1) n ∙ ap (λ (k : ℕ). cond (any_from p (i + 1) n) true (p k)) (omega arith)))

module _ (l marks m : List ℕ) (n r : ℕ) (e : r ≡ member_at l (queue_at l n)) (f : m ≡ set marks r 1) (h : Marked l n marks) where
  -- the member of one more entry of the queue
  more : (j : ℕ) → offered_among l (suc n) j ≡ cond (ltb j entry_bound) (cond (eqb r j) true (offered_among l n j)) false
  unfolding offered_among
  more j =
      by-test (ltb j 65535)
      (λ a.
      let q : any_from (λ i. eqb (member_at l (queue_at l i)) j) 0 (suc n) ≡ cond (any_from (λ i. eqb (member_at l (queue_at l i)) j) 0 n) true (eqb r j) =
      any-more (λ i. eqb (member_at l (queue_at l i)) j) 0 n
      ∙ ap (λ (k : ℕ). cond (any_from (λ i. eqb (member_at l (queue_at l i)) j) 0 n) true (eqb k j)) (ap (λ (k : ℕ). member_at l (queue_at l k)) (zero-add n) ∙ sym e) in
      rw (a, q) (either (any_from (λ i. eqb (member_at l (queue_at l i)) j) 0 n) (eqb r j)))
      (λ a. rw a)
    where
      either : (a b : Bool) → cond a true b ≡ cond b true a
      either true true = refl
      either true false = refl
      either false true = refl
      either false false = refl

  at : (j : ℕ) → is_marked (set marks r 1) j ≡ cond (ltb j 65535) (cond (eqb r j) true (is_marked marks j)) false
  unfolding is_marked
  at j =
      by-test (ltb j 65535)
      (λ a.
      by-test (eqb r j)
      (λ b. let q : r ≡ j = eqb-true r j b in rw (a, b, q, get_or-set_same marks j 1 0 (omega (arith, ltb-true j 65535 a, h.whole))))
      (λ b. rw (a, b, get_or-set_other marks r j 1 0 (λ z. eqb-false r j b (sym z)))))
      (λ a. rw (a, get_or_past (set marks r 1) j 0 (omega (arith, ltb-false j 65535 a, h.whole, length-set marks r 1))))

  pub marked-on : Marked l (n + 1) m
  marked-on = record {
    whole = ap length f ∙ length-set marks r 1 ∙ h.whole;
    marked = λ j.
        ap (λ (x : List ℕ). is_marked x j) f
        ∙ at j
        ∙ ap (λ (b : Bool). cond (ltb j 65535) (cond (eqb r j) true b) false) (h.marked j)
        ∙ sym (more j)
        ∙ ap (λ (k : ℕ). offered_among l k j) (sym (add-one n));
  }

-- no entry
module _ (l : List ℕ) where
  blank : (j : ℕ) → get_or (replicate {A = ℕ} 65535 0) j 0 ≡ 0
  blank j =
      by-test (ltb j 65535) (λ a. get_or-replicate 65535 j 0 0 (ltb-true j 65535 a))
      (λ a. get_or_past (replicate {A = ℕ} 65535 0) j 0 (omega (arith, ltb-false j 65535 a, length-replicate {A = ℕ} 65535 0)))

  pub marked-none : (m : List ℕ) → m ≡ replicate {A = ℕ} 65535 0 → length m ≡ 65535 → Marked l 0 m
  unfolding is_marked offered_among any_from
  marked-none m e h = record { whole = h; marked = λ j. rw (e, blank j) (sym (none (ltb j 65535))) }

-- ---- the list of those that are told

module _ (p : ℕ → Bool) (c k n a : ℕ) (b : Bool) (x l m : List ℕ) (y : ℕ) (h : k < c) (g : b ≡ p k) where
  module _ (e : b ≡ true) (i : a ≡ n + 1) (f : m ≡ set l n k) where
    pub those-take : x ≡ sets l n (those p k (c - k)) → x ≡ sets m a (those p (k + 1) (c - (k + 1)))
    unfolding those
    those-take q = q ∙ rw (one_more c k h, ← g, e, i, add-one n, f)

    pub count-take : y ≡ n + length (those p k (c - k)) → y ≡ a + length (those p (k + 1) (c - (k + 1)))
    unfolding those
    count-take q = q ∙ rw (one_more c k h, ← g, e, i) (omega arith)

  module _ (e : b ≡ false) (i : a ≡ n) (f : m ≡ l) where
    pub those-leave : x ≡ sets l n (those p k (c - k)) → x ≡ sets m a (those p (k + 1) (c - (k + 1)))
    unfolding those
    those-leave q = q ∙ rw (one_more c k h, ← g, e, i, f)

    pub count-leave : y ≡ n + length (those p k (c - k)) → y ≡ a + length (those p (k + 1) (c - (k + 1)))
    unfolding those
    count-leave q = q ∙ rw (one_more c k h, ← g, e, i)

-- of all entries
module _ (p : ℕ → Bool) (c k n : ℕ) (l m : List ℕ) where
  pub those-end : c ≤ k → sets l 0 (those p 0 c) ≡ sets m n (those p k (c - k)) → length (those p 0 c) ≡ n + length (those p k (c - k)) → list_left m n ≡ listed l (those p 0 c)
  unfolding those
  those-end h e f =
      let z : c - k ≡ 0 = sub-eq-zero_of_le h in
      let a : sets l 0 (those p 0 c) ≡ m = e ∙ rw z in
      let b : length (those p 0 c) ≡ n = f ∙ rw z (add-zero n) in
      rw (a, b)

-- by one test or by another that agrees with it
pub those_same : (p q : ℕ → Bool) (n k : ℕ) → ((j : ℕ) → p j ≡ q j) → those p k n ≡ those q k n
unfolding those
those_same p q zero k e = refl
those_same p q (suc n) k e = rw (e k, those_same p q n (k + 1) e)

-- ---- the call

module _ (s l : List ℕ) (w : Walk) (t : Table) (c : List ℕ) where
  pub shadowed-judged : (r : Refusal) → Err r ≡ judged (judge_table t) → left c (Err r) ≡ shadowed_of s l w t c
  unfolding shadowed_of
  shadowed-judged r e =
      let f : r ≡ judge_table t = judged-err (judge_table t) r (sym e) in
      rw f (sym (rw (ne_eqb _ _ (judged-refused (judge_table t) r (sym e)))))

  module _ (u : Unit {0}) (e : Ok u ≡ judged (judge_table t)) where
    fine : eqb (judge_table t).number 0 ≡ true
    fine = eq-eqb _ _ (judged-fine (judge_table t) u (sym e))

    pub shadowed-strange : (r : Refusal) → fits_index s l w ≡ false → r ≡ refused 1 0 → left c (Err r) ≡ shadowed_of s l w t c
    unfolding shadowed_of
    shadowed-strange r f q = rw q (sym (rw (fine, f)))

    module _ (f : fits_index s l w ≡ true) where
      pub shadowed-short : (r : Refusal) → length c < w.entries → r ≡ refused 2 0 → left c (Err r) ≡ shadowed_of s l w t c
      unfolding shadowed_of
      shadowed-short r h q = rw q (sym (rw (fine, f, lt-ltb _ _ h)))

      pub shadowed-listed : (m marks : List ℕ) (n : ℕ) → w.entries ≤ length c → Marked l w.offered marks
          → list_left m n ≡ told_in s l w.entries t (is_marked marks) c → left m (Ok n) ≡ shadowed_of s l w t c
      unfolding shadowed_of told_at
      shadowed-listed m marks n h a q =
          q
          ∙ ap (listed c) (those_same (told_at s l t (is_marked marks)) (told_at s l t (offered_among l w.offered)) w.entries 0 (λ k. rw (a.marked (member_at l k))))
          ∙ sym (rw (fine, f, le-ltb _ _ h))
