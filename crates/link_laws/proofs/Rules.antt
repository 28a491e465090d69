-- Laws of the definitions of Rules.antt.
-- Assumes nothing.
use Rattle.std.specs.Prelude.{ℕ, zero, suc, ◌+◌, ◌/◌, ◌<◌, ◌≤◌, ◌≡◌, refl, Bool, true, false, cond, not, ◌&&◌, ◌||◌, List, [], ◌∷◌, ◌++◌, eqb, ltb, leb}
use Rattle.std.proofs.Common.{arith, sym, ap, ◌∙◌, append-nil, eqb-true, ltb-true, ltb-false, leb-true, leb-false, lt-ltb, le-ltb}
use Rattle.std.proofs.lemmas.Bool.{false≢true, not-true, eqb-false}
use Rattle.cells.specs.Proof.Split.{by-test}
use Rattle.link.specs.declared.Link.{Link}
use Rattle.link.specs.declared.Lent.{Lent}
use Rattle.link.specs.declared.cause.Refusal.{Refusal}
use Rattle.link.specs.Bounds.{lesser}
use Rattle.link.specs.Judge.{refused, none, judge_sections, judge_names, judge_lists, after_symbols, after_sections, judge_of, change_of}
use Rattle.link_laws.specs.Rules.{Rule, ◌gives◌at◌, first_refusal, placeless, each, each_of, in_turn, least, count_rules, head_rules, numbered, some_holds, after_two}

and_both : (a b : Bool) → a && b ≡ true → (a ≡ true) × (b ≡ true)
and_both true b e = (refl, e)
and_both false b e = absurd (false≢true e)

pub numbered-both : (xs ys : List Rule) → numbered xs ≡ true → numbered ys ≡ true → numbered (xs ++ ys) ≡ true
numbered-both [] ys n m = m
numbered-both (x ∷ xs) ys n m = let both = and_both (not (eqb x.number 0)) (numbered xs) n in rw both.0 (numbered-both xs ys both.1 m)

-- the two sides of a test
pub taken : {A : Type 0} {b : Bool} (x y : A) → b ≡ true → cond b x y ≡ x
taken x y e = rw e

pub left_out : {A : Type 0} {b : Bool} (x y : A) → b ≡ false → cond b x y ≡ y
left_out x y e = rw e

module _ (ys : List Rule) where
  -- none of the first holds: the others decide
  pub past : (xs : List Rule) → numbered xs ≡ true → eqb (first_refusal xs).number 0 ≡ true → first_refusal (xs ++ ys) ≡ first_refusal ys
  past [] n e = refl
  past (x ∷ xs) n e =
      let both = and_both _ _ n in
      by-test x.holds (λ h. absurd (false≢true (sym (not-true _ both.0) ∙ rw h at e))) (λ h. rw h (past xs both.1 (rw h at e)))

  -- one of the first holds
  pub stop : (xs : List Rule) → eqb (first_refusal xs).number 0 ≡ false → first_refusal (xs ++ ys) ≡ first_refusal xs
  stop [] e = absurd (false≢true (sym e))
  stop (x ∷ xs) e = by-test x.holds (λ h. rw h) (λ h. rw h (stop xs (rw h at e)))

  -- an outcome of which f is number and place: it is what the head gives, else what the call's own rules give
  pub headed : {O : Type 0} (f : O → Refusal) (xs : List Rule) (h : Refusal) (x y : O) → numbered xs ≡ true → h ≡ first_refusal xs
      → f y ≡ h → (eqb h.number 0 ≡ true → f x ≡ first_refusal ys) → f (cond (eqb h.number 0) x y) ≡ first_refusal (xs ++ ys)
  headed f xs h x y n e stopped own =
      by-test (eqb h.number 0)
      (λ a. rw a (own a ∙ sym (past xs n (ap (λ (q : Refusal). eqb q.number 0) (sym e) ∙ a))))
      (λ a. rw a (stopped ∙ e ∙ sym (stop xs (ap (λ (q : Refusal). eqb q.number 0) (sym e) ∙ a))))

-- and of an answer: it is what the first give, else what the others give
pub follows : (xs ys : List Rule) (h r : Refusal) → numbered xs ≡ true → h ≡ first_refusal xs → (eqb h.number 0 ≡ false → r ≡ h)
    → (eqb h.number 0 ≡ true → r ≡ first_refusal ys) → r ≡ first_refusal (xs ++ ys)
follows xs ys h r n e f g =
    by-test (eqb h.number 0) (λ a. g a ∙ sym (past ys xs n (ap (λ (q : Refusal). eqb q.number 0) (sym e) ∙ a)))
    (λ a. f a ∙ e ∙ sym (stop ys xs (ap (λ (q : Refusal). eqb q.number 0) (sym e) ∙ a)))

-- where none of two lists holds
pub none_both : (xs ys : List Rule) → numbered xs ≡ true → eqb (first_refusal (xs ++ ys)).number 0 ≡ true → (eqb (first_refusal xs).number 0 ≡ true) × (eqb (first_refusal ys).number 0 ≡ true)
none_both xs ys n e =
    by-test (eqb (first_refusal xs).number 0) (λ a. (a, ap (λ (r : Refusal). eqb r.number 0) (sym (past ys xs n a)) ∙ e))
    (λ a. absurd (false≢true (sym a ∙ ap (λ (r : Refusal). eqb r.number 0) (sym (stop ys xs a)) ∙ e)))

-- where none of a row's holds
pub each_none : (test : ℕ → Bool) (k : ℕ) → eqb k 0 ≡ false → (n i : ℕ) → eqb (first_refusal (each (λ j. test j gives k at j) i n)).number 0 ≡ true
    → (j : ℕ) → i ≤ j → j < i + n → test j ≡ false
each_none test k z zero i e j p q = absurd (omega arith)
each_none test k z (suc n) i e j p q =
    by-test (test i) (λ a. absurd (false≢true (sym z ∙ rw a at e)))
    (λ a.
    by-test (eqb i j) (λ b. rw (← eqb-true i j b) a)
    (λ b. each_none test k z n (i + 1) (rw a at e) j (later (eqb-false i j b)) (omega arith)))
  where
    later : (i ≡ j → ⊥) → i + 1 ≤ j
    later u = omega (arith, u, p)

pub each_same : (f g : ℕ → Rule) (n i : ℕ) → ((j : ℕ) → j < i + n → f j ≡ g j) → each f i n ≡ each g i n
each_same f g zero i h = refl
each_same f g (suc n) i h = rw (h i (omega arith), each_same f g n (i + 1) (λ j l. h j (omega arith)))

pub each-numbered : (test : ℕ → Bool) (k : ℕ) → eqb k 0 ≡ false → (n i : ℕ) → numbered (each (λ j. test j gives k at j) i n) ≡ true
each-numbered test k z zero i = refl
each-numbered test k z (suc n) i = rw z (each-numbered test k z n (i + 1))

pub each-of-numbered : (rules : ℕ → List Rule) → ((i : ℕ) → numbered (rules i) ≡ true) → (n i : ℕ) → numbered (each_of rules i n) ≡ true
each-of-numbered rules all zero i = refl
each-of-numbered rules all (suc n) i = numbered-both (rules i) (each_of rules (i + 1) n) (all i) (each-of-numbered rules all n (i + 1))

-- elements that ask nothing of what those before them left
pub turn-of : {S : Type 0} (rules : ℕ → List Rule) (next : S → ℕ → S) (n i : ℕ) (s : S) → in_turn (λ s i. rules i) next n i s ≡ each_of rules i n
turn-of rules next zero i s = refl
turn-of rules next (suc n) i s = ap (◌++◌ (rules i)) (turn-of rules next n (i + 1) (next s i))

pub turn-same : {S : Type 0} (f g : S → ℕ → List Rule) (next : S → ℕ → S) (n i : ℕ) (s : S) → ((s : S) (j : ℕ) → j < i + n → f s j ≡ g s j) → in_turn f next n i s ≡ in_turn g next n i s
turn-same f g next zero i s h = refl
turn-same f g next (suc n) i s h = rw (h s i (omega arith), turn-same f g next n (i + 1) (next s i) (λ s j l. h s j (omega arith)))

pub turn-numbered : {S : Type 0} (rules : S → ℕ → List Rule) (next : S → ℕ → S) → ((s : S) (i : ℕ) → numbered (rules s i) ≡ true) → (n i : ℕ) (s : S)
    → numbered (in_turn rules next n i s) ≡ true
turn-numbered rules next all zero i s = refl
turn-numbered rules next all (suc n) i s = numbered-both (rules s i) (in_turn rules next n (i + 1) (next s i)) (all s i) (turn-numbered rules next all n (i + 1) (next s i))

-- a result just if none holds
pub none-holds : (xs : List Rule) → numbered xs ≡ true → eqb (first_refusal xs).number 0 ≡ not (some_holds xs)
none-holds [] n = refl
none-holds (x ∷ xs) n =
    let both = and_both (not (eqb x.number 0)) (numbered xs) n in
    by-test x.holds (λ h. rw h (not-true _ both.0)) (λ h. rw h (none-holds xs both.1))

-- where none holds
pub first-none : (xs : List Rule) → numbered xs ≡ true → eqb (first_refusal xs).number 0 ≡ true → first_refusal xs ≡ refused 0 0
first-none xs n e = ap first_refusal (sym (append-nil xs)) ∙ past [] xs n e

-- one rule more: r is what it gives where it holds, else what the others give
pub first-is : {r : Refusal} (b : Bool) (p q : Refusal) → (b ≡ true → r ≡ p) → (b ≡ false → r ≡ q) → r ≡ cond b p q
first-is true p q f g = f refl
first-is false p q f g = g refl

pub placeless-is : (xs : List Rule) → first_refusal (placeless xs) ≡ refused (first_refusal xs).number 0
placeless-is [] = refl
placeless-is (x ∷ xs) = by-test x.holds (λ a. rw a) (λ a. rw a (placeless-is xs))

-- the definitions test that the id is at or past the count, the rules that it isn't below
pub not-below : (a b : ℕ) → leb b a ≡ not (ltb a b)
not-below a b = by-test (leb b a) (λ e. rw (e, le-ltb _ _ (leb-true _ _ e))) (λ e. rw (e, lt-ltb _ _ (leb-false _ _ e)))

-- ---- the head's definition gives the head's rules

pub least-is : (a b : ℕ) → lesser a b ≡ least a b
unfolding lesser
least-is a b = refl

-- above the lesser of two is above one of them
pub over-either : (a b c : ℕ) → ltb (lesser a b) c ≡ ltb a c || ltb b c
unfolding lesser
over-either a b c =
    by-test (ltb a b)
    (λ h.
    by-test (ltb a c) (λ i. rw (h, i)) (λ i. rw (h, i) (sym (le-ltb _ _ (le_trans (ltb-false _ _ i) (lt-le (ltb-true _ _ h)))))))
    (λ h. by-test (ltb a c) (λ i. rw (h, i) (lt-ltb _ _ (le-lt (ltb-false _ _ h) (ltb-true _ _ i)))) (λ i. rw (h, i)))
  where
    le_trans : c ≤ a → a ≤ b → c ≤ b
    le_trans p q = omega arith

    lt-le : a < b → a ≤ b
    lt-le p = omega arith

    le-lt : b ≤ a → a < c → b < c
    le-lt p q = omega arith

-- the definition's nesting, and the list
module _ (i j k m n p q r : ℕ) where
  nested : (a b c d e f g h : Bool)
      → after_two (cond a (refused 1 i) (cond b (refused 1 j) none)) c (refused 1 k) (cond d (refused 1 m) (cond e (refused 1 n) (cond f (refused 1 p) none)))
      (cond g (refused 1 q) (cond h (refused 1 r) none))
      ≡ first_refusal ((a gives 1 at i) ∷ (b gives 1 at j) ∷ (c gives 1 at k) ∷ (d gives 1 at m) ∷ (e gives 1 at n) ∷ (f gives 1 at p) ∷ (g gives 1 at q) ∷ (h gives 1 at r) ∷ [])
  nested true b c d e f g h = refl
  nested false true c d e f g h = refl
  nested false false true d e f g h = refl
  nested false false false true e f g h = refl
  nested false false false false true f g h = refl
  nested false false false false false true g h = refl
  nested false false false false false false g h = refl

pub count-rules : (l : Link) (n : Lent) → judge_of l n ≡ first_refusal (count_rules l n)
unfolding judge_of judge_sections judge_names judge_lists after_sections after_symbols
count-rules l n =
    nested _ _ _ _ _ _ _ _ (ltb n.sections l.slots) (ltb (lesser 65535 l.slots) l.sections)
    (ltb (lesser 65535 (n.symbols / 8)) l.symbols) (ltb n.names l.chains) (ltb l.chains l.names)
    (ltb (lesser 1048576 n.bytes) l.bytes) (ltb (lesser 4095 (n.inputs / 8)) l.inputs) (ltb n.lists l.lists)
    ∙ cc (
      over-either 65535 l.slots l.sections,
      over-either 65535 (n.symbols / 8) l.symbols,
      over-either 1048576 n.bytes l.bytes,
      over-either 4095 (n.inputs / 8) l.inputs,
      least-is 65535 l.slots,
      least-is 65535 (n.symbols / 8),
      least-is 1048576 n.bytes,
      least-is 4095 (n.inputs / 8),
    )

pub head-rules : (l : Link) (n : Lent) → change_of l n ≡ first_refusal (head_rules l n)
unfolding change_of
head-rules l n = rw (count-rules l n)
