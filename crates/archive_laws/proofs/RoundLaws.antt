-- What a round of the definition does (Did), and what holds after any (Kept): the bound on passes, and that a pass queues what it has to (Newly).
-- Assumes nothing.
use Prim.Native.Nat.{ℕ, zero, suc, ◌+◌, ◌<◌, ◌≤◌}
use Rattle.std.proofs.Common.{not-suc-le-zero, sym, ap, ◌∙◌, ltb-true, ltb-false}
use Rattle.std.proofs.Math.Decide.{ℕ_discrete}
use native.Mathlib.Omega.{arith}
use Rattle.std.specs.Prelude.{◌≡◌, Bool, cond}
use Rattle.std.proofs.Math.Path.{refl, subst}
use Rattle.std.proofs.Math.Bool.{true, false}
use mathlib.Core.List.{List, ◌∷◌}
use Rattle.std.proofs.Math.Dec.{ltb}
use Rattle.std.proofs.Math.ListN.{length}
use Rattle.archive_laws.specs.Members.{among, Once, none, more, members, View, pull_at, pull, Rounds, rounds_of, front_of, pass_round, round, fresh}
use Rattle.archive_laws.specs.Counts.{Below, no_one, one_more}
use Rattle.archive_laws.proofs.Counts.{clash, among_same, among-here, among-more, once-members}
use Rattle.archive_laws.specs.RoundLaws.{base, on}
use Rattle.archive_laws.specs.RoundLaws as Base

module _ (keys : ℕ → ℕ) (tie : ℕ → Bool) where
  -- one entry of a pass
  pub data Pulled (q : List ℕ) (k : ℕ) : List ℕ → Type 0 where
    free : tie k ≡ false → Pulled q k q
    kept : tie k ≡ true → among keys k q ≡ true → Pulled q k q
    new : tie k ≡ true → among keys k q ≡ false → Pulled q k (k ∷ q)

  pub pulled : (q : List ℕ) (k : ℕ) → Pulled q k (pull_at keys tie q k)
  unfolding pull_at
  pulled q k = go (tie k) (among keys k q) refl refl
    where
      go : (a b : Bool) → tie k ≡ a → among keys k q ≡ b → Pulled q k (cond a (cond b q (k ∷ q)) q)
      go true true e f = kept e f
      go true false e f = new e f
      go false b e f = free e

  pub pull-once : (n k : ℕ) (q : List ℕ) → Once keys q → Once keys (pull keys tie n k q)
  unfolding pull
  pull-once zero k q o = o
  pull-once (suc n) k q o = pull-once n (k + 1) (pull_at keys tie q k) (go (pull_at keys tie q k) (pulled q k))
    where
      go : (r : List ℕ) → Pulled q k r → Once keys r
      go r (free e) = o
      go r (kept e f) = o
      go r (new e f) = more f o

  pub pull-below : (c n k : ℕ) (q : List ℕ) → k + n ≤ c → Below keys c q → Below keys c (pull keys tie n k q)
  unfolding pull
  pull-below c zero k q h b = b
  pull-below c (suc n) k q h b = pull-below c n (k + 1) (pull_at keys tie q k) (omega arith) (go (pull_at keys tie q k) (pulled q k))
    where
      go : (r : List ℕ) → Pulled q k r → Below keys c r
      go r (free e) = b
      go r (kept e f) = b
      go r (new e f) = let h' : k < c = omega arith in one_more h' b

  -- a queued member stays queued
  pub pull-keeps : (n k : ℕ) (q : List ℕ) (j : ℕ) → among keys j q ≡ true → among keys j (pull keys tie n k q) ≡ true
  unfolding pull
  pull-keeps zero k q j e = e
  pull-keeps (suc n) k q j e = pull-keeps n (k + 1) (pull_at keys tie q k) j (go (pull_at keys tie q k) (pulled q k))
    where
      go : (r : List ℕ) → Pulled q k r → among keys j r ≡ true
      go r (free f) = e
      go r (kept f g) = e
      go r (new f g) = among-more keys q k j e

  -- "no name undefined is tied to an unoffered member": each tied entry's member is queued
  pub pull-into : (n k : ℕ) (q : List ℕ) (j : ℕ) → k ≤ j → j < k + n → tie j ≡ true → among keys j (pull keys tie n k q) ≡ true
  unfolding pull
  pull-into zero k q j a b e = absurd (omega arith)
  pull-into (suc n) k q j a b e = here (ℕ_discrete j k) (λ x y. pull-into n (k + 1) (pull_at keys tie q k) j x y e)
    where
      at : (r : List ℕ) → Pulled q k r → j ≡ k → among keys j r ≡ true
      at r (free f) d = clash (tie k) (rw d at e) f
      at r (kept f g) d = rw d g
      at r (new f g) d = among-here keys q k j (ap keys (sym d))

      here : Dec (j ≡ k) → (k + 1 ≤ j → j < k + 1 + n → among keys j (pull keys tie n (k + 1) (pull_at keys tie q k)) ≡ true)
          → among keys j (pull keys tie n (k + 1) (pull_at keys tie q k)) ≡ true
      here (yes d) r = pull-keeps n (k + 1) (pull_at keys tie q k) j (at (pull_at keys tie q k) (pulled q k) d)
      here (no d) r = r (omega arith) (omega arith)

  abbrev Added : (q : List ℕ) (j : ℕ) → Type 0
  Added = Base.Added keys tie

  abbrev Newly : (q : List ℕ) → ℕ → List ℕ → Type 0
  Newly = Base.Newly keys tie

  wider : (q r : List ℕ) (j k : ℕ) → j ≤ k → Newly q j r → Newly q k r
  wider q r j k h base = base
  wider q r j k h (on {j = i} n l a) = let l' : i < k = omega arith in on n l' a

  module _ (q : List ℕ) where
    newly-run : (n k : ℕ) (r : List ℕ) → Newly q k r → ((i : ℕ) → i < k → tie i ≡ true → among keys i r ≡ true)
        → ((j : ℕ) → among keys j q ≡ true → among keys j r ≡ true) → Newly q (k + n) (pull keys tie n k r)
    unfolding pull
    newly-run zero k r d seen old = wider q r k (k + 0) (omega arith) d
    newly-run (suc n) k r d seen old =
        subst (λ (x : ℕ). Newly q x (pull keys tie n (k + 1) (pull_at keys tie r k))) (omega arith)
        (newly-run n (k + 1) (pull_at keys tie r k) (go (pull_at keys tie r k) (pulled r k)) (λ i h e. see (pull_at keys tie r k) (pulled r k) i h e) (λ j e. keep (pull_at keys tie r k) (pulled r k) j e))
      where
        one : k ≤ k + 1
        one = omega arith

        free_of : (j : ℕ) → among keys j r ≡ false → among keys j q ≡ false
        free_of j f = by (among keys j q) refl
          where
            by : (b : Bool) → among keys j q ≡ b → among keys j q ≡ false
            by false e = e
            by true e = clash (among keys j r) (old j e) f

        go : (r' : List ℕ) → Pulled r k r' → Newly q (k + 1) r'
        go r' (free e) = wider q r k (k + 1) one d
        go r' (kept e f) = wider q r k (k + 1) one d
        go r' (new e f) =
            let l : k < k + 1 = omega arith in
            on d l
            (record { tied = e; free = free_of k f; first = λ i h g w. clash (among keys i r) (seen i h g) (among_same keys r i k w ∙ f) })

        keep : (r' : List ℕ) → Pulled r k r' → (j : ℕ) → among keys j q ≡ true → among keys j r' ≡ true
        keep r' (free e) j g = old j g
        keep r' (kept e f) j g = old j g
        keep r' (new e f) j g = among-more keys r k j (old j g)

        at : (r' : List ℕ) → Pulled r k r' → tie k ≡ true → among keys k r' ≡ true
        at r' (free e) g = clash (tie k) g e
        at r' (kept e f) g = f
        at r' (new e f) g = among-here keys r k k refl

        before : (r' : List ℕ) → Pulled r k r' → (i : ℕ) → i < k → tie i ≡ true → among keys i r' ≡ true
        before r' (free e) i h g = seen i h g
        before r' (kept e f) i h g = seen i h g
        before r' (new e f) i h g = among-more keys r k i (seen i h g)

        see : (r' : List ℕ) → Pulled r k r' → (i : ℕ) → i < k + 1 → tie i ≡ true → among keys i r' ≡ true
        see r' w i h g = by (ℕ_discrete i k)
          where
            by : Dec (i ≡ k) → among keys i r' ≡ true
            by (yes e) = rw e (at r' w (rw e at g))
            by (no e) = before r' w i (omega arith) g

    -- "in first-seen order", "each once": what a pass over c entries adds to the queue
    pub newly : (c : ℕ) → Newly q c (pull keys tie c 0 q)
    newly c =
        subst (λ (x : ℕ). Newly q x (pull keys tie c 0 q)) (omega arith) (newly-run c 0 q base (λ i h e. absurd (not-suc-le-zero h)) (λ j e. e))

-- ---- a call

module _ (keys : ℕ → ℕ) (c : ℕ) (v : View) where
  abbrev pub after : Rounds → List ℕ
  after a = pull keys v.tied c 0 a.queue

  pub data Did (a : Rounds) : Rounds → Type 0 where
    still : a.done ≡ true → Did a a
    sent : a.done ≡ false → a.offered < length a.queue → Did a (rounds_of a.queue (a.offered + 1) a.passes false)
    halted : a.done ≡ false → length a.queue ≤ a.offered → v.refused ≡ true → Did a a
    made : a.done ≡ false → length a.queue ≤ a.offered → v.refused ≡ false → a.offered < length (after a)
        → Did a (rounds_of (after a) (a.offered + 1) (a.passes + 1) false)
    last : a.done ≡ false → length a.queue ≤ a.offered → v.refused ≡ false → length (after a) ≤ a.offered
        → Did a (rounds_of (after a) a.offered (a.passes + 1) true)

  pub did : (a : Rounds) → Did a (round keys c v a)
  unfolding round pass_round front_of
  did a = go a.done (ltb a.offered (length a.queue)) v.refused (ltb a.offered (length (after a))) refl refl refl refl
    where
      go : (d f h g : Bool) → a.done ≡ d → ltb a.offered (length a.queue) ≡ f → v.refused ≡ h → ltb a.offered (length (after a)) ≡ g
          → Did a (cond d a (cond f (cond f (rounds_of a.queue (a.offered + 1) a.passes false) (rounds_of a.queue a.offered a.passes true))
          (cond h a (cond g (rounds_of (after a) (a.offered + 1) (a.passes + 1) false) (rounds_of (after a) a.offered (a.passes + 1) true)))))
      go true f h g ed ef eh eg = still ed
      go false true h g ed ef eh eg = sent ed (ltb-true a.offered (length a.queue) ef)
      go false false true g ed ef eh eg = halted ed (ltb-false a.offered (length a.queue) ef) eh
      go false false false true ed ef eh eg = made ed (ltb-false a.offered (length a.queue) ef) eh (ltb-true a.offered (length (after a)) eg)
      go false false false false ed ef eh eg = last ed (ltb-false a.offered (length a.queue) ef) eh (ltb-false a.offered (length (after a)) eg)

module _ (keys : ℕ → ℕ) (c : ℕ) where
  -- what holds of every walk
  pub record Kept (a : Rounds) : Type 0 where
    pub once : Once keys a.queue
    pub below : Below keys c a.queue
    pub some : a.offered ≤ length a.queue
    pub going : a.done ≡ false → a.passes ≤ length a.queue
    pub over : a.passes ≤ length a.queue + 1
    pub drained : a.done ≡ true → a.offered ≡ length a.queue
    pub some-pass : a.done ≡ true → 1 ≤ a.passes

  pub kept_fresh : Kept fresh
  kept_fresh = record {
    once = none;
    below = no_one;
    some = omega arith;
    going = λ e. omega arith;
    over = omega arith;
    drained = λ e. refl;
    some-pass = λ e. clash false e refl;
  }

  grows : (tie : ℕ → Bool) (n k : ℕ) (q : List ℕ) → length q ≤ length (pull keys tie n k q)
  unfolding pull
  grows tie zero k q = omega arith
  grows tie (suc n) k q = omega (arith, grows tie n (k + 1) (pull_at keys tie q k), one (pull_at keys tie q k) (pulled keys tie q k))
    where
      one : (r : List ℕ) → Pulled keys tie q k r → length q ≤ length r
      one r (free e) = omega arith
      one r (kept e f) = omega arith
      one r (new e f) = omega arith

  longer : (v : View) (a : Rounds) → length a.queue ≤ length (after keys c v a)
  longer v a = grows v.tied c 0 a.queue

  pub kept-did : (v : View) (a b : Rounds) → Kept a → Did keys c v a b → Kept b
  kept-did v a b k (still e) = k
  kept-did v a b k (halted e f g) = k
  kept-did v a b k (sent e f) = record {
    once = k.once;
    below = k.below;
    some = omega arith;
    going = λ z. k.going e;
    over = k.over;
    drained = λ z. clash false z refl;
    some-pass = λ z. clash false z refl;
  }
  kept-did v a b k (made e f g h) = record {
    once = pull-once keys v.tied c 0 a.queue k.once;
    below = pull-below keys v.tied c c 0 a.queue (omega arith) k.below;
    some = omega arith;
    going = λ z. omega (arith, k.going e, k.some);
    over = omega (arith, k.going e, k.some);
    drained = λ z. clash false z refl;
    some-pass = λ z. clash false z refl;
  }
  kept-did v a b k (last e f g h) = record {
    once = pull-once keys v.tied c 0 a.queue k.once;
    below = pull-below keys v.tied c c 0 a.queue (omega arith) k.below;
    some = omega (arith, k.some, longer v a);
    going = λ z. clash true refl z;
    over = omega (arith, k.going e, longer v a);
    drained = λ z. omega (arith, k.some, longer v a);
    some-pass = λ z. omega arith;
  }

  -- "at most m + 1 passes", and at most m before the walk is done
  pub passes-most : (a : Rounds) → Kept a → a.passes ≤ members keys c + 1
  passes-most a k = omega (arith, k.over, once-members keys c a.queue k.once k.below)

  pub passes-going : (a : Rounds) → Kept a → a.done ≡ false → a.passes ≤ members keys c
  passes-going a k e = omega (arith, k.going e, once-members keys c a.queue k.once k.below)

  -- a call that makes a pass finds every queued member offered, and queues what the definition pulls
  pub pass-made : (v : View) (a b : Rounds) → Did keys c v a b → b.passes ≡ a.passes + 1 → (length a.queue ≤ a.offered) × (b.queue ≡ after keys c v a)
  pass-made v a b (still e) p = absurd (omega arith)
  pass-made v a b (sent e f) p = absurd (omega arith)
  pass-made v a b (halted e f g) p = absurd (omega arith)
  pass-made v a b (made e f g h) p = (f, refl)
  pass-made v a b (last e f g h) p = (f, refl)

  -- a call that ends the walk makes a pass
  pub end-passes : (v : View) (a b : Rounds) → Did keys c v a b → a.done ≡ false → b.done ≡ true → b.passes ≡ a.passes + 1
  end-passes v a b (still e) p q = clash a.done e p
  end-passes v a b (sent e f) p q = clash false q refl
  end-passes v a b (halted e f g) p q = clash a.done q p
  end-passes v a b (made e f g h) p q = clash false q refl
  end-passes v a b (last e f g h) p q = refl

  -- the last pass: no name that is undefined in its table is tied to a member that was not offered
  pub last-pass : (v : View) (a b : Rounds) → Kept a → Did keys c v a b → a.done ≡ false → b.done ≡ true
      → (b.offered ≡ length b.queue) × ((k : ℕ) → k < c → v.tied k ≡ true → among keys k b.queue ≡ true)
  last-pass v a b k (still e) p q = clash a.done e p
  last-pass v a b k (sent e f) p q = clash false q refl
  last-pass v a b k (halted e f g) p q = clash a.done q p
  last-pass v a b k (made e f g h) p q = clash false q refl
  last-pass v a b k (last e f g h) p q = (omega (arith, k.some, longer v a), λ j l t. pull-into keys v.tied c 0 a.queue j (omega arith) (omega arith) t)
