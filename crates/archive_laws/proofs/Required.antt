-- The names that admission asks for: a pass marks as required just the names that it finds undefined and that tie a member which it queues.
-- Assumes nothing.
use Prim.Native.Nat.{ℕ, zero, suc, ◌+◌, ◌*◌, ◌<◌, ◌≤◌}
use Rattle.std.proofs.Common.{not-suc-le-zero, sym, ap, ◌∙◌, eq-eqb, ne_eqb}
use Rattle.std.proofs.Math.Decide.{ℕ_discrete}
use native.Mathlib.Omega.{arith}
use Rattle.std.specs.Prelude.{◌≡◌, Bool, cond, not, List, ◌∷◌, eqb, set}
use Rattle.std.proofs.Math.Path.{refl, subst}
use Rattle.std.proofs.Math.Bool.{true, false}
use Rattle.std.proofs.Math.Seq.{get_or-set_other}
use Rattle.archive_index.specs.Rows.{required_at, member_at, pass_at}
use Rattle.archive_walk.specs.Look.{Table, tied_name}
use Rattle.archive_walk.specs.Names.{noted_of}
use Rattle.archive_walk.specs.Walk.{Queue, queue_of, marked, enqueue, tie_of, tie_all}
use Rattle.archive_laws.specs.Members.{among}
use Rattle.archive_laws.proofs.Counts.{clash, first_one, among_same, among-here, among_there, among-more}
use Rattle.archive_laws.specs.Runs.{queue_list}
use Rattle.archive_laws.proofs.Chains.{noted-there, noted_here}
use Rattle.archive_laws.specs.Pass.{Sound}
use Rattle.archive_laws.proofs.Pass.{m-member, m-pass-here, m-pass-other, marked-sound, marked-queue, noted-sound, noted-member, noted-pass, noted-queue}

-- a field 0 after an entry was queued
module _ (key : ℕ) (s : List ℕ) (c p k r : ℕ) (l : List ℕ) (n : ℕ) where
  abbrev a : List ℕ
  a = noted_of key c s l k

  mark-kept : (j : ℕ) → required_at (marked key c s p k r l n) j ≡ required_at a j
  unfolding marked
  mark-kept j =
      get_or-set_other (set a (r * 8 + 6) p) (n * 8 + 7) (j * 8 + 0) k 0 (λ e. omega arith) ∙ get_or-set_other a (r * 8 + 6) (j * 8 + 0) p 0 (λ e. omega arith)

module _ (key : ℕ) (s : List ℕ) (keys : ℕ → ℕ) (named : ℕ → List ℕ) (c : ℕ) (t : Table) (p : ℕ) (pos : p ≡ 0 → ⊥) (l₀ : List ℕ) (n₀ : ℕ) where
  abbrev q₀ : List ℕ
  q₀ = queue_list l₀ n₀

  abbrev tie : ℕ → Bool
  tie k = tied_name t (named k)

  -- entry j's mark after the pass: set where it ties a member that was not queued before
  abbrev pub mark_of : ℕ → ℕ
  mark_of j = cond (tie j) (cond (among keys j q₀) (required_at l₀ j) 1) (required_at l₀ j)

  -- in the middle of the pass, before entry k
  record Mid (k : ℕ) (l : List ℕ) (n : ℕ) : Type 0 where
    sound : Sound key s keys named c l n
    old : (j : ℕ) → among keys j q₀ ≡ true → among keys j (queue_list l n) ≡ true
    by : (j : ℕ) → j < c → eqb (pass_at l (member_at l j)) p ≡ cond (among keys j q₀) false (among keys j (queue_list l n))
    done : (j : ℕ) → j < k → required_at l j ≡ mark_of j
    rest : (j : ℕ) → k ≤ j → required_at l j ≡ required_at l₀ j

  module _ (k : ℕ) (l : List ℕ) (n : ℕ) (h : k < c) (m : Mid k l n) where
    -- nothing is written
    skipped : required_at l₀ k ≡ mark_of k → Mid (k + 1) l n
    skipped e = record {
      sound = m.sound;
      old = m.old;
      by = m.by;
      done = λ j g. at j g (ℕ_discrete j k);
      rest = λ j g. m.rest j (omega arith);
    }
      where
        at : (j : ℕ) → j < k + 1 → Dec (j ≡ k) → required_at l j ≡ mark_of j
        at j g (yes d) = rw d (m.rest k (omega arith) ∙ e)
        at j g (no d) = m.done j (omega arith)

    -- entry k's mark is set, the others are as they were
    module _ (l' : List ℕ) (n' : ℕ) (one : mark_of k ≡ 1) (here : required_at l' k ≡ 1) (there : (j : ℕ) → (j ≡ k → ⊥) → required_at l' j ≡ required_at l j)
        (sound' : Sound key s keys named c l' n') (old' : (j : ℕ) → among keys j q₀ ≡ true → among keys j (queue_list l' n') ≡ true)
        (by' : (j : ℕ) → j < c → eqb (pass_at l' (member_at l' j)) p ≡ cond (among keys j q₀) false (among keys j (queue_list l' n'))) where
      set-one : Mid (k + 1) l' n'
      set-one = record {
        sound = sound';
        old = old';
        by = by';
        done = λ j g. at j g (ℕ_discrete j k);
        rest = λ j g. there j (λ d. omega arith) ∙ m.rest j (omega arith);
      }
        where
          at : (j : ℕ) → j < k + 1 → Dec (j ≡ k) → required_at l' j ≡ mark_of j
          at j g (yes d) = rw d (here ∙ sym one)
          at j g (no d) = there j d ∙ m.done j (omega arith)

    noted : mark_of k ≡ 1 → among keys k (queue_list l n) ≡ true → Mid (k + 1) (noted_of key c s l k) n
    noted one held =
        set-one (noted_of key c s l k) n one (noted_here key s c k l m.sound.rows.room h) (noted-there key s c k l) (noted-sound key s keys named c l k n m.sound h held)
        (λ j e. rw (noted-queue key s keys named c l k n) (m.old j e)) (λ j g. rw (noted-queue key s keys named c l k n, noted-member key s keys named c l k j, noted-pass key s keys named c l k (member_at l j)) (m.by j g))

    queued : mark_of k ≡ 1 → among keys k (queue_list l n) ≡ false → Mid (k + 1) (marked key c s p k (member_at l k) l n) (n + 1)
    queued one free =
        set-one (marked key c s p k (member_at l k) l n) (n + 1) one here there (marked-sound key s keys named c p k l n m.sound h pos free) (λ j e. rw (marked-queue key s keys named c p k l n m.sound h pos free) (among-more keys (queue_list l n) k j (m.old j e)))
        (λ j g. rw (marked-queue key s keys named c p k l n m.sound h pos free, m-member key s keys named c p k l n m.sound h pos free j) (at j g (ℕ_discrete (keys k) (keys j))))
      where
        here : required_at (marked key c s p k (member_at l k) l n) k ≡ 1
        here = mark-kept key s c p k (member_at l k) l n k ∙ noted_here key s c k l m.sound.rows.room h

        there : (j : ℕ) → (j ≡ k → ⊥) → required_at (marked key c s p k (member_at l k) l n) j ≡ required_at l j
        there j d = mark-kept key s c p k (member_at l k) l n j ∙ noted-there key s c k l j d

        at : (j : ℕ) → j < c → Dec (keys k ≡ keys j)
            → eqb (pass_at (marked key c s p k (member_at l k) l n) (member_at l j)) p ≡ cond (among keys j q₀) false (among keys j (k ∷ queue_list l n))
        at j g (yes e) =
            let first-j = m.sound.rows.member j g in
            let first-k = m.sound.rows.member k h in
            let same-rep : member_at l j ≡ member_at l k = first_one keys (member_at l j) (member_at l k) first-j.first first-k.first (first-j.same ∙ sym e ∙ sym first-k.same) in
            let fresh : among keys j q₀ ≡ false = not-old j (sym (among_same keys (queue_list l n) k j e) ∙ free) in
            rw (same-rep, m-pass-here key s keys named c p k l n m.sound h pos free, fresh, among-here keys (queue_list l n) k j e, eq-eqb p p refl)
          where
            not-old : (j : ℕ) → among keys j (queue_list l n) ≡ false → among keys j q₀ ≡ false
            not-old j f = go (among keys j q₀) refl
              where
                go : (b : Bool) → among keys j q₀ ≡ b → among keys j q₀ ≡ false
                go false e = e
                go true e = clash (among keys j (queue_list l n)) (m.old j e) f
        at j g (no e) =
            let first-j = m.sound.rows.member j g in
            let first-k = m.sound.rows.member k h in
            rw (m-pass-other key s keys named c p k l n m.sound h pos free (member_at l j) (λ d. e (sym first-k.same ∙ sym (ap keys d) ∙ first-j.same)), among_there keys (queue_list l n) k j e) (m.by j g)

    not-before : among keys k (queue_list l n) ≡ false → among keys k q₀ ≡ false
    not-before f = go (among keys k q₀) refl
      where
        go : (b : Bool) → among keys k q₀ ≡ b → among keys k q₀ ≡ false
        go false e = e
        go true e = clash (among keys k (queue_list l n)) (m.old k e) f

    mid_step : Mid (k + 1) (tie_of key c s t p k (queue_of l n)).cells (tie_of key c s t p k (queue_of l n)).queued
    unfolding tie_of enqueue
    mid_step =
        rw (m.sound.rows.name k h)
        (go (tied_name t (named k)) (eqb (pass_at l (member_at l k)) 0) (eqb (pass_at l (member_at l k)) p) (among keys k q₀) (among keys k (queue_list l n)) refl refl refl
        (m.sound.marks.mark k h) (m.by k h))
      where
        unit : tie k ≡ true → among keys k q₀ ≡ false → mark_of k ≡ 1
        unit e f = rw (e, f)

        go : (u a b x w : Bool) → tie k ≡ u → among keys k q₀ ≡ x → among keys k (queue_list l n) ≡ w → a ≡ not w → b ≡ cond x false w
            → Mid (k + 1)
            (cond {A = Queue} u (cond a (queue_of (marked key c s p k (member_at l k) l n) (n + 1)) (cond b (queue_of (noted_of key c s l k) n) (queue_of l n))) (queue_of l n)).cells
            (cond {A = Queue} u (cond a (queue_of (marked key c s p k (member_at l k) l n) (n + 1)) (cond b (queue_of (noted_of key c s l k) n) (queue_of l n))) (queue_of l n)).queued
        go false a b x w eu ex ew ea eb = skipped (sym (rw eu))
        go true true b x false eu ex ew ea eb = queued (unit eu (not-before ew)) ew
        go true true b x true eu ex ew ea eb = clash true refl ea
        go true false true false w eu ex ew ea eb = noted (unit eu ex) (ew ∙ sym eb)
        go true false true true w eu ex ew ea eb = clash true refl eb
        go true false false true w eu ex ew ea eb = skipped (sym (rw (eu, ex)))
        go true false false false true eu ex ew ea eb = clash true refl (sym eb)
        go true false false false false eu ex ew ea eb = clash true refl (sym ea)

  mid_run : (i k : ℕ) (u : Queue) → k + i ≡ c → Mid k u.cells u.queued → Mid c (tie_all key c s t p i k u).cells (tie_all key c s t p i k u).queued
  unfolding tie_all
  mid_run zero k u e m = let f : k ≡ c = omega arith in subst (λ (x : ℕ). Mid x u.cells u.queued) f m
  mid_run (suc i) k u e m = mid_run i (k + 1) (tie_of key c s t p k u) (omega arith) (mid_step k u.cells u.queued (omega arith) m)

  -- the marks after a pass
  pub required-pass : Sound key s keys named c l₀ n₀ → ((j : ℕ) → j < c → pass_at l₀ (member_at l₀ j) < p) → (j : ℕ) → j < c → required_at (tie_all key c s t p c 0 (queue_of l₀ n₀)).cells j ≡ mark_of j
  required-pass y w j h = (mid_run c 0 (queue_of l₀ n₀) (omega arith) begin).done j h
    where
      never : (b : Bool) → cond b false b ≡ false
      never true = refl
      never false = refl

      begin : Mid 0 l₀ n₀
      begin = record {
        sound = y;
        old = λ j e. e;
        by = λ j g. ne_eqb (pass_at l₀ (member_at l₀ j)) p (λ e. omega (arith, w j g)) ∙ sym (never (among keys j q₀));
        done = λ j g. absurd (not-suc-le-zero g);
        rest = λ j g. refl;
      }
