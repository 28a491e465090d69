-- A pass over the cells is a pass of the definition.
-- Assumes nothing.
use Prim.Native.Nat.{ℕ, zero, suc, ◌+◌, ◌*◌, ◌<◌, ◌≤◌}
use Rattle.std.proofs.Common.{add-one, sym, ◌∙◌, inl, inr, length-set, get_or-set_other, ne_eqb, ltb-true, ltb-false}
use Rattle.std.proofs.Math.Decide.{ℕ_discrete}
use native.Mathlib.Omega.{arith}
use Rattle.std.specs.Prelude.{◌≡◌, ◌⊎◌, Bool, not, eqb, ltb, get_or, set}
use Rattle.std.proofs.Math.Path.{refl, ap, ap₂}
use Rattle.std.proofs.Math.Bool.{true, false, cond}
use mathlib.Core.List.{List, ◌∷◌}
use Rattle.std.proofs.Math.ListN.{length}
use Rattle.std.proofs.Math.Seq.{get_or-set_same}
use Rattle.archive_index.specs.Rows.{required_at, member_at, pass_at, queue_at, stored_name}
use Rattle.archive_walk.specs.Look.{Table, removed_name, tied_name}
use Rattle.archive_walk.specs.Names.{noted_of}
use Rattle.archive_walk.specs.Walk.{Queue, queue_of, marked, enqueue, tie_of, tie_all, removed_of}
use Rattle.archive_laws.specs.Members.{among, Once, more, is_first, any_below, pull_at, pull}
use Rattle.archive_laws.specs.Counts.{First, Below, one_more}
use Rattle.archive_laws.proofs.Counts.{clash, any-in, any_none, cnt-le, first_one, among-here, among_there, once-members}
use Rattle.archive_laws.proofs.Chains.{linked-kept, noted-field, noted-length, noted-there, noted-linked}
use Rattle.archive_laws.specs.Runs.{queue_list}
use Rattle.archive_laws.specs.Pass.{Rows, Marks, Sound, Low}

-- ---- the queue in the cells

pub queue-length : (l : List ℕ) (n : ℕ) → length (queue_list l n) ≡ n
unfolding queue_list
queue-length l zero = refl
queue-length l (suc n) = ap suc (queue-length l n)

queue-same : (l m : List ℕ) (n : ℕ) → ((i : ℕ) → i < n → queue_at m i ≡ queue_at l i) → queue_list m n ≡ queue_list l n
unfolding queue_list
queue-same l m zero h = refl
queue-same l m (suc n) h = rw (h n (omega arith), queue-same l m n (λ i e. h i (omega arith)))

module _ (key : ℕ) (s : List ℕ) (keys : ℕ → ℕ) (named : ℕ → List ℕ) (c : ℕ) where
  -- ---- one cell is written: what stands in the others

  module _ (l : List ℕ) (a v : ℕ) where
    -- a field of any row, where another field was written
    pub kept_field : (j f : ℕ) → (j * 8 + f ≡ a → ⊥) → get_or (set l a v) (j * 8 + f) 0 ≡ get_or l (j * 8 + f) 0
    kept_field j f h = get_or-set_other l a (j * 8 + f) v 0 h

    kept-queue : (n : ℕ) → ((i : ℕ) → i < n → i * 8 + 7 ≡ a → ⊥) → queue_list (set l a v) n ≡ queue_list l n
    kept-queue n h = queue-same l (set l a v) n (λ i e. kept_field i 7 (h i e))

    pub kept-rows : ((j f : ℕ) → f < 6 → j * 8 + f ≡ a → ⊥) → Rows key s keys named c l → Rows key s keys named c (set l a v)
    kept-rows h y = record {
      room = omega (arith, length-set l a v, y.room);
      name = λ j e. rw (kept_field j 4 (h j 4 (omega arith)), kept_field j 5 (h j 5 (omega arith))) (y.name j e);
      member = λ j e. rw (kept_field j 1 (h j 1 (omega arith))) (y.member j e);
      linked = linked-kept key s c l (set l a v) (λ j f q. kept_field j f (h j f q)) y.linked;
    }

  pub other-field : (j f k g : ℕ) → f < 6 → (g ≡ 6) ⊎ (g ≡ 7) → j * 8 + f ≡ k * 8 + g → ⊥
  other-field j f k g q (inl b) e = omega arith
  other-field j f k g q (inr b) e = omega arith

  -- an entry's name is required: its mark is set, and its name is in a chain
  module _ (l : List ℕ) (k : ℕ) where
    abbrev noted : List ℕ
    noted = noted_of key c s l k

    pub noted-member : (j : ℕ) → member_at noted j ≡ member_at l j
    noted-member j = noted-field key s c k l j 1 (omega arith) (λ e. omega arith) (λ e. omega arith) (λ e. omega arith)

    pub noted-pass : (j : ℕ) → pass_at noted j ≡ pass_at l j
    noted-pass j = noted-field key s c k l j 6 (omega arith) (λ e. omega arith) (λ e. omega arith) (λ e. omega arith)

    pub noted-queue : (n : ℕ) → queue_list noted n ≡ queue_list l n
    noted-queue n = queue-same l noted n (λ i e. noted-field key s c k l i 7 (omega arith) (λ z. omega arith) (λ z. omega arith) (λ z. omega arith))

    pub noted-rows : k < c → Rows key s keys named c l → Rows key s keys named c noted
    noted-rows h y = record {
      room = omega (arith, noted-length key s c k l, y.room);
      name = λ j e. rw (keep j 4 (omega arith) (λ z. omega arith) (λ z. omega arith) (λ z. omega arith), keep j 5 (omega arith) (λ z. omega arith) (λ z. omega arith) (λ z. omega arith)) (y.name j e);
      member = λ j e. rw (noted-member j) (y.member j e);
      linked = noted-linked key s c k l y.room h y.linked;
    }
      where
        keep : (j g : ℕ) → g < 8 → (g ≡ 0 → ⊥) → (g ≡ 2 → ⊥) → (g ≡ 3 → ⊥) → get_or noted (j * 8 + g) 0 ≡ get_or l (j * 8 + g) 0
        keep j g h p q z = noted-field key s c k l j g h p q z

    module _ (n : ℕ) (y : Sound key s keys named c l n) where
      noted-marks : among keys k (queue_list l n) ≡ true → Marks key s keys named c noted n
      noted-marks queued = record {
        mark = λ j h. rw (noted-queue n, noted-member j, noted-pass (member_at l j)) (y.marks.mark j h);
        once = rw (noted-queue n) y.marks.once;
        below = rw (noted-queue n) y.marks.below;
        unmarked = λ j h f. other j h (rw (noted-queue n) at f);
      }
        where
          other : (j : ℕ) → j < c → among keys j (queue_list l n) ≡ false → required_at noted j ≡ 0
          other j h f = noted-there key s c k l j (λ d. clash (among keys k (queue_list l n)) queued (rw d at f)) ∙ y.marks.unmarked j h f

      pub noted-sound : k < c → among keys k (queue_list l n) ≡ true → Sound key s keys named c noted n
      noted-sound h queued = record { rows = noted-rows h y.rows; marks = noted-marks queued }

  -- entry k goes to the end of the queue
  module _ (p k : ℕ) (l : List ℕ) (n : ℕ) (y : Sound key s keys named c l n) (h : k < c) (pos : p ≡ 0 → ⊥) (free : among keys k (queue_list l n) ≡ false) where
    abbrev r : ℕ
    r = member_at l k

    abbrev a : List ℕ
    a = noted_of key c s l k

    abbrev b : List ℕ
    b = set a (r * 8 + 6) p

    a-rows : Rows key s keys named c a
    a-rows = noted-rows l k h y.rows

    -- there is room: as many members are queued as are named at most
    room-left : n < c
    room-left =
        let o : Once keys (k ∷ queue_list l n) = more free y.marks.once in
        let w : Below keys c (k ∷ queue_list l n) = one_more h y.marks.below in
        omega (arith, queue-length l n, once-members keys c (k ∷ queue_list l n) o w, cnt-le (is_first keys) c)

    b-rows : Rows key s keys named c b
    b-rows = kept-rows a (r * 8 + 6) p (λ j f d e. other-field j f r 6 d (inl refl) e) a-rows

    abbrev m : List ℕ
    m = marked key c s p k r l n

    m-rows : Rows key s keys named c m
    unfolding marked
    m-rows = kept-rows b (n * 8 + 7) k (λ j f d e. other-field j f n 7 d (inr refl) e) b-rows

    pub m-member : (j : ℕ) → member_at m j ≡ member_at l j
    unfolding marked
    m-member j =
        kept_field b (n * 8 + 7) k j 1 (λ e. omega arith) ∙ kept_field a (r * 8 + 6) p j 1 (λ e. omega arith) ∙ noted-member l k j

    m-queue : queue_list m (n + 1) ≡ k ∷ queue_list l n
    unfolding marked queue_list
    m-queue =
        let inside : n * 8 + 7 < length b = omega (arith, b-rows.room, room-left) in
        let here : queue_at m n ≡ k = get_or-set_same b (n * 8 + 7) k 0 inside in
        let rest : queue_list m n ≡ queue_list l n =
        kept-queue b (n * 8 + 7) k n (λ i e g. omega arith) ∙ kept-queue a (r * 8 + 6) p n (λ i e g. omega arith) ∙ noted-queue l k n in
        ap (λ (i : ℕ). queue_list m i) (add-one n) ∙ ap₂ ◌∷◌ here rest

    pub m-pass-here : pass_at m r ≡ p
    unfolding marked
    m-pass-here =
        let low : r < c = omega (arith, (y.rows.member k h).low) in
        let inside : r * 8 + 6 < length a = omega (arith, a-rows.room) in
        kept_field b (n * 8 + 7) k r 6 (λ e. omega arith) ∙ get_or-set_same a (r * 8 + 6) p 0 inside

    pub m-pass-other : (q : ℕ) → (q ≡ r → ⊥) → pass_at m q ≡ pass_at l q
    unfolding marked
    m-pass-other q e =
        kept_field b (n * 8 + 7) k q 6 (λ g. omega arith) ∙ kept_field a (r * 8 + 6) p q 6 (λ g. e (omega arith)) ∙ noted-pass l k q

    m-mark : (j : ℕ) → j < c → eqb (pass_at m (member_at m j)) 0 ≡ not (among keys j (queue_list m (n + 1)))
    m-mark j g = rw (m-queue, m-member j) (go (ℕ_discrete (keys k) (keys j)))
      where
        first-j : First keys j (member_at l j)
        first-j = y.rows.member j g

        first-k : First keys k r
        first-k = y.rows.member k h

        go : Dec (keys k ≡ keys j) → eqb (pass_at m (member_at l j)) 0 ≡ not (among keys j (k ∷ queue_list l n))
        go (yes e) =
            let one : member_at l j ≡ r = first_one keys (member_at l j) r first-j.first first-k.first (first-j.same ∙ sym e ∙ sym first-k.same) in
            rw (one, m-pass-here, among-here keys (queue_list l n) k j e, ne_eqb p 0 pos)
        go (no e) =
            rw (m-pass-other (member_at l j) (λ d. e (sym first-k.same ∙ sym (ap keys d) ∙ first-j.same)), among_there keys (queue_list l n) k j e) (y.marks.mark j g)

    m-unmarked : (j : ℕ) → j < c → among keys j (queue_list m (n + 1)) ≡ false → required_at m j ≡ 0
    unfolding marked
    m-unmarked j g f = go (ℕ_discrete (keys k) (keys j)) (rw m-queue at f)
      where
        go : Dec (keys k ≡ keys j) → among keys j (k ∷ queue_list l n) ≡ false → required_at m j ≡ 0
        go (yes e) w = clash (among keys j (k ∷ queue_list l n)) (among-here keys (queue_list l n) k j e) w
        go (no e) w =
            kept_field b (n * 8 + 7) k j 0 (λ z. omega arith) ∙ kept_field a (r * 8 + 6) p j 0 (λ z. omega arith)
            ∙ noted-there key s c k l j (λ d. e (ap keys (sym d)))
            ∙ y.marks.unmarked j g (sym (among_there keys (queue_list l n) k j e) ∙ w)

    pub marked-sound : Sound key s keys named c (marked key c s p k r l n) (n + 1)
    marked-sound = record {
      rows = m-rows;
      marks = record { mark = m-mark; once = rw m-queue (more free y.marks.once); below = rw m-queue (one_more h y.marks.below); unmarked = m-unmarked };
    }

    -- what was queued before stays
    pub marked-front : (i : ℕ) → i ≤ n → queue_list (marked key c s p k r l n) i ≡ queue_list l i
    unfolding marked
    marked-front i g =
        kept-queue b (n * 8 + 7) k i (λ j e d. omega arith) ∙ kept-queue a (r * 8 + 6) p i (λ j e d. omega arith) ∙ noted-queue l k i

    pub marked-queue : queue_list (marked key c s p k r l n) (n + 1) ≡ k ∷ queue_list l n
    marked-queue = m-queue

  -- ---- an entry of the pass

  noted-low : (p : ℕ) (l : List ℕ) (k : ℕ) → Low key s keys named c p l → Low key s keys named c p (noted_of key c s l k)
  noted-low p l k w j g = rw (noted-member l k j, noted-pass l k (member_at l j)) (w j g)

  marked-low : (p k : ℕ) (l : List ℕ) (n : ℕ) (y : Sound key s keys named c l n) (h : k < c) (pos : p ≡ 0 → ⊥) (free : among keys k (queue_list l n) ≡ false) → Low key s keys named c p l → Low key s keys named c p (marked key c s p k (member_at l k) l n)
  marked-low p k l n y h pos free w j g = rw (m-member p k l n y h pos free j) (go (ℕ_discrete (member_at l j) (member_at l k)))
    where
      go : Dec (member_at l j ≡ member_at l k) → pass_at (marked key c s p k (member_at l k) l n) (member_at l j) ≤ p
      go (yes d) = rw (d, m-pass-here p k l n y h pos free) (omega arith)
      go (no d) = rw (m-pass-other p k l n y h pos free (member_at l j) d) (w j g)

  -- what a step makes of the queue
  pub record Made (p : ℕ) (l : List ℕ) (n : ℕ) (q : List ℕ) (u : Queue) : Type 0 where
    pub sound : Sound key s keys named c u.cells u.queued
    pub queue : queue_list u.cells u.queued ≡ q
    pub more : n ≤ u.queued
    pub front : (i : ℕ) → i ≤ n → queue_list u.cells i ≡ queue_list l i
    pub low : Low key s keys named c p l → Low key s keys named c p u.cells

  module _ (t : Table) (p : ℕ) (pos : p ≡ 0 → ⊥) where
    abbrev tie : ℕ → Bool
    tie k = tied_name t (named k)

    made_at : (k : ℕ) (l : List ℕ) (n : ℕ) → k < c → Sound key s keys named c l n → Made p l n (pull_at keys tie (queue_list l n) k) (tie_of key c s t p k (queue_of l n))
    unfolding tie_of enqueue pull_at
    made_at k l n h y =
        rw (y.rows.name k h)
        (go (tied_name t (named k)) (eqb (pass_at l (member_at l k)) 0) (eqb (pass_at l (member_at l k)) p) (among keys k (queue_list l n)) refl (y.marks.mark k h))
      where
        none : Made p l n (queue_list l n) (queue_of l n)
        none = record { sound = y; queue = refl; more = omega arith; front = λ i g. refl; low = λ w. w }

        go : (u x w f : Bool) → among keys k (queue_list l n) ≡ f → x ≡ not f
            → Made p l n (cond u (cond f (queue_list l n) (k ∷ queue_list l n)) (queue_list l n))
            (cond u (cond x (queue_of (marked key c s p k (member_at l k) l n) (n + 1)) (cond w (queue_of (noted_of key c s l k) n) (queue_of l n))) (queue_of l n))
        go false x w f e d = none
        go true true w false e d = record {
          sound = marked-sound p k l n y h pos e;
          queue = marked-queue p k l n y h pos e;
          more = omega arith;
          front = λ i g. marked-front p k l n y h pos e i g;
          low = marked-low p k l n y h pos e;
        }
        go true false w false e d = clash false d refl
        go true true w true e d = clash true refl d
        go true false true true e d = record {
          sound = noted-sound l k n y h e;
          queue = noted-queue l k n;
          more = omega arith;
          front = λ i g. noted-queue l k i;
          low = noted-low p l k;
        }
        go true false false true e d = none

    -- the n entries from k on
    made-run : (n k : ℕ) (u : Queue) → k + n ≡ c → Sound key s keys named c u.cells u.queued
        → Made p u.cells u.queued (pull keys tie n k (queue_list u.cells u.queued)) (tie_all key c s t p n k u)
    unfolding tie_all pull
    made-run zero k u e y = record { sound = y; queue = refl; more = omega arith; front = λ i g. refl; low = λ w. w }
    made-run (suc n) k u e y =
        let m = made_at k u.cells u.queued (omega arith) y in
        let r = made-run n (k + 1) (tie_of key c s t p k u) (omega arith) m.sound in
        record {
          sound = r.sound;
          queue = r.queue ∙ ap (λ (q : List ℕ). pull keys tie n (k + 1) q) m.queue;
          more = omega (arith, m.more, r.more);
          front = λ i g. r.front i (omega (arith, m.more)) ∙ m.front i g;
          low = λ w. r.low (m.low w);
        }

    -- a pass over the cells queues what the definition pulls
    pub made-pass : (l : List ℕ) (n : ℕ) → Sound key s keys named c l n → Made p l n (pull keys tie c 0 (queue_list l n)) (tie_all key c s t p c 0 (queue_of l n))
    made-pass l n y = made-run c 0 (queue_of l n) (omega arith) y

  -- ---- the search for a removed name

  module _ (l : List ℕ) (t : Table) (y : Rows key s keys named c l) where
    abbrev gone : ℕ → Bool
    gone k = removed_name t (named k)

    removed-hit : (n k : ℕ) → k + n ≡ c → removed_of s l t n k < k + n → any_below gone c ≡ true
    unfolding removed_of
    removed-hit zero k e h = absurd (omega arith)
    removed-hit (suc n) k e h = go (removed_name t (stored_name s l k)) refl h (λ g. removed-hit n (k + 1) (omega arith) g)
      where
        go : (b : Bool) → removed_name t (stored_name s l k) ≡ b → cond b k (removed_of s l t n (k + 1)) < k + suc n
            → (removed_of s l t n (k + 1) < k + 1 + n → any_below gone c ≡ true) → any_below gone c ≡ true
        go true f g r = let i : k < c = omega arith in any-in gone c k i (rw (y.name k i) at f)
        go false f g r = r (omega arith)

    removed-none : (n k : ℕ) → k + n ≡ c → k + n ≤ removed_of s l t n k → (j : ℕ) → k ≤ j → j < c → gone j ≡ false
    unfolding removed_of
    removed-none zero k e h j a b = absurd (omega arith)
    removed-none (suc n) k e h j a b = go (removed_name t (stored_name s l k)) refl h (λ g i. removed-none n (k + 1) (omega arith) g j i b)
      where
        here : removed_name t (stored_name s l k) ≡ false → j ≡ k → gone j ≡ false
        here f d = let i : k < c = omega arith in rw d (rw (y.name k i) at f)

        go : (b : Bool) → removed_name t (stored_name s l k) ≡ b → k + suc n ≤ cond b k (removed_of s l t n (k + 1))
            → (k + 1 + n ≤ removed_of s l t n (k + 1) → k + 1 ≤ j → gone j ≡ false) → gone j ≡ false
        go true f g r = absurd (omega arith)
        go false f g r = by (ℕ_discrete j k)
          where
            by : Dec (j ≡ k) → gone j ≡ false
            by (yes d) = here f d
            by (no d) = r (omega arith) (omega arith)

    -- the search says whether a name was removed
    pub search_is : ltb (removed_of s l t c 0) c ≡ any_below gone c
    search_is = go (ltb (removed_of s l t c 0) c) refl
      where
        go : (b : Bool) → ltb (removed_of s l t c 0) c ≡ b → b ≡ any_below gone c
        go true e = sym (removed-hit c 0 (omega arith) (omega (arith, ltb-true (removed_of s l t c 0) c e)))
        go false e = sym (any_none gone c (λ j h. removed-none c 0 (omega arith) (omega (arith, ltb-false (removed_of s l t c 0) c e)) j (omega arith) h))
