-- The ways through the functions.
-- Assumes nothing.
use Rattle.std.specs.Prelude.{ℕ, ◌+◌, ◌-◌, ◌/◌, ◌<◌, ◌≤◌, ◌≡◌, refl, Bool, true, false, cond, List, eqb, ltb, length, Ok, Err}
use Rattle.std.proofs.Common.{sym, sub-eq-zero_of_le, ap, ◌∙◌, arith}
use borrow.Author.Tests.{eq-eqb, ne_eqb, le-ltb, ltb-false}
use Rattle.link.specs.declared.cause.Refusal.{Refusal}
use Rattle.link.specs.Judge.{refused, judged}
use Rattle.link.specs.Proof.Judged.{judged-err, judged-refused, judged-fine}
use Rattle.byte_slices.specs.Proof.Ways.{pick, apart}
use Rattle.archive_index.specs.Archives.{Archives, last_end}
use Rattle.archive_index.specs.Rows.{member_at, pass_at, next_at, no_heads}
use Rattle.archive_index.specs.Open.{Opened, answer_in, open_of}
use Rattle.archive_index.specs.Proof.Ways.{one_more, open-none}
use Rattle.archive_walk.specs.declared.Walk.{Walk}
use Rattle.archive_walk.specs.declared.Offer.{Offer}
use Rattle.archive_walk.specs.Look.{Table, judge_table, tied_name}
use Rattle.archive_walk.specs.Walk.{Started, start_left, fresh_walk, no_walk, begun_of, started_of, start_of, step_of, offer_of, Queue, queue_of, enqueue, tie_of, tie_all, removed_of, search_judged, make_of, search_of, pass_of, walk_fits}
use Rattle.archive_walk.specs.Lent.{with_queued}
use Rattle.archive_walk.specs.Names.{along}

-- ---- the chains of required names

pub along-on : (l : List ℕ) (f : ℕ → Bool) (at n c m : ℕ) (w b : Bool) → n < c → (at ≡ 0 → ⊥) → b ≡ f (at - 1) → b ≡ false → m ≡ next_at l (at - 1)
    → w ≡ along l f at (c - n) → w ≡ along l f m (c - (n + 1))
unfolding along
along-on l f at n c m w b h e g i j q = q ∙ rw (one_more c n h) (simp (ne_eqb _ _ e, ← g, i, j))

-- ---- the start

module _ (key n : ℕ) (o : Opened) where
  abbrev ready : Started
  ready = record { walk = fresh_walk key o.entries n; begun = Ok o.entries }

  begun-ready : (c : ℕ) → Ok c ≡ answer_in o → (c ≡ o.entries) × (begun_of key n o ≡ ready)
  unfolding begun_of
  begun-ready c = go (eqb o.refusal.number 0)
    where
      go : (b : Bool) → Ok c ≡ cond b (Ok o.entries) (Err o.refusal)
          → (c ≡ o.entries) × (cond {A = Started} b ready (record { walk = no_walk; begun = Err o.refusal }) ≡ ready)
      go true e = (cc, refl)
      go false e = absurd cc

  begun-refused : (r : Refusal) → Err r ≡ answer_in o → begun_of key n o ≡ record { walk = no_walk; begun = Err r }
  unfolding begun_of
  begun-refused r = go (eqb o.refusal.number 0)
    where
      go : (b : Bool) → Err r ≡ cond b (Ok o.entries) (Err o.refusal)
          → cond {A = Started} b ready (record { walk = no_walk; begun = Err o.refusal }) ≡ record { walk = no_walk; begun = Err r }
      go true e = absurd cc
      go false e = let h : o.refusal ≡ r = cc in rw h refl

module _ (key : ℕ) (s : Archives) (l m : List ℕ) where
  pub start-made : (c : ℕ) (n : List ℕ) (last : ℕ) → m ≡ (open_of s l).cells → Ok c ≡ answer_in (open_of s l).opened → n ≡ no_heads c m → last ≡ last_end s
      → start_left n (started_of (Ok (fresh_walk key c last))) ≡ start_of key s l
  unfolding start_of
  start-made c n last e a f g = let h = begun-ready key (last_end s) (open_of s l).opened c a in rw (g, f, e, h.0, h.1) refl

  pub start-refused : (r : Refusal) → m ≡ (open_of s l).cells → Err r ≡ answer_in (open_of s l).opened → start_left m (started_of (Err r)) ≡ start_of key s l
  unfolding start_of no_heads
  start-refused r e a = rw (e, open-none s l r a, begun-refused key (last_end s) (open_of s l).opened r a) refl

-- ---- a pass

-- a walk of which members were queued, and more
pub queued-on : (a b c : Walk) → b ≡ with_queued a b.queued → c ≡ with_queued b c.queued → c ≡ with_queued a c.queued
queued-on a b c e f = f ∙ ap (λ (w : Walk). with_queued w c.queued) e

module _ (s : List ℕ) (t : Table) (k : ℕ) (a w : Walk) (q u v : Queue) where
  pub all-on : w ≡ with_queued a w.queued → k < a.entries → u ≡ tie_of w.key w.entries s t w.passes k q
      → v ≡ tie_all a.key a.entries s t a.passes (a.entries - k) k q → v ≡ tie_all a.key a.entries s t a.passes (a.entries - (k + 1)) (k + 1) u
  unfolding tie_all
  all-on d h e f =
      let g : u ≡ tie_of a.key a.entries s t a.passes k q =
      e ∙ cc (ap (λ (x : Walk). x.key) d, ap (λ (x : Walk). x.entries) d, ap (λ (x : Walk). x.passes) d) in
      f ∙ rw (one_more a.entries k h) (rw g refl)

pub all_end : (key c : ℕ) (s : List ℕ) (t : Table) (p k : ℕ) (q v : Queue) → c ≤ k → v ≡ tie_all key c s t p (c - k) k q → q ≡ v
unfolding tie_all
all_end key c s t p k q v h f = sym (f ∙ rw (sub-eq-zero_of_le h))

-- an entry queues at most one member
module _ (key c : ℕ) (s : List ℕ) where
  enqueue-most : (p k r : ℕ) (q : Queue) → (enqueue key c s p k r q).queued ≤ q.queued + 1
  unfolding enqueue
  enqueue-most p k r q =
      pick (λ (u : Queue). u.queued ≤ q.queued + 1) (eqb (pass_at q.cells r) 0) _ _ (λ e. omega arith)
      (λ e. pick (λ (u : Queue). u.queued ≤ q.queued + 1) (eqb (pass_at q.cells r) p) _ _ (λ f. omega arith) (λ f. omega arith))

  tie-most : (t : Table) (p k : ℕ) (q : Queue) → (tie_of key c s t p k q).queued ≤ q.queued + 1
  unfolding tie_of
  tie-most t p k q =
      pick (λ (u : Queue). u.queued ≤ q.queued + 1) (tied_name t _) _ _
      (λ e. enqueue-most p k (member_at q.cells k) q) (λ e. omega arith)

pub count-on : (key c : ℕ) (s : List ℕ) (t : Table) (p k : ℕ) (l m : List ℕ) (a n j : ℕ) → queue_of m j ≡ tie_of key c s t p k (queue_of l n) → n ≤ a + k → j ≤ a + (k + 1)
count-on key c s t p k l m a n j e h =
    let f : j ≡ (tie_of key c s t p k (queue_of l n)).queued = ap (λ (q : Queue). q.queued) e in
    rw f (omega (arith, tie-most key c s t p k (queue_of l n)))

-- what the search for a removed name says of the first
search-cut : (x c : ℕ) (r : Refusal) → Err r ≡ search_judged x c → (ltb x c ≡ true) × (r ≡ refused 21 x)
search-cut x c r = go (ltb x c) refl
  where
    go : (b : Bool) → ltb x c ≡ b → Err r ≡ cond b (Err (refused 21 x)) (Ok (tt {0})) → (ltb x c ≡ true) × (r ≡ refused 21 x)
    go true h e = (h, cc)
    go false h e = absurd cc

search-whole : (x c : ℕ) (u : Unit {0}) → Ok u ≡ search_judged x c → ltb x c ≡ false
search-whole x c u = go (ltb x c) refl
  where
    go : (b : Bool) → ltb x c ≡ b → Ok u ≡ cond b (Err (refused 21 x)) (Ok (tt {0})) → ltb x c ≡ false
    go true h e = absurd cc
    go false h e = h

module _ (s : Archives) (l : List ℕ) (w : Walk) (b : Table) where
  pub pass-judged : (r : Refusal) → Err r ≡ judged (judge_table b) → step_of l w (Err r) ≡ pass_of s l w b
  unfolding pass_of
  pass-judged r e =
      let f : r ≡ judge_table b = judged-err (judge_table b) r (sym e) in
      rw f (sym (rw (ne_eqb _ _ (judged-refused (judge_table b) r (sym e)))))

  module _ (u : Unit {0}) (e : Ok u ≡ judged (judge_table b)) where
    judge-fine : eqb (judge_table b).number 0 ≡ true
    judge-fine = eq-eqb _ _ (judged-fine (judge_table b) u (sym e))

    pub pass-removed : (r : Refusal) → Err r ≡ search_judged (removed_of s.bytes l b w.entries 0) w.entries → step_of l w (Err r) ≡ pass_of s l w b
    unfolding pass_of search_of
    pass-removed r f = let h = search-cut _ _ r f in rw (h.1) (sym (rw (judge-fine, h.0)))

    pub pass-made : (m : List ℕ) (n : ℕ) (a z : Walk) (o : Offer) (v : Unit {0}) → Ok v ≡ search_judged (removed_of s.bytes l b w.entries 0) w.entries → w.done ≡ false
        → queue_of m n ≡ tie_all w.key w.entries s.bytes b (w.passes + 1) w.entries 0 (queue_of l w.queued)
        → a ≡ record { key = w.key; entries = w.entries; length = w.length; passes = w.passes + 1; queued = n; offered = w.offered; done = w.done }
        → step_of m z (Ok o) ≡ offer_of s m a → step_of m z (Ok o) ≡ pass_of s l w b
    unfolding pass_of search_of make_of
    pass-made m n a z o v f d g i q = q ∙ rw (i, d) (sym (rw (judge-fine, search-whole _ _ v f, ← g)))

-- what the test gives
pub record Room (a : Archives) (l : List ℕ) (w : Walk) : Type 0 where
  pub few : length a.ends ≤ 16
  pub within : last_end a ≤ length a.bytes
  pub whole : w.length ≤ last_end a
  pub rows : w.entries ≤ length l / 8
  pub members : w.queued ≤ w.entries
  pub going : w.offered ≤ w.queued
  pub passed : w.passes ≤ w.queued

module _ (a : Archives) (l : List ℕ) (w : Walk) where
  pub fits_all : (t : Bool) → length a.ends ≤ 16 → last_end a ≤ length a.bytes → w.length ≤ last_end a → w.entries ≤ length l / 8 → w.queued ≤ w.entries → w.offered ≤ w.queued → w.passes ≤ w.queued
      → t ≡ true → t ≡ walk_fits a l w
  unfolding walk_fits
  fits_all t f g h b c d e q = q ∙ sym (rw (le-ltb _ _ f, le-ltb _ _ g, le-ltb _ _ h, le-ltb _ _ b, le-ltb _ _ c, le-ltb _ _ d, le-ltb _ _ e))

  pub fits-room : walk_fits a l w ≡ true → Room a l w
  unfolding walk_fits
  fits-room e = go (ltb 16 (length a.ends)) (ltb (length a.bytes) (last_end a)) (ltb (last_end a) w.length) (ltb (length l / 8) w.entries) (ltb w.entries w.queued)
      (ltb w.queued w.offered) (ltb w.queued w.passes) refl refl refl refl refl refl refl e
    where
      go : (x y z b c d f : Bool) → ltb 16 (length a.ends) ≡ x → ltb (length a.bytes) (last_end a) ≡ y → ltb (last_end a) w.length ≡ z → ltb (length l / 8) w.entries ≡ b
          → ltb w.entries w.queued ≡ c → ltb w.queued w.offered ≡ d → ltb w.queued w.passes ≡ f
          → cond x false (cond y false (cond z false (cond b false (cond c false (cond d false (cond f false true)))))) ≡ true → Room a l w
      go true y z b c d f ex ey ez eb ec ed ef h = absurd (apart h)
      go false true z b c d f ex ey ez eb ec ed ef h = absurd (apart h)
      go false false true b c d f ex ey ez eb ec ed ef h = absurd (apart h)
      go false false false true c d f ex ey ez eb ec ed ef h = absurd (apart h)
      go false false false false true d f ex ey ez eb ec ed ef h = absurd (apart h)
      go false false false false false true f ex ey ez eb ec ed ef h = absurd (apart h)
      go false false false false false false true ex ey ez eb ec ed ef h = absurd (apart h)
      go false false false false false false false ex ey ez eb ec ed ef h = record {
        few = ltb-false _ _ ex;
        within = ltb-false _ _ ey;
        whole = ltb-false _ _ ez;
        rows = ltb-false _ _ eb;
        members = ltb-false _ _ ec;
        going = ltb-false _ _ ed;
        passed = ltb-false _ _ ef;
      }
