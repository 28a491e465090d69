-- A walk of an earlier call used again, or one with any counts: the rows keep the names, members and chains that the start and the passes gave them, so
-- that every search ends where it has to. (Which members are queued follows the counts that are handed in.)
-- Assumes nothing.
use Rattle.archive_walk.specs.declared.Offer.TheVariants.{Done}
use Prim.Native.Nat.{ℕ, zero, suc, ◌+◌, ◌*◌, ◌<◌}
use Rattle.std.proofs.Common.{arith, inl, inr}
use Rattle.std.specs.Prelude.{◌≡◌, refl, Bool, true, false, cond, List, eqb, ltb, set, Ok}
use Rattle.archive_index.specs.Archives.{Archives}
use Rattle.archive_index.specs.Rows.{member_at, pass_at, queue_at, stored_name}
use Rattle.archive_walk.specs.declared.Walk.{Walk}
use Rattle.archive_walk.specs.Look.{Table, judge_table, tied_name}
use Rattle.archive_walk.specs.Names.{noted_of}
use Rattle.archive_walk.specs.Walk.{step_of, step_moved, refused_move, handed_out, ended, member_offered, offer_of, Queue, queue_of, marked, enqueue, tie_of, tie_all, removed_of, passed, make_of, search_of, pass_of, walk_fits, go_of, next_of}
use Rattle.archive_laws.specs.Pass.{Rows}
use Rattle.archive_laws.proofs.Pass.{kept-rows, other-field, noted-rows}

module _ (key : ℕ) (s : Archives) (keys : ℕ → ℕ) (named : ℕ → List ℕ) (c : ℕ) where
  abbrev Good : List ℕ → Type 0
  Good l = Rows key s.bytes keys named c l

  module _ (t : Table) (p : ℕ) where
    tied-good : (k : ℕ) (l : List ℕ) (n : ℕ) → k < c → Good l → Good (tie_of key c s.bytes t p k (queue_of l n)).cells
    unfolding tie_of enqueue marked
    tied-good k l n h y = go (tied_name t (stored_name s.bytes l k)) (eqb (pass_at l r) 0) (eqb (pass_at l r) p)
      where
        r : ℕ
        r = member_at l k

        a : List ℕ
        a = noted_of key c s.bytes l k

        b : List ℕ
        b = set a (r * 8 + 6) p

        noted : Good a
        noted = noted-rows key s.bytes keys named c l k h y

        queued : Good (set b (n * 8 + 7) k)
        queued =
            kept-rows key s.bytes keys named c b (n * 8 + 7) k (λ j f d e. other-field key s.bytes keys named c j f n 7 d (inr refl) e)
            (kept-rows key s.bytes keys named c a (r * 8 + 6) p (λ j f d e. other-field key s.bytes keys named c j f r 6 d (inl refl) e) noted)

        go : (u x w : Bool) → Good (cond {A = Queue} u (cond x (queue_of (set b (n * 8 + 7) k) (n + 1)) (cond w (queue_of a n) (queue_of l n))) (queue_of l n)).cells
        go false x w = y
        go true true w = queued
        go true false true = noted
        go true false false = y

    all-good : (n k : ℕ) (q : Queue) → k + n ≡ c → Good q.cells → Good (tie_all key c s.bytes t p n k q).cells
    unfolding tie_all
    all-good zero k q e y = y
    all-good (suc n) k q e y = all-good n (k + 1) (tie_of key c s.bytes t p k q) (omega arith) (tied-good k q.cells q.queued (omega arith) y)

  offer-good : (l : List ℕ) (w : Walk) → Good l → Good (offer_of s l w).cells
  unfolding offer_of
  offer-good l w y = go (ltb w.offered w.queued)
    where
      d : ℕ
      d = queue_at l w.offered

      go : (b : Bool) → Good (cond b (step_of l (handed_out w) (Ok (member_offered s d w.passes))) (step_of l (ended w) (Ok (Done w.passes)))).cells
      go true = y
      go false = y

  -- a call with a walk of that start, whatever its counts
  pub again : (l : List ℕ) (w : Walk) (t : Table) → w.key ≡ key → w.entries ≡ c → Rows key s.bytes keys named c l → Rows key s.bytes keys named c (next_of s l w t).cells
  unfolding next_of go_of pass_of search_of make_of
  again l w t e f y = go w.done (walk_fits s l w) (ltb w.offered w.queued) (eqb (judge_table t).number 0) (ltb (removed_of s.bytes l t w.entries 0) w.entries)
    where
      u : Queue
      u = tie_all w.key w.entries s.bytes t (w.passes + 1) w.entries 0 (queue_of l w.queued)

      made : Good u.cells
      made = rw (e, f) (all-good t (w.passes + 1) c 0 (queue_of l w.queued) (omega arith) y)

      go : (d i g j x : Bool)
          → Good
          (cond d (step_of l w (Ok (Done w.passes)))
          (cond i
          (cond g (offer_of s l w)
          (cond j (cond x (step_moved l (refused_move w 21 (removed_of s.bytes l t w.entries 0))) (offer_of s u.cells (passed w u.queued)))
          (step_moved l (refused_move w (judge_table t).number (judge_table t).place))))
          (step_moved l (refused_move w 1 0)))).cells
      go true i g j x = y
      go false false g j x = y
      go false true true j x = offer-good l w y
      go false true false false x = y
      go false true false true true = y
      go false true false true false = offer-good u.cells (passed w u.queued) made
