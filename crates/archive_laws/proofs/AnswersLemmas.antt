-- Every answer of a call for the next member is right (specs/Answers.antt).
-- Assumes nothing.
use Rattle.archive_walk.specs.declared.Offer.TheVariants.{Done}
use Rattle.std.specs.Prelude.{ℕ, ◌+◌, ◌≡◌, Bool, ◌&&◌, cond, List, eqb, ltb, Ok}
use Rattle.std.proofs.Math.Path.{refl}
use Rattle.std.proofs.Common.{sym}
use Rattle.std.proofs.Math.Bool.{true, false}
use borrow.Author.Tests.{eq-eqb}
use Rattle.archive_index.specs.Archives.{Archives, member_of}
use Rattle.archive_index.specs.declared.several.Member.{Member}
use Rattle.archive_index.specs.Rows.{queue_at}
use Rattle.archive_walk.specs.declared.Walk.{Walk}
use Rattle.archive_walk.specs.Look.{Table, judge_table}
use Rattle.archive_walk.specs.Walk.{Step, step_of, step_moved, refused_move, handed_out, ended, member_offered, offer_of, Queue, queue_of, tie_all, removed_of, passed, make_of, search_of, pass_of, walk_fits, go_of, next_of}
use Rattle.archive_laws.specs.Answers as Base

module _ (s : Archives) where
  abbrev Right : (l : List ℕ) (w : Walk) (x : Step) → Type 0
  Right = Base.Right s

  module _ (l : List ℕ) (w : Walk) where
    left_alone : (number place : ℕ) → Right l w (step_moved l (refused_move w number place))
    left_alone number place = record { passes = refl; done = refl; member = refl; leaves-walk = λ n. refl; leaves-cells = λ n. refl }

    own : (x : Member) → eqb x.archive x.archive && eqb x.offset x.offset ≡ true
    own x = rw (eq-eqb x.archive x.archive refl, eq-eqb x.offset x.offset refl)

    offer-right : (m : List ℕ) (w' : Walk) → Right l w (offer_of s m w')
    unfolding offer_of
    offer-right m w' = go (ltb w'.offered w'.queued)
      where
        go : (b : Bool)
            → Right l w
            (cond b (step_of m (handed_out w') (Ok (member_offered s (queue_at m w'.offered) w'.passes)))
            (step_of m (ended w') (Ok (Done w'.passes))))
        go true = record { passes = refl; done = refl; member = own (member_of s (queue_at m w'.offered)); leaves-walk = λ n. absurd (n refl); leaves-cells = λ n. absurd (n refl) }
        go false = record { passes = refl; done = refl; member = refl; leaves-walk = λ n. absurd (n refl); leaves-cells = λ n. absurd (n refl) }

    pub right : (t : Table) → Right l w (next_of s l w t)
    unfolding next_of go_of pass_of search_of make_of
    right t = go w.done (walk_fits s l w) (ltb w.offered w.queued) (eqb (judge_table t).number 0) (ltb (removed_of s.bytes l t w.entries 0) w.entries) refl
      where
        u : Queue
        u = tie_all w.key w.entries s.bytes t (w.passes + 1) w.entries 0 (queue_of l w.queued)

        go : (d f g j x : Bool) → w.done ≡ d
            → Right l w
            (cond d (step_of l w (Ok (Done w.passes)))
            (cond f
            (cond g (offer_of s l w)
            (cond j (cond x (step_moved l (refused_move w 21 (removed_of s.bytes l t w.entries 0))) (offer_of s u.cells (passed w u.queued)))
            (step_moved l (refused_move w (judge_table t).number (judge_table t).place))))
            (step_moved l (refused_move w 1 0))))
        go true f g j x e = record { passes = refl; done = sym e; member = refl; leaves-walk = λ n. refl; leaves-cells = λ n. refl }
        go false false g j x e = left_alone 1 0
        go false true true j x e = offer-right l w
        go false true false false x e = left_alone (judge_table t).number (judge_table t).place
        go false true false true true e = left_alone 21 (removed_of s.bytes l t w.entries 0)
        go false true false true false e = offer-right u.cells (passed w u.queued)
