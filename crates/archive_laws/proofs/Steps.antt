-- A call over the cells is a call of the definition.
-- Assumes nothing.
use Rattle.archive_walk.specs.declared.Offer.TheVariants.{Done}
use Rattle.std.specs.Prelude.{ℕ, ◌+◌, ◌≤◌, ◌≡◌, Bool, cond, length, Ok}
use Rattle.std.proofs.Common.{add-one, arith, subst, ◌∙◌}
use Rattle.std.proofs.Math.Path.{refl, sym, ap}
use Rattle.std.proofs.Math.Bool.{true, false}
use mathlib.Core.List.{List, ◌∷◌}
use Rattle.std.proofs.Math.Dec.{eqb, ltb}
use Rattle.archive_index.specs.Archives.{Archives}
use Rattle.archive_index.specs.Rows.{queue_at}
use Rattle.archive_walk.specs.declared.Walk.{Walk}
use Rattle.archive_walk.specs.Look.{Table, judge_table}
use Rattle.archive_walk.specs.Walk.{step_of, step_moved, refused_move, member_offered, offer_of, Queue, queue_of, tie_all, removed_of, make_of, search_of, pass_of, walk_fits, go_of, next_of}
use Rattle.archive_walk.specs.Proof.Ways.{fits_all}
use Rattle.archive_laws.specs.Members.{is_first, members, View, pull, Rounds, rounds_of, front_of, pass_round, round}
use Rattle.archive_laws.proofs.Counts.{clash, cnt-le, once-members}
use Rattle.archive_laws.proofs.RoundLaws.{Kept}
use Rattle.archive_laws.specs.Runs.{queue_list, view_by, Run, run_of, ran_of, step_run, seen}
use Rattle.archive_laws.specs.Pass.{Sound, Low}
use Rattle.archive_laws.proofs.Pass.{queue-length, Made, made-pass, search_is}
use Rattle.archive_laws.specs.Steps.{Lent, Fine}

-- so far the slice is no shorter than at the start
pub long-enough : (s : Archives) (n : ℕ) → Lent s n → n ≤ length s.bytes
long-enough s n h = omega (arith, h.whole, h.within)

module _ (key : ℕ) (s : Archives) (keys : ℕ → ℕ) (named : ℕ → List ℕ) (c : ℕ) where
  -- ---- the ways of a call of the definition

  module _ (v : View) (q : List ℕ) (o p : ℕ) where
    round-done : round keys c v (rounds_of q o p true) ≡ rounds_of q o p true
    unfolding round
    round-done = refl

    round-sent : ltb o (length q) ≡ true → round keys c v (rounds_of q o p false) ≡ rounds_of q (o + 1) p false
    unfolding round front_of
    round-sent e = rw e

    round-halted : ltb o (length q) ≡ false → v.refused ≡ true → round keys c v (rounds_of q o p false) ≡ rounds_of q o p false
    unfolding round pass_round
    round-halted e f = rw (e, f)

    module _ (q' : List ℕ) (e : ltb o (length q) ≡ false) (f : v.refused ≡ false) (g : q' ≡ pull keys v.tied c 0 q) where
      round-made : ltb o (length q') ≡ true → round keys c v (rounds_of q o p false) ≡ rounds_of q' (o + 1) (p + 1) false
      unfolding round pass_round front_of
      round-made h = rw (e, f, ← g, h)

      round-last : ltb o (length q') ≡ false → round keys c v (rounds_of q o p false) ≡ rounds_of q' o (p + 1) true
      unfolding round pass_round front_of
      round-last h = rw (e, f, ← g, h)

  abbrev pub walk_at : ℕ → ℕ → ℕ → ℕ → Bool → Walk
  walk_at n p q o d = record { key = key; entries = c; length = n; passes = p; queued = q; offered = o; done = d }

  record Agree (t : Table) (l : List ℕ) (q : ℕ) (a : Rounds) (r : Run) : Type 0 where
    fine : Fine key s keys named c r
    same : seen r ≡ round keys c (view_by named c t) a
    wrote : r.walk.passes ≡ a.passes + 1 → r.cells ≡ (tie_all key c s.bytes t (a.passes + 1) c 0 (queue_of l q)).cells
    left : (r.walk.passes ≡ a.passes + 1 → ⊥) → r.cells ≡ l

  -- the counts of a walk that goes on are those of a walk
  pub going-fits : (l : List ℕ) (n p q o : ℕ) → Lent s n → Sound key s.bytes keys named c l q → Kept keys c (rounds_of (queue_list l q) o p false)
      → walk_fits s l (walk_at n p q o false) ≡ true
  going-fits l n p q o h y k =
      let long : length (queue_list l q) ≡ q = queue-length l q in
      let few : length (queue_list l q) ≤ members keys c = once-members keys c (queue_list l q) y.marks.once y.marks.below in
      sym (fits_all s l (walk_at n p q o false) true h.few h.within h.whole (omega (arith, y.rows.room)) (omega (arith, cnt-le (is_first keys) c)) (omega (arith, k.some)) (omega (arith, k.going refl)) refl)

  module _ (t : Table) (l : List ℕ) (n p q o : ℕ) (os : List ℕ) (h : Lent s n) (y : Sound key s.bytes keys named c l q) (b : Low key s.bytes keys named c p l) (e : os ≡ queue_list l o) where
    abbrev v : View
    v = view_by named c t

    abbrev u : Queue
    u = tie_all key c s.bytes t (p + 1) c 0 (queue_of l q)

    made : Made key s.bytes keys named c (p + 1) l q (pull keys v.tied c 0 (queue_list l q)) u
    made = made-pass key s.bytes keys named c t (p + 1) (λ z. omega arith) l q y

    later : Low key s.bytes keys named c (p + 1) l
    later j g = omega (arith, b j g)

    one-sent : (m : List ℕ) → os ≡ queue_list m o → queue_at m o ∷ os ≡ queue_list m (o + 1)
    unfolding queue_list
    one-sent m f = ap (λ (x : List ℕ). queue_at m o ∷ x) f ∙ sym (ap (λ (i : ℕ). queue_list m i) (add-one o))

    at-pass : (b : Bool) → ltb o q ≡ b → ltb o (length (queue_list l q)) ≡ b
    at-pass b f = rw (queue-length l q) f

    at-made : (b : Bool) → ltb o u.queued ≡ b → ltb o (length (queue_list u.cells u.queued)) ≡ b
    at-made b f = rw (queue-length u.cells u.queued) f

    -- a refusal leaves the run
    left_alone : Fine key s keys named c (run_of l (walk_at n p q o false) os)
    left_alone = record { keyed = refl; entries = refl; lent = h; sound = y; low = b; sent = e }

    -- the definition's test for a refusal, at each way
    judged-out : eqb (judge_table t).number 0 ≡ false → v.refused ≡ true
    judged-out f = rw f

    judged-in : (b : Bool) → eqb (judge_table t).number 0 ≡ true → ltb (removed_of s.bytes l t c 0) c ≡ b → v.refused ≡ b
    judged-in b f g = rw f (sym (search_is key s.bytes keys named c l t y.rows) ∙ g)

    step-going : Kept keys c (rounds_of (queue_list l q) o p false) → Agree t l q (rounds_of (queue_list l q) o p false) (step_run s t (run_of l (walk_at n p q o false) os))
    unfolding step_run next_of go_of offer_of pass_of search_of make_of
    step-going k =
        go (walk_fits s l (walk_at n p q o false)) (ltb o q) (eqb (judge_table t).number 0) (ltb (removed_of s.bytes l t c 0) c) (ltb o u.queued)
        (going-fits l n p q o h y k) refl refl refl refl
      where
        go : (w f j x z : Bool) → w ≡ true → ltb o q ≡ f → eqb (judge_table t).number 0 ≡ j → ltb (removed_of s.bytes l t c 0) c ≡ x → ltb o u.queued ≡ z
            → Agree t l q (rounds_of (queue_list l q) o p false)
            (ran_of
            (cond w
            (cond f
            (cond f (step_of l (walk_at n p q (o + 1) false) (Ok (member_offered s (queue_at l o) p))) (step_of l (walk_at n p q o true) (Ok (Done p))))
            (cond j
            (cond x (step_moved l (refused_move (walk_at n p q o false) 21 (removed_of s.bytes l t c 0)))
            (cond z (step_of u.cells (walk_at n (p + 1) u.queued (o + 1) false) (Ok (member_offered s (queue_at u.cells o) (p + 1))))
            (step_of u.cells (walk_at n (p + 1) u.queued o true) (Ok (Done (p + 1))))))
            (step_moved l (refused_move (walk_at n p q o false) (judge_table t).number (judge_table t).place))))
            (step_moved l (refused_move (walk_at n p q o false) 1 0)))
            os)
        go false f j x z ew ef ej ex ez = clash false ew refl
        go true true j x z ew ef ej ex ez = record {
          fine = record { keyed = refl; entries = refl; lent = h; sound = y; low = b; sent = one-sent l e };
          same = sym (round-sent v (queue_list l q) o p (at-pass true ef));
          wrote = λ z. absurd (omega arith);
          left = λ z. refl;
        }
        go true false false x z ew ef ej ex ez = record {
          fine = left_alone;
          same = sym (round-halted v (queue_list l q) o p (at-pass false ef) (judged-out ej));
          wrote = λ z. absurd (omega arith);
          left = λ z. refl;
        }
        go true false true true z ew ef ej ex ez = record {
          fine = left_alone;
          same = sym (round-halted v (queue_list l q) o p (at-pass false ef) (judged-in true ej ex));
          wrote = λ z. absurd (omega arith);
          left = λ z. refl;
        }
        go true false true false true ew ef ej ex ez = record {
          fine = record { keyed = refl; entries = refl; lent = h; sound = made.sound; low = made.low later; sent = one-sent u.cells (e ∙ sym (made.front o (omega (arith, k.some, queue-length l q)))) };
          same = sym (round-made v (queue_list l q) o p (queue_list u.cells u.queued) (at-pass false ef) (judged-in false ej ex) made.queue (at-made true ez));
          wrote = λ z. refl;
          left = λ z. absurd (z refl);
        }
        go true false true false false ew ef ej ex ez = record {
          fine = record { keyed = refl; entries = refl; lent = h; sound = made.sound; low = made.low later; sent = e ∙ sym (made.front o (omega (arith, k.some, queue-length l q))) };
          same = sym (round-last v (queue_list l q) o p (queue_list u.cells u.queued) (at-pass false ef) (judged-in false ej ex) made.queue (at-made false ez));
          wrote = λ z. refl;
          left = λ z. absurd (z refl);
        }

    step-done : Agree t l q (rounds_of (queue_list l q) o p true) (step_run s t (run_of l (walk_at n p q o true) os))
    unfolding step_run next_of
    step-done = record { fine = record { keyed = refl; entries = refl; lent = h; sound = y; low = b; sent = e }; same = sym (round-done v (queue_list l q) o p); wrote = λ z. absurd (omega arith); left = λ z. refl }

  step-at : (t : Table) (l : List ℕ) (n p q o : ℕ) (d : Bool) (os : List ℕ) → Lent s n → Sound key s.bytes keys named c l q → Low key s.bytes keys named c p l → os ≡ queue_list l o
      → Kept keys c (rounds_of (queue_list l q) o p d) → Agree t l q (rounds_of (queue_list l q) o p d) (step_run s t (run_of l (walk_at n p q o d) os))
  step-at t l n p q o true os h y b e k = step-done t l n p q o os h y b e
  step-at t l n p q o false os h y b e k = step-going t l n p q o os h y b e k

  -- a run as its parts
  parts : (r : Run) → r.walk.key ≡ key → r.walk.entries ≡ c
      → r ≡ run_of r.cells (walk_at r.walk.length r.walk.passes r.walk.queued r.walk.offered r.walk.done) r.offers
  parts r d e = go r.walk.key r.walk.entries d e
    where
      go : (k n : ℕ) → k ≡ key → n ≡ c
          → run_of r.cells
          (record { key = k; entries = n; length = r.walk.length; passes = r.walk.passes; queued = r.walk.queued; offered = r.walk.offered; done = r.walk.done }) r.offers
          ≡ run_of r.cells (walk_at r.walk.length r.walk.passes r.walk.queued r.walk.offered r.walk.done) r.offers
      go k n d e = rw (d, e)

  agrees : (t : Table) (r : Run) → Fine key s keys named c r → Kept keys c (seen r) → Agree t r.cells r.walk.queued (seen r) (step_run s t r)
  agrees t r f k =
      let w = r.walk in
      subst (λ (z : Run). Agree t r.cells w.queued (seen r) (step_run s t z)) (sym (parts r f.keyed f.entries))
      (step-at t r.cells w.length w.passes w.queued w.offered w.done r.offers f.lent f.sound f.low f.sent k)

  pub step-agrees : (t : Table) (r : Run) → Fine key s keys named c r → Kept keys c (seen r) → Fine key s keys named c (step_run s t r) × (seen (step_run s t r) ≡ round keys c (view_by named c t) (seen r))
  step-agrees t r f k = let x = agrees t r f k in (x.fine, x.same)

  -- the cells after a pass
  pub step-wrote : (t : Table) (r : Run) → Fine key s keys named c r → Kept keys c (seen r) → (step_run s t r).walk.passes ≡ r.walk.passes + 1
      → (step_run s t r).cells ≡ (tie_all key c s.bytes t (r.walk.passes + 1) c 0 (queue_of r.cells r.walk.queued)).cells
  step-wrote t r f k = (agrees t r f k).wrote

  -- a call that makes no pass writes nothing
  pub step_left : (t : Table) (r : Run) → Fine key s keys named c r → Kept keys c (seen r) → ((step_run s t r).walk.passes ≡ r.walk.passes + 1 → ⊥) → (step_run s t r).cells ≡ r.cells
  step_left t r f k = (agrees t r f k).left
