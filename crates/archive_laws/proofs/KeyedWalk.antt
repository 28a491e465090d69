-- The theorem on whole walks, for any key of entries: from a run at its beginning whose rows say what the entries' keys and names are, any calls.
-- Assumes nothing.
use Prim.Native.Nat.{ℕ, zero, suc, ◌+◌, ◌<◌, ◌≤◌}
use Rattle.std.proofs.Math.Decide.{ℕ_discrete}
use native.Mathlib.Omega.{arith}
use Rattle.std.specs.Prelude.{◌≡◌, Bool, cond, eqb, length}
use Rattle.std.proofs.Math.Path.{refl, ap}
use Rattle.std.proofs.Common.{sym, subst, ◌∙◌}
use Rattle.std.proofs.Math.Bool.{true, false}
use mathlib.Core.List.{List, [], ◌∷◌}
use Rattle.std.proofs.Math.Dec.{ltb}
use borrow.Author.Tests.{ne_eqb, ltb-true, ltb-false, lt-ltb}
use Rattle.byte_slices.specs.Bytes.{same}
use Rattle.archive_index.specs.Archives.{Archives}
use Rattle.archive_index.specs.Rows.{required_at, queue_at}
use Rattle.archive_walk.specs.declared.Walk.{Walk}
use Rattle.archive_walk.specs.Look.{Table}
use Rattle.archive_walk.specs.Names.{required_of}
use Rattle.archive_walk.specs.Walk.{go_of, walk_fits, next_of}
use Rattle.archive_laws.specs.Members.{Same, among, Once, none, more, pull, Rounds, rounds_of, round, rounds, fresh}
use Rattle.archive_laws.proofs.Counts.{among_same}
use Rattle.archive_laws.proofs.RoundLaws.{newly, pull-into, did, Kept, kept_fresh, kept-did, passes-most, passes-going, pass-made, end-passes, last-pass}
use Rattle.archive_laws.specs.Runs.{queue_list, view_by, views_by, Run, step_run, history, seen}
use Rattle.archive_laws.proofs.Pass.{queue-length}
use Rattle.archive_laws.proofs.Chains.{any_same}
use Rattle.archive_laws.specs.Steps.{Fine}
use Rattle.archive_laws.proofs.Steps.{going-fits, step-agrees, step-wrote, step_left}
use Rattle.archive_laws.proofs.Required.{required-pass}
use Rattle.archive_laws.proofs.Asked.{asked_is, asked-then}
use Rattle.archive_laws.proofs.AnswersLemmas.{right}
use Rattle.archive_laws.specs.ByKey.{tied_in, asks, queue_in, Pass, Walked}

module _ (key : ℕ) (s : Archives) (keys : ℕ → ℕ) (named : ℕ → List ℕ) (c : ℕ) where
  -- ---- calls

  told-next : (t : Table) (r : Run) → Fine key s keys named c r → Kept keys c (seen r) → Kept keys c (seen (step_run s t r))
  told-next t r f k =
      let x = step-agrees key s keys named c t r f k in
      subst (Kept keys c) (sym x.1) (kept-did keys c (view_by named c t) (seen r) (round keys c (view_by named c t) (seen r)) k (did keys c (view_by named c t) (seen r)))

  told : (ts : List Table) (r : Run) → Fine key s keys named c r → Kept keys c (seen r) → Fine key s keys named c (history s ts r) × Kept keys c (seen (history s ts r)) × (seen (history s ts r) ≡ rounds keys c (views_by named c ts) (seen r))
  unfolding history views_by rounds
  told [] r f k = (f, k, refl)
  told (t ∷ ts) r f k =
      let x = step-agrees key s keys named c t r f k in
      let y = told ts (step_run s t r) x.0 (told-next t r f k) in
      (y.0, y.1, y.2 ∙ ap (rounds keys c (views_by named c ts)) x.1)

  -- ---- what holds after them

  module _ (r : Run) (f : Fine key s keys named c r) (k : Kept keys c (seen r)) where
    fits-going : r.walk.done ≡ false → walk_fits s r.cells r.walk ≡ true
    fits-going e = subst (λ (w : Walk). walk_fits s r.cells w ≡ true) (walk-parts r.walk.key r.walk.entries r.walk.done f.keyed f.entries e) (going-fits key s keys named c r.cells r.walk.length r.walk.passes r.walk.queued r.walk.offered f.lent f.sound (subst (λ (d : Bool). Kept keys c (rounds_of (queue_in r) r.walk.offered r.walk.passes d)) e k))
      where
        parts : ℕ → ℕ → Bool → Walk
        parts k n d = record { key = k; entries = n; length = r.walk.length; passes = r.walk.passes; queued = r.walk.queued; offered = r.walk.offered; done = d }

        walk-parts : (k n : ℕ) (d : Bool) → k ≡ key → n ≡ c → d ≡ false → parts key c false ≡ parts k n d
        walk-parts k n d p q z = sym (rw (p, q, z))

    all-sent : r.walk.queued ≤ r.walk.offered → r.offers ≡ queue_in r
    all-sent h =
        let g : r.walk.offered ≡ r.walk.queued = omega (arith, k.some, queue-length r.cells r.walk.queued) in
        f.sent ∙ ap (queue_list r.cells) g

    -- a pass finds nothing queued
    drained : (t : Table) → (step_run s t r).walk.passes ≡ r.walk.passes + 1 → r.offers ≡ queue_in r
    drained t p =
        let x = step-agrees key s keys named c t r f k in
        let b = round keys c (view_by named c t) (seen r) in
        let q : b.passes ≡ (seen r).passes + 1 = ap (λ (z : Rounds). z.passes) (sym x.1) ∙ p in
        let y = pass-made keys c (view_by named c t) (seen r) b (did keys c (view_by named c t) (seen r)) q in
        all-sent (omega (arith, y.0, queue-length r.cells r.walk.queued))

    pass-facts : (t : Table) → (step_run s t r).walk.passes ≡ r.walk.passes + 1 → Pass s keys named c t r (step_run s t r)
    pass-facts t p =
        let x = step-agrees key s keys named c t r f k in
        let b = round keys c (view_by named c t) (seen r) in
        let q : b.passes ≡ (seen r).passes + 1 = ap (λ (z : Rounds). z.passes) (sym x.1) ∙ p in
        let y = pass-made keys c (view_by named c t) (seen r) b (did keys c (view_by named c t) (seen r)) q in
        let d : r.offers ≡ queue_in r = drained t p in
        let g : queue_in (step_run s t r) ≡ pull keys (tied_in named t) c 0 r.offers = ap (λ (z : Rounds). z.queue) x.1 ∙ y.1 ∙ ap (pull keys (tied_in named t) c 0) (sym d) in
        record {
          drained = d;
          newly = rw g (newly keys (tied_in named t) r.offers c);
          all = λ j h e. rw g (pull-into keys (tied_in named t) c 0 r.offers j (omega arith) (omega arith) e);
          required = λ j h.
              written j h ∙ ap (λ (q : List ℕ). cond (tied_in named t j) (cond (among keys j q) (required_at r.cells j) 1) (required_at r.cells j)) (sym d);
          names = λ e h o x. asked-then key s.bytes keys named c r'.cells f'.sound.rows r'.walk f'.keyed f'.entries e h x t (marked e o);
          pulled = g;
        }
      where
        r' : Run
        r' = step_run s t r

        f' : Fine key s keys named c r'
        f' = (step-agrees key s keys named c t r f k).0

        written : (j : ℕ) → j < c → required_at r'.cells j ≡ cond (tied_in named t j) (cond (among keys j (queue_in r)) (required_at r.cells j) 1) (required_at r.cells j)
        written j h =
            rw (step-wrote key s keys named c t r f k p)
            (required-pass key s.bytes keys named c t (r.walk.passes + 1) (λ z. omega arith) r.cells r.walk.queued f.sound (λ i e. omega (arith, f.low i e)) j h)

        marked : (e : ℕ) → among keys e r.offers ≡ false → (j : ℕ) → j < c → Same keys j e → required_at r'.cells j ≡ cond (tied_in named t j) 1 0
        marked e o j h d =
            let free : among keys j (queue_in r) ≡ false = among_same keys (queue_in r) j e d ∙ ap (among keys e) (sym (drained t p)) ∙ o in
            written j h ∙ rw (free, f.sound.marks.unmarked j h free)

    marks-kept : (t : Table) (j : ℕ) → j < c → among keys j (queue_in r) ≡ true → required_at (step_run s t r).cells j ≡ required_at r.cells j
    marks-kept t j h e = go (ℕ_discrete (step_run s t r).walk.passes (r.walk.passes + 1))
      where
        either : (b : Bool) (m : ℕ) → cond b m m ≡ m
        either true m = refl
        either false m = refl

        go : Dec ((step_run s t r).walk.passes ≡ r.walk.passes + 1) → required_at (step_run s t r).cells j ≡ required_at r.cells j
        go (yes p) =
            let d = pass-facts t p in
            d.required j h ∙ rw (d.drained, e) (either (tied_in named t j) (required_at r.cells j))
        go (no p) = ap (λ (m : List ℕ). required_at m j) (step_left key s keys named c t r f k p)

    names-kept : (t : Table) (e : ℕ) → e < c → among keys e (queue_in r) ≡ true → (x : List ℕ) → required_of s.bytes (step_run s t r).cells (step_run s t r).walk e x ≡ required_of s.bytes r.cells r.walk e x
    names-kept t e h o x =
        asked_is key s.bytes keys named c (step_run s t r).cells f'.sound.rows (step_run s t r).walk f'.keyed f'.entries e h x
        ∙ any_same (asks keys named (step_run s t r).cells e x) (asks keys named r.cells e x) c (λ j g. one j g (ℕ_discrete (keys j) (keys e)))
        ∙ sym (asked_is key s.bytes keys named c r.cells f.sound.rows r.walk f.keyed f.entries e h x)
      where
        f' : Fine key s keys named c (step_run s t r)
        f' = (step-agrees key s keys named c t r f k).0

        never : (b : Bool) → cond b false false ≡ false
        never true = refl
        never false = refl

        one : (j : ℕ) → j < c → Dec (keys j ≡ keys e) → asks keys named (step_run s t r).cells e x j ≡ asks keys named r.cells e x j
        one j g (yes d) =
            ap (λ (m : ℕ). cond (eqb m 1) (cond (eqb (keys j) (keys e)) (same (named j) x) false) false) (marks-kept t j g (among_same keys (queue_in r) j e d ∙ o))
        one j g (no d) =
            rw (ne_eqb (keys j) (keys e) d) (never (eqb (required_at (step_run s t r).cells j) 1) ∙ sym (never (eqb (required_at r.cells j) 1)))

    end-facts : (t : Table) → r.walk.done ≡ false → (step_run s t r).walk.done ≡ true → (step_run s t r).walk.passes ≡ r.walk.passes + 1
    end-facts t p q =
        let x = step-agrees key s keys named c t r f k in
        let b = round keys c (view_by named c t) (seen r) in
        let z : b.done ≡ true = ap (λ (y : Rounds). y.done) (sym x.1) ∙ q in
        ap (λ (y : Rounds). y.passes) x.1 ∙ end-passes keys c (view_by named c t) (seen r) b (did keys c (view_by named c t) (seen r)) p z

    last-facts : (t : Table) → r.walk.done ≡ false → (step_run s t r).walk.done ≡ true → (j : ℕ) → j < c → tied_in named t j ≡ true → among keys j (step_run s t r).offers ≡ true
    last-facts t p q j h e =
        let x = step-agrees key s keys named c t r f k in
        let b = round keys c (view_by named c t) (seen r) in
        let z : b.done ≡ true = ap (λ (y : Rounds). y.done) (sym x.1) ∙ q in
        let y = last-pass keys c (view_by named c t) (seen r) b k (did keys c (view_by named c t) (seen r)) p z in
        let r' = step_run s t r in
        let o : r'.walk.offered ≡ r'.walk.queued = rest r' b x.1 y.0 in
        let g : r'.offers ≡ b.queue = x.0.sent ∙ ap (queue_list r'.cells) o ∙ ap (λ (w : Rounds). w.queue) x.1 in
        rw g (y.1 j h e)
      where
        rest : (r' : Run) (b : Rounds) → seen r' ≡ b → b.offered ≡ length b.queue → r'.walk.offered ≡ r'.walk.queued
        rest r' b w z = ap (λ (y : Rounds). y.offered) w ∙ z ∙ sym (ap (λ (y : Rounds). length y.queue) w) ∙ queue-length r'.cells r'.walk.queued

  still-done : (t : Table) (r : Run) → r.walk.done ≡ true → step_run s t r ≡ r
  unfolding step_run next_of
  still-done t r e = rw e

  not-looked-at : (t t' : Table) (m : List ℕ) (w : Walk) → w.offered < w.queued → next_of s m w t ≡ next_of s m w t'
  unfolding next_of go_of
  not-looked-at t t' m w h = rw (lt-ltb w.offered w.queued h)

  -- the front of a queue without repeats has none
  once-front : (m : List ℕ) (n o : ℕ) → o ≤ n → Once keys (queue_list m n) → Once keys (queue_list m o)
  unfolding queue_list
  once-front m zero o h e = let z : o ≡ 0 = omega arith in rw z none
  once-front m (suc n) o h e = go (ltb o (suc n)) refl e (λ i x. once-front m n o i x)
    where
      go : (b : Bool) → ltb o (suc n) ≡ b → Once keys (queue_at m n ∷ queue_list m n) → (o ≤ n → Once keys (queue_list m n) → Once keys (queue_list m o)) → Once keys (queue_list m o)
      go true g (more f x) r = r (omega (arith, ltb-true o (suc n) g)) x
      go false g x r = let z : o ≡ suc n = omega (arith, ltb-false o (suc n) g) in rw z x

  -- any calls, each over any table
  module _ (start : Run) (fine : Fine key s keys named c start) (begins : seen start ≡ fresh) (ts : List Table) where
    abbrev run : Run
    run = history s ts start

    run-told : Fine key s keys named c run × Kept keys c (seen run) × (seen run ≡ rounds keys c (views_by named c ts) (seen start))
    run-told = told ts start fine (subst (Kept keys c) (sym begins) (kept_fresh keys c))

    -- cells and counts of the walk fit, as at its beginning
    pub fine-after : Fine key s keys named c run
    fine-after = run-told.0

    pub walked_by : Walked s keys named c ts run
    walked_by = facts run run-told.0 run-told.1 (run-told.2 ∙ ap (rounds keys c (views_by named c ts)) begins)
      where
        facts : (r : Run) → Fine key s keys named c r → Kept keys c (seen r) → seen r ≡ rounds keys c (views_by named c ts) fresh → Walked s keys named c ts r
        facts r f k e = record {
          same-rounds = e;
          fits = fits-going r f k;
          bound = passes-most keys c (seen r) k;
          going = passes-going keys c (seen r) k;
          answers = right s r.cells r.walk;
          in_order = f.sent;
          once = rw f.sent (once-front r.cells r.walk.queued r.walk.offered (omega (arith, k.some, queue-length r.cells r.walk.queued)) k.once);
          pass = pass-facts r f k;
          ends = end-facts r f k;
          some-pass = k.some-pass;
          last = last-facts r f k;
          asked = λ e h x. asked_is key s.bytes keys named c r.cells f.sound.rows r.walk f.keyed f.entries e h x;
          chains-asked = f.sound.rows.linked.only;
          chains-apart = f.sound.rows.linked.apart;
          names-stay = names-kept r f k;
          still = λ t d. still-done t r d;
          blind = λ t t' h. not-looked-at t t' r.cells r.walk h;
        }
