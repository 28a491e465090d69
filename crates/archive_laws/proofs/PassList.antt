-- Demand 3b as one equation of lists: "each pass offers exactly the members not yet offered that the index ties to a name undefined at its start",
-- "Members go in first-seen order".
-- Assumes nothing.
use Prim.Native.Nat.{ℕ, zero, suc, ◌+◌, ◌≤◌}
use native.Mathlib.Omega.{arith}
use Rattle.std.specs.Prelude.{◌≡◌, Bool, eqb}
use Rattle.std.proofs.Math.Path.{refl, sym}
use Rattle.std.proofs.Common.{ap, subst, ◌∙◌, inl, inr, eqb-true}
use Rattle.std.proofs.Math.Bool.{true, false, cond}
use mathlib.Core.List.{List, [], ◌∷◌, ◌++◌, append-nil, append_assoc}
use Rattle.cells.specs.Proof.Split.{by-test}
use Rattle.archive_index.specs.Archives.{Archives, entries_in, name_in, key_in}
use Rattle.archive_walk.specs.Look.{Table}
use Rattle.archive_walk.specs.Walk.{begun_number, start_of}
use Rattle.archive_laws.specs.Members.{View, Rounds, pull_at, pull, round, rounds, fresh}
use Rattle.archive_laws.specs.Members as Members
use Rattle.archive_laws.specs.Rounds.{among}
use Rattle.archive_laws.proofs.RoundLaws.{Kept, Did, still, sent, halted, made, last, did, kept_fresh, kept-did}
use Rattle.archive_laws.specs.Runs.{queue_list, view_by, views_by, Run, step_run, history, start_run, seen}
use Rattle.archive_laws.proofs.Pass.{queue-length}
use Rattle.archive_laws.specs.ByKey.{tied_in, queue_in, Walked}
use Rattle.archive_laws.proofs.AcceptedStart.{walked}
use Rattle.archive_laws.specs.PassList.{is_in, without, first_seen, keys_from, keys_of, tied_members, offered, IsOver, Over}

-- ---- laws of these words

in-append : (x : ℕ) (p q : List ℕ) → is_in x (p ++ q) ≡ cond (is_in x p) true (is_in x q)
in-append x [] q = refl
in-append x (y ∷ p) q = by-test (eqb y x) (λ t. rw t) (λ t. rw t (in-append x p q))

-- those of xs that aren't in p, each once
abbrev news : List ℕ → List ℕ → List ℕ
news p [] = []
news p (x ∷ xs) = cond (is_in x p) (news p xs) (x ∷ news (p ++ (x ∷ [])) xs)

-- a member of p is taken out already
out-twice : (p : List ℕ) (x : ℕ) → is_in x p ≡ true → (xs : List ℕ) → without p (without (x ∷ []) xs) ≡ without p xs
out-twice p x e [] = refl
out-twice p x e (y ∷ ys) =
    by-test (eqb x y)
    (λ t. let d : is_in y p ≡ true = subst (λ (v : ℕ). is_in v p ≡ true) (eqb-true x y t) e in rw (t, d) (out-twice p x e ys))
    (λ t. rw t (by-test (is_in y p) (λ u. rw u (out-twice p x e ys)) (λ u. rw u (ap (◌∷◌ y) (out-twice p x e ys)))))

out-more : (p : List ℕ) (x : ℕ) (xs : List ℕ) → without (p ++ (x ∷ [])) xs ≡ without p (without (x ∷ []) xs)
out-more p x [] = refl
out-more p x (y ∷ ys) =
    rw (in-append y p (x ∷ []))
    (by-test (eqb x y)
    (λ t. rw t (by-test (is_in y p) (λ u. rw u (out-more p x ys)) (λ u. rw u (out-more p x ys))))
    (λ t. rw t (by-test (is_in y p) (λ u. rw u (out-more p x ys)) (λ u. rw u (ap (◌∷◌ y) (out-more p x ys))))))

news-are : (xs p : List ℕ) → news p xs ≡ without p (first_seen xs)
news-are [] p = refl
news-are (x ∷ xs) p =
    by-test (is_in x p) (λ t. rw t (news-are xs p ∙ sym (out-twice p x t (first_seen xs))))
    (λ t. rw t (ap (◌∷◌ x) (news-are xs (p ++ (x ∷ [])) ∙ out-more p x (first_seen xs))))

-- ---- a pass of the definition

module _ (keys : ℕ → ℕ) where
  pub among-keys : (k : ℕ) (q : List ℕ) → Members.among keys k q ≡ is_in (keys k) (keys_of keys q)
  unfolding Members.among
  among-keys k [] = refl
  among-keys k (j ∷ q) =
      by-test (eqb (keys j) (keys k))
      (λ t. rw (t, in-append (keys k) (keys_of keys q) (keys j ∷ []), t) (sym (either (is_in (keys k) (keys_of keys q)))))
      (λ t.
      rw (t, in-append (keys k) (keys_of keys q) (keys j ∷ []), t, among-keys k q)
      (sym (neither (is_in (keys k) (keys_of keys q)))))
    where
      either : (b : Bool) → cond b true true ≡ true
      either true = refl
      either false = refl

      neither : (b : Bool) → cond b true false ≡ b
      neither true = refl
      neither false = refl

  pull-news : (tie : ℕ → Bool) (n k : ℕ) (q : List ℕ) → keys_of keys (pull keys tie n k q) ≡ keys_of keys q ++ news (keys_of keys q) (keys_from keys tie n k)
  unfolding pull pull_at
  pull-news tie zero k q = sym (append-nil (keys_of keys q))
  pull-news tie (suc n) k q =
      by-test (tie k)
      (λ t.
      by-test (Members.among keys k q)
      (λ u. let d : is_in (keys k) (keys_of keys q) ≡ true = sym (among-keys k q) ∙ u in rw (t, u, d) (pull-news tie n (k + 1) q))
      (λ u.
      let d : is_in (keys k) (keys_of keys q) ≡ false = sym (among-keys k q) ∙ u in
      rw (t, u, d)
      (pull-news tie n (k + 1) (k ∷ q)
      ∙ append_assoc (keys_of keys q) (keys k ∷ []) (news (keys_of keys q ++ (keys k ∷ [])) (keys_from keys tie n (k + 1))))))
      (λ t. rw t (pull-news tie n (k + 1) q))

-- ---- calls that make no pass leave the queue

module _ (keys : ℕ → ℕ) (c : ℕ) where
  round-more : (v : View) (a b : Rounds) → Did keys c v a b → a.passes ≤ b.passes
  round-more v a b (still e) = omega arith
  round-more v a b (sent e f) = omega arith
  round-more v a b (halted e f g) = omega arith
  round-more v a b (made e f g h) = omega arith
  round-more v a b (last e f g h) = omega arith

  rounds-more : (vs : List View) (a : Rounds) → a.passes ≤ (rounds keys c vs a).passes
  unfolding rounds
  rounds-more [] a = omega arith
  rounds-more (v ∷ vs) a = omega (arith, round-more v a (round keys c v a) (did keys c v a), rounds-more vs (round keys c v a))

  round-queue : (v : View) (a b : Rounds) → Did keys c v a b → b.passes ≡ a.passes → b.queue ≡ a.queue
  round-queue v a b (still e) p = refl
  round-queue v a b (sent e f) p = refl
  round-queue v a b (halted e f g) p = refl
  round-queue v a b (made e f g h) p = absurd (omega arith)
  round-queue v a b (last e f g h) p = absurd (omega arith)

  rounds-queue : (vs : List View) (a : Rounds) → (rounds keys c vs a).passes ≡ a.passes → (rounds keys c vs a).queue ≡ a.queue
  unfolding rounds
  rounds-queue [] a p = refl
  rounds-queue (v ∷ vs) a p =
      let b : Rounds = round keys c v a in
      let q : b.passes ≡ a.passes = omega (arith, round-more v a b (did keys c v a), rounds-more vs b) in
      rounds-queue vs b (p ∙ sym q) ∙ round-queue v a b (did keys c v a) q

  rounds-kept : (vs : List View) (a : Rounds) → Kept keys c a → Kept keys c (rounds keys c vs a)
  unfolding rounds
  rounds-kept [] a k = k
  rounds-kept (v ∷ vs) a k = rounds-kept vs (round keys c v a) (kept-did keys c v a (round keys c v a) k (did keys c v a))

  views-append : (named : ℕ → List ℕ) (ts us : List Table) (a : Rounds) → rounds keys c (views_by named c (ts ++ us)) a ≡ rounds keys c (views_by named c us) (rounds keys c (views_by named c ts) a)
  unfolding rounds views_by
  views-append named [] us a = refl
  views-append named (t ∷ ts) us a = views-append named ts us (round keys c (view_by named c t) a)

history-append : (s : Archives) (ts us : List Table) (r : Run) → history s (ts ++ us) r ≡ history s us (history s ts r)
unfolding history
history-append s [] us r = refl
history-append s (t ∷ ts) us r = history-append s ts us (step_run s t r)

history-one : (s : Archives) (ts : List Table) (t : Table) (r : Run) → history s (ts ++ (t ∷ [])) r ≡ step_run s t (history s ts r)
unfolding history
history-one s ts t r = history-append s ts (t ∷ []) r

-- ---- a walk

-- calls from any run on, of which the promises hold
module _ (s : Archives) (keys : ℕ → ℕ) (named : ℕ → List ℕ) (c : ℕ) (start : Run) (promised : (ts : List Table) → Walked s keys named c ts (history s ts start)) where
  abbrev run_at : List Table → Run
  run_at ts = history s ts start

  queue-drained : (r : Run) → r.offers ≡ queue_list r.cells r.walk.offered → r.walk.offered ≡ r.walk.queued → r.offers ≡ queue_in r
  queue-drained r e f = e ∙ ap (queue_list r.cells) f

  done-drained : (ts : List Table) → (run_at ts).walk.done ≡ true → (run_at ts).offers ≡ queue_in (run_at ts)
  done-drained ts d =
      let w = promised ts in
      let r : Run = run_at ts in
      let k : Kept keys c (seen r) = subst (Kept keys c) (sym w.same-rounds) (rounds-kept keys c (views_by named c ts) fresh (kept_fresh keys c)) in
      queue-drained r w.in_order (k.drained d ∙ queue-length r.cells r.walk.queued)

  over-drained : (ts : List Table) → IsOver s (run_at ts) → (run_at ts).offers ≡ queue_in (run_at ts)
  over-drained ts (inl d) = done-drained ts d
  over-drained ts (inr p) = ((promised ts).pass p.0 p.1).drained

  module _ (ts : List Table) (t : Table) (us : List Table) where
    -- before the call over t, and after the calls over us that follow it
    abbrev pub before : Run
    before = run_at ts

    abbrev pub after : Run
    after = history s us (step_run s t before)

    same-run : run_at ((ts ++ (t ∷ [])) ++ us) ≡ after
    same-run = history-append s (ts ++ (t ∷ [])) us start ∙ ap (history s us) (history-one s ts t start)

    same_queue : after.walk.passes ≡ (step_run s t before).walk.passes → queue_in after ≡ queue_in (step_run s t before)
    same_queue p =
        let r : Run = step_run s t before in
        let a : seen r ≡ rounds keys c (views_by named c (ts ++ (t ∷ []))) fresh =
        ap seen (sym (history-one s ts t start)) ∙ (promised (ts ++ (t ∷ []))).same-rounds in
        let b : seen after ≡ rounds keys c (views_by named c us) (seen r) =
        ap seen (sym same-run) ∙ (promised ((ts ++ (t ∷ [])) ++ us)).same-rounds ∙ views-append keys c named (ts ++ (t ∷ [])) us fresh
        ∙ ap (rounds keys c (views_by named c us)) (sym a) in
        let q : (rounds keys c (views_by named c us) (seen r)).passes ≡ (seen r).passes = sym (ap (λ (z : Rounds). z.passes) b) ∙ p in
        ap (λ (z : Rounds). z.queue) b ∙ rounds-queue keys c (views_by named c us) (seen r) q

    -- the call over t makes a pass, those over us none, and then the pass is over: it offered, behind what was offered before, the members that entries
    -- tie to a name that ties in t, first-seen, those not offered before
    pub pass-keys : (step_run s t before).walk.passes ≡ before.walk.passes + 1 → after.walk.passes ≡ (step_run s t before).walk.passes → IsOver s after
        → keys_of keys after.offers ≡ keys_of keys before.offers ++ without (keys_of keys before.offers) (first_seen (keys_from keys (tied_in named t) c 0))
    pass-keys p same o =
        let d : after.offers ≡ queue_in after =
        subst (λ (r : Run). r.offers ≡ queue_in r) same-run (over-drained ((ts ++ (t ∷ [])) ++ us) (subst (IsOver s) (sym same-run) o)) in
        let old : List ℕ = keys_of keys before.offers in
        ap (keys_of keys) (d ∙ same_queue same ∙ ((promised ts).pass t p).pulled)
        ∙ pull-news keys (tied_in named t) c 0 before.offers
        ∙ ap (◌++◌ old) (news-are (keys_from keys (tied_in named t) c 0) old)

-- ---- the walk over an archive

pub among_in : (a : Archives) (k : ℕ) (q : List ℕ) → among a k q ≡ is_in (key_in a k) (keys_of (key_in a) q)
among_in a = among-keys (key_in a)

module _ (key : ℕ) (s : Archives) (cells : List ℕ) (begun : begun_number (start_of key s cells).started.begun ≡ 0) where
  module _ (ts : List Table) (t : Table) (us : List Table) where
    -- before the call over t, and after the calls over us that follow it
    abbrev pub run_before : Run
    run_before = history s ts (start_run key s cells)

    abbrev pub run_after : Run
    run_after = history s us (step_run s t run_before)

    pub pass-offers : (step_run s t run_before).walk.passes ≡ run_before.walk.passes + 1 → run_after.walk.passes ≡ (step_run s t run_before).walk.passes → Over key s cells begun run_after
        → offered s run_after ≡ offered s run_before ++ without (offered s run_before) (first_seen (tied_members s t))
    pass-offers = pass-keys s (key_in s) (name_in s) (entries_in s) (start_run key s cells) (walked key s cells begun) ts t us
