-- The key places names in chains, and nothing else: over the same calls two walks that differ in their keys give the same answers, whatever cells and tables
-- are lent to them; and so does admission, over any walk that a start begins.
-- Assumes nothing.
use Rattle.archive_walk.specs.declared.Offer.TheVariants.{Done}
use Rattle.link.specs.declared.cause.Refusal.{Refusal}
use Rattle.archive_walk.specs.declared.Offer.{Offer}
use Prim.Native.Nat.{ℕ, zero, suc, ◌+◌, ◌*◌, ◌/◌, ◌<◌, ◌≤◌}
use Rattle.std.proofs.Math.Decide.{ℕ_discrete}
use Rattle.std.proofs.Common.{arith, sym, ap, ◌∙◌, length-set, get_or-set_same, get_or-set_other, ltb-true, ltb-false}
use Rattle.std.specs.Prelude.{◌≡◌, Bool, cond, eqb, ltb, get_or, length, Result, Ok, Err}
use Rattle.std.proofs.Math.Path.{refl}
use Rattle.std.proofs.Math.Bool.{true, false}
use mathlib.Core.List.{List, [], ◌∷◌}
use Rattle.std.proofs.Math.ListN.{set, get_or-eq_default}
use Rattle.archive_index.specs.Archives.{Archives, last_end, entries_in}
use Rattle.archive_index.specs.Rows.{required_at, member_at, pass_at, queue_at, stored_name, no_heads}
use Rattle.archive_index.specs.Open.{open_of}
use Rattle.archive_walk.specs.declared.Walk.{Walk}
use Rattle.archive_walk.specs.Walk.{Started}
use Rattle.archive_walk.specs.Look.{Table, judge_table, tied_name}
use Rattle.archive_walk.specs.Names.{chained, chain_at, headed_of, noted_of, required_of}
use Rattle.archive_walk.specs.Walk.{begun_number, fresh_walk, no_walk, begun_of, start_of, Step, step_of, step_moved, refused_move, handed_out, ended, member_offered, offer_of, Queue, queue_of, marked, enqueue, tie_of, tie_all, removed_of, passed, make_of, search_of, pass_of, walk_fits, go_of, next_of}
use Rattle.archive_laws.proofs.Chains.{any_same}
use Rattle.archive_laws.specs.OtherKey.{with_key, Rekeyed}
use Rattle.archive_laws.specs.OtherKey as OtherKey
use Rattle.archive_laws.specs.Runs.{Run, begun_run, step_run, history, start_run}
use Rattle.archive_laws.specs.Walked.{asks}
use Rattle.archive_laws.proofs.AcceptedStart.{walked}

-- alike but for the cells of the chains: an entry's link and the head of a chain
pub record Alike (l m : List ℕ) : Type 0 where
  pub long : length m ≡ length l
  pub field : (j g : ℕ) → g < 8 → (g ≡ 2 → ⊥) → (g ≡ 3 → ⊥) → get_or m (j * 8 + g) 0 ≡ get_or l (j * 8 + g) 0

alike_same : (l : List ℕ) → Alike l l
alike_same l = record { long = refl; field = λ j g h a b. refl }

alike-back : (l m : List ℕ) → Alike l m → Alike m l
alike-back l m e = record { long = sym e.long; field = λ j g h a b. sym (e.field j g h a b) }

alike-on : (l m n : List ℕ) → Alike l m → Alike m n → Alike l n
alike-on l m n e f = record { long = f.long ∙ e.long; field = λ j g h a b. f.field j g h a b ∙ e.field j g h a b }

-- the same cell is written in both
set-alike : (l m : List ℕ) (a v : ℕ) → Alike l m → Alike (set l a v) (set m a v)
set-alike l m a v e = record {
  long = length-set m a v ∙ e.long ∙ sym (length-set l a v);
  field = λ j g h p q. at j g (e.field j g h p q) (ℕ_discrete (j * 8 + g) a);
}
  where
    here : (i : ℕ) → i ≡ a → (b : Bool) → ltb a (length l) ≡ b → get_or (set m a v) i 0 ≡ get_or (set l a v) i 0
    here i d true r =
        let low : a < length l = ltb-true a (length l) r in
        rw d (get_or-set_same m a v 0 (omega (arith, low, e.long)) ∙ sym (get_or-set_same l a v 0 low))
    here i d false r =
        let out : length l ≤ a = ltb-false a (length l) r in
        rw d (get_or-eq_default (set m a v) 0 (omega (arith, out, e.long, length-set m a v)) ∙ sym (get_or-eq_default (set l a v) 0 (omega (arith, out, length-set l a v))))

    at : (j g : ℕ) → get_or m (j * 8 + g) 0 ≡ get_or l (j * 8 + g) 0 → Dec (j * 8 + g ≡ a) → get_or (set m a v) (j * 8 + g) 0 ≡ get_or (set l a v) (j * 8 + g) 0
    at j g f (yes d) = here (j * 8 + g) d (ltb a (length l)) refl
    at j g f (no d) = get_or-set_other m a (j * 8 + g) v 0 d ∙ f ∙ sym (get_or-set_other l a (j * 8 + g) v 0 d)

-- a cell of a chain is written
link-alike : (l : List ℕ) (k v : ℕ) → Alike l (set l (k * 8 + 2) v)
link-alike l k v = record { long = length-set l (k * 8 + 2) v; field = λ j g h p q. get_or-set_other l (k * 8 + 2) (j * 8 + g) v 0 (λ z. p (omega arith)) }

head-alike : (l : List ℕ) (k v : ℕ) → Alike l (set l (k * 8 + 3) v)
head-alike l k v = record { long = length-set l (k * 8 + 3) v; field = λ j g h p q. get_or-set_other l (k * 8 + 3) (j * 8 + g) v 0 (λ z. q (omega arith)) }

module _ (s : List ℕ) where
  -- ---- what is read of the rows

  module _ (l m : List ℕ) (e : Alike l m) where
    same-member : (k : ℕ) → member_at m k ≡ member_at l k
    same-member k = e.field k 1 (omega arith) (λ z. omega arith) (λ z. omega arith)

    same-pass : (k : ℕ) → pass_at m k ≡ pass_at l k
    same-pass k = e.field k 6 (omega arith) (λ z. omega arith) (λ z. omega arith)

    same_queue : (k : ℕ) → queue_at m k ≡ queue_at l k
    same_queue k = e.field k 7 (omega arith) (λ z. omega arith) (λ z. omega arith)

    pub same-mark : (k : ℕ) → required_at m k ≡ required_at l k
    same-mark k = e.field k 0 (omega arith) (λ z. omega arith) (λ z. omega arith)

    same_name : (k : ℕ) → stored_name s m k ≡ stored_name s l k
    same_name k = rw (e.field k 4 (omega arith) (λ z. omega arith) (λ z. omega arith), e.field k 5 (omega arith) (λ z. omega arith) (λ z. omega arith))

    same-removed : (t : Table) (n k : ℕ) → removed_of s m t n k ≡ removed_of s l t n k
    unfolding removed_of
    same-removed t zero k = refl
    same-removed t (suc n) k = rw (same_name k, same-removed t n (k + 1))

  -- ---- a pass

  noted-alike : (key c : ℕ) (l : List ℕ) (k : ℕ) → Alike (set l (k * 8 + 0) 1) (noted_of key c s l k)
  unfolding noted_of headed_of
  noted-alike key c l k = go (chained key c s l (member_at l k) (stored_name s l k)) (ltb k (length l / 8))
    where
      a : List ℕ
      a = set l (k * 8 + 0) 1

      b : ℕ
      b = chain_at key c s l k

      go : (f h : Bool) → Alike a (cond f a (cond h (set (set a (k * 8 + 2) (get_or l (b * 8 + 3) 0)) (b * 8 + 3) (k + 1)) a))
      go true h = alike_same a
      go false false = alike_same a
      go false true =
          alike-on a (set a (k * 8 + 2) (get_or l (b * 8 + 3) 0)) (set (set a (k * 8 + 2) (get_or l (b * 8 + 3) 0)) (b * 8 + 3) (k + 1)) (link-alike a k (get_or l (b * 8 + 3) 0))
          (head-alike (set a (k * 8 + 2) (get_or l (b * 8 + 3) 0)) b (k + 1))

  module _ (key key' c : ℕ) where
    both-noted : (l m : List ℕ) (k : ℕ) → Alike l m → Alike (noted_of key c s l k) (noted_of key' c s m k)
    both-noted l m k e =
        let a : List ℕ = set l (k * 8 + 0) 1 in
        let b : List ℕ = set m (k * 8 + 0) 1 in
        let before : Alike (noted_of key c s l k) a = alike-back a (noted_of key c s l k) (noted-alike key c l k) in
        alike-on (noted_of key c s l k) b (noted_of key' c s m k) (alike-on (noted_of key c s l k) a b before (set-alike l m (k * 8 + 0) 1 e)) (noted-alike key' c m k)

    record Queues (q q' : Queue) : Type 0 where
      cells : Alike q.cells q'.cells
      queued : q'.queued ≡ q.queued

    module _ (t : Table) (p : ℕ) where
      both_tied : (k : ℕ) (l m : List ℕ) (n : ℕ) → Alike l m → Queues (tie_of key c s t p k (queue_of l n)) (tie_of key' c s t p k (queue_of m n))
      unfolding tie_of enqueue marked
      both_tied k l m n e =
          rw (same_name l m e k, same-member l m e k, same-pass l m e (member_at l k))
          (go (tied_name t (stored_name s l k)) (eqb (pass_at l r) 0) (eqb (pass_at l r) p))
        where
          r : ℕ
          r = member_at l k

          first : List ℕ
          first = noted_of key c s l k

          second : List ℕ
          second = noted_of key' c s m k

          go : (u a b : Bool)
              → Queues (cond u (cond a (queue_of (set (set first (r * 8 + 6) p) (n * 8 + 7) k) (n + 1)) (cond b (queue_of first n) (queue_of l n))) (queue_of l n))
              (cond u (cond a (queue_of (set (set second (r * 8 + 6) p) (n * 8 + 7) k) (n + 1)) (cond b (queue_of second n) (queue_of m n))) (queue_of m n))
          go false a b = record { cells = e; queued = refl }
          go true true b = record {
            cells = set-alike (set first (r * 8 + 6) p) (set second (r * 8 + 6) p) (n * 8 + 7) k (set-alike first second (r * 8 + 6) p (both-noted l m k e));
            queued = refl;
          }
          go true false true = record { cells = both-noted l m k e; queued = refl }
          go true false false = record { cells = e; queued = refl }

      all-tied : (n k : ℕ) (q q' : Queue) → Queues q q' → Queues (tie_all key c s t p n k q) (tie_all key' c s t p n k q')
      unfolding tie_all
      all-tied zero k q q' e = e
      all-tied (suc n) k q q' e =
          all-tied n (k + 1) (tie_of key c s t p k q) (tie_of key' c s t p k q')
          (rw e.queued (both_tied k q.cells q'.cells q.queued e.cells))

module _ (a : Archives) where
  abbrev s : List ℕ
  s = a.bytes

  -- ---- a call

  -- the same answer, and a walk and cells that differ in key and chains
  pub record Steps (key : ℕ) (x x' : Step) : Type 0 where
    pub cells : Alike x.cells x'.cells
    pub walk : Rekeyed key x.moved.walk x'.moved.walk
    pub offer : x'.moved.offer ≡ x.moved.offer

  module _ (key : ℕ) where
    both-offer : (l m : List ℕ) (w : Walk) → Alike l m → Steps key (offer_of a l w) (offer_of a m (with_key key w))
    unfolding offer_of
    both-offer l m w e = rw (same_queue s l m e w.offered) (go (ltb w.offered w.queued))
      where
        d : ℕ
        d = queue_at l w.offered

        go : (b : Bool)
            → Steps key (cond b (step_of l (handed_out w) (Ok (member_offered a d w.passes))) (step_of l (ended w) (Ok (Done w.passes))))
            (cond b (step_of m (handed_out (with_key key w)) (Ok (member_offered a d w.passes))) (step_of m (ended (with_key key w)) (Ok (Done w.passes))))
        go true = record { cells = e; walk = refl; offer = refl }
        go false = record { cells = e; walk = refl; offer = refl }

    same-fits : (l m : List ℕ) (w : Walk) → Alike l m → walk_fits a m (with_key key w) ≡ walk_fits a l w
    unfolding walk_fits
    same-fits l m w e = rw e.long

    pub both-next : (l m : List ℕ) (w : Walk) (t : Table) → Alike l m → Steps key (next_of a l w t) (next_of a m (with_key key w) t)
    unfolding next_of go_of pass_of search_of make_of
    both-next l m w t e =
        rw (same-fits l m w e, same-removed s l m e t w.entries 0)
        (go w.done (walk_fits a l w) (ltb w.offered w.queued) (eqb (judge_table t).number 0) (ltb (removed_of s l t w.entries 0) w.entries))
      where
        u : Queue
        u = tie_all w.key w.entries s t (w.passes + 1) w.entries 0 (queue_of l w.queued)

        u' : Queue
        u' = tie_all key w.entries s t (w.passes + 1) w.entries 0 (queue_of m w.queued)

        tied : Queues s w.key key w.entries u u'
        tied = all-tied s w.key key w.entries t (w.passes + 1) w.entries 0 (queue_of l w.queued) (queue_of m w.queued) (record { cells = e; queued = refl })

        w' : Walk
        w' = with_key key w

        kept : (o : Result Offer Refusal) → Steps key (step_of l w o) (step_of m w' o)
        kept o = record { cells = e; walk = refl; offer = refl }

        made : Steps key (offer_of a u.cells (passed w u.queued)) (offer_of a u'.cells (passed w' u'.queued))
        made = rw tied.queued (both-offer u.cells u'.cells (passed w u.queued) tied.cells)

        at : ℕ
        at = removed_of s l t w.entries 0

        go : (d f g j x : Bool)
            → Steps key
            (cond d (step_of l w (Ok (Done w.passes)))
            (cond f
            (cond g (offer_of a l w)
            (cond j (cond x (step_moved l (refused_move w 21 at)) (offer_of a u.cells (passed w u.queued)))
            (step_moved l (refused_move w (judge_table t).number (judge_table t).place))))
            (step_moved l (refused_move w 1 0))))
            (cond d (step_of m w' (Ok (Done w.passes)))
            (cond f
            (cond g (offer_of a m w')
            (cond j (cond x (step_moved m (refused_move w' 21 at)) (offer_of a u'.cells (passed w' u'.queued)))
            (step_moved m (refused_move w' (judge_table t).number (judge_table t).place))))
            (step_moved m (refused_move w' 1 0))))
        go true f g j x = kept (Ok (Done w.passes))
        go false false g j x = record { cells = e; walk = refl; offer = refl }
        go false true true j x = both-offer l m w e
        go false true false false x = record { cells = e; walk = refl; offer = refl }
        go false true false true true = record { cells = e; walk = refl; offer = refl }
        go false true false true false = made

    -- ---- calls in a row

    pub record Runs (r r' : Run) : Type 0 where
      pub cells : Alike r.cells r'.cells
      pub walk : r'.walk ≡ with_key key r.walk
      pub offers : r'.offers ≡ r.offers

    both-step : (t : Table) (r r' : Run) → Runs r r' → Runs (step_run a t r) (step_run a t r')
    unfolding step_run
    both-step t r r' e =
        let x = both-next r.cells r'.cells r.walk t e.cells in
        rw (e.walk, e.offers) (record { cells = x.cells; walk = x.walk; offers = rw x.offer })

    both-history : (ts : List Table) (r r' : Run) → Runs r r' → Runs (history a ts r) (history a ts r')
    unfolding history
    both-history [] r r' e = e
    both-history (t ∷ ts) r r' e = both-history ts (step_run a t r) (step_run a t r') (both-step t r r' e)

  -- ---- from a start on

  abbrev Agree : Run → Run → Type 0
  Agree = OtherKey.Agree a

  agree-runs : (key : ℕ) (r r' : Run) → Runs key r r' → Agree r r'
  agree-runs key r r' e = record {
    offers = e.offers;
    passes = rw e.walk;
    done = rw e.walk;
    answer = λ t. rw e.walk (both-next key r.cells r'.cells r.walk t e.cells).offer;
    mark = same-mark s r.cells r'.cells e.cells;
  }

  module _ (key key' : ℕ) (l : List ℕ) where
    -- a start, by whether it is accepted
    abbrev begins : ℕ → Bool → Started
    begins k b =
        cond {A = Started} b (record { walk = fresh_walk k (open_of a l).opened.entries (last_end a); begun = Ok (open_of a l).opened.entries })
        (record { walk = no_walk; begun = Err (open_of a l).opened.refusal })

    abbrev rows : List ℕ
    rows = no_heads (open_of a l).opened.entries (open_of a l).cells

    abbrev run : ℕ → Bool → Run
    run k b = begun_run rows (begins k b).walk

    -- the start's answer and its cells don't show the key
    pub start-any-key : ((start_of key' a l).cells ≡ (start_of key a l).cells) × ((start_of key' a l).started.begun ≡ (start_of key a l).started.begun)
    unfolding start_of begun_of
    start-any-key = (refl, go (eqb (open_of a l).opened.refusal.number 0))
      where
        go : (b : Bool) → (begins key' b).begun ≡ (begins key b).begun
        go true = refl
        go false = refl

    -- nor does an answer after any calls over any tables: members, passes, refusals, the marks of required names
    pub any-key : (ts : List Table) → Agree (history a ts (start_run key a l)) (history a ts (start_run key' a l))
    unfolding start_run start_of begun_of
    any-key ts = go (eqb (open_of a l).opened.refusal.number 0)
      where
        go : (b : Bool) → Agree (history a ts (run key b)) (history a ts (run key' b))
        go true = agree-runs key' (history a ts (run key true)) (history a ts (run key' true)) (both-history key' ts (run key true) (run key' true) (record { cells = alike_same rows; walk = refl; offers = refl }))
        go false = agree-runs 0 (history a ts (run key false)) (history a ts (run key' false)) (both-history 0 ts (run key false) (run key' false) (record { cells = alike_same rows; walk = refl; offers = refl }))

    -- nor does admission: under either key a name is required of a member just if a marked entry of the member bears it
    pub required-any-key : begun_number (start_of key a l).started.begun ≡ 0 → (ts : List Table) (e : ℕ) → e < entries_in a → (x : List ℕ)
        → required_of s (history a ts (start_run key' a l)).cells (history a ts (start_run key' a l)).walk e x
        ≡ required_of s (history a ts (start_run key a l)).cells (history a ts (start_run key a l)).walk e x
    required-any-key z ts e h x =
        let r : Run = history a ts (start_run key a l) in
        let r' : Run = history a ts (start_run key' a l) in
        let c : ℕ = entries_in a in
        (walked key' a l (ap begun_number start-any-key.1 ∙ z) ts).asked e h x
        ∙ any_same (asks a r'.cells e x) (asks a r.cells e x) c (λ j g. rw ((any-key ts).mark j))
        ∙ sym ((walked key a l z ts).asked e h x)
