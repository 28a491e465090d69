-- Whole walks over an archive: what an accepted start leaves is a run at its beginning whose rows go by the indexes' members and names (Opened.antt), of which
-- KeyedWalk.antt speaks.
-- Assumes nothing.
use Rattle.std.specs.Prelude.{ℕ, zero, suc, ◌*◌, ◌/◌, ◌+◌, ◌-◌, ◌<◌, ◌≤◌, ◌≡◌, Bool, true, false, cond, List, eqb, ltb, leb, get_or, length, Ok, Err}
use Rattle.std.proofs.Common.{arith, ◌∙◌}
use Rattle.std.proofs.Math.Path.{refl}
use borrow.Author.Tests.{eqb-true, eqb-false, eq-eqb, ltb-false, leb-true}
use Rattle.cells.specs.Proof.Split.{by-test}
use Rattle.byte_slices.specs.Proof.Ways.{apart}
use Rattle.link.specs.Bounds.{lesser}
use Rattle.archive_index.specs.Open.{Opened}
use Rattle.archive_index.specs.Index.{count_of}
use Rattle.archive_index.specs.Archives.{Archives, start_at, end_at, last_end, index_at, count_at, entries_from, entries_in, name_in, key_in}
use Rattle.archive_index.specs.Rows.{required_at, pass_at, member_at, queue_at, rows_in, rows_of}
use Rattle.archive_index.specs.Open.{Left, left, opened_as, end_fits, is_filled, offsets_in, cut_in, first_not, judge_each, judge_index, judge_from, judge_rows, judge_archives, judge_of, open_of}
use Rattle.link.specs.declared.cause.Refusal.{Refusal}
use Rattle.link.specs.Judge.{refused, within}
use Rattle.link.specs.Judge.{none as nothing}
use Rattle.link.specs.Proof.Judged.{first}
use Rattle.archive_walk.specs.Walk.{Started}
use Rattle.archive_walk.specs.Look.{Table}
use Rattle.archive_walk.specs.Walk.{begun_number, fresh_walk, no_walk, begun_of, start_of}
use Rattle.archive_laws.specs.Members.{among, none, fresh}
use Rattle.archive_laws.specs.Counts.{no_one}
use Rattle.archive_laws.specs.Runs.{queue_list, history, start_run, seen}
use Rattle.archive_laws.specs.Pass.{Rows, Sound, Low}
use Rattle.archive_laws.proofs.Chains.{none-linked, heads-field, heads-length, queue-none}
use Rattle.archive_laws.proofs.Opened.{rows-entered}
use Rattle.archive_laws.proofs.Counts.{clash}
use Rattle.std.proofs.Math.Decide.{ℕ_discrete}
use Rattle.archive_laws.specs.Steps.{Fine}
use Rattle.archive_laws.proofs.KeyedWalk.{fine-after, walked_by}
use Rattle.archive_laws.specs.Walked.{Walked}
use Rattle.archive_laws.specs.AcceptedStart.{Whole, Accepted, fresh_cells, fresh_run}

-- of two judgements that refuse nothing
both-fine : (x y : Refusal) → (first x y).number ≡ 0 → (x.number ≡ 0) × (y.number ≡ 0)
both-fine x y = go (eqb x.number 0) refl
  where
    go : (b : Bool) → eqb x.number 0 ≡ b → (cond b y x).number ≡ 0 → (x.number ≡ 0) × (y.number ≡ 0)
    go true e z = (eqb-true x.number 0 e, z)
    go false e z = clash (eqb x.number 0) (eq-eqb x.number 0 z) e

-- an index that isn't refused has no name cut short
index-whole : (s : List ℕ) (b : ℕ) → (judge_index s b).number ≡ 0 → count_of s ≤ cut_in s
unfolding judge_index
index-whole s b = go (ltb (length s) 4) (ltb (offsets_in (length s)) (count_of s)) (ltb 65535 (b + count_of s)) (ltb (cut_in s) (count_of s)) refl
  where
    go : (u v w x : Bool) → ltb (cut_in s) (count_of s) ≡ x
        → (cond u (refused 1 b) (cond v (refused 1 (lesser 65535 (b + offsets_in (length s)))) (cond w (refused 1 65535) (cond x (refused 1 (b + cut_in s)) nothing)))).number ≡ 0
        → count_of s ≤ cut_in s
    go true v w x e z = absurd (omega arith)
    go false true w x e z = absurd (omega arith)
    go false false true x e z = absurd (omega arith)
    go false false false true e z = absurd (omega arith)
    go false false false false e z = ltb-false (cut_in s) (count_of s) e

-- and keeps within the bound on all entries
pub index-bounded : (s : List ℕ) (b : ℕ) → (judge_index s b).number ≡ 0 → b + count_of s ≤ 65535
unfolding judge_index
index-bounded s b z =
    by-test (ltb (length s) 4) (λ a. absurd (omega (arith, rw a at z)))
    (λ a.
    by-test (ltb (offsets_in (length s)) (count_of s)) (λ d. absurd (omega (arith, rw (a, d) at z)))
    (λ d. by-test (ltb 65535 (b + count_of s)) (λ e. absurd (omega (arith, rw (a, d, e) at z))) (λ e. ltb-false _ _ e)))

first-or : (f : ℕ → Bool) (i j : ℕ) → f j ≡ true → Dec (i ≡ j) → ((i ≡ j → ⊥) → f i ≡ true) → f i ≡ true
first-or f i j t (yes d) g = rw d t
first-or f i j t (no d) g = g d

-- n numbers from j on of which none is the first that f doesn't hold of
all-hold : (f : ℕ → Bool) (n j : ℕ) → j + n ≤ first_not f n j → (i : ℕ) → j ≤ i → i < j + n → f i ≡ true
unfolding first_not
all-hold f zero j h i g k = absurd (omega arith)
all-hold f (suc n) j h i g k =
    by-test (f j) (λ t. first-or f i j t (ℕ_discrete i j) (λ d. all-hold f n (j + 1) (omega (arith, rw t at h)) i (omega arith) (omega arith)))
    (λ t. absurd (omega (arith, rw t at h)))

pub each-holds : (f : ℕ → Bool) (n number : ℕ) → (number ≡ 0 → ⊥) → (judge_each f n number).number ≡ 0 → (i : ℕ) → i < n → f i ≡ true
unfolding judge_each
each-holds f n number some z i h =
    by-test (ltb (first_not f n 0) n) (λ t. absurd (some (rw t at z))) (λ t. all-hold f n 0 (omega (arith, ltb-false (first_not f n 0) n t)) i (omega arith) (omega arith))

module _ (a : Archives) where
  -- an end that is no lower than the one before, and in the slice
  fits : (j : ℕ) → end_fits a j ≡ true → (start_at a j ≤ end_at a j) × (end_at a j ≤ length a.bytes)
  unfolding end_fits
  fits j e =
      by-test (leb (start_at a j) (end_at a j)) (λ t. (leb-true _ _ t, leb-true _ _ (rw t at e))) (λ t. absurd (apart (rw t at e)))

  last-inside : (judge_each (end_fits a) (length a.ends) 1).number ≡ 0 → last_end a ≤ length a.bytes
  unfolding start_at
  last-inside z =
      by-test (eqb (length a.ends) 0) (λ t. rw t (omega arith))
      (λ t.
      let n : length a.ends ≡ 0 → ⊥ = eqb-false _ _ t in
      rw t (fits (length a.ends - 1) (each-holds (end_fits a) (length a.ends) 1 (λ q. omega arith) z (length a.ends - 1) (omega arith))).1)

  at-most : (within (length a.ends) 16).number ≡ 0 → length a.ends ≤ 16
  at-most z = by-test (ltb 16 (length a.ends)) (λ t. absurd (omega (arith, rw t at z))) (λ t. ltb-false _ _ t)

  all-whole : (n j b : ℕ) → (judge_from a n j b).number ≡ 0 → Whole a n j
  unfolding judge_from
  all-whole zero j b z i g h = absurd (omega arith)
  all-whole (suc n) j b z i g h =
      let f = both-fine (judge_index (index_at a j) b) (judge_from a n (j + 1) (b + count_at a j)) z in
      go (index-whole (index_at a j) b f.0) (all-whole n (j + 1) (b + count_at a j) f.1 i) (ℕ_discrete i j)
    where
      go : count_at a j ≤ cut_in (index_at a j) → (j + 1 ≤ i → i < j + 1 + n → count_at a i ≤ cut_in (index_at a i)) → Dec (i ≡ j) → count_at a i ≤ cut_in (index_at a i)
      go f r (yes d) = rw d f
      go f r (no d) = r (omega arith) (omega arith)

  all-bounded : (n j b : ℕ) → (judge_from a n j b).number ≡ 0 → b ≤ 65535 → b + entries_from a n j ≤ 65535
  unfolding judge_from entries_from
  all-bounded zero j b z h = omega arith
  all-bounded (suc n) j b z h =
      let f = both-fine (judge_index (index_at a j) b) (judge_from a n (j + 1) (b + count_at a j)) z in
      let g = all-bounded n (j + 1) (b + count_at a j) f.1 (index-bounded (index_at a j) b f.0) in
      omega arith

  module _ (l : List ℕ) where
    pub accepted : (open_of a l).opened.refusal.number ≡ 0 → Accepted a l (open_of a l)
    unfolding open_of judge_of judge_archives
    accepted = go (eqb (judge_of a (rows_in l)).number 0) refl
      where
        go : (b : Bool) → eqb (judge_of a (rows_in l)).number 0 ≡ b
            → (cond b (left (rows_of a l) (opened_as (entries_in a) nothing)) (left l (opened_as 0 (judge_of a (rows_in l))))).opened.refusal.number ≡ 0
            → Accepted a l (cond b (left (rows_of a l) (opened_as (entries_in a) nothing)) (left l (opened_as 0 (judge_of a (rows_in l)))))
        go true e z =
            let f = both-fine (within (length a.ends) 16) (judge_archives a (rows_in l)) (eqb-true (judge_of a (rows_in l)).number 0 e) in
            let g = both-fine (judge_each (end_fits a) (length a.ends) 1) _ f.1 in
            let h = both-fine (judge_each (is_filled a) (length a.ends) 20) _ g.1 in
            let i = both-fine (judge_from a (length a.ends) 0 0) (judge_rows (rows_in l) (entries_in a)) h.1 in
            record { few = at-most f.0; within = last-inside g.0; bound = omega (arith, all-bounded (length a.ends) 0 0 i.0 (omega arith)); names = all-whole (length a.ends) 0 0 i.0; rows = room i.1; made = refl }
          where
            room : (judge_rows (rows_in l) (entries_in a)).number ≡ 0 → entries_in a ≤ length l / 8
            room = by (ltb (rows_in l) (entries_in a)) refl
              where
                by : (x : Bool) → ltb (rows_in l) (entries_in a) ≡ x → (cond x (refused 2 0) nothing).number ≡ 0 → entries_in a ≤ length l / 8
                by true d y = absurd (omega arith)
                by false d y = ltb-false (rows_in l) (entries_in a) d
        go false e z = clash (eqb (judge_of a (rows_in l)).number 0) (eq-eqb (judge_of a (rows_in l)).number 0 z) e

opened-number : (key n : ℕ) (o : Opened) → begun_number (begun_of key n o).begun ≡ 0 → o.refusal.number ≡ 0
unfolding begun_of
opened-number key n o = go (eqb o.refusal.number 0) refl
  where
    go : (b : Bool) → eqb o.refusal.number 0 ≡ b
        → begun_number (cond {A = Started} b (record { walk = fresh_walk key o.entries n; begun = Ok o.entries }) (record { walk = no_walk; begun = Err o.refusal })).begun ≡ 0
        → o.refusal.number ≡ 0
    go true e z = eqb-true o.refusal.number 0 e
    go false e z = z

started : (key : ℕ) (s : Archives) (l : List ℕ) (x : Left) → x ≡ open_of s l → Accepted s l x → start_run key s l ≡ fresh_run key s l
unfolding start_run start_of begun_of
started key s l x e a = rw (← e, a.made)

started-number : (key : ℕ) (s : Archives) (l : List ℕ) → begun_number (start_of key s l).started.begun ≡ 0 → begun_number (begun_of key (last_end s) (open_of s l).opened).begun ≡ 0
unfolding start_of
started-number key s l z = z

module _ (key : ℕ) (s : Archives) (l : List ℕ) where
  abbrev c : ℕ
  c = entries_in s

  abbrev rows : List ℕ
  rows = rows_of s l

  module _ (a : Accepted s l (open_of s l)) where
    fresh-field : (j g : ℕ) → g < 7 → (g ≡ 3 → ⊥) → get_or (fresh_cells s l) (j * 8 + g) 0 ≡ get_or rows (j * 8 + g) 0
    fresh-field = heads-field key s.bytes c c rows

    -- no name is required before a pass
    pub fresh_unmarked : (j : ℕ) → j < c → required_at (fresh_cells s l) j ≡ 0
    fresh_unmarked j h = fresh-field j 0 (omega arith) (λ z. omega arith) ∙ (rows-entered s l (omega (arith, a.rows)) a.names).unmarked j h

    fresh_empty : (k : ℕ) → k < c → queue_at (fresh_cells s l) k ≡ 0
    fresh_empty = queue-none key s.bytes c c rows (rows-entered s l (omega (arith, a.rows)) a.names).room

    fresh-rows : Rows key s.bytes (key_in s) (name_in s) c (fresh_cells s l)
    fresh-rows =
        let y = rows-entered s l (omega (arith, a.rows)) a.names in
        record {
          room = omega (arith, heads-length key s.bytes c c rows, y.room);
          name = λ k h. rw (fresh-field k 4 (omega arith) (λ z. omega arith), fresh-field k 5 (omega arith) (λ z. omega arith)) (y.name k h);
          member = λ k h. rw (fresh-field k 1 (omega arith) (λ z. omega arith)) (y.member k h);
          linked = none-linked key s.bytes c rows y.room y.unmarked;
        }

    unqueued : (k : ℕ) → k < c → pass_at (fresh_cells s l) (member_at (fresh_cells s l) k) ≡ 0
    unqueued k h =
        let y = rows-entered s l (omega (arith, a.rows)) a.names in
        let r : ℕ = member_at (fresh_cells s l) k in
        fresh-field r 6 (omega arith) (λ z. omega arith) ∙ y.unqueued r (omega (arith, (fresh-rows.member k h).low))

    fresh-sound : Sound key s.bytes (key_in s) (name_in s) c (fresh_cells s l) 0
    unfolding queue_list among
    fresh-sound = record {
      rows = fresh-rows;
      marks = record { mark = λ k h. eq-eqb (pass_at (fresh_cells s l) (member_at (fresh_cells s l) k)) 0 (unqueued k h); once = none; below = no_one; unmarked = λ k h e. fresh_unmarked k h };
    }

    fresh-low : Low key s.bytes (key_in s) (name_in s) c 0 (fresh_cells s l)
    fresh-low j h = omega (arith, unqueued j h)

  -- a start that is not refused
  module _ (z : begun_number (start_of key s l).started.begun ≡ 0) where
    accepted-start : Accepted s l (open_of s l)
    accepted-start = accepted s l (opened-number key (last_end s) (open_of s l).opened (started-number key s l z))

    begin : start_run key s l ≡ fresh_run key s l
    begin = started key s l (open_of s l) refl accepted-start

    fresh-begins : seen (fresh_run key s l) ≡ fresh
    unfolding queue_list
    fresh-begins = refl

    -- no cell of the queue says anything
    pub start-empty : (k : ℕ) → k < c → queue_at (start_run key s l).cells k ≡ 0
    start-empty k h = rw begin (fresh_empty accepted-start k h)

    -- its run is at its beginning, and its rows go by the index's offsets and names
    pub start-begins : seen (start_run key s l) ≡ fresh
    start-begins = rw begin fresh-begins

    pub start_fine : Fine key s (key_in s) (name_in s) c (start_run key s l)
    unfolding queue_list
    start_fine =
        rw begin
        (record { keyed = refl; entries = refl; lent = record { few = accepted-start.few; within = accepted-start.within; whole = omega arith }; sound = fresh-sound accepted-start; low = fresh-low accepted-start; sent = refl })

    -- then any calls, each over any table: index, cells and counts of the walk are as they were at the start
    module _ (ts : List Table) where
      pub walk_fine : Fine key s (key_in s) (name_in s) c (history s ts (start_run key s l))
      walk_fine = fine-after key s (key_in s) (name_in s) c (start_run key s l) start_fine start-begins ts

      pub walked : Walked s ts (history s ts (start_run key s l))
      walked = walked_by key s (key_in s) (name_in s) c (start_run key s l) start_fine start-begins ts
