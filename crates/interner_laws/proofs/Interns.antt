-- One intern, a new table, and histories.
-- Assumes nothing.
use Rattle.std.specs.Prelude.{ℕ, ◌+◌, ◌*◌, ◌-◌, ◌<◌, ◌≤◌, ◌≡◌, refl, List, [], ◌++◌, eqb, ltb, take}
use Rattle.std.proofs.Common.{arith, le_refl, le_trans, ◌∙◌}
use Rattle.std.proofs.Math.Path.{ap}
use Rattle.std.proofs.Math.Bool.{true}
use Rattle.std.proofs.Math.ListN.{length, get_or, replicate, length-append, length-replicate, get_or-replicate}
use Rattle.std.proofs.Math.Seq.{length-take-le, get_or-append-add}
use borrow.Author.Tests.{eqb-false, ne_eqb, ltb-true, ltb-false, le-ltb, lt-leb}
use Rattle.cells.specs.Proof.Split.{by-test}
use Rattle.byte_slices.specs.Proof.Ways.{pick}
use Rattle.link.specs.declared.Interned.{Interned}
use Rattle.link.specs.Bounds.{name_rows, name_bytes}
use Rattle.link.specs.Judge.{refused, change_of}
use Rattle.link.specs.Said.{accepted, refusing}
use Rattle.link.specs.declared.Link.{Link}
use Rattle.link.specs.Counts.{no_names, no_rows}
use Rattle.interner.specs.Hash.{head_cell}
use Rattle.interner.specs.Names.{Store, store_of, room_of, fits_of, keep_of, added}
use Rattle.interner.specs.Calls.{Left, left, lent, issue_of, intern_of, clear_heads, new_of}
use Rattle.interner_laws.proofs.Histories.{always, kept, stays-none, stays-both}
use Rattle.interner_laws.specs.Good.{Chained, Good, Issued, Stays, Untouched, rest, count, name_rows_in, name, head, find}
use Rattle.interner_laws.proofs.Find.{found, find-low, find-known}
use Rattle.interner_laws.proofs.Written.{head-behind, head-within}
use Rattle.interner_laws.proofs.More.{More, added_more, more-untouched, more_stays, more-issued, more-chained}
use Rattle.interner_laws.specs.Interns.{id_of, Accepted, id, after}

-- ---- nothing done

pub untouched-none : (s : Store) → Untouched s s
untouched-none s =
    record {
      rows_same = refl;
      bytes_same = refl;
      more-names = le_refl _;
      more_bytes = le_refl _;
      old-rows = λ i f h l k. refl;
      free-rows = λ i f h l k. refl;
      old-bytes = λ k h. refl;
      free_bytes = λ k h. refl;
      others = refl;
    }

pub untouched-both : (s t u : Store) → Untouched s t → Untouched t u → Untouched s u
untouched-both s t u p q =
    let rows : (i : ℕ) → i < name_rows_in s → i < name_rows_in t = λ i l. rw (ap (λ (l : Link). l.chains) p.others) l in
    record {
      rows_same = q.rows_same ∙ p.rows_same;
      bytes_same = q.bytes_same ∙ p.bytes_same;
      more-names = le_trans p.more-names q.more-names;
      more_bytes = le_trans p.more_bytes q.more_bytes;
      old-rows = λ i f h l k. q.old-rows i f (le_trans h p.more-names) (rows i l) k ∙ p.old-rows i f h l k;
      free-rows = λ i f h l k. q.free-rows i f h (rows i l) k ∙ p.free-rows i f (le_trans q.more-names h) l k;
      old-bytes = λ k h. q.old-bytes k (le_trans h p.more_bytes) ∙ p.old-bytes k h;
      free_bytes = λ k h. q.free_bytes k h ∙ p.free_bytes k (le_trans q.more_bytes h);
      others = q.others ∙ p.others;
    }

-- ---- a name kept under its id

module _ (P : Store → Type 0) (s : Store) (id : Interned) (x : List ℕ) where
  pub keeps : P s → (count s ≤ id.0 → room_of s (length x) ≡ true → P (added s x)) → P (keep_of s id x)
  unfolding keep_of
  keeps p q =
      pick P (ltb id.0 (count s)) _ _ (λ e. p)
      (λ e. pick P (room_of s (length x)) _ _ (λ r. q (ltb-false _ _ e) r) (λ r. p))

pub keep-untouched : (s : Store) (id : Interned) (x : List ℕ) → Untouched s (keep_of s id x)
keep-untouched s id x = keeps (λ (t : Store). Untouched s t) s id x (untouched-none s) (λ h r. more-untouched s (added s x) x (added_more s x r))

module _ (s : Store) (x : List ℕ) (g : Good s) where
  pub keep-stays : (id : Interned) → Stays s (keep_of s id x)
  keep-stays id = keeps (λ (t : Store). Stays s t) s id x (stays-none count name s) (λ h r. more_stays s (added s x) x (added_more s x r) g.chained)

  pub keep-good : Good (keep_of s (id_of s x) x)
  keep-good =
      let st : Stays s (keep_of s (id_of s x) x) = keep-stays (id_of s x) in
      record {
        chained = keeps Chained s (id_of s x) x g.chained
            (λ h r. more-chained s (added s x) x (added_more s x r) g.chained ((found s x g.chained).miss h));
        some = le_trans g.some st.grows;
        empty = st.olds 0 g.some ∙ g.empty;
      }

  pub keep-issued : fits_of s (id_of s x) (length x) ≡ true → Issued (keep_of s (id_of s x) x) (find s x) x
  unfolding fits_of keep_of
  keep-issued f =
      by-test (ltb (find s x) (count s))
      (λ e. rw e (record { low = ltb-true _ _ e; right = (found s x g.chained).hit (ltb-true _ _ e) }))
      (λ e.
      let r : room_of s (length x) ≡ true = rw e at f in
      let h : find s x ≡ count s = omega (arith, ltb-false (find s x) (count s) e, find-low s x) in
      rw (e, r, h) (more-issued s (added s x) x (added_more s x r) g.chained))

  pub keep-find : fits_of s (id_of s x) (length x) ≡ true → find (keep_of s (id_of s x) x) x ≡ find s x
  keep-find f = let i = keep-issued f in find-known (keep_of s (id_of s x) x) x keep-good.chained (find s x) i.low i.right

-- ---- one intern

module _ (P : Left → Type 0) (s : Store) (x : List ℕ) where
  pub outcomes : (((change_of s.link (lent s)).number ≡ 0 → ⊥) → P (left s (refusing (change_of s.link (lent s)))))
      → (fits_of s (id_of s x) (length x) ≡ true → P (left (keep_of s (id_of s x) x) (accepted (find s x))))
      → P (left s (refusing (refused 2 0))) → P (intern_of s x)
  unfolding intern_of issue_of
  outcomes a b c =
      pick P (eqb (change_of s.link (lent s)).number 0) _ _
      (λ e. pick P (fits_of s (id_of s x) (length x)) _ _ b (λ f. c))
      (λ e. a (eqb-false _ _ e))

module _ (s : Store) (x : List ℕ) where
  pub intern-refused : (Accepted (intern_of s x) → ⊥) → (intern_of s x).store ≡ s
  intern-refused =
      outcomes (λ (o : Left). (Accepted o → ⊥) → o.store ≡ s) s x (λ n z. refl) (λ f z. absurd (z refl)) (λ z. refl)

  pub intern-untouched : Untouched s (intern_of s x).store
  intern-untouched =
      outcomes (λ (o : Left). Untouched s o.store) s x (λ n. untouched-none s) (λ f. keep-untouched s (id_of s x) x) (untouched-none s)

  module _ (g : Good s) where
    pub intern-good : Good (intern_of s x).store
    intern-good = outcomes (λ (o : Left). Good o.store) s x (λ n. g) (λ f. keep-good s x g) g

    pub intern-stays : Stays s (intern_of s x).store
    intern-stays =
        outcomes (λ (o : Left). Stays s o.store) s x (λ n. stays-none count name s) (λ f. keep-stays s x g (id_of s x)) (stays-none count name s)

    pub intern-issued : Accepted (intern_of s x) → Issued (intern_of s x).store (id (intern_of s x)) x
    intern-issued =
        outcomes (λ (o : Left). Accepted o → Issued o.store (id o) x) s x
        (λ n z. absurd (n z)) (λ f z. keep-issued s x g f) (λ z. absurd (omega arith))

pub empty-issued : (s : Store) → Good s → Issued s 0 []
empty-issued s g = record { low = g.some; right = g.empty }

-- ---- histories of interns, also refused ones

module _ (xs : List (List ℕ)) (s : Store) where
  pub after_untouched : Untouched s (after xs s)
  after_untouched =
      kept _ (λ (s : Store). Unit {0}) (λ s x u. tt) Untouched untouched-none untouched-both (λ s x u. intern-untouched s x) xs s tt

  module _ (g : Good s) where
    pub after-good : Good (after xs s)
    after-good = always _ Good intern-good xs s g

    pub after-stays : Stays s (after xs s)
    after-stays = kept _ Good intern-good Stays (stays-none count name) (stays-both count name) intern-stays xs s g

-- ---- a new table

module _ (key : ℕ) (bytes names : List ℕ) where
  abbrev rows : ℕ
  rows = name_rows (length names)

  abbrev blank : Store
  blank = store_of bytes (clear_heads names) (no_names key rows)

  pub cleared-long : length (clear_heads names) ≡ length names
  unfolding clear_heads
  cleared-long =
      length-append (take (rows * 8) names) (replicate (length names - rows * 8) 0)
      ∙ omega (arith, length-take-le (rows * 8) names (omega arith), length-replicate {A = ℕ} (length names - rows * 8) 0)

  cleared : (q : ℕ) → rows * 8 ≤ q → q < length names → get_or (clear_heads names) q 0 ≡ 0
  unfolding clear_heads
  cleared q h k =
      let e : q ≡ length (take (rows * 8) names) + (q - rows * 8) = omega (arith, length-take-le (rows * 8) names (omega arith)) in
      ap (λ (q : ℕ). get_or (take (rows * 8) names ++ replicate (length names - rows * 8) 0) q 0) e
      ∙ get_or-append-add (take (rows * 8) names) (replicate (length names - rows * 8) 0) (q - rows * 8) 0
      ∙ get_or-replicate (length names - rows * 8) (q - rows * 8) 0 0 (omega arith)

  module _ (some : 0 < rows) where
    no-head : (x : List ℕ) → head blank x ≡ 0
    no-head x =
        let l : Link = no_names key rows in
        let n : ℕ = length (clear_heads names) in
        let lent : rows ≤ name_rows n = omega (arith, cleared-long) in
        cleared (head_cell l n x) (head-behind l n x lent) (omega (arith, head-within l n x lent some, cleared-long))

    blank-chained : Chained blank
    blank-chained =
        record {
          rows-some = some;
          rows-lent = omega (arith, cleared-long);
          rows_in = omega arith;
          bytes-in = omega arith;
          names_in = λ i h. absurd (omega arith);
          distinct = λ i j h. absurd (omega arith);
          head-low = λ x. omega (arith, no-head x);
          head-own = λ x n. absurd (n (no-head x));
          head-gap = λ x j l h. absurd (omega arith);
          next_low = λ i h. absurd (omega arith);
          next-own = λ i h. absurd (omega arith);
          next-gap = λ i j h. absurd (omega arith);
        }

    blank-room : room_of blank 0 ≡ true
    unfolding room_of
    blank-room =
        simp (le-ltb (name_rows (length (clear_heads names))) rows (omega (arith, cleared-long)), lt-leb rows 0 some, le-ltb (name_bytes (length bytes)) 0 (omega arith), le-ltb (name_bytes (length bytes) - 0) 0 (omega arith))

    abbrev opened : Store
    opened = added blank []

    new_is : new_of key bytes names ≡ left opened (accepted 0)
    unfolding new_of keep_of
    new_is = simp (ne_eqb rows 0 (λ e. omega arith), blank-room)

    pub new-accepted : Accepted (new_of key bytes names)
    new-accepted = rw new_is

    opened-more : More blank [] opened
    opened-more = added_more blank [] blank-room

    opened-good : Good opened
    opened-good =
        let i : Issued opened 0 [] = more-issued blank opened [] opened-more blank-chained in
        record {
          chained = more-chained blank opened [] opened-more blank-chained (λ i h. absurd (omega arith));
          some = i.low;
          empty = i.right;
        }

  module _ (ok : Accepted (new_of key bytes names)) where
    pub new-rows : 0 < rows
    unfolding new_of
    new-rows =
        by-test (eqb rows 0)
        (λ e. let z : 2 ≡ 0 = rw e at ok in absurd (omega arith))
        (λ e. let n : rows ≡ 0 → ⊥ = eqb-false rows 0 e in by-test (ltb 0 rows) (λ t. ltb-true 0 rows t) (λ t. absurd (n (omega (arith, ltb-false 0 rows t)))))

    pub new-id : id (new_of key bytes names) ≡ 0
    new-id = rw (new_is new-rows)

    pub new-good : Good (new_of key bytes names).store
    new-good = rw (new_is new-rows) (opened-good new-rows)

    pub new-rest : rest (new_of key bytes names).store.link ≡ no_names key rows
    new-rest = rw (new_is new-rows)

    pub new-long : length (new_of key bytes names).store.names ≡ length names
    new-long = rw (new_is new-rows) ((more-untouched blank (opened new-rows) [] (opened-more new-rows)).rows_same ∙ cleared-long)

  pub new-refused : (Accepted (new_of key bytes names) → ⊥) → (new_of key bytes names).store ≡ store_of bytes names no_rows
  unfolding new_of
  new-refused = pick (λ (o : Left). (Accepted o → ⊥) → o.store ≡ store_of bytes names no_rows) (eqb rows 0) _ _ (λ e z. refl) (λ e z. absurd (z refl))
