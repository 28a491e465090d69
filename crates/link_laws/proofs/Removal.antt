-- Which rows are removed: a call that removes nothing leaves every row present, and a removed row stays removed for ever.
-- Assumes nothing.
use Rattle.std.specs.Prelude.{ℕ, ◌+◌, ◌*◌, ◌≤◌, ◌<◌, ◌≡◌, List, [], ◌∷◌, ◌≢◌, eqb, ltb, length, set, None}
use Rattle.std.proofs.Common.{arith, le_trans, sym, ◌∙◌, get_or-set_other}
use Rattle.std.proofs.Math.Nat.{le_refl}
use Rattle.std.proofs.Math.Path.{refl, subst}
use borrow.Author.Tests.{eq-eqb, ne_eqb, eqb-true, eqb-false, lt-leb, lt-ltb, ltb-true, ltb-false}
use Rattle.cells.specs.Proof.Split.{by-test}
use Rattle.link.specs.declared.Interned.{Interned}
use Rattle.interner.specs.Names.{room_of, added, keep_of}
use Rattle.symbol.specs.declared.Row.{Row}
use Rattle.symbol.specs.Codes.{successor}
use Rattle.symbol.specs.Row.{state_at, set_row}
use Rattle.symbol.specs.Proof.RowLaws.{length-set_row}
use Rattle.symbol_resolution.specs.declared.rows.Holder.TheVariants.{Removed}
use Rattle.symbol_resolution.specs.Decision.{Decision, Refuse, Replace, Amend}
use Rattle.symbol_resolution.specs.Holder.{global_at, held_by, holder_of}
use Rattle.symbol_resolution.specs.Apply.{Table, table_of, note_name, append_of, replaced_in, amended_in, apply_of}
use Rattle.symbols.specs.Calls.{Left}
use Rattle.symbols.specs.Add.{issued_of, direct_holder_of, decided_of, committed_of, add_row_of}
use Rattle.symbol_laws.proofs.View.{Named, Free, Refuses, View, refused, kept, amended, replaced, appended, local, view, decided, held, holder}
use Rattle.symbol_laws.proofs.ViewLemmas.{absent-refused}
use Rattle.symbol_laws.proofs.Refused.{commit-refused}
use Rattle.symbol_laws.proofs.Rows.{stored_there, there-kept}
use Rattle.symbol_laws.specs.Below.{Below}
use Rattle.symbol_laws.proofs.Issue.{FreeRow, linked-old, room-free}
use Rattle.symbol_laws.specs.History.{State, table, store, with_table, with_store, issue, put, put_of, id_of}
use Rattle.merge_laws.specs.Steps.{Step, part, mark, others, step_next, run_steps}
use Rattle.merge_laws.proofs.Past.{step-below}

-- between two states: the row stands as it stood, or it was written, and wasn't a removed one
pub data Stood (s t : State) (i : ℕ) : Type 0 where
  same : state_at t.symbols i ≡ state_at s.symbols i → Stood s t i
  written : state_at t.symbols i ≡ 1 → (i < s.link.symbols → state_at s.symbols i ≢ 2) → Stood s t i

-- counted rows are lent
pub record Ready (s : State) : Type 0 where
  pub below : Below s
  pub room : s.link.symbols * 8 ≤ length s.symbols

-- between two states: no count falls, counted rows stay lent, a name that has a row keeps it, and a link without removed rows gets none
pub record Kept (s t : State) : Type 0 where
  pub more : s.link.symbols ≤ t.link.symbols
  pub names_more : s.link.names ≤ t.link.names
  pub room : t.link.symbols * 8 ≤ length t.symbols
  pub named : (n : ℕ) → n < s.link.names → global_at s.names n ≢ 0 → global_at t.names n ≡ global_at s.names n
  pub whole : ((i : ℕ) → i < s.link.symbols → state_at s.symbols i ≢ 2) → (i : ℕ) → i < t.link.symbols → state_at t.symbols i ≢ 2

kept-none : (s : State) → Ready s → Kept s s
kept-none s g = record { more = le_refl _; names_more = le_refl _; room = g.room; named = λ n h u. refl; whole = λ w. w }

-- ---- a row added

module _ (s : State) (g : Ready s) (r : Row) where
  abbrev id : ℕ
  id = held (table s) r

  removed-holder : Named (table s) r → id ≢ 0 → state_at s.symbols id ≡ 2 → holder (table s) r ≡ Removed
  unfolding direct_holder_of issued_of holder_of held_by
  removed-holder n z e =
      rw (lt-leb s.link.names r.name.0 n.issued, ne_eqb id 0 z, lt-leb s.link.symbols id (g.below.held r.name.0 n.issued z), eq-eqb (state_at s.symbols id) 2 e)

  -- under a removed name nothing is decided but a refusal
  removed-refuses : Named (table s) r → id ≢ 0 → state_at s.symbols id ≡ 2 → Refuses (decided (table s) r)
  unfolding decided_of
  removed-refuses n z e = absent-refused (table s) r (holder (table s) r) (rw (removed-holder n z e, ne_eqb r.scope 0 n.global))

  written-present : (d : Decision) → ((k : ℕ) → d ≡ Refuse k → ⊥) → Named (table s) r → id ≢ 0 → decided (table s) r ≡ d → state_at s.symbols id ≢ 2
  written-present d differ n z p e = differ (removed-refuses n z e).number (sym p ∙ (removed-refuses n z e).is)

  replaced-differs : (k : ℕ) → Replace (record { 0 = id }) ≡ Refuse k → ⊥
  replaced-differs k q = let z : ◌≡◌ {A = ℕ} 0 1 = cc in omega arith

  amended-differs : (k : ℕ) → Amend (record { 0 = id }) ≡ Refuse k → ⊥
  amended-differs k q = let z : ◌≡◌ {A = ℕ} 0 1 = cc in omega arith

  abbrev Fine : Left → Type 0
  Fine o = (i : ℕ) → Stood s (with_table s o.table) i

  decides : (d : Decision) → decided (table s) r ≡ d → Fine (committed_of (table s) r None d) → Fine (put_of s r)
  unfolding add_row_of
  decides d e f = subst (λ (d : Decision). Fine (committed_of (table s) r None d)) (sym e) f

  stored : (t : State) (x : Row) (at i : ℕ) → t.symbols ≡ set_row s.symbols (record { 0 = at }) x → at * 8 + 8 ≤ length s.symbols
      → (at < s.link.symbols → state_at s.symbols at ≢ 2) → Stood s t i
  stored t x at i q fits ne =
      by-test (eqb i at)
      (λ e.
      let k : i ≡ at = eqb-true _ _ e in
      written (rw (q, k) (stored_there s.symbols (record { 0 = at }) x fits)) (λ h. rw k (ne (rw (← k) h))))
      (λ e. same (rw q (there-kept s.symbols (record { 0 = at }) x i (eqb-false _ _ e))))

  appended-stood : Free (table s) r → Fine (record { table = append_of (table s) r; said = (put_of s r).said })
  unfolding append_of
  appended-stood f i = stored (with_table s (append_of (table s) r)) r s.link.symbols i refl f.fits (λ h. absurd (omega arith))

  viewed : View (table s) r → Fine (put_of s r)
  unfolding committed_of apply_of replaced_in amended_in
  viewed (refused n e z) =
      decides (Refuse n) e
      (subst (λ (t : Table). (i : ℕ) → Stood s (with_table s t) i) (sym (commit-refused (table s) r None n z).0) (λ i. same refl))
  viewed (kept e k z o w p) = decides _ e (λ i. same refl)
  viewed (amended e k z o w) =
      let low : id < s.link.symbols = g.below.held r.name.0 k.issued z in
      decides _ e
      (λ i. stored (with_table s (apply_of (table s) r (Amend (record { 0 = id })))) _ id i refl (omega (arith, g.room)) (λ h. written-present _ amended-differs k z e))
  viewed (replaced e k z o) =
      let low : id < s.link.symbols = g.below.held r.name.0 k.issued z in
      decides _ e
      (λ i. stored (with_table s (apply_of (table s) r (Replace (record { 0 = id })))) _ id i refl (omega (arith, g.room)) (λ h. written-present _ replaced-differs k z e))
  viewed (appended e f k z) = decides _ e (λ i. appended-stood f i)
  viewed (local e f v) = decides _ e (λ i. appended-stood f i)

  pub put-stood : (i : ℕ) → Stood s (with_table s (put_of s r).table) i
  put-stood = viewed (view (table s) r)

  -- ---- a name that has a row keeps it, and no row that is counted is removed by an add

  abbrev Keeps : Left → Type 0
  Keeps o = Kept s (with_table s o.table)

  decides-keep : (d : Decision) → decided (table s) r ≡ d → Keeps (committed_of (table s) r None d) → Keeps (put_of s r)
  unfolding add_row_of
  decides-keep d e f = subst (λ (d : Decision). Keeps (committed_of (table s) r None d)) (sym e) f

  one_more : Free (table s) r → successor s.link.symbols ≡ s.link.symbols + 1
  unfolding successor
  one_more f = rw (lt-ltb s.link.symbols 0xffffffffffffffff (omega (arith, f.few)))

  noted_other : (n at : ℕ) → n ≢ r.name.0 → global_at (set s.names (r.name.0 * 8 + 3) at) n ≡ global_at s.names n
  noted_other n at u = get_or-set_other s.names (r.name.0 * 8 + 3) (n * 8 + 3) at 0 (λ d. u (omega arith))

  appended-keeps : Free (table s) r → (r.scope ≢ 0 → id ≡ 0) → Kept s (with_table s (append_of (table s) r))
  unfolding append_of note_name
  appended-keeps f z =
      let next = one_more f in
      record {
        more = omega (arith, next);
        names_more = le_refl _;
        room = omega (arith, next, f.fits, length-set_row s.symbols (record { 0 = s.link.symbols }) r);
        named = λ n h u.
            by-test (eqb r.scope 0) (λ v. rw v)
            (λ v.
            rw v
            (noted_other n s.link.symbols
            (λ e. u (subst (λ (m : ℕ). global_at s.names m ≡ 0) (sym e) (z (eqb-false _ _ v))))));
        whole = λ w i h.
            by-test (eqb i s.link.symbols)
            (λ e.
            let k : i ≡ s.link.symbols = eqb-true _ _ e in
            let q : state_at (set_row s.symbols (record { 0 = s.link.symbols }) r) i ≡ 1 =
            rw k (stored_there s.symbols (record { 0 = s.link.symbols }) r f.fits) in
            λ d. omega (arith, q, d))
            (λ e.
            let ne : i ≢ s.link.symbols = eqb-false _ _ e in
            let q = there-kept s.symbols (record { 0 = s.link.symbols }) r i ne in
            λ d. w i (omega (arith, next, h, below i s.link.symbols ne (omega (arith, next, h)))) (sym q ∙ d));
      }
    where
      below : (m c : ℕ) → m ≢ c → m ≤ c → m < c
      below m c u h = by-test (ltb m c) (λ t. ltb-true _ _ t) (λ t. absurd (u (omega (arith, ltb-false m c t))))

  written_keeps : (x : Row) → id < s.link.symbols → Kept s (with_table s (table_of s.names (set_row s.symbols (record { 0 = id }) x) s.sections s.link))
  written_keeps x low =
      record {
        more = omega arith;
        names_more = le_refl _;
        room = omega (arith, g.room, length-set_row s.symbols (record { 0 = id }) x);
        named = λ n h u. refl;
        whole = λ w i h.
            by-test (eqb i id)
            (λ e.
            let k : i ≡ id = eqb-true _ _ e in
            let q : state_at (set_row s.symbols (record { 0 = id }) x) i ≡ 1 = rw k (stored_there s.symbols (record { 0 = id }) x (omega (arith, g.room))) in
            λ d. omega (arith, q, d))
            (λ e. λ d. w i h (sym (there-kept s.symbols (record { 0 = id }) x i (eqb-false _ _ e)) ∙ d));
      }

  -- a name whose row is counted isn't appended
  nobody : Named (table s) r → (id ≢ 0 → s.link.symbols ≤ id) → id ≡ 0
  nobody k z =
      by-test (eqb id 0) (λ e. eqb-true _ _ e)
      (λ e. let u = eqb-false id 0 e in absurd (omega (arith, z u, g.below.held r.name.0 k.issued u)))

  viewed-keeps : View (table s) r → Keeps (put_of s r)
  unfolding committed_of apply_of replaced_in amended_in
  viewed-keeps (refused n e z) =
      decides-keep (Refuse n) e (subst (λ (t : Table). Kept s (with_table s t)) (sym (commit-refused (table s) r None n z).0) (kept-none s g))
  viewed-keeps (kept e k z o w p) = decides-keep _ e (kept-none s g)
  viewed-keeps (amended e k z o w) = decides-keep _ e (written_keeps _ (g.below.held r.name.0 k.issued z))
  viewed-keeps (replaced e k z o) = decides-keep _ e (written_keeps _ (g.below.held r.name.0 k.issued z))
  viewed-keeps (appended e f k z) = decides-keep _ e (appended-keeps f (λ u. nobody k z))
  viewed-keeps (local e f v) = decides-keep _ e (appended-keeps f (λ u. absurd (u v)))

  pub put_keeps : Kept s (with_table s (put_of s r).table)
  put_keeps = viewed-keeps (view (table s) r)

-- ---- a name issued

module _ (s : State) (g : Ready s) (x : List ℕ) where
  added-keeps : FreeRow s.link s.names → Kept s (with_store s (added (store s) x))
  added-keeps row =
      record {
        more = omega arith;
        names_more = omega arith;
        room = g.room;
        named = λ n h u.
            linked-old s.link s.names s.link.bytes (length x) x row n 3 (omega (arith, h, row.free)) (omega arith) (λ e. omega (arith, h, e));
        whole = λ w. w;
      }

  issue-keeps : (id : Interned) → Kept s (with_store s (keep_of (store s) id x))
  unfolding keep_of
  issue-keeps id =
      by-test (ltb id.0 s.link.names) (λ a. rw a (kept-none s g))
      (λ a. by-test (room_of (store s) (length x)) (λ c. rw (a, c) (added-keeps (room-free (store s) (length x) c))) (λ c. rw (a, c) (kept-none s g)))

-- ---- one step after the other

-- from one state to a later one: ready, and what was removed stays so, under its name
pub record Onward (s t : State) : Type 0 where
  pub ready : Ready t
  pub kept : Kept s t
  pub gone : (i : ℕ) → i < s.link.symbols → state_at s.symbols i ≡ 2 → state_at t.symbols i ≡ 2

stood-gone : (s t : State) (i : ℕ) → Stood s t i → i < s.link.symbols → state_at s.symbols i ≡ 2 → state_at t.symbols i ≡ 2
stood-gone s t i (same e) h z = e ∙ z
stood-gone s t i (written e f) h z = absurd (f h z)

pub onward-none : (s : State) → Ready s → Onward s s
onward-none s g = record { ready = g; kept = kept-none s g; gone = λ i h z. z }

pub onward-both : (s t u : State) → Onward s t → Onward t u → Onward s u
onward-both s t u a b =
    let k = a.kept in
    let l = b.kept in
    record {
      ready = b.ready;
      kept =
          record {
            more = le_trans k.more l.more;
            names_more = le_trans k.names_more l.names_more;
            room = l.room;
            named = λ n h u.
                l.named n (omega (arith, h, k.names_more)) (λ z. u (sym (k.named n h u) ∙ z)) ∙ k.named n h u;
            whole = λ w. l.whole (k.whole w);
          };
      gone = λ i h z. b.gone i (omega (arith, h, k.more)) (a.gone i h z);
    }

step_keeps : (k : Step) (s : State) → Ready s → Kept s (step_next k s)
step_keeps (part (issue x)) s g = issue-keeps s g x (id_of s x)
step_keeps (part (put r from)) s g = put_keeps s g r
step_keeps (mark n) s g =
    record {
      more = le_refl _;
      names_more = le_refl _;
      room = g.room;
      named = λ m h u. get_or-set_other s.names (n * 8 + 4) (m * 8 + 3) 1 0 (λ e. omega arith);
      whole = λ w. w;
    }
step_keeps (others x l) s g = record { more = le_refl _; names_more = le_refl _; room = g.room; named = λ m h u. refl; whole = λ w. w }

step-stood : (k : Step) (s : State) → Ready s → (i : ℕ) → Stood s (step_next k s) i
step-stood (part (issue x)) s g i = same refl
step-stood (part (put r from)) s g i = put-stood s g r i
step-stood (mark n) s g i = same refl
step-stood (others x l) s g i = same refl

step-onward : (k : Step) (s : State) → Ready s → Onward s (step_next k s)
step-onward k s g =
    record {
      ready = record { below = step-below k s g.below; room = (step_keeps k s g).room };
      kept = step_keeps k s g;
      gone = λ i. stood-gone s (step_next k s) i (step-stood k s g i);
    }

pub steps-onward : (ks : List Step) (s : State) → Ready s → Onward s (run_steps ks s)
steps-onward [] s g = onward-none s g
steps-onward (k ∷ ks) s g =
    let a = step-onward k s g in
    onward-both s (step_next k s) (run_steps ks (step_next k s)) a (steps-onward ks (step_next k s) a.ready)
