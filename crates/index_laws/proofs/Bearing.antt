-- Every call keeps it that a name's symbol bears the name, and that a row that isn't local is its name's symbol.
-- Assumes nothing.
use Rattle.std.specs.Prelude.{ℕ, ◌+◌, ◌*◌, ◌≤◌, ◌<◌, ◌≡◌, refl, List, [], ◌∷◌, ◌≢◌, eqb, ltb, length, set, None}
use Rattle.std.proofs.Common.{arith, sym, ap, ◌∙◌, subst, get_or-set_same, get_or-set_other}
use borrow.Author.Tests.{eq-eqb, ne_eqb, eqb-true, eqb-false, lt-ltb, ltb-true, ltb-false}
use Rattle.cells.specs.Proof.Split.{by-test}
use Rattle.link.specs.declared.Interned.{Interned}
use Rattle.interner.specs.Names.{room_of, added, keep_of}
use Rattle.interner_laws.specs.Good.{Good}
use Rattle.symbol.specs.declared.Row.{Row}
use Rattle.symbol.specs.Codes.{successor}
use Rattle.symbol.specs.Layout.{scope_in}
use Rattle.symbol.specs.Row.{field, scope_at, row_at, set_row}
use Rattle.symbol.specs.Hidden.{pass_hidden}
use Rattle.symbol.specs.Proof.RowLaws.{field-same, field-other, scope-back}
use Rattle.symbol_resolution.specs.Decision.{Decision, Refuse}
use Rattle.symbol_resolution.specs.Holder.{global_at}
use Rattle.symbol_resolution.specs.Apply.{Table, table_of, note_name, append_of, replaced_in, amended_in, apply_of, joined}
use Rattle.symbols.specs.Calls.{Left}
use Rattle.symbols.specs.Add.{committed_of, add_row_of}
use Rattle.symbol_laws.proofs.View.{Named, Free, View, refused, kept, amended, replaced, appended, local, view, decided, held}
use Rattle.symbol_laws.proofs.Refused.{commit-refused}
use Rattle.symbol_laws.proofs.Standing.{pass-rest, joined-rest}
use Rattle.symbol_laws.proofs.Issue.{FreeRow, linked-new, linked-old, room-free}
use Rattle.symbol_laws.specs.History.{State, table, store, with_table, with_store, issue, put, put_of, id_of}
use Rattle.merge_laws.specs.Steps.{Step, part, mark, others, step_next, run_steps, AllGo}
use Rattle.merge_laws.specs.Marked.{Marked}
use Rattle.merge_laws.proofs.MarkedLemmas.{steps-marked}
use Rattle.link_laws.proofs.Removal.{Ready, steps-onward}
use Rattle.index_laws.specs.Bearing.{name_id, Borne, Bears}

below : (m c : ℕ) → m ≢ c → m ≤ c → m < c
below m c u h = by-test (ltb m c) (λ t. ltb-true _ _ t) (λ t. absurd (u (omega (arith, ltb-false m c t))))

-- ---- rows and names as they were

-- the cells that tell who bears a name
pub record Alike (s t : State) : Type 0 where
  pub names : t.link.names ≡ s.link.names
  pub symbols : t.link.symbols ≡ s.link.symbols
  pub global : (n : ℕ) → global_at t.names n ≡ global_at s.names n
  pub name : (i : ℕ) → name_id t i ≡ name_id s i
  pub scope : (i : ℕ) → scope_at t.symbols i ≡ scope_at s.symbols i

pub bears-alike : (s t : State) → Alike s t → Bears s → Bears t
bears-alike s t a b =
    record {
      some = λ z. b.some (omega (arith, z, a.symbols));
      named = λ n h u.
          a.name (global_at t.names n) ∙ ap (name_id s) (a.global n) ∙ b.named n (omega (arith, h, a.names)) (λ z. u (a.global n ∙ z));
      borne = λ i h u.
          let k = b.borne i (omega (arith, h, a.symbols)) (λ z. u (a.scope i ∙ z)) in
          record {
            some = k.some;
            issued = omega (arith, k.issued, a.names, a.name i);
            found = a.global (name_id t i) ∙ ap (global_at s.names) (a.name i) ∙ k.found;
          };
    }

-- ---- a row added

module _ (s : State) (g : Ready s) (names : Good (store s)) (b : Bears s) (r : Row) where
  abbrev id : ℕ
  id = held (table s) r

  abbrev Fine : Left → Type 0
  Fine o = Bears (with_table s o.table)

  decides : (d : Decision) → decided (table s) r ≡ d → Fine (committed_of (table s) r None d) → Fine (put_of s r)
  unfolding add_row_of
  decides d e f = subst (λ (d : Decision). Fine (committed_of (table s) r None d)) (sym e) f

  one_more : Free (table s) r → successor s.link.symbols ≡ s.link.symbols + 1
  unfolding successor
  one_more f = rw (lt-ltb s.link.symbols 0xffffffffffffffff (omega (arith, f.few)))

  -- a name's row written, under the same name
  module _ (k : Named (table s) r) (z : id ≢ 0) (x : Row) (same : x.name.0 ≡ r.name.0) where
    abbrev over : State
    over = with_table s (table_of s.names (set_row s.symbols (record { 0 = id }) x) s.sections s.link)

    low : id < s.link.symbols
    low = g.below.held r.name.0 k.issued z

    own : name_id over id ≡ r.name.0
    own = field-same s.symbols (record { 0 = id }) x 1 (omega arith) (omega (arith, g.room, low)) ∙ same

    other : (i : ℕ) → i ≢ id → name_id over i ≡ name_id s i
    other i u = field-other s.symbols (record { 0 = id }) x i 1 (omega arith) u

    scope : (i : ℕ) → i ≢ id → scope_at over.symbols i ≡ scope_at s.symbols i
    scope i u = ap scope_in (field-other s.symbols (record { 0 = id }) x i 4 (omega arith) u)

    written-bears : Bears over
    written-bears =
        record {
          some = b.some;
          named = λ n h u.
              by-test (eqb (global_at s.names n) id)
              (λ e.
              let q : global_at s.names n ≡ id = eqb-true _ _ e in
              let one : name_id s id ≡ n = ap (name_id s) (sym q) ∙ b.named n h u in
              ap (name_id over) q ∙ own ∙ sym (b.named r.name.0 k.issued z) ∙ one)
              (λ e. other _ (eqb-false _ _ e) ∙ b.named n h u);
          borne = λ i h u.
              by-test (eqb i id)
              (λ e.
              let q : i ≡ id = eqb-true _ _ e in
              subst (Borne over) (sym q)
              (record { some = z; issued = omega (arith, own, k.issued); found = ap (global_at s.names) own }))
              (λ e.
              let n : i ≢ id = eqb-false _ _ e in
              let o = b.borne i h (λ y. u (scope i n ∙ y)) in
              record {
                some = o.some;
                issued = omega (arith, o.issued, other i n);
                found = ap (global_at s.names) (other i n) ∙ o.found;
              });
        }

  -- ---- a row appended

  module _ (f : Free (table s) r) where
    abbrev at : ℕ
    at = s.link.symbols

    abbrev more : List ℕ
    more = set_row s.symbols (record { 0 = at }) r

    new_name : field more at 1 ≡ r.name.0
    new_name = field-same s.symbols (record { 0 = at }) r 1 (omega arith) f.fits

    old_name : (i : ℕ) → i ≢ at → field more i 1 ≡ field s.symbols i 1
    old_name i u = field-other s.symbols (record { 0 = at }) r i 1 (omega arith) u

    old_scope : (i : ℕ) → i ≢ at → scope_at more i ≡ scope_at s.symbols i
    old_scope i u = ap scope_in (field-other s.symbols (record { 0 = at }) r i 4 (omega arith) u)

    -- a local one
    local-bears : scope_at more at ≡ 0 → note_name s.names r at ≡ s.names → Bears (with_table s (append_of (table s) r))
    unfolding append_of
    local-bears z e =
        rw e
        (record {
          some = λ y. omega (arith, y, one_more f);
          named = λ n h u. old_name _ (λ q. omega (arith, g.below.held n h u, q)) ∙ b.named n h u;
          borne = λ i h u.
              by-test (eqb i at)
              (λ q. absurd (u (ap (scope_at more) (eqb-true _ _ q) ∙ z)))
              (λ q.
              let n : i ≢ at = eqb-false _ _ q in
              let o = b.borne i (below i at n (omega (arith, h, one_more f))) (λ y. u (old_scope i n ∙ y)) in
              record {
                some = o.some;
                issued = omega (arith, o.issued, old_name i n);
                found = ap (global_at s.names) (old_name i n) ∙ o.found;
              });
        })

    -- a new name's
    module _ (k : Named (table s) r) (z : id ≢ 0 → at ≤ id) where
      abbrev noted : List ℕ
      noted = set s.names (r.name.0 * 8 + 3) at

      lent : r.name.0 * 8 + 3 < length s.names
      lent = let c = names.chained in omega (arith, k.issued, c.rows_in, c.rows-lent)

      own_global : global_at noted r.name.0 ≡ at
      own_global = get_or-set_same s.names (r.name.0 * 8 + 3) at 0 lent

      other_global : (n : ℕ) → n ≢ r.name.0 → global_at noted n ≡ global_at s.names n
      other_global n u = get_or-set_other s.names (r.name.0 * 8 + 3) (n * 8 + 3) at 0 (λ d. u (omega arith))

      -- nobody held it
      free : id ≡ 0
      free =
          by-test (eqb id 0) (λ e. eqb-true _ _ e)
          (λ e. let u = eqb-false id 0 e in absurd (omega (arith, z u, g.below.held r.name.0 k.issued u)))

      abbrev on : State
      on = record { bytes = s.bytes; names = noted; symbols = more; sections = (append_of (table s) r).sections; link = (append_of (table s) r).link }

      on-bears : on.link.symbols ≡ at + 1 → on.link.names ≡ s.link.names → Bears on
      on-bears c e =
          record {
            some = λ y. omega (arith, y, c);
            named = λ n h u.
                by-test (eqb n r.name.0)
                (λ q.
                let p : n ≡ r.name.0 = eqb-true _ _ q in
                let y : global_at noted n ≡ at = ap (global_at noted) p ∙ own_global in
                ap (λ (i : ℕ). field more i 1) y ∙ new_name ∙ sym p)
                (λ q.
                let y : global_at noted n ≡ global_at s.names n = other_global n (eqb-false _ _ q) in
                let v : global_at s.names n ≢ 0 = λ w. u (y ∙ w) in
                let h' : n < s.link.names = omega (arith, h, e) in
                ap (λ (i : ℕ). field more i 1) y ∙ old_name _ (λ w. omega (arith, g.below.held n h' v, w)) ∙ b.named n h' v);
            borne = λ i h u.
                by-test (eqb i at)
                (λ q.
                let p : i ≡ at = eqb-true _ _ q in
                subst (Borne on) (sym p)
                (record { some = b.some; issued = omega (arith, new_name, k.issued, e); found = ap (global_at noted) new_name ∙ own_global }))
                (λ q.
                let n : i ≢ at = eqb-false _ _ q in
                let o = b.borne i (below i at n (omega (arith, h, c))) (λ y. u (old_scope i n ∙ y)) in
                let apart : name_id s i ≢ r.name.0 =
                λ w. o.some (sym o.found ∙ ap (global_at s.names) w ∙ free) in
                record {
                  some = o.some;
                  issued = omega (arith, o.issued, old_name i n, e);
                  found = ap (global_at noted) (old_name i n) ∙ other_global (name_id s i) apart ∙ o.found;
                });
          }

  appended-bears : Free (table s) r → Named (table s) r → (id ≢ 0 → s.link.symbols ≤ id) → Bears (with_table s (append_of (table s) r))
  unfolding append_of note_name
  appended-bears f k z = rw (ne_eqb r.scope 0 k.global) (on-bears f k z (one_more f) refl)

  local-appended : Free (table s) r → r.scope ≡ 0 → Bears (with_table s (append_of (table s) r))
  unfolding note_name
  local-appended f v =
      local-bears f
      (ap scope_in (field-same s.symbols (record { 0 = s.link.symbols }) r 4 (omega arith) f.fits) ∙ scope-back r.scope r.kind f.packs.scope ∙ v)
      (rw (eq-eqb r.scope 0 v))

  viewed : View (table s) r → Fine (put_of s r)
  unfolding committed_of apply_of replaced_in amended_in
  viewed (refused n e z) =
      decides (Refuse n) e (subst (λ (t : Table). Bears (with_table s t)) (sym (commit-refused (table s) r None n z).0) b)
  viewed (kept e k z o w p) = decides _ e b
  viewed (amended e k z o w) =
      let old : Row = row_at s.symbols id in
      let x : Row = pass_hidden s.link.gabi r.scope (joined old r) in
      decides _ e
      (written-bears k z x
      (ap (λ (n : Interned). n.0) ((pass-rest s.link.gabi r.scope (joined old r)).name ∙ (joined-rest old r).name) ∙ b.named r.name.0 k.issued z))
  viewed (replaced e k z o) =
      decides _ e
      (written-bears k z (pass_hidden s.link.gabi (scope_at s.symbols id) r)
      (ap (λ (n : Interned). n.0) (pass-rest s.link.gabi (scope_at s.symbols id) r).name))
  viewed (appended e f k z) = decides _ e (appended-bears f k z)
  viewed (local e f v) = decides _ e (local-appended f v)

  pub put-bears : Bears (with_table s (put_of s r).table)
  put-bears = viewed (view (table s) r)

-- ---- a name issued

module _ (s : State) (b : Bears s) (names : Good (store s)) (x : List ℕ) where
  added-bears : FreeRow s.link s.names → Bears (with_store s (added (store s) x))
  added-bears row =
      let old : (n : ℕ) → n < s.link.names → global_at (added (store s) x).names n ≡ global_at s.names n =
      λ n h. linked-old s.link s.names s.link.bytes (length x) x row n 3 (omega (arith, h, row.free)) (omega arith) (λ e. omega (arith, h, e)) in
      record {
        some = b.some;
        named = λ n h u.
            by-test (eqb n s.link.names)
            (λ e.
            let q : n ≡ s.link.names = eqb-true _ _ e in
            absurd (u (rw q (linked-new s.link s.names s.link.bytes (length x) x row))))
            (λ e.
            let k : n < s.link.names = below n s.link.names (eqb-false _ _ e) (omega arith) in
            ap (name_id s) (old n k) ∙ b.named n k (λ y. u (old n k ∙ y)));
        borne = λ i h u.
            let o = b.borne i h u in
            record { some = o.some; issued = omega (arith, o.issued); found = old (name_id s i) o.issued ∙ o.found };
      }

  issue-bears : (id : Interned) → Bears (with_store s (keep_of (store s) id x))
  unfolding keep_of
  issue-bears id =
      by-test (ltb id.0 s.link.names) (λ a. rw a b)
      (λ a. by-test (room_of (store s) (length x)) (λ c. rw (a, c) (added-bears (room-free (store s) (length x) c))) (λ c. rw (a, c) b))

-- ---- steps

step-bears : (k : Step) (s : State) → Ready s → Good (store s) → Bears s → Bears (step_next k s)
step-bears (part (issue x)) s g n b = issue-bears s b n x (id_of s x)
step-bears (part (put r from)) s g n b = put-bears s g n b r
step-bears (mark n) s g _ b =
    bears-alike s (step_next (mark n) s)
    (record {
      names = refl;
      symbols = refl;
      global = λ m. get_or-set_other s.names (n * 8 + 4) (m * 8 + 3) 1 0 (λ e. omega arith);
      name = λ i. refl;
      scope = λ i. refl;
    })
    b
step-bears (others x l) s g n b =
    bears-alike s (step_next (others x l) s) (record { names = refl; symbols = refl; global = λ m. refl; name = λ i. refl; scope = λ i. refl }) b

pub steps-bear : (ks : List Step) (s : State) (met : List (List ℕ)) → AllGo ks s → Marked s met → Ready s → Bears s → Bears (run_steps ks s)
steps-bear [] s met go m g b = b
steps-bear (k ∷ ks) s met go m g b =
    steps-bear ks (step_next k s) _ go.1 (steps-marked (k ∷ []) s met (go.0, tt) m) (steps-onward (k ∷ []) s g).ready (step-bears k s g m.good b)
