-- Theorems over specs/Marked.antt.
-- Assumes nothing.
use Rattle.std.specs.Prelude.{ℕ, ◌+◌, ◌*◌, ◌<◌, ◌≤◌, ◌≡◌, ◌≢◌, eqb, ltb, None}
use Rattle.std.proofs.Common.{arith, sym, ◌∙◌, length-set, ltb-true, ltb-false, eq-eqb, ne_eqb}
use Rattle.std.proofs.Math.Path.{refl, ap, subst}
use mathlib.Core.List.{List}
use Rattle.std.proofs.Math.ListN.{get_or, set, length}
use Rattle.std.proofs.Math.Seq.{get_or-set_other}
use Rattle.cells.specs.Proof.Split.{by-test}
use Rattle.gabi.specs.StringTable.{among}
use Rattle.interner.specs.Hash.{head_of}
use Rattle.interner.specs.Names.{Store, keep_of}
use Rattle.interner_laws.specs.Good.{Good, Stays, Untouched, Alike, name, find}
use Rattle.interner_laws.proofs.Find.{found, find-stays}
use Rattle.interner_laws.proofs.Written.{head-behind, row_new}
use Rattle.interner_laws.proofs.Interns.{keep-good, keep-stays, keep-untouched}
use Rattle.interner_laws.proofs.Same.{alike-stays, good-same, find-same}
use Rattle.symbol.specs.declared.Row.{Row}
use Rattle.symbol_resolution.specs.Decision.{Decision, Refuse}
use Rattle.symbol_resolution.specs.Apply.{Table, note_name, append_of, apply_of}
use Rattle.symbols.specs.Calls.{Left}
use Rattle.symbols.specs.Add.{committed_of, add_row_of}
use Rattle.symbol_laws.proofs.View.{View, refused, kept, amended, replaced, appended, local, view, decided}
use Rattle.symbol_laws.proofs.Refused.{commit-refused}
use Rattle.symbol_laws.proofs.Issue.{FreeRow, room-free}
use Rattle.symbol_laws.specs.History.{State, table, store, with_table, with_store, put_of, id_of}
use Rattle.section_groups.specs.Group.{signature_cell}
use Rattle.merge_laws.proofs.Issue.{keeps}
use Rattle.merge_laws.specs.Marked.{Marked, cell_set}

-- ---- a state that differs in other cells

pub marked-alike : (s t : State) (met : List (List ℕ)) → Alike (store s) (store t)
    → ((n : ℕ) → n < s.link.names → get_or t.names (signature_cell n) 0 ≡ get_or s.names (signature_cell n) 0) → Marked s met → Marked t met
marked-alike s t met a c m =
    let same : Stays (store s) (store t) = alike-stays (store s) (store t) a in
    record {
      good = good-same (store s) (store t) a m.good;
      marks = λ n h.
          let k : n < s.link.names = omega (arith, a.counted) in
          ap (λ (c : ℕ). eqb c 1) (c n k) ∙ m.marks n k ∙ ap (λ (x : List ℕ). among x met) (sym (same.olds n k));
      known = λ x e. omega (arith, find-same (store s) (store t) a m.good x, m.known x e, a.counted);
    }

-- a cell behind the first three of an issued row
pub set-alike : (s : State) (n f v : ℕ) → Good (store s) → n < s.link.names → 3 ≤ f → f < 8 → Alike (store s) (store (cell_set s n f v))
set-alike s n f v g h lo hi =
    let r : s.link.names ≤ s.link.chains = g.chained.rows_in in
    record {
      bytes = refl;
      long = length-set s.names (n * 8 + f) v;
      cells = λ i k l u. get_or-set_other s.names (n * 8 + f) (i * 8 + k) v 0 (λ e. omega arith);
      heads = λ q l u. get_or-set_other s.names (n * 8 + f) q v 0 (λ e. omega arith);
      chains = refl;
      key = refl;
      counted = refl;
      filled = refl;
    }

-- ---- a row added

module _ (s : State) (met : List (List ℕ)) (m : Marked s met) (r : Row) where
  abbrev Fine : Left → Type 0
  Fine o = Marked (with_table s o.table) met

  decides : (d : Decision) → decided (table s) r ≡ d → Fine (committed_of (table s) r None d) → Fine (put_of s r)
  unfolding add_row_of
  decides d e g = subst (λ (d : Decision). Fine (committed_of (table s) r None d)) (sym e) g

  abbrev tabled : List ℕ → Table → State
  tabled names t = record { bytes = s.bytes; names = names; symbols = t.symbols; sections = t.sections; link = t.link }

  same_names : (t : Table) → t.names ≡ s.names → t.link.names ≡ s.link.names → t.link.bytes ≡ s.link.bytes → t.link.chains ≡ s.link.chains
      → t.link.key ≡ s.link.key → Marked (with_table s t) met
  same_names t a b c d e =
      marked-alike s (with_table s t) met
      (record { bytes = refl; long = ap length a; cells = λ i f h l. rw a; heads = λ q h l. rw a; chains = d; key = e; counted = b; filled = c }) (λ n h. rw a) m

  appended-names : r.scope ≢ 0 → r.name.0 < s.link.names → Marked (with_table s (append_of (table s) r)) met
  unfolding append_of note_name
  appended-names v h =
      let e : note_name s.names r s.link.symbols ≡ set s.names (r.name.0 * 8 + 3) s.link.symbols = rw (ne_eqb r.scope 0 v) in
      let a = set-alike s r.name.0 3 s.link.symbols m.good h (omega arith) (omega arith) in
      marked-alike s (with_table s (append_of (table s) r)) met
      (record {
        bytes = refl;
        long = ap length e ∙ a.long;
        cells = λ i f k l. ap (λ (n : List ℕ). get_or n (i * 8 + f) 0) e ∙ a.cells i f k l;
        heads = λ q k l. ap (λ (n : List ℕ). get_or n q 0) e ∙ a.heads q k l;
        chains = refl;
        key = refl;
        counted = refl;
        filled = refl;
      })
      (λ n k.
      ap (λ (l : List ℕ). get_or l (signature_cell n) 0) e
      ∙ get_or-set_other s.names (r.name.0 * 8 + 3) (n * 8 + 4) s.link.symbols 0 (λ e. omega arith))
      m

  local-names : r.scope ≡ 0 → Marked (with_table s (append_of (table s) r)) met
  unfolding append_of note_name
  local-names v = same_names (append_of (table s) r) (rw (eq-eqb r.scope 0 v)) refl refl refl refl

  viewed : View (table s) r → Fine (put_of s r)
  unfolding committed_of apply_of
  viewed (refused n e z) =
      decides (Refuse n) e
      (subst (λ (t : Table). Marked (with_table s t) met) (sym (commit-refused (table s) r None n z).0) m)
  viewed (kept e k z o w p) = decides _ e m
  viewed (amended e k z o w) = decides _ e (same_names _ refl refl refl refl refl)
  viewed (replaced e k z o) = decides _ e (same_names _ refl refl refl refl refl)
  viewed (appended e f k z) = decides _ e (appended-names k.global k.issued)
  viewed (local e f v) = decides _ e (local-names v)

  pub put-marked : Marked (with_table s (put_of s r).table) met
  put-marked = viewed (view (table s) r)

-- ---- a name issued

module _ (s : State) (met : List (List ℕ)) (m : Marked s met) (x : List ℕ) where
  abbrev pub t : Store
  t = keep_of (store s) (id_of s x) x

  -- a new row has no mark
  fresh : (n : ℕ) → s.link.names ≤ n → n < t.link.names → get_or t.names (signature_cell n) 0 ≡ 0
  fresh n a =
      keeps (λ (k : Store). n < k.link.names → get_or k.names (signature_cell n) 0 ≡ 0) (store s) (id_of s x) x (λ h. absurd (omega arith))
      (λ g r h.
      let e : n ≡ s.link.names = omega arith in
      let row : FreeRow s.link s.names = room-free (store s) (length x) r in
      rw e
      (row_new s.names s.link.names s.link.bytes (length x) (head_of s.link s.names x) s.link.chains row.lent row.free
      (head-behind s.link (length s.names) x row.lent) 4 (omega arith)))

  pub issue-marked : Marked (with_store s t) met
  issue-marked =
      let g : Good t = keep-good (store s) x m.good in
      let st : Stays (store s) t = keep-stays (store s) x m.good (id_of s x) in
      let u : Untouched (store s) t = keep-untouched (store s) (id_of s x) x in
      let r : s.link.names ≤ s.link.chains = m.good.chained.rows_in in
      record {
        good = g;
        marks = λ n h.
            by-test (ltb n s.link.names)
            (λ a.
            let k : n < s.link.names = ltb-true _ _ a in
            ap (λ (c : ℕ). eqb c 1) (u.old-rows n 4 k (omega arith) (omega arith)) ∙ m.marks n k
            ∙ ap (λ (y : List ℕ). among y met) (sym (st.olds n k)))
            (λ a.
            let k : s.link.names ≤ n = ltb-false _ _ a in
            ap (λ (c : ℕ). eqb c 1) (fresh n k h)
            ∙ sym
            (by-test (among (name t n) met)
            (λ b.
            let j : find (store s) (name t n) < s.link.names = m.known (name t n) b in
            let e : name (store s) (find (store s) (name t n)) ≡ name t n = (found (store s) (name t n) m.good.chained).hit j in
            let z : find (store s) (name t n) ≡ n =
            g.chained.distinct (find (store s) (name t n)) n (omega (arith, st.grows)) h (st.olds (find (store s) (name t n)) j ∙ e) in
            absurd (omega arith))
            (λ b. b)));
        known = λ y e.
            let j : find (store s) y < s.link.names = m.known y e in
            let q : find t y ≡ find (store s) y = find-stays (store s) t m.good.chained g.chained st y j in
            omega (arith, st.grows);
      }
