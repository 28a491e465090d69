-- The rows that adds use: one for each local add, one for each name of the others.
-- Assumes nothing.
use Rattle.std.specs.Prelude.{ℕ, zero, suc, ◌+◌, ◌*◌, ◌≤◌, ◌<◌, ◌≡◌, cond, List, [], ◌∷◌, ◌≢◌, eqb, set, length, slice_index_or, Contains, None}
use Rattle.std.proofs.Common.{arith, sym, ap, ◌∙◌, subst, get_or-set_same, get_or-set_other, eqb-true, eq-eqb, ne_eqb, lt-ltb}
use Rattle.std.proofs.lemmas.Bool.{eqb-false}
use Rattle.cells.specs.Proof.Split.{by-test}
use Rattle.symbol.specs.declared.Row.{Row}
use Rattle.symbol.specs.Codes.{successor}
use Rattle.symbol_resolution.specs.Decision.{Decision, Refuse}
use Rattle.symbol_resolution.specs.Holder.{global_at}
use Rattle.symbol_resolution.specs.Apply.{Table, note_name, append_of, apply_of}
use Rattle.symbols.specs.Calls.{Left, left}
use Rattle.symbols.specs.Add.{committed_of, add_row_of}
use Rattle.symbol_laws.proofs.View.{Named, Free, View, refused, kept, amended, replaced, appended, local, view, decided}
use Rattle.symbol_laws.proofs.Refused.{commit-refused}
use Rattle.symbol_laws.proofs.Put as Put
use Rattle.symbol_laws.specs.History.{State, table, put_of, direct, Entry}
use Rattle.symbol_laws.specs.Held.{Inv}

-- ---- names that have no row yet

abbrev pub unheld : List ℕ → List ℕ → ℕ
unheld names [] = 0
unheld names (n ∷ ns) = cond (eqb (global_at names n) 0) (suc (unheld names ns)) (unheld names ns)

pub unheld-most : (names ns : List ℕ) → unheld names ns ≤ length ns
unheld-most names [] = omega arith
unheld-most names (n ∷ ns) = let i = unheld-most names ns in by-test (eqb (global_at names n) 0) (λ a. rw a (omega arith)) (λ a. rw a (omega arith))

module _ (names : List ℕ) (n : ℕ) (z : global_at names n ≡ 0) where
  one-unheld : (ns : List ℕ) (k : ℕ) → k < length ns → slice_index_or ns k n ≡ n → 1 ≤ unheld names ns
  one-unheld [] k h e = absurd (omega arith)
  one-unheld (m ∷ ns) zero h e = rw (eq-eqb (global_at names m) 0 (ap (global_at names) e ∙ z)) (omega arith)
  one-unheld (m ∷ ns) (suc k) h e =
      let i = one-unheld ns k (omega arith) e in
      by-test (eqb (global_at names m) 0) (λ a. rw a (omega arith)) (λ a. rw a i)

  pub some-unheld : (ns : List ℕ) → Contains ns n → 1 ≤ unheld names ns
  some-unheld ns c = one-unheld ns c.0 c.1 c.2

  -- n gets a row, and no other name does
  module _ (after : List ℕ) (held : global_at after n ≢ 0) (other : (m : ℕ) → m ≢ n → global_at after m ≡ global_at names m) where
    no-more : (ns : List ℕ) → unheld after ns ≤ unheld names ns
    no-more [] = omega arith
    no-more (m ∷ ns) =
        let i = no-more ns in
        by-test (eqb m n)
        (λ e.
        let q : m ≡ n = eqb-true _ _ e in
        rw (q, ne_eqb (global_at after n) 0 held, eq-eqb (global_at names n) 0 z) (omega arith))
        (λ e.
        rw (other m (eqb-false _ _ e)) (by-test (eqb (global_at names m) 0) (λ a. rw a (omega arith)) (λ a. rw a i)))

    one-fewer : (ns : List ℕ) (k : ℕ) → k < length ns → slice_index_or ns k n ≡ n → unheld after ns + 1 ≤ unheld names ns
    one-fewer [] k h e = absurd (omega arith)
    one-fewer (m ∷ ns) zero h e =
        let i = no-more ns in
        rw (e, ne_eqb (global_at after n) 0 held, eq-eqb (global_at names n) 0 z) (omega arith)
    one-fewer (m ∷ ns) (suc k) h e =
        let i = one-fewer ns k (omega arith) e in
        by-test (eqb m n)
        (λ q.
        let p : m ≡ n = eqb-true _ _ q in
        rw (p, ne_eqb (global_at after n) 0 held, eq-eqb (global_at names n) 0 z) (omega arith))
        (λ q.
        rw (other m (eqb-false _ _ q)) (by-test (eqb (global_at names m) 0) (λ a. rw a (omega arith)) (λ a. rw a i)))

    pub fewer : (ns : List ℕ) → Contains ns n → unheld after ns + 1 ≤ unheld names ns
    fewer ns c = one-fewer ns c.0 c.1 c.2

-- ---- a row added

module _ (s : State) (past : List Entry) (inv : Inv s past) (r : Row) (ns : List ℕ) (among : r.scope ≢ 0 → Contains ns r.name.0) where
  abbrev n : ℕ
  n = r.name.0

  abbrev own : ℕ
  own = cond (eqb r.scope 0) 1 0

  abbrev Fine : Left → Type 0
  Fine o = o.table.link.symbols + unheld o.table.names ns ≤ s.link.symbols + unheld s.names ns + own

  decides : (d : Decision) → decided (table s) r ≡ d → Fine (committed_of (table s) r None d) → Fine (put_of s r)
  unfolding add_row_of
  decides d e g = subst (λ (d : Decision). Fine (committed_of (table s) r None d)) (sym e) g

  one-more : Free (table s) r → successor s.link.symbols ≡ s.link.symbols + 1
  unfolding successor
  one-more f = rw (lt-ltb s.link.symbols 0xffffffffffffffff (omega (arith, f.few)))

  new-name : Free (table s) r → Named (table s) r → global_at s.names n ≡ 0 → Fine (left (append_of (table s) r) (put_of s r).said)
  unfolding append_of note_name
  new-name f k z =
      let after : List ℕ = set s.names (n * 8 + 3) s.link.symbols in
      let got : global_at after n ≡ s.link.symbols = get_or-set_same s.names (n * 8 + 3) s.link.symbols 0 (omega (arith, inv.names-room, k.issued)) in
      let less : unheld after ns + 1 ≤ unheld s.names ns =
      fewer s.names n z after (λ q. omega (arith, got, q, inv.some))
      (λ m u. get_or-set_other s.names (n * 8 + 3) (m * 8 + 3) s.link.symbols 0 (λ q. u (omega arith))) ns (among k.global) in
      rw (ne_eqb r.scope 0 k.global) (omega (arith, one-more f, less))

  new-local : Free (table s) r → r.scope ≡ 0 → Fine (left (append_of (table s) r) (put_of s r).said)
  unfolding append_of note_name
  new-local f v = rw (eq-eqb r.scope 0 v) (omega (arith, one-more f))

  viewed : View (table s) r → Fine (put_of s r)
  unfolding committed_of apply_of
  viewed (refused m e z) =
      decides (Refuse m) e (subst (λ (t : Table). t.link.symbols + unheld t.names ns ≤ s.link.symbols + unheld s.names ns + own) (sym (commit-refused (table s) r None m z).0) (omega arith))
  viewed (kept e k z o w p) = decides _ e (omega arith)
  viewed (amended e k z o w) = decides _ e (omega arith)
  viewed (replaced e k z o) = decides _ e (omega arith)
  viewed (appended e f k z) = decides _ e (new-name f k (Put.unheld s past inv r direct k.issued z))
  viewed (local e f v) = decides _ e (new-local f v)

  pub rows-used : Fine (put_of s r)
  rows-used = viewed (view (table s) r)
