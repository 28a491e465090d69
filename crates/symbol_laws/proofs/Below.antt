-- Theorems over specs/Below.antt.
-- Assumes nothing.
use Rattle.std.specs.Prelude.{ℕ, ◌+◌, ◌*◌, ◌<◌, ◌≡◌, List, ◌≢◌, eqb, ltb, set, length, None}
use Rattle.std.proofs.Common.{arith, sym, ◌∙◌, length-set, get_or-set_same, get_or-set_other, eqb-true, lt-ltb, ltb-true, ltb-false}
use Rattle.std.proofs.Math.Path.{subst}
use Rattle.std.proofs.Math.ListN.{get_or-eq_default}
use Rattle.std.proofs.lemmas.Bool.{eqb-false}
use Rattle.cells.specs.Proof.Split.{by-test}
use Rattle.symbol.specs.declared.Row.{Row}
use Rattle.symbol.specs.Codes.{successor}
use Rattle.symbol_resolution.specs.Decision.{Decision, Refuse}
use Rattle.symbol_resolution.specs.Holder.{global_at}
use Rattle.symbol_resolution.specs.Apply.{Table, note_name, append_of, apply_of}
use Rattle.symbols.specs.Calls.{Left}
use Rattle.symbols.specs.Add.{committed_of, add_row_of}
use Rattle.symbol_laws.proofs.View.{Free, View, refused, kept, amended, replaced, appended, local, view, decided}
use Rattle.symbol_laws.proofs.Refused.{commit-refused}
use Rattle.symbol_laws.specs.History.{State, table, with_table, put_of}
use Rattle.symbol_laws.specs.Below.{Below}

-- ---- a row added

module _ (s : State) (b : Below s) (r : Row) where
  abbrev Fine : Left → Type 0
  Fine o = Below (with_table s o.table)

  decides : (d : Decision) → decided (table s) r ≡ d → Fine (committed_of (table s) r None d) → Fine (put_of s r)
  unfolding add_row_of
  decides d e g = subst (λ (d : Decision). Fine (committed_of (table s) r None d)) (sym e) g

  one_more : Free (table s) r → successor s.link.symbols ≡ s.link.symbols + 1
  unfolding successor
  one_more f = rw (lt-ltb s.link.symbols 0xffffffffffffffff (omega (arith, f.few)))

  abbrev pub m : ℕ
  m = r.name.0

  abbrev noted : List ℕ
  noted = set s.names (m * 8 + 3) s.link.symbols

  -- the name's own cell, which may lie past the lent ones
  own : Free (table s) r → global_at noted m ≢ 0 → global_at noted m < successor s.link.symbols
  own f z =
      by-test (ltb (m * 8 + 3) (length s.names))
      (λ l. omega (arith, one_more f, get_or-set_same s.names (m * 8 + 3) s.link.symbols 0 (ltb-true _ _ l)))
      (λ l.
      absurd
      (z
      (get_or-eq_default noted 0 {n = m * 8 + 3}
      (omega (arith, length-set s.names (m * 8 + 3) s.link.symbols, ltb-false (m * 8 + 3) (length s.names) l)))))

  other : Free (table s) r → (n : ℕ) → n < s.link.names → global_at noted n ≢ 0 → global_at noted n < successor s.link.symbols
  other f n h z =
      by-test (eqb n m)
      (λ e.
      let k : n ≡ m = eqb-true _ _ e in
      subst (λ (j : ℕ). global_at noted j < successor s.link.symbols) (sym k) (own f (subst (λ (j : ℕ). global_at noted j ≢ 0) k z)))
      (λ e.
      let u : n ≢ m = eqb-false _ _ e in
      let q : global_at noted n ≡ global_at s.names n = get_or-set_other s.names (m * 8 + 3) (n * 8 + 3) s.link.symbols 0 (λ d. u (omega arith)) in
      omega (arith, one_more f, q, b.held n h (λ y. z (q ∙ y))))

  appended-below : Free (table s) r → Below (with_table s (append_of (table s) r))
  unfolding append_of note_name
  appended-below f =
      record {
        few = omega (arith, one_more f, f.few);
        held = λ n h z.
            by-test (eqb r.scope 0)
            (λ v. let y : global_at s.names n ≢ 0 = rw v at z in rw v (omega (arith, one_more f, b.held n h y)))
            (λ v. rw v (other f n h (rw v at z)));
      }

  viewed : View (table s) r → Fine (put_of s r)
  unfolding committed_of apply_of
  viewed (refused n e z) =
      decides (Refuse n) e (subst (λ (t : Table). Below (with_table s t)) (sym (commit-refused (table s) r None n z).0) b)
  viewed (kept e k z o w p) = decides _ e b
  viewed (amended e k z o w) = decides _ e (record { few = b.few; held = b.held })
  viewed (replaced e k z o) = decides _ e (record { few = b.few; held = b.held })
  viewed (appended e f k z) = decides _ e (appended-below f)
  viewed (local e f v) = decides _ e (appended-below f)

  pub put-below : Below (with_table s (put_of s r).table)
  put-below = viewed (view (table s) r)
