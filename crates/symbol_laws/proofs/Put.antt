-- A row added under an issued name keeps what holds of every link.
-- Assumes nothing.
use Rattle.std.specs.Prelude.{ℕ, ◌+◌, ◌*◌, ◌≤◌, ◌<◌, ◌≡◌, Bool, true, false, ◌≢◌, eqb, ltb, set, None}
use Rattle.std.proofs.Common.{arith, sym, ◌∙◌}
use Rattle.std.proofs.Math.Path.{refl, ap, subst}
use mathlib.Core.List.{List, [], ◌∷◌, ◌++◌, append-nil}
use Rattle.std.proofs.Math.ListN.{length, length-set}
use Rattle.std.proofs.Math.Seq.{get_or-set_same, get_or-set_other}
use borrow.Author.Tests.{ltb-true, eqb-true, eqb-false, eq-eqb, ne_eqb, lt-ltb}
use Rattle.link.specs.Said.{Said, accepted, number_in}
use Rattle.cells.specs.Proof.Split.{by-test}
use Rattle.link.specs.declared.Interned.{Interned}
use Rattle.link.specs.declared.SymbolId.{SymbolId}
use Rattle.symbol.specs.Proof.RowLaws.{length-set_row}
use Rattle.symbol.specs.declared.Row.{Row}
use Rattle.symbol.specs.Codes.{successor}
use Rattle.symbol.specs.Row.{state_at, set_row}
use Rattle.symbol.specs.Hidden.{pass_hidden}
use Rattle.symbol_resolution.specs.Decision.{Decision, Refuse}
use Rattle.symbol_resolution.specs.Holder.{global_at}
use Rattle.symbol_resolution.specs.Apply.{Table, note_name, append_of, replaced_in, joined, amended_in, apply_of}
use Rattle.symbols.specs.Calls.{Left}
use Rattle.symbols.specs.Add.{committed_of, add_row_of}
use Rattle.symbol_laws.specs.Rank.{ranked, best, strong_definition, count}
use Rattle.symbol_laws.proofs.Rank.{count-append, strong-rank, rank_most, best-low}
use Rattle.symbol_laws.specs.Standing.{standing, row_after}
use Rattle.symbol_laws.proofs.Standing.{after_first, rank-after, pass-rest, pass-packs, joined-packs, joined-rest}
use Rattle.symbol.specs.Row.{row_at}
use Rattle.symbol_laws.proofs.Rows.{Packs, read-packs, stored_there, stored_row, there-kept, row_kept}
use Rattle.symbol_laws.proofs.View.{Named, Free, Takes, View, refused, kept, amended, replaced, appended, local, view, decided, yields}
use Rattle.symbol_laws.proofs.Refused.{commit-refused}
use Rattle.symbol_laws.proofs.BelowLemmas.{inv-below}
use Rattle.symbol_laws.specs.History.{State, table, with_table, Source, Entry, noted, only, rows, put_of}
use Rattle.symbol_laws.specs.Held.{Holds, Held, Inv}
use Rattle.symbol_laws.proofs.Held.{only_same, only-other, rows_snoc, after-snoc, held_kept, apart, none-held}

-- ---- the name of the add

abbrev with_symbols : State → List ℕ → State
with_symbols s l = record { bytes = s.bytes; names = s.names; symbols = l; sections = s.sections; link = s.link }

module _ (s : State) (past : List Entry) (inv : Inv s past) (r : Row) (from : Source) where
  abbrev n : ℕ
  n = r.name.0

  abbrev at : ℕ
  at = global_at s.names n

  abbrev entry : ℕ → Entry
  entry id = record { name = n; id = id; row = r; from = from }

  -- the row that the name has, and what an accepted add leaves of it
  abbrev now : Row
  now = row_at s.symbols at

  abbrev left : Row
  left = standing s.link.gabi now r

  module _ (y : Entry) (ys : List Entry) (h : Holds s n y.id (row_after s.link.gabi y.row (rows ys))) where
    content-now : now ≡ row_after s.link.gabi y.row (rows ys)
    content-now = ap (row_at s.symbols) h.found ∙ h.content

    stood : row_after s.link.gabi y.row (rows (ys ++ (entry at ∷ []))) ≡ left
    stood = after-snoc s.link.gabi y.row ys (entry at) ∙ ap (λ (c : Row). standing s.link.gabi c r) (sym content-now)

    left-named : left.name.0 ≡ n
    left-named =
        by-test (ltb (ranked s.link.gabi now) (ranked s.link.gabi r)) (λ t. rw t (ap (λ (i : Interned). i.0) (pass-rest s.link.gabi now.scope r).name))
        (λ t.
        rw t
        (ap (λ (i : Interned). i.0) ((pass-rest s.link.gabi r.scope (joined now r)).name ∙ (joined-rest now r).name) ∙ ap (λ (c : Row). c.name.0) content-now
        ∙ h.named))

  kept-own : (l : List Entry) → Held s n l → at ≢ 0 → left ≡ now → Held s n (l ++ (entry at ∷ []))
  kept-own [] h z o = absurd (z h)
  kept-own (y ∷ ys) h z o = subst (Holds s n y.id) (sym (stood y ys h ∙ o ∙ content-now y ys h)) h

  written-own : (x : Row) → x ≡ left → Packs x → (l : List Entry) → Held s n l → at ≢ 0
      → Held (with_symbols s (set_row s.symbols (record { 0 = at }) x)) n (l ++ (entry at ∷ []))
  written-own x e p [] h z = absurd (z h)
  written-own x e p (y ∷ ys) h z =
      let q : row_after s.link.gabi y.row (rows (ys ++ (entry at ∷ []))) ≡ left = stood y ys h in
      let w : y.id ≡ at = sym h.found in
      let g : at * 8 + 8 ≤ length s.symbols = omega (arith, h.below, inv.room) in
      record {
        found = h.found;
        there = ap (state_at (set_row s.symbols (record { 0 = at }) x)) w ∙ stored_there s.symbols (record { 0 = at }) x g;
        content = ap (row_at (set_row s.symbols (record { 0 = at }) x)) w ∙ stored_row s.symbols (record { 0 = at }) x p g ∙ e ∙ sym q;
        named = ap (λ (c : Row). c.name.0) q ∙ left-named y ys h;
        above = h.above;
        below = h.below;
      }

  -- the names one by one: the add's own, and each other
  module _ (t : State) (same : t.link.names ≡ s.link.names) (x : Entry) (e : x.name ≡ n) (i : n < s.link.names) where
    names-held : Held t n (only n past ++ (x ∷ [])) → ((m : ℕ) → m < s.link.names → m ≢ n → Held t m (only m past))
        → (m : ℕ) → m < t.link.names → Held t m (only m (past ++ (x ∷ [])))
    names-held own other m h =
        by-test (eqb x.name m)
        (λ q.
        let k : n ≡ m = sym e ∙ eqb-true _ _ q in
        subst (Held t m) (sym (only_same m past x q)) (subst (λ (j : ℕ). Held t j (only j past ++ (x ∷ []))) k own))
        (λ q. subst (Held t m) (sym (only-other m past x q)) (other m (omega arith) (λ k. eqb-false _ _ q (e ∙ sym k))))

    names-none : (m : ℕ) → t.link.names ≤ m → only m (past ++ (x ∷ [])) ≡ []
    names-none m h =
        only-other m past x (ne_eqb x.name m (λ k. omega (arith, e, k, same, i, h))) ∙ inv.unissued m (omega arith)

  -- strong definitions: how many with one more
  abbrev strong : List Entry → ℕ
  strong l = count strong_definition (rows l)

  strong-snoc : (l : List Entry) (x : Entry) → strong (l ++ (x ∷ [])) ≡ strong l + strong (x ∷ [])
  strong-snoc l x = ap (count strong_definition) (rows_snoc l x) ∙ count-append strong_definition (rows l) (x.row ∷ [])

  strong-none : (id : ℕ) → ranked s.link.gabi r ≢ 4 → strong (entry id ∷ []) ≡ 0
  strong-none id z = by-test (strong_definition r) (λ t. absurd (z (strong-rank r s.link.gabi t))) (λ t. rw t)

  strong-one : (id : ℕ) → strong (entry id ∷ []) ≤ 1
  strong-one id = by-test (strong_definition r) (λ t. rw t (omega arith)) (λ t. rw t (omega arith))

  -- a row that yields isn't strong
  strong-before : (l : List Entry) → Held s n l → at ≢ 0 → yields (table s) r ≡ true → strong l ≡ 0
  strong-before [] h z o = refl
  strong-before (y ∷ ys) h z o =
      let g : Bool = s.link.gabi in
      let c : Row = best (ranked g) y.row (rows ys) in
      let e : ranked g now ≡ ranked g c = ap (ranked g) (content-now y ys h) ∙ rank-after g (y.row ∷ rows ys) c in
      let k : ranked g c < ranked g r = omega (arith, e, ltb-true (ranked g now) (ranked g r) o) in
      best-low g y.row (rows ys) (omega (arith, k, rank_most r g))

  once_more : (x : Entry) → x.name ≡ n → strong (only n past) + strong (x ∷ []) ≤ 1 → (m : ℕ) → strong (only m (past ++ (x ∷ []))) ≤ 1
  once_more x e h m =
      by-test (eqb x.name m)
      (λ q.
      let k : n ≡ m = sym e ∙ eqb-true _ _ q in
      rw (only_same m past x q, strong-snoc (only m past) x, ← k) h)
      (λ q. rw (only-other m past x q) (inv.once m))

  on-kept : Named (table s) r → at ≢ 0 → left ≡ now → ranked s.link.gabi r ≢ 4 → Inv s (past ++ (entry at ∷ []))
  on-kept k z o w =
      record {
        some = inv.some;
        room = inv.room;
        few = inv.few;
        names-room = inv.names-room;
        held_by =
            names-held s refl (entry at) refl k.issued (kept-own (only n past) (inv.held_by n k.issued) z o) (λ m h u. inv.held_by m h);
        unissued = names-none s refl (entry at) refl k.issued;
        once = once_more (entry at) refl (omega (arith, inv.once n, strong-none at w));
      }

  -- the add's row in its place, or its own made hidden
  on-written : (x : Row) → x ≡ left → Packs x → Named (table s) r → at ≢ 0 → strong (only n past) + strong (entry at ∷ []) ≤ 1
      → Inv (with_symbols s (set_row s.symbols (record { 0 = at }) x)) (past ++ (entry at ∷ []))
  on-written x e p k z one =
      let t : State = with_symbols s (set_row s.symbols (record { 0 = at }) x) in
      record {
        some = inv.some;
        room = subst (λ (j : ℕ). s.link.symbols * 8 ≤ j) (sym (length-set_row s.symbols (record { 0 = at }) x)) inv.room;
        few = inv.few;
        names-room = inv.names-room;
        held_by =
            names-held t refl (entry at) refl k.issued (written-own x e p (only n past) (inv.held_by n k.issued) z)
            (λ m h u.
            held_kept s t m (only m past) refl (omega arith) refl
            (λ i d p. (
              there-kept s.symbols (record { 0 = at }) x i (other m u i d p (only n past) (inv.held_by n k.issued)),
              row_kept s.symbols (record { 0 = at }) x i (other m u i d p (only n past) (inv.held_by n k.issued)),
            ))
            (inv.held_by m h));
        unissued = names-none t refl (entry at) refl k.issued;
        once = once_more (entry at) refl one;
      }
    where
      other : (m : ℕ) → m ≢ n → (i : ℕ) (d : Row) → Holds s m i d → (l : List Entry) → Held s n l → i ≢ at
      other m u i d p [] h = absurd (z h)
      other m u i d p (y ∷ ys) h = λ q. apart s m n i y.id d _ u p h (q ∙ h.found)

  on-replaced : Named (table s) r → at ≢ 0 → Takes (table s) r
      → Inv (with_symbols s (set_row s.symbols (record { 0 = at }) (pass_hidden s.link.gabi now.scope r))) (past ++ (entry at ∷ []))
  on-replaced k z o =
      on-written (pass_hidden s.link.gabi now.scope r) (rw o.yielding) (pass-packs s.link.gabi now.scope r o.packs) k z
      (omega (arith, strong-before (only n past) (inv.held_by n k.issued) z o.yielding, strong-one at))

  on-amended : Named (table s) r → at ≢ 0 → yields (table s) r ≡ false → ranked s.link.gabi r ≢ 4
      → Inv (with_symbols s (set_row s.symbols (record { 0 = at }) (pass_hidden s.link.gabi r.scope (joined now r)))) (past ++ (entry at ∷ []))
  on-amended k z o w =
      on-written (pass_hidden s.link.gabi r.scope (joined now r)) (rw o)
      (pass-packs s.link.gabi r.scope (joined now r) (joined-packs now r (read-packs s.symbols at))) k z (omega (arith, inv.once n, strong-none at w))

  -- a row is appended: no name's row moves
  module _ (f : Free (table s) r) where
    abbrev id : SymbolId
    id = record { 0 = s.link.symbols }

    abbrev grown : State
    grown = with_table s (append_of (table s) r)

    one_more : successor s.link.symbols ≡ s.link.symbols + 1
    unfolding successor
    one_more = rw (lt-ltb s.link.symbols 0xffffffffffffffff (omega (arith, f.few)))

    -- the name's cell has the new row's id
    note : Named (table s) r → note_name s.names r s.link.symbols ≡ set s.names (n * 8 + 3) s.link.symbols
    unfolding note_name
    note k = rw (ne_eqb r.scope 0 k.global)

    -- demand 3a of the name's first add: its row is the one added
    appended-own : Named (table s) r → Holds grown n s.link.symbols r
    unfolding append_of
    appended-own k =
        record {
          found =
              ap (λ (l : List ℕ). global_at l n) (note k)
              ∙ get_or-set_same s.names (n * 8 + 3) s.link.symbols 0 (omega (arith, inv.names-room, k.issued));
          there = stored_there s.symbols id r f.fits;
          content = stored_row s.symbols id r f.packs f.fits;
          named = refl;
          above = inv.some;
          below = omega (arith, one_more);
        }

    grown-some : 1 ≤ grown.link.symbols
    unfolding append_of
    grown-some = omega (arith, one_more)

    grown-few : grown.link.symbols ≤ 65535
    unfolding append_of
    grown-few = omega (arith, one_more, f.few)

    grown-room : grown.link.symbols * 8 ≤ length grown.symbols
    unfolding append_of
    grown-room = omega (arith, one_more, f.fits, length-set_row s.symbols id r)

    -- another name
    grown-other : (l : List Entry) (m : ℕ) → global_at grown.names m ≡ global_at s.names m → Held s m l → Held grown m l
    unfolding append_of
    grown-other l m g h =
        held_kept s grown m l g (omega (arith, one_more)) refl
        (λ i d p.
        let u : i ≢ s.link.symbols = λ q. omega (arith, p.below, q) in
        (there-kept s.symbols id r i u, row_kept s.symbols id r i u))
        h

    on-local : r.scope ≡ 0 → Inv grown past
    unfolding append_of note_name
    on-local v =
        record {
          some = grown-some;
          room = grown-room;
          few = grown-few;
          names-room = subst (λ (l : List ℕ). s.link.names * 9 ≤ length l) (sym same) inv.names-room;
          held_by = λ m h. grown-other (only m past) m (ap (λ (l : List ℕ). global_at l m) same) (inv.held_by m h);
          unissued = inv.unissued;
          once = inv.once;
        }
      where
        same : note_name s.names r s.link.symbols ≡ s.names
        same = rw (eq-eqb r.scope 0 v)

    on-appended : Named (table s) r → at ≡ 0 → Inv grown (past ++ (entry s.link.symbols ∷ []))
    unfolding append_of note_name
    on-appended k z =
        record {
          some = grown-some;
          room = grown-room;
          few = grown-few;
          names-room =
              subst (λ (l : List ℕ). s.link.names * 9 ≤ length l) (sym (note k))
              (omega (arith, length-set s.names (n * 8 + 3) s.link.symbols, inv.names-room));
          held_by =
              names-held grown refl (entry s.link.symbols) refl k.issued
              (subst (λ (l : List Entry). Held grown n (l ++ (entry s.link.symbols ∷ [])))
              (sym (none-held s n (only n past) (inv.held_by n k.issued) z))
              (subst (Holds grown n s.link.symbols) (sym (after_first s.link.gabi r)) (appended-own k)))
              (λ m h u.
              grown-other (only m past) m
              (ap (λ (l : List ℕ). global_at l m) (note k) ∙ get_or-set_other s.names (n * 8 + 3) (m * 8 + 3) s.link.symbols 0 (λ q. u (omega arith)))
              (inv.held_by m h));
          unissued = names-none grown refl (entry s.link.symbols) refl k.issued;
          once =
              once_more (entry s.link.symbols) refl
              (omega (arith, ap strong (none-held s n (only n past) (inv.held_by n k.issued) z), strong-one s.link.symbols));
        }

-- ---- the add

module _ (r : Row) (from : Source) where
  pub noted-local : (a : Said) → r.scope ≡ 0 → noted r from a ≡ []
  unfolding noted
  noted-local a v = rw (eq-eqb r.scope 0 v)

  pub noted-refused : (a : Said) → number_in a ≢ 0 → noted r from a ≡ []
  unfolding noted
  noted-refused a z = by-test (eqb r.scope 0) (λ v. rw v) (λ v. rw (v, ne_eqb (number_in a) 0 z))

  pub noted-global : (id : ℕ) → r.scope ≢ 0 → noted r from (accepted id) ≡ record { name = r.name.0; id = id; row = r; from = from } ∷ []
  unfolding noted
  noted-global id v = rw (ne_eqb r.scope 0 v)

module _ (s : State) (past : List Entry) (inv : Inv s past) (r : Row) (from : Source) where
  abbrev Good : Left → Type 0
  Good o = Inv (with_table s o.table) (past ++ noted r from o.said)

  decides : (d : Decision) → decided (table s) r ≡ d → Good (committed_of (table s) r None d) → Good (put_of s r)
  unfolding add_row_of
  decides d e g = subst (λ (d : Decision). Good (committed_of (table s) r None d)) (sym e) g

  idle : (o : Left) → o.table ≡ table s → noted r from o.said ≡ [] → Good o
  idle o e q =
      subst (λ (t : Table). Inv (with_table s t) (past ++ noted r from o.said)) (sym e)
      (subst (Inv s) (sym (ap (◌++◌ past) q ∙ append-nil past)) inv)

  logged : (t : Table) (id : ℕ) → r.scope ≢ 0 → Inv (with_table s t) (past ++ (record { name = r.name.0; id = id; row = r; from = from } ∷ []))
      → Inv (with_table s t) (past ++ noted r from (accepted id))
  logged t id v i = subst (λ (l : List Entry). Inv (with_table s t) (past ++ l)) (sym (noted-global r from id v)) i

  -- a row past the count isn't the name's
  pub unheld : r.name.0 < s.link.names → (global_at s.names r.name.0 ≢ 0 → s.link.symbols ≤ global_at s.names r.name.0)
      → global_at s.names r.name.0 ≡ 0
  unheld i past =
      by-test (eqb (global_at s.names r.name.0) 0) (λ z. eqb-true _ _ z)
      (λ z. let n : global_at s.names r.name.0 ≢ 0 = eqb-false _ _ z in absurd (omega (arith, past n, (inv-below s _ inv).held r.name.0 i n)))

  viewed : View (table s) r → Good (put_of s r)
  unfolding committed_of apply_of replaced_in amended_in
  viewed (refused n e z) =
      let (a, b) = commit-refused (table s) r None n z in
      decides (Refuse n) e (idle (committed_of (table s) r None (Refuse n)) a (noted-refused r from _ b))
  viewed (kept e k z o w p) = decides _ e (logged _ _ k.global (on-kept s past inv r from k z (rw o p) w))
  viewed (amended e k z o w) = decides _ e (logged _ _ k.global (on-amended s past inv r from k z o w))
  viewed (replaced e k z o) = decides _ e (logged _ _ k.global (on-replaced s past inv r from k z o))
  viewed (appended e f k z) = decides _ e (logged _ _ k.global (on-appended s past inv r from f k (unheld k.issued z)))
  viewed (local e f v) =
      decides _ e (subst (Inv (with_table s (append_of (table s) r))) (sym (ap (◌++◌ past) (noted-local r from _ v) ∙ append-nil past)) (on-local s past inv r from f v))

  pub put_step : Inv (with_table s (put_of s r).table) (past ++ noted r from (put_of s r).said)
  put_step = viewed (view (table s) r)
