-- Theorems over specs/LocalRows.antt.
-- Assumes nothing.
use Rattle.link.specs.declared.cause.Refusal.{Refusal}
use Rattle.gc_sections.specs.declared.Dropped.{Dropped}
use Rattle.std.specs.Prelude.{ℕ, ◌+◌, ◌-◌, ◌*◌, ◌≤◌, ◌<◌, ◌≡◌, Bool, true, false, List, [], ◌∷◌, ◌++◌, ◌≢◌, eqb, leb, ltb, length, set, take, drop, Option, Result, None, Ok, Err}
use Rattle.std.proofs.Common.{arith, le_refl, le_trans, sym, ◌∙◌, length-set, get_or-set_same, get_or-set_other, length-take-le, get_or-append-add, get_or-drop}
use Rattle.std.proofs.Math.Path.{refl, ap, subst}
use Rattle.std.proofs.Math.Bool.{false≢true}
use Rattle.std.proofs.Math.ListN.{get_or, get_or-eq_default}
use borrow.Author.Tests.{eq-eqb, ne_eqb, eqb-true, eqb-false, leb-true, leb-false, lt-ltb, ltb-true, ltb-false}
use Rattle.cells.specs.Proof.Split.{by-test}
use Rattle.link.specs.declared.Link.{Link}
use Rattle.link.specs.declared.Interned.{Interned}
use Rattle.link.specs.declared.SymbolId.{SymbolId}
use Rattle.link.specs.Judge.{change_of}
use Rattle.link.specs.Bounds.{section_slots}
use Rattle.interner.specs.Names.{room_of, added, keep_of}
use Rattle.symbol.specs.Proof.Ways.{scope-low}
use Rattle.symbol.specs.declared.Row.{Row}
use Rattle.symbol.specs.Codes.{successor}
use Rattle.symbol.specs.Row.{field, state_at, scope_at, set_row}
use Rattle.symbol.specs.Hidden.{hide_code, passes, hide_if, pass_hidden}
use Rattle.symbol_laws.proofs.Standing.{pass-none, pass-packs, joined-packs, joined-rest}
use Rattle.symbol_resolution.specs.Decision.{Decision, Refuse, Append, Replace, Amend}
use Rattle.symbol_resolution.specs.Holder.{global_at}
use Rattle.symbol_resolution.specs.Decide.{refusal_of, section_cell, section_room}
use Rattle.symbol_resolution.specs.Proof.Outcomes.{appended-room}
use Rattle.symbol_resolution.specs.Apply.{Table, table_of, note_name, set_section_symbol, note_section, append_of, replaced_in, amended_in, apply_of, joined}
use Rattle.symbols.specs.Calls.{Left, lent_of}
use Rattle.symbols.specs.Add.{direct_holder_of, decided_of, committed_of, add_row_of}
use Rattle.symbols.specs.Lookup.{section_symbol_at}
use Rattle.symbols.specs.Remove.{Rows, rows_of, drop_section, remove_row_of, remove_of}
use Rattle.gc_laws.proofs.Terms as CollectionLaws
use Rattle.gc_laws.proofs.Paint.{set-falls}
use Rattle.symbol_laws.proofs.View.{Named, Free, View, refused, kept, amended, replaced, appended, local, view, decided, held}
use Rattle.symbol_laws.proofs.ContentWords.{decided-passes}
use Rattle.symbol_laws.proofs.Refused.{commit-refused, remove-link}
use Rattle.symbol.specs.Row.{row_at}
use Rattle.symbol_laws.proofs.Rows.{stored_there, stored_row, there-kept, row_kept, Packs, read-packs}
use Rattle.symbol_laws.specs.Held.{Inv}
use Rattle.symbol_laws.proofs.Issue.{FreeRow, linked-new, linked-old, room-free}
use Rattle.symbol_laws.specs.History.{State, table, store, with_table, with_store, issue, put, put_of, id_of}
use Rattle.merge_laws.specs.Steps.{Step, part, mark, others, rows_from, counts_from, step_next, run_steps, Goes, AllGo}
use Rattle.merge_laws.proofs.Past.{rows_all, rows_long}
use Rattle.merge_laws.specs.Calls.{Linked}
use Rattle.link_laws.specs.Calls.{Call, intern, add, remove, add_group, merge, merge_file, load, collect, plain_collect, lists_in, Drops, call_left, call_next, run_calls, Removes, RemovesNothing, reads, add_list}
use Rattle.link_laws.proofs.PlainCalls.{Compared, alike, many, compared, many-drops}
use Rattle.link_laws.specs.CallSteps.{call_steps}
use Rattle.link_laws.proofs.CallStepsLemmas.{call-makes}
use Rattle.link_laws.proofs.Removal.{Ready, steps-onward}
use Rattle.link_laws.proofs.LookedUp.{call-onward, calls-later}
use Rattle.link_laws.proofs.CollectPast.{run_past}
use Rattle.link_laws.proofs.Idle.{drops-nothing}
use Rattle.link_laws.specs.LocalRows.{Counted, Onto, Shown, Since, Stands, Stay, is_own, newest, none, other, own_of, same, symbol_in}

-- ---- one after the other

pub onto-none : (s : State) → Shown s → Onto s s
onto-none s w =
    record {
      shown = w;
      more = le_refl _;
      stands = λ i h. same refl;
      coded = λ i h k. absurd (omega arith);
      present = λ i h f. f h;
      since = λ y. none refl (λ i h k. absurd (omega arith));
    }

module _ (s t : State) (i : ℕ) where
  -- a local row is the same
  pub stands-local : Stands s t i → scope_at s.symbols i ≡ 0 → row_at t.symbols i ≡ row_at s.symbols i
  stands-local (same e) z = e
  stands-local (other u v c) z = absurd (u z)

  stands-own : (y : ℕ) → Stands s t i → is_own t i y ≡ is_own s i y
  stands-own y (same e) = ap (λ (r : Row). own_of r y) e
  stands-own y (other u v c) = rw (ne_eqb _ _ u, ne_eqb _ _ v)

  stands-coded : Stands s t i → scope_at s.symbols i < 5 → scope_at t.symbols i < 5
  stands-coded (same e) h = rw (ap (λ (r : Row). r.scope) e) h
  stands-coded (other u v c) h = c h

  stands-both : (u : State) → Stands s t i → Stands t u i → Stands s u i
  stands-both u (same e) (same f) = same (f ∙ e)
  stands-both u (same e) (other a b c) = other (rw (← ap (λ (r : Row). r.scope) e) a) b (λ h. c (rw (ap (λ (r : Row). r.scope) e) h))
  stands-both u (other a b c) (same f) = other a (rw (ap (λ (r : Row). r.scope) f) b) (λ h. rw (ap (λ (r : Row). r.scope) f) (c h))
  stands-both u (other a b c) (other d e f) = other a e (λ h. f (c h))

module _ (s t u : State) (a : Onto s t) (b : Onto t u) where
  own_on : (i y : ℕ) → i < t.link.symbols → is_own u i y ≡ is_own t i y
  own_on i y h = stands-own t u i y (b.stands i h)

  since-both : (y : ℕ) → Since s t y → Since t u y → Since s u y
  since-both y p (newest i h k o f e) = newest i (le_trans a.more h) k o f e
  since-both y (none e f) (none e' g) =
      none (e' ∙ e)
      (λ i h k.
      by-test (ltb i t.link.symbols) (λ c. own_on i y (ltb-true _ _ c) ∙ f i h (ltb-true _ _ c)) (λ c. g i (ltb-false _ _ c) k))
  since-both y (newest i h k o f e) (none e' g) =
      newest i h (le_trans k b.more) (own_on i y k ∙ o)
      (λ j l m. by-test (ltb j t.link.symbols) (λ c. own_on j y (ltb-true _ _ c) ∙ f j l (ltb-true _ _ c)) (λ c. g j (ltb-false _ _ c) m))
      (e' ∙ e)

  pub onto-both : Onto s u
  onto-both =
      record {
        shown = b.shown;
        more = le_trans a.more b.more;
        stands = λ i h. stands-both s t i u (a.stands i h) (b.stands i (omega (arith, h, a.more)));
        coded = λ i h k.
            by-test (ltb i t.link.symbols)
            (λ c. let l = ltb-true i t.link.symbols c in stands-coded t u i (b.stands i l) (a.coded i h l)) (λ c. b.coded i (ltb-false _ _ c) k);
        present = λ i h f. b.present i h (λ k. a.present i k f);
        since = λ y. since-both y (a.since y) (b.since y);
      }

-- ---- what an appended row has passed

module _ (s : State) (r : Row) where
  roomy : decided (table s) r ≡ Append → section_room s.link s.sections r ≡ true
  unfolding decided_of
  roomy e = appended-room s.link s.symbols s.sections r (direct_holder_of s.link s.names s.symbols r.name None) e

  -- what isn't refused has a visibility that passes
  coded_by : (d : Decision) → decided (table s) r ≡ d → refusal_of d ≡ 0 → r.scope < 5
  unfolding decided_of
  coded_by d e z =
      scope-low _
      (decided-passes s.link s.symbols s.sections r (direct_holder_of s.link s.names s.symbols r.name None)
      (ap (λ (d : Decision). refusal_of d) e ∙ z)).0

-- ---- the cells of sections' symbols

-- a cell that is lent lies behind the rows, at its section's place
pub cell_at : (l : Link) (n y : ℕ) → section_cell l n y < n → section_cell l n y ≡ l.slots * 8 + y
unfolding section_cell
cell_at l n y h =
    by-test (ltb (section_slots n) l.slots) (λ a. absurd (omega (arith, rw a at h)))
    (λ a. by-test (ltb y l.slots) (λ b. rw (a, b)) (λ b. absurd (omega (arith, rw (a, b) at h))))

cell-behind : (l : Link) (n y : ℕ) → section_cell l n y < n → l.slots * 8 ≤ section_cell l n y
cell-behind l n y h = omega (arith, cell_at l n y h)

-- two sections have two cells
pub cells-apart : (l : Link) (n y z : ℕ) → section_cell l n z < n → y ≢ z → section_cell l n y ≢ section_cell l n z
cells-apart l n y z h u e =
    u (omega (arith, cell_at l n y (rw e h), cell_at l n z h, e))

-- a cell's place is by the slots and the length alone
cell_same : (l m : Link) (n y : ℕ) → m.slots ≡ l.slots → section_cell m n y ≡ section_cell l n y
unfolding section_cell
cell_same l m n y e = rw e

-- a cell written, and another one
module _ (l m : Link) (e : m.slots ≡ l.slots) (x : List ℕ) (a v : ℕ) (h : section_cell l (length x) a < length x) where
  abbrev wrote : List ℕ
  wrote = set x (section_cell l (length x) a) v

  place_same : (y : ℕ) → section_cell m (length wrote) y ≡ section_cell l (length x) y
  place_same y = cell_same l m (length wrote) y e ∙ ap (λ (n : ℕ). section_cell l n y) (length-set x (section_cell l (length x) a) v)

  wrote-own : section_symbol_at m wrote a ≡ v
  wrote-own = ap (λ (q : ℕ). get_or wrote q 0) (place_same a) ∙ get_or-set_same x (section_cell l (length x) a) v 0 h

  wrote-other : (y : ℕ) → y ≢ a → section_symbol_at m wrote y ≡ section_symbol_at l x y
  wrote-other y u =
      ap (λ (q : ℕ). get_or wrote q 0) (place_same y)
      ∙ get_or-set_other x (section_cell l (length x) a) (section_cell l (length x) y) v 0 (cells-apart l (length x) y a h u)

pub own-parts : (r : Row) (y : ℕ) → own_of r y ≡ true → (r.scope ≡ 0) × (r.value.kind ≡ 2) × (r.value.a ≡ y)
own-parts r y e =
    by-test (eqb r.scope 0)
    (λ v.
    by-test (eqb r.value.kind 2)
    (λ k. by-test (eqb r.value.a y) (λ a. (eqb-true _ _ v, eqb-true _ _ k, eqb-true _ _ a)) (λ a. absurd (false≢true (rw (v, k, a) at e))))
    (λ k. absurd (false≢true (rw (v, k) at e))))
    (λ v. absurd (false≢true (rw v at e)))

-- ---- a row that hidden is passed to

hide-coded : (v : ℕ) → (hide_code v ≢ 0) × (hide_code v < 5)
unfolding hide_code
hide-coded v =
    by-test (eqb v 3) (λ a. rw a (λ e. omega arith, omega arith)) (λ a. by-test (eqb v 4) (λ b. rw (a, b) (λ e. omega arith, omega arith)) (λ b. rw (a, b) (λ e. omega arith, omega arith)))

pass-code : (gabi : Bool) (v : ℕ) (q : Row) → passes gabi v ≡ true → (pass_hidden gabi v q).scope ≡ hide_code q.scope
unfolding pass_hidden hide_if
pass-code gabi v q a = rw a

pass-coded : (gabi : Bool) (v : ℕ) (q : Row) → q.scope ≢ 0 → q.scope < 5 → ((pass_hidden gabi v q).scope ≢ 0) × ((pass_hidden gabi v q).scope < 5)
unfolding pass_hidden hide_if
pass-coded gabi v q n c = by-test (passes gabi v) (λ a. rw a (hide-coded q.scope)) (λ a. rw a (n, c))

-- ---- a row added

module _ (s : State) (g : Ready s) (w : Shown s) (r : Row) where
  abbrev id : ℕ
  id = held (table s) r

  abbrev Fine : Left → Type 0
  Fine o = Onto s (with_table s o.table)

  decides : (d : Decision) → decided (table s) r ≡ d → Fine (committed_of (table s) r None d) → Fine (put_of s r)
  unfolding add_row_of
  decides d e f = subst (λ (d : Decision). Fine (committed_of (table s) r None d)) (sym e) f

  one_more : Free (table s) r → successor s.link.symbols ≡ s.link.symbols + 1
  unfolding successor
  one_more f = rw (lt-ltb s.link.symbols 0xffffffffffffffff (omega (arith, f.few)))

  -- a name's row written: x in its place
  module _ (k : Named (table s) r) (z : id ≢ 0) (x : Row) (p : Packs x) (n : x.scope ≢ 0) where
    abbrev over : State
    over = with_table s (table_of s.names (set_row s.symbols (record { 0 = id }) x) s.sections s.link)

    low : id < s.link.symbols
    low = g.below.held r.name.0 k.issued z

    fits : id * 8 + 8 ≤ length s.symbols
    fits = omega (arith, g.room, low)

    own_row : row_at over.symbols id ≡ x
    own_row = stored_row s.symbols (record { 0 = id }) x p fits

    other_row : (i : ℕ) → i ≢ id → row_at over.symbols i ≡ row_at s.symbols i
    other_row i u = row_kept s.symbols (record { 0 = id }) x i u

    own_code : scope_at over.symbols id ≡ x.scope
    own_code = ap (λ (r : Row). r.scope) own_row

    -- it was a name's row, and still is one
    still : (scope_at s.symbols id < 5 → x.scope < 5) → Stands s over id
    still c = other (w r.name.0 k.issued z) (λ e. n (sym own_code ∙ e)) (λ h. rw own_code (c h))

    at_own : (P : ℕ → Type 0) (i : ℕ) → P id → (i ≢ id → P i) → P i
    at_own P i p q = by-test (eqb i id) (λ e. subst P (sym (eqb-true _ _ e)) p) (λ e. q (eqb-false _ _ e))

    written-state : (i : ℕ) → state_at s.symbols i ≢ 2 → state_at over.symbols i ≢ 2
    written-state i u =
        at_own (λ (j : ℕ). state_at s.symbols j ≢ 2 → state_at over.symbols j ≢ 2) i
        (λ v e. omega (arith, e, stored_there s.symbols (record { 0 = id }) x fits))
        (λ n v e. v (sym (there-kept s.symbols (record { 0 = id }) x i n) ∙ e)) u

    written-onto : Stands s over id → Onto s over
    written-onto own =
        record {
          shown = λ m h u.
              at_own (λ (i : ℕ). scope_at s.symbols i ≢ 0 → scope_at over.symbols i ≢ 0) (global_at s.names m)
              (λ v e. n (sym own_code ∙ e)) (λ d v e. v (sym (ap (λ (r : Row). r.scope) (other_row _ d)) ∙ e)) (w m h u);
          more = le_refl _;
          stands = λ i h. at_own (Stands s over) i own (λ d. same (other_row i d));
          coded = λ i h l. absurd (omega arith);
          present = λ i h f. written-state i (f h);
          since = λ y. none refl (λ i h l. absurd (omega arith));
        }

  replaced-onto : Named (table s) r → id ≢ 0 → Packs r → r.scope < 5 → Onto s (with_table s (apply_of (table s) r (Replace (record { 0 = id }))))
  unfolding apply_of replaced_in
  replaced-onto k z t c =
      let p = pass-coded s.link.gabi (scope_at s.symbols id) r k.global c in
      let x : Row = pass_hidden s.link.gabi (scope_at s.symbols id) r in
      let q = pass-packs s.link.gabi (scope_at s.symbols id) r t in
      written-onto k z x q p.0 (still k z x q p.0 (λ h. p.1))

  amended-onto : Named (table s) r → id ≢ 0 → Onto s (with_table s (apply_of (table s) r (Amend (record { 0 = id }))))
  unfolding apply_of amended_in
  amended-onto k z =
      let old : Row = row_at s.symbols id in
      let stays : (joined old r).scope ≡ scope_at s.symbols id = (joined-rest old r).scope in
      let x : Row = pass_hidden s.link.gabi r.scope (joined old r) in
      let p : Packs x = pass-packs s.link.gabi r.scope (joined old r) (joined-packs old r (read-packs s.symbols id)) in
      by-test (passes s.link.gabi r.scope)
      (λ a.
      let e : x.scope ≡ hide_code (scope_at s.symbols id) = pass-code s.link.gabi r.scope (joined old r) a ∙ ap hide_code stays in
      let n : x.scope ≢ 0 = λ q. (hide-coded (scope_at s.symbols id)).0 (sym e ∙ q) in
      written-onto k z x p n (still k z x p n (λ h. rw e (hide-coded (scope_at s.symbols id)).1)))
      (λ a.
      let e : x.scope ≡ scope_at s.symbols id = ap (λ (y : Row). y.scope) (pass-none s.link.gabi r.scope (joined old r) a) ∙ stays in
      let n : x.scope ≢ 0 = λ q. w r.name.0 k.issued z (sym e ∙ q) in
      written-onto k z x p n (still k z x p n (λ h. rw e h)))

  -- a row appended
  module _ (e : decided (table s) r ≡ Append) (f : Free (table s) r) where
    abbrev at : ℕ
    at = s.link.symbols

    abbrev on : State
    on = with_table s (append_of (table s) r)

    count-on : on.link.symbols ≡ at + 1
    unfolding append_of
    count-on = one_more f

    new_row : row_at on.symbols at ≡ r
    unfolding append_of
    new_row = stored_row s.symbols (record { 0 = at }) r f.packs f.fits

    old_row : (i : ℕ) → i ≢ at → row_at on.symbols i ≡ row_at s.symbols i
    unfolding append_of
    old_row i u = row_kept s.symbols (record { 0 = at }) r i u

    at_new : (P : ℕ → Type 0) (i : ℕ) → P at → (i ≢ at → P i) → P i
    at_new P i p q = by-test (eqb i at) (λ e. subst P (sym (eqb-true _ _ e)) p) (λ e. q (eqb-false _ _ e))

    new-state : state_at on.symbols at ≡ 1
    unfolding append_of
    new-state = stored_there s.symbols (record { 0 = at }) r f.fits

    old-state : (i : ℕ) → i ≢ at → state_at on.symbols i ≡ state_at s.symbols i
    unfolding append_of
    old-state i u = there-kept s.symbols (record { 0 = at }) r i u

    -- the row that a name had before
    shown-old : (i : ℕ) → i < at → scope_at s.symbols i ≢ 0 → scope_at on.symbols i ≢ 0
    shown-old i h u q = u (sym (ap (λ (r : Row). r.scope) (old_row i (λ d. omega (arith, h, d)))) ∙ q)

    abbrev noted : List ℕ
    noted = set s.names (r.name.0 * 8 + 3) at

    noted_other : (n : ℕ) → n ≢ r.name.0 → global_at noted n ≡ global_at s.names n
    noted_other n u = get_or-set_other s.names (r.name.0 * 8 + 3) (n * 8 + 3) at 0 (λ d. u (omega arith))

    noted-own : global_at noted r.name.0 ≢ 0 → global_at noted r.name.0 ≡ at
    noted-own u =
        by-test (ltb (r.name.0 * 8 + 3) (length s.names)) (λ l. get_or-set_same s.names (r.name.0 * 8 + 3) at 0 (ltb-true _ _ l))
        (λ l.
        absurd
        (u
        (get_or-eq_default noted 0 {n = r.name.0 * 8 + 3}
        (omega (arith, length-set s.names (r.name.0 * 8 + 3) at, ltb-false (r.name.0 * 8 + 3) (length s.names) l)))))

    shown-on : Shown on
    unfolding append_of note_name
    shown-on n h u =
        by-test (eqb r.scope 0)
        (λ v. let z : global_at s.names n ≢ 0 = rw v at u in rw v (shown-old _ (g.below.held n h z) (w n h z)))
        (λ v.
        let z : global_at noted n ≢ 0 = rw v at u in
        rw v
        (by-test (eqb n r.name.0)
        (λ q.
        let k : n ≡ r.name.0 = eqb-true _ _ q in
        let own : global_at noted n ≡ at = subst (λ (m : ℕ). global_at noted m ≢ 0 → global_at noted m ≡ at) (sym k) noted-own z in
        subst (λ (i : ℕ). scope_at (set_row s.symbols (record { 0 = at }) r) i ≢ 0) (sym own)
        (λ d. eqb-false _ _ v (sym (ap (λ (r : Row). r.scope) (stored_row s.symbols (record { 0 = at }) r f.packs f.fits)) ∙ d)))
        (λ q.
        let o = noted_other n (eqb-false _ _ q) in
        let y : global_at s.names n ≢ 0 = λ d. z (o ∙ d) in
        subst (λ (i : ℕ). scope_at (set_row s.symbols (record { 0 = at }) r) i ≢ 0) (sym o) (shown-old _ (g.below.held n h y) (w n h y)))))

    room : r.scope ≡ 0 → r.value.kind ≡ 2 → section_cell s.link (length s.sections) r.value.a < length s.sections
    unfolding section_room
    room v k =
        let q = roomy s r e in
        by-test (ltb (section_cell s.link (length s.sections) r.value.a) (length s.sections)) (λ t. ltb-true _ _ t)
        (λ t. absurd (false≢true (rw (v, k, t) at q)))

    -- the symbol of the row's section is the row, that of others stays
    symbol-own : r.scope ≡ 0 → r.value.kind ≡ 2 → symbol_in on r.value.a ≡ at
    unfolding append_of note_section set_section_symbol
    symbol-own v k = rw (v, k) (wrote-own s.link on.link refl s.sections r.value.a at (room v k))

    symbol-other : (y : ℕ) → own_of r y ≡ false → symbol_in on y ≡ symbol_in s y
    unfolding append_of note_section set_section_symbol
    symbol-other y o =
        by-test (eqb r.scope 0)
        (λ v.
        by-test (eqb r.value.kind 2)
        (λ k.
        let u : y ≢ r.value.a = λ q. false≢true (sym (rw (v, k, eq-eqb _ _ (sym q)) at o)) in
        rw (v, k) (wrote-other s.link on.link refl s.sections r.value.a at (room (eqb-true _ _ v) (eqb-true _ _ k)) y u))
        (λ k. rw (v, k) (ap (λ (q : ℕ). get_or s.sections q 0) (cell_same s.link on.link (length s.sections) y refl))))
        (λ v. rw v (ap (λ (q : ℕ). get_or s.sections q 0) (cell_same s.link on.link (length s.sections) y refl)))

    since-on : (y : ℕ) → Since s on y
    since-on y =
        by-test (own_of r y)
        (λ o.
        let (v, k, a) = own-parts r y o in
        newest at (le_refl _) (omega (arith, count-on)) (ap (λ (r : Row). own_of r y) new_row ∙ o) (λ j h l. absurd (omega (arith, count-on)))
        (subst (λ (y : ℕ). symbol_in on y ≡ at) a (symbol-own v k)))
        (λ o.
        none (symbol-other y o)
        (λ i h l. let q : i ≡ at = omega (arith, count-on) in ap (λ (i : ℕ). is_own on i y) q ∙ ap (λ (r : Row). own_of r y) new_row ∙ o))

    appended-onto : Onto s on
    appended-onto =
        record {
          shown = shown-on;
          more = omega (arith, count-on);
          stands = λ i h. same (old_row i (λ d. omega (arith, h, d)));
          coded = λ i h l.
              let q : i ≡ at = omega (arith, count-on) in
              rw (q, ap (λ (r : Row). r.scope) new_row) (coded_by s r Append e refl);
          present = λ i h f.
              at_new (λ (i : ℕ). i < on.link.symbols → (i < at → state_at s.symbols i ≢ 2) → state_at on.symbols i ≢ 2) i
              (λ h f d. omega (arith, new-state, d)) (λ u h f d. f (less i at u (omega (arith, h, count-on))) (sym (old-state i u) ∙ d)) h f;
          since = since-on;
        }
      where
        less : (m c : ℕ) → m ≢ c → m ≤ c → m < c
        less m c u h = by-test (ltb m c) (λ t. ltb-true _ _ t) (λ t. absurd (u (omega (arith, ltb-false m c t))))

  viewed : View (table s) r → Fine (put_of s r)
  unfolding committed_of apply_of
  viewed (refused n e z) =
      decides (Refuse n) e (subst (λ (t : Table). Onto s (with_table s t)) (sym (commit-refused (table s) r None n z).0) (onto-none s w))
  viewed (kept e k z o q p) = decides _ e (onto-none s w)
  viewed (amended e k z o q) = decides _ e (amended-onto k z)
  viewed (replaced e k z o) = decides _ e (replaced-onto k z o.packs (coded_by s r _ e refl))
  viewed (appended e f k z) = decides _ e (appended-onto e f)
  viewed (local e f v) = decides _ e (appended-onto e f)

  pub put-onto : Onto s (with_table s (put_of s r).table)
  put-onto = viewed (view (table s) r)

-- ---- a name issued

-- rows and sections' symbols as they were
module _ (s t : State) (w : Shown t) (rows : t.symbols ≡ s.symbols) (count : t.link.symbols ≡ s.link.symbols) (symbols : (y : ℕ) → symbol_in t y ≡ symbol_in s y) where
  onto-rows : Onto s t
  onto-rows =
      record {
        shown = w;
        more = omega (arith, count);
        stands = λ i h. same (ap (λ (l : List ℕ). row_at l i) rows);
        coded = λ i h k. absurd (omega (arith, count));
        present = λ i h f. rw rows (f (omega (arith, h, count)));
        since = λ y. none (symbols y) (λ i h k. absurd (omega (arith, count)));
      }

module _ (s : State) (w : Shown s) (x : List ℕ) where
  added-shown : FreeRow s.link s.names → Shown (with_store s (added (store s) x))
  added-shown row n h u =
      by-test (eqb n s.link.names)
      (λ e.
      let q : n ≡ s.link.names = eqb-true _ _ e in
      absurd (u (rw q (linked-new s.link s.names s.link.bytes (length x) x row))))
      (λ e.
      let v : n ≢ s.link.names = eqb-false _ _ e in
      let k : n < s.link.names = less n s.link.names v (omega arith) in
      let q : global_at (added (store s) x).names n ≡ global_at s.names n =
      linked-old s.link s.names s.link.bytes (length x) x row n 3 (omega (arith, row.free)) (omega arith) v in
      rw q (w n k (λ y. u (q ∙ y))))
    where
      less : (m c : ℕ) → m ≢ c → m ≤ c → m < c
      less m c u h = by-test (ltb m c) (λ t. ltb-true _ _ t) (λ t. absurd (u (omega (arith, ltb-false m c t))))

  issue-onto : (id : Interned) → Onto s (with_store s (keep_of (store s) id x))
  unfolding keep_of
  issue-onto id =
      by-test (ltb id.0 s.link.names) (λ a. rw a (onto-none s w))
      (λ a.
      by-test (room_of (store s) (length x))
      (λ c.
      let t : State = with_store s (added (store s) x) in
      rw (a, c)
      (onto-rows s t (added-shown (room-free (store s) (length x) c)) refl refl
      (λ y. ap (λ (q : ℕ). get_or s.sections q 0) (cell_same s.link t.link (length s.sections) y refl))))
      (λ c. rw (a, c) (onto-none s w)))

-- ---- section rows written: their symbols lie behind them

rows_behind : (slots : ℕ) (x old : List ℕ) (q : ℕ) → length x ≡ length old → slots * 8 ≤ q → get_or (rows_from slots x old) q 0 ≡ get_or old q 0
rows_behind slots x old q e h =
    let n : ℕ = slots * 8 in
    by-test (leb n (length x))
    (λ b.
    let l : length (take n x) ≡ n = length-take-le n x (leb-true _ _ b) in
    let k : q ≡ length (take n x) + (q - n) = omega (arith, h, l) in
    let j : n + (q - n) ≡ q = omega (arith, h) in
    ap (λ (i : ℕ). get_or (take n x ++ drop n old) i 0) k ∙ get_or-append-add (take n x) (drop n old) (q - n) 0 ∙ get_or-drop n old (q - n) 0
    ∙ ap (λ (i : ℕ). get_or old i 0) j)
    (λ b.
    let k : length x < n = leb-false _ _ b in
    ap (λ (y : List ℕ). get_or y q 0) (rows_all slots x old e (omega arith))
    ∙ get_or-eq_default x 0 {n = q} (omega arith) ∙ sym (get_or-eq_default old 0 {n = q} (omega (arith, e))))

module _ (l m : Link) (e : m.slots ≡ l.slots) (x old : List ℕ) (h : length x ≡ length old) where
  abbrev placed : List ℕ
  placed = rows_from l.slots x old

  rows-symbol : (y : ℕ) → section_symbol_at m placed y ≡ section_symbol_at l old y
  rows-symbol y =
      let n : ℕ = length old in
      let long : length placed ≡ n = rows_long l.slots x old h in
      let at : section_cell m (length placed) y ≡ section_cell l n y = cell_same l m (length placed) y e ∙ ap (λ (n : ℕ). section_cell l n y) long in
      ap (λ (q : ℕ). get_or placed q 0) at
      ∙ by-test (ltb (section_cell l n y) n) (λ b. rows_behind l.slots x old (section_cell l n y) h (cell-behind l n y (ltb-true _ _ b)))
      (λ b.
      let k : n ≤ section_cell l n y = ltb-false _ _ b in
      get_or-eq_default placed 0 {n = section_cell l n y} (omega (arith, long, k)) ∙ sym (get_or-eq_default old 0 {n = section_cell l n y} k))

-- ---- steps

step-onto : (k : Step) (s : State) → Ready s → Shown s → Goes k s → Onto s (step_next k s)
step-onto (part (issue x)) s g w go = issue-onto s w x (id_of s x)
step-onto (part (put r from)) s g w go = put-onto s g w r
step-onto (mark n) s g w go =
    onto-rows s (step_next (mark n) s)
    (λ m h u.
    let q : global_at (set s.names (n * 8 + 4) 1) m ≡ global_at s.names m = get_or-set_other s.names (n * 8 + 4) (m * 8 + 3) 1 0 (λ e. omega arith) in
    subst (λ (i : ℕ). scope_at s.symbols i ≢ 0) (sym q) (w m h (λ z. u (q ∙ z))))
    refl refl (λ y. refl)
step-onto (others x l) s g w go =
    onto-rows s (step_next (others x l) s) w refl refl (rows-symbol s.link (counts_from l s.link) refl x s.sections go.1)

pub steps-onto : (ks : List Step) (s : State) → Ready s → Shown s → AllGo ks s → Onto s (run_steps ks s)
steps-onto [] s g w go = onto-none s w
steps-onto (k ∷ ks) s g w go =
    let a = step-onto k s g w go.0 in
    onto-both s (step_next k s) (run_steps ks (step_next k s)) a (steps-onto ks (step_next k s) (steps-onward (k ∷ []) s g).ready a.shown go.1)

-- ---- calls

pub call-onto : (k : Call) (s : Linked) → (Removes k s → ⊥) → Ready s.table → Shown s.table → Onto s.table (call_next k s).table
call-onto k s q g w =
    let m = call-makes k s q in
    subst (Onto s.table) m.leads (steps-onto (call_steps k s) s.table g w m.accepted)

pub calls-onto : (ks : List Call) (s : Linked) → RemovesNothing ks s → Ready s.table → Shown s.table → Onto s.table (run_calls ks s).table
calls-onto [] s q g w = onto-none s.table w
calls-onto (k ∷ ks) s q g w =
    let a = call-onto k s q.0 g w in
    onto-both s.table (call_next k s).table (run_calls ks (call_next k s)).table a
    (calls-onto ks (call_next k s) q.1 (call-onward k s q.0 g).ready a.shown)

pub onto-stay : (s t : State) → Onto s t → Stay s t
onto-stay s t o = record { shown = o.shown; more = o.more; stands = o.stands; counted = λ c y. go c y (o.since y) }
  where
    go : Counted s → (y : ℕ) → Since s t y → symbol_in t y < t.link.symbols
    go c y (none e f) = omega (arith, e, c y, o.more)
    go c y (newest i h k q f e) = omega (arith, e, k)

pub stay-both : (s t u : State) → Stay s t → Stay t u → Stay s u
stay-both s t u a b =
    record {
      shown = b.shown;
      more = le_trans a.more b.more;
      stands = λ i h. stands-both s t i u (a.stands i h) (b.stands i (omega (arith, h, a.more)));
      counted = λ c. b.counted (a.counted c);
    }

-- every row but for its state, and the names, as they were; a section's symbol may go
rows_stay : (s t : State) → Shown s → t.names ≡ s.names → t.link ≡ s.link → ((i : ℕ) → row_at t.symbols i ≡ row_at s.symbols i)
    → ((y : ℕ) → symbol_in t y ≤ symbol_in s y) → Stay s t
rows_stay s t w n l r f =
    record {
      shown = λ m h u.
          let q : global_at t.names m ≡ global_at s.names m = ap (λ (x : List ℕ). global_at x m) n in
          subst (λ (i : ℕ). scope_at t.symbols i ≢ 0) (sym q)
          (λ z. w m (subst (λ (k : Link). m < k.names) l h) (λ y. u (q ∙ y)) (sym (ap (λ (r : Row). r.scope) (r (global_at s.names m))) ∙ z));
      more = rw l (le_refl _);
      stands = λ i h. same (r i);
      counted = λ c y. omega (arith, f y, c y, ap (λ (k : Link). k.symbols) l);
    }

cell-falls : (l : Link) (x : List ℕ) (c y : ℕ) → section_symbol_at l (set x c 0) y ≤ section_symbol_at l x y
cell-falls l x c y = rw (length-set x c 0) (set-falls x c (section_cell l (length x) y))

state-row : (symbols : List ℕ) (id v i : ℕ) → row_at (set symbols (id * 8 + 0) v) i ≡ row_at symbols i
state-row symbols id v i =
    let cell : (f : ℕ) → f ≢ 0 → f < 8 → field (set symbols (id * 8 + 0) v) i f ≡ field symbols i f =
    λ f u h. get_or-set_other symbols (id * 8 + 0) (i * 8 + f) v 0 (λ d. u (omega (arith, d, h))) in
    rw (
      cell 1 (λ z. omega arith) (omega arith),
      cell 2 (λ z. omega arith) (omega arith),
      cell 3 (λ z. omega arith) (omega arith),
      cell 4 (λ z. omega arith) (omega arith),
      cell 5 (λ z. omega arith) (omega arith),
      cell 6 (λ z. omega arith) (omega arith),
      cell 7 (λ z. omega arith) (omega arith),
    )

module _ (s : State) (id : SymbolId) where
  abbrev x : Rows
  x = rows_of s.symbols s.sections

  remove-row : (i : ℕ) → row_at (remove_of s.link x id).rows.symbols i ≡ row_at s.symbols i
  unfolding remove_of remove_row_of
  remove-row i =
      by-test (eqb (change_of s.link (lent_of s.link.chains (length s.symbols) (section_slots (length s.sections)))).number 0)
      (λ a.
      by-test (leb s.link.symbols id.0) (λ b. rw (a, b))
      (λ b. by-test (eqb (state_at s.symbols id.0) 2) (λ c. rw (a, b, c)) (λ c. rw (a, b, c) (state-row s.symbols id.0 2 i))))
      (λ a. rw a)

  remove-falls : (y : ℕ) → section_symbol_at s.link (remove_of s.link x id).rows.sections y ≤ symbol_in s y
  unfolding remove_of remove_row_of drop_section set_section_symbol
  remove-falls y =
      by-test (eqb (change_of s.link (lent_of s.link.chains (length s.symbols) (section_slots (length s.sections)))).number 0)
      (λ a.
      by-test (leb s.link.symbols id.0) (λ b. rw (a, b) (le_refl _))
      (λ b.
      by-test (eqb (state_at s.symbols id.0) 2) (λ c. rw (a, b, c) (le_refl _))
      (λ c.
      by-test (eqb (field s.symbols id.0 5) 2)
      (λ d. rw (a, b, c, d) (cell-falls s.link s.sections (section_cell s.link (length s.sections) (field s.symbols id.0 6)) y))
      (λ d. rw (a, b, c, d) (le_refl _)))))
      (λ a. rw a (le_refl _))

module _ (s : Linked) (w : Shown s.table) where
  remove-stay : (id : SymbolId) → Stay s.table (call_next (remove id) s).table
  remove-stay id =
      rows_stay s.table (call_next (remove id) s).table w refl (remove-link s.table.link (rows_of s.table.symbols s.table.sections) id)
      (remove-row s.table id)
      (λ y.
      subst (λ (l : Link). section_symbol_at l (call_next (remove id) s).table.sections y ≤ symbol_in s.table y)
      (sym (remove-link s.table.link (rows_of s.table.symbols s.table.sections) id)) (remove-falls s.table id y))

  module _ (marks : List ℕ) (entry : Option SymbolId) (work : List ℕ) where
    abbrev after : State
    after = (call_next (collect marks entry work) s).table

    collect-row : (a : Result Dropped Refusal) → (call_left (collect marks entry work) s).answer ≡ a → (i : ℕ) → row_at after.symbols i ≡ row_at s.table.symbols i
    collect-row (Ok o) e i =
        let d = CollectionLaws.removes s.table.link (lists_in s marks) s.table.symbols s.table.sections entry work o.sections o.symbols e in
        let cell : (f : ℕ) → f ≢ 0 → f < 8 → field after.symbols i f ≡ field s.table.symbols i f = λ f u h. d.stays i f h (λ z. absurd (u z)) in
        rw (
          cell 1 (λ z. omega arith) (omega arith),
          cell 2 (λ z. omega arith) (omega arith),
          cell 3 (λ z. omega arith) (omega arith),
          cell 4 (λ z. omega arith) (omega arith),
          cell 5 (λ z. omega arith) (omega arith),
          cell 6 (λ z. omega arith) (omega arith),
          cell 7 (λ z. omega arith) (omega arith),
        )
    collect-row (Err r) e i =
        ap (λ (t : Linked). row_at t.table.symbols i)
        (drops-nothing marks entry work s (λ (d : Drops (call_left (collect marks entry work) s).answer). subst Drops e d))

    collect-falls : (a : Result Dropped Refusal) → (call_left (collect marks entry work) s).answer ≡ a → (y : ℕ) → symbol_in after y ≤ symbol_in s.table y
    collect-falls (Ok o) e y =
        let l : Link = s.table.link in
        let n : ℕ = length s.table.sections in
        let d = CollectionLaws.removes l (lists_in s marks) s.table.symbols s.table.sections entry work o.sections o.symbols e in
        let p = run_past l s.table.symbols s.table.sections (lists_in s marks) entry work in
        let same : section_cell after.link (length after.sections) y ≡ section_cell l n y =
        ap (λ (m : Link). section_cell m (length after.sections) y) p.link ∙ ap (λ (m : ℕ). section_cell l m y) p.sections-long in
        rw same
        (by-test (ltb (section_cell l n y) n) (λ b. rw (cell_at l n y (ltb-true _ _ b)) (d.entry_falls y))
        (λ b.
        omega (arith, get_or-eq_default after.sections 0 {n = section_cell l n y} (omega (arith, p.sections-long, ltb-false (section_cell l n y) n b)))))
    collect-falls (Err r) e y =
        let q : symbol_in after y ≡ symbol_in s.table y =
        ap (λ (t : Linked). symbol_in t.table y)
        (drops-nothing marks entry work s (λ (d : Drops (call_left (collect marks entry work) s).answer). subst Drops e d)) in
        omega (arith, q)

    collect-stay : Stay s.table after
    collect-stay =
        rows_stay s.table after w refl (run_past s.table.link s.table.symbols s.table.sections (lists_in s marks) entry work).link
        (collect-row (call_left (collect marks entry work) s).answer refl) (collect-falls (call_left (collect marks entry work) s).answer refl)

call-stay : (k : Call) (s : Linked) → Ready s.table → Shown s.table → Stay s.table (call_next k s).table
call-stay k s g w = go k
  where
    quiet : (k : Call) → (Removes k s → ⊥) → Stay s.table (call_next k s).table
    quiet k q = onto-stay s.table (call_next k s).table (call-onto k s q g w)

    plain-stay : (marks : List ℕ) (entry : Option SymbolId) (work : List ℕ) → Compared marks entry work s → Stay s.table (call_next (plain_collect marks entry work) s).table
    plain-stay marks entry work (alike r t a) = subst (λ (x : Linked). Stay s.table x.table) (sym t) (collect-stay s w marks entry work)
    plain-stay marks entry work (many m u v e) = quiet (plain_collect marks entry work) (λ d. many-drops marks entry work s e d)

    go : (k : Call) → Stay s.table (call_next k s).table
    go (intern x) = quiet (intern x) (λ (e : ⊥). e)
    go (reads k) = quiet (reads k) (λ (e : ⊥). e)
    go (add conversion u) = quiet (add conversion u) (λ (e : ⊥). e)
    go (add_list conversion adds ids) = quiet (add_list conversion adds ids) (λ (e : ⊥). e)
    go (remove id) = remove-stay s w id
    go (add_group o work n) = quiet (add_group o work n) (λ (e : ⊥). e)
    go (merge o work ids) = quiet (merge o work ids) (λ (e : ⊥). e)
    go (merge_file file cells work ids) = quiet (merge_file file cells work ids) (λ (e : ⊥). e)
    go (load o marks) = quiet (load o marks) (λ (e : ⊥). e)
    go (collect marks entry work) = collect-stay s w marks entry work
    go (plain_collect marks entry work) = plain-stay marks entry work (compared marks entry work s)

pub calls-stay : (ks : List Call) (s : Linked) → Ready s.table → Shown s.table → Stay s.table (run_calls ks s).table
calls-stay [] s g w = record { shown = w; more = le_refl _; stands = λ i h. same refl; counted = λ c. c }
calls-stay (k ∷ ks) s g w =
    let a = call-stay k s g w in
    stay-both s.table (call_next k s).table (run_calls ks (call_next k s)).table a (calls-stay ks (call_next k s) (calls-later (k ∷ []) s g).ready a.shown)

-- a new table
pub inv-shown : (s : State) → Inv s [] → Shown s
inv-shown s i n h u = absurd (u (i.held_by n h))
