-- Laws of the definitions of Writes.antt.
-- Assumes nothing.
use Rattle.std.specs.Prelude.{ℕ, ◌+◌, ◌*◌, ◌/◌, ◌%◌, ◌≤◌, ◌<◌, ◌≡◌, refl, List, [], ◌∷◌, ◌++◌, ◌≢◌, eqb, ltb, leb, get_or, length, None}
use Rattle.std.proofs.Common.{arith, mod-lt, div-add-mod', sym, ap, ◌∙◌, get_or-set_other, eqb-true, leb-false, lt-ltb}
use Rattle.std.proofs.Math.Path.{subst}
use Rattle.std.proofs.Math.Seq.{set_out}
use Rattle.std.proofs.lemmas.Bool.{eqb-false}
use Rattle.link.specs.Said.{value_in}
use Rattle.cells.specs.Proof.Split.{by-test}
use Rattle.link.specs.declared.Link.{Link}
use Rattle.link.specs.declared.SymbolId.{SymbolId}
use Rattle.link.specs.declared.Interned.{Interned}
use Rattle.link.specs.Bounds.{section_slots}
use Rattle.link.specs.Judge.{change_of}
use Rattle.interner.specs.Names.{Store, room_of, added, keep_of}
use Rattle.symbol.specs.Proof.RowLaws.{field-other}
use Rattle.symbol.specs.declared.Row.{Row}
use Rattle.symbol.specs.Codes.{successor}
use Rattle.symbol.specs.Row.{field, state_at, set_row}
use Rattle.symbol_resolution.specs.Decision.{Decision, Refuse}
use Rattle.symbol_resolution.specs.Holder.{global_at}
use Rattle.symbol_resolution.specs.Decide.{section_cell}
use Rattle.symbol_resolution.specs.Apply.{Table, table_of, note_name, set_section_symbol, note_section, append_of, replaced_in, amended_in, apply_of}
use Rattle.symbols.specs.Calls.{Left, lent_of}
use Rattle.upcoming_symbol.specs.declared.UpcomingSymbol.{UpcomingSymbol}
use Rattle.upcoming_symbol.specs.Upcoming.{name_of, row_of}
use Rattle.symbols.specs.Add.{empty_at, file_of, lent, judge_add_of, committed_of, add_row_of, add_of}
use Rattle.symbols.specs.Remove.{rows_of, drop_section, remove_row_of, remove_of}
use Rattle.symbol_laws.proofs.View.{Named, Free, View, refused, kept, amended, replaced, appended, local, view, held, decided}
use Rattle.symbol_laws.proofs.Refused.{commit-refused, add-accepted, intern-accepted}
use Rattle.symbol_laws.proofs.Calls.{call-refused}
use Rattle.symbol_laws.specs.History.{State, table, store, with_table, with_store, with_rows, Entry, only, rows, put_of, id_of, Call, add, intern, remove, upcoming, call_next, call_number}
use Rattle.symbol_laws.specs.Held.{Holds, Held, Inv}
use Rattle.symbol_laws.specs.Below.{Below}
use Rattle.symbol_laws.proofs.Issue.{FreeRow, linked-old, room-free}
use Rattle.symbol_laws.specs.Standing.{row_after}
use Rattle.symbol_laws.proofs.Demand.{resolved}
use Rattle.symbol_laws.specs.Writes.{Untouched, Bears}
use Rattle.symbol_laws.proofs.Writes.{one-row}

pub add-one-row : (t : Table) (conversion : List ℕ) (u : UpcomingSymbol) (j f : ℕ) → f < 8 → j ≢ value_in (add_of t conversion u).said
    → field (add_of t conversion u).table.symbols j f ≡ field t.symbols j f
unfolding add_of
add-one-row t conversion u j f h n =
    by-test (eqb (judge_add_of t.link (lent t) u).number 0)
    (λ a. rw a (one-row t (row_of t.link.gabi conversion u (empty_at t.names (name_of u))) (file_of u) j f h (rw a at n))) (λ a. rw a)

pub untouched : (s : State) → Untouched s s
untouched s = record { symbols = λ q h. refl; names = λ q h k. refl; sections = λ q h. refl }

-- a cell, by its row
cell_at : (l m : List ℕ) (q : ℕ) → ((f : ℕ) → f < 8 → field m (q / 8) f ≡ field l (q / 8) f) → get_or m q 0 ≡ get_or l q 0
cell_at l m q f =
    subst (λ (k : ℕ). get_or m k 0 ≡ get_or l k 0) (div-add-mod' q 8) (f (q % 8) (mod-lt q (omega arith)))

stored_past : (l : List ℕ) (id : SymbolId) (r : Row) (count q : ℕ) → id.0 < count → count * 8 ≤ q → get_or (set_row l id r) q 0 ≡ get_or l q 0
stored_past l id r count q h k = cell_at l (set_row l id r) q (λ f g. field-other l id r (q / 8) f g (λ e. omega arith))

-- a section's symbol lies behind the rows
symbol-behind : (k : Link) (l : List ℕ) (s id q : ℕ) → q < k.slots * 8 → get_or (set_section_symbol k l s id) q 0 ≡ get_or l q 0
unfolding set_section_symbol section_cell
symbol-behind k l s id q h =
    by-test (ltb (section_slots (length l)) k.slots) (λ t. rw t (ap (λ (m : List ℕ). get_or m q 0) (set_out l (length l) id (omega arith))))
    (λ t.
    by-test (ltb s k.slots) (λ u. rw (t, u) (get_or-set_other l _ q id 0 (λ e. omega arith)))
    (λ u. rw (t, u) (ap (λ (m : List ℕ). get_or m q 0) (set_out l (length l) id (omega arith)))))

pub section-behind : (k : Link) (l : List ℕ) (r : Row) (id q : ℕ) → q < k.slots * 8 → get_or (note_section k l r id) q 0 ≡ get_or l q 0
unfolding note_section
section-behind k l r id q h =
    by-test (eqb r.scope 0)
    (λ v. by-test (eqb r.value.kind 2) (λ w. rw (v, w) (symbol-behind k l r.value.a id q h)) (λ w. rw (v, w))) (λ v. rw v)

note-low : (l : List ℕ) (r : Row) (id count q : ℕ) → (r.scope ≢ 0 → r.name.0 < count) → count * 8 ≤ q → get_or (note_name l r id) q 0 ≡ get_or l q 0
unfolding note_name
note-low l r id count q i h =
    by-test (eqb r.scope 0) (λ v. rw v)
    (λ v. let k : r.name.0 < count = i (eqb-false _ _ v) in rw v (get_or-set_other l (r.name.0 * 8 + 3) q id 0 (λ e. omega arith)))

module _ (s : State) (b : Below s) where
  module _ (r : Row) where
    appended-past : Free (table s) r → (r.scope ≢ 0 → r.name.0 < s.link.names) → Untouched s (with_table s (append_of (table s) r))
    unfolding append_of successor
    appended-past f i =
        let more : successor s.link.symbols ≡ s.link.symbols + 1 = rw (lt-ltb s.link.symbols 0xffffffffffffffff (omega (arith, f.few))) in
        record {
          symbols = λ q h. stored_past s.symbols (record { 0 = s.link.symbols }) r (s.link.symbols + 1) q (omega arith) (omega (arith, more, h));
          names = λ q h k. note-low s.names r s.link.symbols s.link.names q i h;
          sections = λ q h. section-behind s.link s.sections r s.link.symbols q h;
        }

    -- the name's row written
    written-past : Named (table s) r → held (table s) r ≢ 0 → (x : Row)
        → Untouched s (with_table s (table_of s.names (set_row s.symbols (record { 0 = held (table s) r }) x) s.sections s.link))
    written-past k z x =
        record {
          symbols = λ q h. stored_past s.symbols _ x s.link.symbols q (b.held r.name.0 k.issued z) h;
          names = λ q h k. refl;
          sections = λ q h. refl;
        }

    Past : Left → Type 0
    Past o = Untouched s (with_table s o.table)

    past-decides : (d : Decision) → decided (table s) r ≡ d → Past (committed_of (table s) r None d) → Past (put_of s r)
    unfolding add_row_of
    past-decides d e g = subst (λ (d : Decision). Past (committed_of (table s) r None d)) (sym e) g

    past-viewed : View (table s) r → Past (put_of s r)
    unfolding Past committed_of apply_of replaced_in amended_in
    past-viewed (refused n e z) =
        past-decides (Refuse n) e
        (subst (λ (t : Table). Untouched s (with_table s t)) (sym (commit-refused (table s) r None n z).0) (untouched s))
    past-viewed (kept e k z o w p) = past-decides _ e (untouched s)
    past-viewed (amended e k z o w) = past-decides _ e (written-past k z _)
    past-viewed (replaced e k z o) = past-decides _ e (written-past k z _)
    past-viewed (appended e f k z) = past-decides _ e (appended-past f (λ v. k.issued))
    past-viewed (local e f v) = past-decides _ e (appended-past f (λ z. absurd (z v)))

    pub put-past : Untouched s (with_table s (put_of s r).table)
    unfolding Past
    put-past = past-viewed (view (table s) r)

  pub issue-past : (x : List ℕ) (id : Interned) → Untouched s (with_store s (keep_of (store s) id x))
  unfolding keep_of
  issue-past x id =
      by-test (ltb id.0 s.link.names) (λ a. rw a (untouched s))
      (λ a.
      by-test (room_of (store s) (length x)) (λ b. rw (a, b) (added-past (room-free (store s) (length x) b))) (λ b. rw (a, b) (untouched s)))
    where
      added-past : FreeRow s.link s.names → Untouched s (with_store s (added (store s) x))
      added-past row =
          record {
            symbols = λ q h. refl;
            names = λ q h k.
                cell_at s.names (added (store s) x).names q
                (λ f g. linked-old s.link s.names s.link.bytes (length x) x row (q / 8) f (omega arith) g (λ e. omega arith));
            sections = λ q h. refl;
          }

drop-behind : (k : Link) (l : List ℕ) (kind s q : ℕ) → q < k.slots * 8 → get_or (drop_section k l kind s) q 0 ≡ get_or l q 0
unfolding drop_section
drop-behind k l kind s q h = by-test (eqb kind 2) (λ e. rw e (symbol-behind k l s 0 q h)) (λ e. rw e)

-- of a row below the count; whatever the rows hold
removed-past : (s : State) (id : SymbolId) → id.0 < s.link.symbols → Untouched s (with_rows s (remove_row_of s.link (rows_of s.symbols s.sections) id) s.link)
unfolding remove_row_of
removed-past s id i =
    by-test (eqb (state_at s.symbols id.0) 2) (λ a. rw a (untouched s))
    (λ a.
    rw a
    (record {
      symbols = λ q h. get_or-set_other s.symbols (id.0 * 8 + 0) q 2 0 (λ e. omega arith);
      names = λ q h k. refl;
      sections = λ q h. drop-behind s.link s.sections _ _ q h;
    }))

pub remove-past : (s : State) (id : SymbolId) → Untouched s (call_next (remove id) s)
unfolding remove_of
remove-past s id =
    by-test (eqb (change_of s.link (lent_of s.link.chains (length s.symbols) (section_slots (length s.sections)))).number 0)
    (λ a.
    by-test (leb s.link.symbols id.0) (λ b. rw (a, b) (untouched s)) (λ b. rw (a, b) (removed-past s id (leb-false _ _ b))))
    (λ a. rw a (untouched s))

-- after any call, accepted or refused
pub call-past : (s : State) → Below s → (k : Call) → Untouched s (call_next k s)
call-past s b (add conversion u) =
    by-test (eqb (call_number (add conversion u) s) 0)
    (λ a. subst (λ (o : Left). Untouched s (with_table s o.table)) (sym (add-accepted (table s) conversion u (eqb-true _ _ a))) (put-past s b (upcoming s conversion u)))
    (λ a. subst (Untouched s) (sym (call-refused (add conversion u) s (eqb-false _ _ a))) (untouched s))
call-past s b (intern x) =
    by-test (eqb (call_number (intern x) s) 0)
    (λ a. subst (λ (t : Store). Untouched s (with_store s t)) (sym (intern-accepted (store s) x (eqb-true _ _ a))) (issue-past s b x (id_of s x)))
    (λ a. subst (Untouched s) (sym (call-refused (intern x) s (eqb-false _ _ a))) (untouched s))
call-past s b (remove id) = remove-past s id

-- ---- ids never move

only-append : (n : ℕ) (a b : List Entry) → only n (a ++ b) ≡ only n a ++ only n b
only-append n [] b = refl
only-append n (x ∷ a) b = by-test (eqb x.name n) (λ t. rw t (ap (◌∷◌ x) (only-append n a b))) (λ t. rw t (only-append n a b))

module _ (s t : State) (past more : List Entry) (before : Inv s past) (after : Inv t (past ++ more)) (n : ℕ) (issued : n < s.link.names) where
  bears : (l : List Entry) → only n past ≡ l → global_at s.names n ≢ 0 → Bears t n (global_at s.names n)
  bears [] e z = absurd (z (subst (Held s n) e (before.held_by n issued)))
  bears (x ∷ xs) e z =
      let h : Holds s n x.id (row_after s.link.gabi x.row (rows xs)) = subst (Held s n) e (before.held_by n issued) in
      let q : only n (past ++ more) ≡ x ∷ (xs ++ only n more) = only-append n past more ∙ ap (λ (l : List Entry). l ++ only n more) e in
      let k = resolved t (past ++ more) after n x (xs ++ only n more) q in
      rw h.found (record { found = k.id; present = k.present; name = k.bears })

  pub stays : global_at s.names n ≢ 0 → Bears t n (global_at s.names n)
  stays z = bears (only n past) refl z
