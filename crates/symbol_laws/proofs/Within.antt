-- Counts within their bounds: after direct calls a lookup is never refused with 1.
-- Assumes nothing.
use Rattle.std.specs.Prelude.{ℕ, ◌+◌, ◌-◌, ◌*◌, ◌/◌, ◌<◌, ◌≤◌, ◌≡◌, refl, Bool, true, List, [], ◌∷◌, eqb, ltb, leb, length, ◌≢◌, None, Ok}
use Rattle.std.proofs.Common.{arith, ap, ◌∙◌, length-set}
use Rattle.std.proofs.lemmas.Bool.{false≢true}
use borrow.Author.Tests.{eq-eqb, ne_eqb, ltb-false, eqb-false, lt-leb, le-leb}
use Rattle.cells.specs.Proof.Split.{by-test}
use Rattle.link.specs.declared.Interned.{Interned}
use Rattle.link.specs.declared.SymbolId.{SymbolId}
use Rattle.link.specs.Bounds.{not_lent, lesser, name_rows, name_bytes, symbol_rows}
use Rattle.link.specs.Judge.{none, judge_of, judge_sections, judge_names, judge_lists}
use Rattle.link.specs.Proof.Ways as Link
use Rattle.interner.specs.Names.{Store, store_of, room_of, keep_of}
use Rattle.interner.specs.Calls as Names
use Rattle.symbol.specs.Row.{state_at, symbol_at}
use Rattle.symbol.specs.RowLaws.{symbol_of}
use Rattle.symbol.specs.declared.Row.{Row}
use Rattle.symbol_resolution.specs.Decision.{Decision}
use Rattle.symbol_resolution.specs.declared.rows.Holder.{Holder}
use Rattle.symbol_resolution.specs.declared.rows.Holder.TheVariants.{Nobody, Known}
use Rattle.symbol_resolution.specs.Holder.{holder_of}
use Rattle.symbol_resolution.specs.Apply.{Table, append_of, apply_of, note_name}
use Rattle.symbol_resolution.specs.Proof.Outcomes.{decision-left}
use Rattle.link.specs.Said.{number_in}
use Rattle.link.specs.Counts.{no_names}
use Rattle.interner.specs.Hash.{head_of}
use Rattle.interner_laws.proofs.Written.{linked_long}
use Rattle.interner_laws.proofs.Interns.{cleared-long, keeps}
use Rattle.symbols.specs.Calls.{lent_of}
use Rattle.symbols.specs.Add.{decided_of, add_row_of}
use Rattle.symbols.specs.Proof.AddOutcomes.{added-left}
use Rattle.symbols.specs.New.{null_of, new_of}
use Rattle.symbols.specs.Lookup.{found_at, held_of, not_found, get_of, get_global_of}
use Rattle.symbol_laws.specs.Rank.{first_by_rank, joined_in}
use Rattle.symbol_laws.specs.Standing.{hidden_by}
use Rattle.symbol_laws.proofs.Rows.{means}
use Rattle.symbol_laws.proofs.View.{lesser-first}
use Rattle.symbol_laws.specs.History.{State, table, store, opened, Entry, only, rows, Part, issue, put, id_of, part_next, run_parts, Call, run_calls, RemovesNothing}
use Rattle.symbol_laws.specs.Held.{Inv}
use Rattle.symbol_laws.proofs.Issue.{room-free}
use Rattle.symbol_laws.specs.Calls.{history_parts}
use Rattle.symbol_laws.proofs.Calls.{history-run}
use Rattle.symbol_laws.proofs.Demand.{resolved, holder_known, holder-none}
use Rattle.symbol_laws.specs.Within.{Within}

-- ---- kept by every part

noted-long : (names : List ℕ) (r : Row) (id : ℕ) → length (note_name names r id) ≡ length names
unfolding note_name
noted-long names r id = by-test (eqb r.scope 0) (λ a. rw a) (λ a. rw a (length-set names (r.name.0 * 8 + 3) id))

applied-within : (t : Table) (r : Row) (d : Decision) → Within t.link t.names → Within (apply_of t r d).link (apply_of t r d).names
unfolding append_of
applied-within t r d w =
    decision-left (λ (u : Table). Within u.link u.names) t r w
    (record {
      bytes-in = w.bytes-in;
      sections-in = w.sections-in;
      inputs_in = w.inputs_in;
      lists-in = w.lists-in;
      names_in = w.names_in;
      chains-lent = rw (noted-long t.names r t.link.symbols) w.chains-lent;
    })
    (λ id x. w) d

put-within : (t : Table) (r : Row) → Within t.link t.names → Within (add_row_of t r None).table.link (add_row_of t r None).table.names
put-within t r w = added-left t r None (λ (u : Table). Within u.link u.names) w (applied-within t r (decided_of t r None) w)

room-bytes : (s : Store) (n : ℕ) → room_of s n ≡ true → s.link.bytes + n ≤ 1048576
unfolding room_of
room-bytes s n e =
    by-test (ltb (name_rows (length s.names)) s.link.chains) (λ z. absurd (false≢true (rw z at e)))
    (λ z.
    by-test (leb s.link.chains s.link.names) (λ a. absurd (false≢true (rw (z, a) at e)))
    (λ a.
    by-test (ltb (name_bytes (length s.bytes)) s.link.bytes) (λ b. absurd (false≢true (rw (z, a, b) at e)))
    (λ b.
    by-test (ltb (name_bytes (length s.bytes) - s.link.bytes) n) (λ c. absurd (false≢true (rw (z, a, b, c) at e)))
    (λ c.
    let h : s.link.bytes ≤ lesser 1048576 (length s.bytes) = ltb-false _ _ b in
    let k : n ≤ lesser 1048576 (length s.bytes) - s.link.bytes = ltb-false _ _ c in
    let m : lesser 1048576 (length s.bytes) ≤ 1048576 = lesser-first _ _ in
    omega arith))))

keep-within : (s : Store) (id : Interned) (x : List ℕ) → Within s.link s.names → Within (keep_of s id x).link (keep_of s id x).names
unfolding keep_of
keep-within s id x w =
    by-test (ltb id.0 s.link.names) (λ a. rw a w)
    (λ a.
    by-test (room_of s (length x))
    (λ b.
    rw (a, b)
    (record {
      bytes-in = room-bytes s (length x) b;
      sections-in = w.sections-in;
      inputs_in = w.inputs_in;
      lists-in = w.lists-in;
      names_in = omega (arith, (room-free s (length x) b).free);
      chains-lent = rw (linked_long s.names s.link.names s.link.bytes (length x) (head_of s.link s.names x)) w.chains-lent;
    }))
    (λ b. rw (a, b) w))

pub parts_within : (ps : List Part) (s : State) → Within s.link s.names → Within (run_parts ps s).link (run_parts ps s).names
parts_within [] s w = w
parts_within (issue x ∷ ps) s w = parts_within ps (part_next (issue x) s) (keep-within (store s) (id_of s x) x w)
parts_within (put r from ∷ ps) s w = parts_within ps (part_next (put r from) s) (put-within (table s) r w)

pub calls-within : (ks : List Call) (s : State) → RemovesNothing ks s → Within s.link s.names → Within (run_calls ks s).link (run_calls ks s).names
calls-within ks s q w = rw (history-run ks s q) (parts_within (history_parts ks s) s w)

-- ---- a new table

blank-within : (key : ℕ) (bytes names : List ℕ) → Within (no_names key (name_rows (length names))) (Names.clear_heads names)
blank-within key bytes names =
    record {
      bytes-in = omega arith;
      sections-in = omega arith;
      inputs_in = omega arith;
      lists-in = omega arith;
      names_in = omega arith;
      chains-lent = omega (arith, cleared-long key bytes names);
    }

names-within : (key : ℕ) (bytes names : List ℕ) → (Names.new_of key bytes names).store.link.names ≢ 0
    → Within (Names.new_of key bytes names).store.link (Names.new_of key bytes names).store.names
unfolding Names.new_of
names-within key bytes names z =
    by-test (eqb (name_rows (length names)) 0) (λ b. absurd (z (rw b)))
    (λ b.
    rw b
    (keep-within (store_of bytes (Names.clear_heads names) (no_names key (name_rows (length names)))) (record { 0 = 0 }) [] (blank-within key bytes names)))

null-within : (gabi : Bool) (symbols sections : List ℕ) (s : Store) → s.link.sections ≡ 0 → (s.link.names ≢ 0 → Within s.link s.names) → number_in (null_of gabi symbols sections s).said ≡ 0
    → Within (null_of gabi symbols sections s).table.link (null_of gabi symbols sections s).table.names
unfolding null_of
null-within gabi symbols sections s n f e =
    by-test (eqb s.link.names 0) (λ a. let q : ◌≡◌ {A = ℕ} 2 0 = rw a at e in absurd (omega arith))
    (λ a.
    let w : Within s.link s.names = f (eqb-false _ _ a) in
    rw a
    (record {
      bytes-in = w.bytes-in;
      sections-in = omega (arith, n);
      inputs_in = w.inputs_in;
      lists-in = w.lists-in;
      names_in = w.names_in;
      chains-lent = w.chains-lent;
    }))

no-sections : (key : ℕ) (bytes names : List ℕ) → (Names.new_of key bytes names).store.link.sections ≡ 0
unfolding Names.new_of
no-sections key bytes names =
    by-test (eqb (name_rows (length names)) 0) (λ a. rw a)
    (λ a. rw a (keeps (λ (k : Store). k.link.sections ≡ 0) (store_of bytes (Names.clear_heads names) (no_names key (name_rows (length names)))) (record { 0 = 0 }) [] refl (λ h r. refl)))

pub new-within : (key : ℕ) (gabi : Bool) (bytes names symbols sections : List ℕ) → number_in (new_of key gabi bytes names symbols sections).said ≡ 0
    → Within (opened (new_of key gabi bytes names symbols sections)).link (opened (new_of key gabi bytes names symbols sections)).names
unfolding new_of
new-within key gabi bytes names symbols sections e =
    by-test (eqb (symbol_rows (length symbols)) 0) (λ a. let q : ◌≡◌ {A = ℕ} 2 0 = rw a at e in absurd (omega arith))
    (λ a. rw a (null-within gabi symbols sections (Names.new_of key bytes names).store (no-sections key bytes names) (names-within key bytes names) (rw a at e)))

-- ---- lookups

lesser-most : (a b n : ℕ) → n ≤ a → n ≤ b → n ≤ lesser a b
unfolding lesser
lesser-most a b n h k = by-test (ltb a b) (λ t. rw t h) (λ t. rw t k)

-- the count of symbols is within what is lent
pub record Fits (s : State) : Type 0 where
  pub few : s.link.symbols ≤ 65535
  pub room : s.link.symbols * 8 ≤ length s.symbols

pub inv-fits : (s : State) (past : List Entry) → Inv s past → Fits s
inv-fits s past inv = record { few = inv.few; room = inv.room }

module _ (s : State) (f : Fits s) (w : Within s.link s.names) where
  sections-judged : none ≡ judge_sections s.link s.link.slots
  sections-judged = Link.sections-fine s.link s.link.slots none _ (omega arith) refl w.sections-in refl

  names-judged : none ≡ judge_names s.link (name_rows (length s.names)) not_lent
  names-judged =
      Link.names-fine s.link (name_rows (length s.names)) not_lent none _ w.chains-lent w.names_in
      refl (lesser-most 1048576 not_lent s.link.bytes w.bytes-in (omega (arith, w.bytes-in))) refl

  lists-judged : none ≡ judge_lists s.link not_lent not_lent
  lists-judged =
      Link.lists-fine s.link not_lent not_lent none _ refl (lesser-most 4095 (not_lent / 8) s.link.inputs w.inputs_in (omega (arith, w.inputs_in))) w.lists-in refl

  pub judged : none ≡ judge_of s.link (lent_of (name_rows (length s.names)) (length s.symbols) s.link.slots)
  judged =
      Link.over-rest s.link (lent_of (name_rows (length s.names)) (length s.symbols) s.link.slots) none none _ none sections-judged refl
      refl (lesser-most 65535 (length s.symbols / 8) s.link.symbols f.few (omega (arith, f.room))) names-judged refl lists-judged

  -- a lookup by a name's id is answered from the rows
  pub looked : (n : ℕ) (h : Holder) → holder_of s.link s.names s.symbols (record { 0 = n }) ≡ h → get_global_of s.link s.names s.symbols (record { 0 = n }) ≡ held_of s.symbols (record { 0 = n }) h
  unfolding get_global_of
  looked n h e = simp (← judged, e)

  -- and one by a symbol's id, to which no names are lent
  unlent-judged : none ≡ judge_names s.link s.link.chains not_lent
  unlent-judged =
      Link.names-fine s.link s.link.chains not_lent none _ (omega arith) w.names_in
      refl (lesser-most 1048576 not_lent s.link.bytes w.bytes-in (omega (arith, w.bytes-in))) refl

  symbols-judged : none ≡ judge_of s.link (lent_of s.link.chains (length s.symbols) s.link.slots)
  symbols-judged =
      Link.over-rest s.link (lent_of s.link.chains (length s.symbols) s.link.slots) none none _ none sections-judged refl
      refl (lesser-most 65535 (length s.symbols / 8) s.link.symbols f.few (omega (arith, f.room))) unlent-judged refl lists-judged

  pub got-present : (id : SymbolId) → id.0 < s.link.symbols → state_at s.symbols id.0 ≢ 2 → get_of s.link s.symbols id ≡ Ok (symbol_at s.symbols id)
  unfolding get_of found_at
  got-present id h n = simp (← symbols-judged, lt-leb _ _ h, ne_eqb _ _ n)

  pub got-absent : (id : SymbolId) → s.link.symbols ≤ id.0 → get_of s.link s.symbols id ≡ not_found 21 id.0
  unfolding get_of
  got-absent id h = simp (← symbols-judged, le-leb _ _ h)

  pub got-removed : (id : SymbolId) → state_at s.symbols id.0 ≡ 2 → get_of s.link s.symbols id ≡ not_found 21 id.0
  unfolding get_of found_at
  got-removed id e =
      by-test (leb s.link.symbols id.0) (λ t. simp (← symbols-judged, t)) (λ t. simp (← symbols-judged, t, eq-eqb _ _ e))

module _ (s : State) (past : List Entry) (inv : Inv s past) (w : Within s.link s.names) where
  pub lookup-row : (n : ℕ) (x : Entry) (xs : List Entry) → only n past ≡ x ∷ xs
      → get_global_of s.link s.names s.symbols (record { 0 = n }) ≡ Ok (symbol_of (record { 0 = x.id }) (hidden_by s.link.gabi (rows (x ∷ xs)) (joined_in (rows (x ∷ xs)) (first_by_rank s.link.gabi x.row (rows xs)))))
  lookup-row n x xs e =
      looked s (inv-fits s past inv) w n (Known (record { 0 = x.id })) (holder_known s past inv n x xs e)
      ∙ ap Ok (means s.symbols (record { 0 = x.id }) ∙ ap (symbol_of (record { 0 = x.id })) (resolved s past inv n x xs e).terms)

  pub lookup-none : (n : ℕ) → only n past ≡ [] → get_global_of s.link s.names s.symbols (record { 0 = n }) ≡ not_found 23 0
  lookup-none n e = looked s (inv-fits s past inv) w n Nobody (holder-none s past inv n e)
