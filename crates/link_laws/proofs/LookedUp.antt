-- Lookups over a history: what a symbol's id and a name's bytes give, and that what is removed is never found again.
-- Assumes nothing.
use Rattle.link.specs.declared.cause.Refusal.{Refusal}
use Rattle.gc_sections.specs.declared.Dropped.{Dropped}
use Rattle.std.specs.Prelude.{ℕ, ◌+◌, ◌*◌, ◌/◌, ◌≤◌, ◌<◌, refl, Bool, List, [], ◌∷◌, ◌++◌, ◌≢◌, eqb, leb, length, Option, Result, Ok, Err}
use Rattle.std.proofs.Common.{arith, le_refl, le_trans, sym, ap, subst, ◌∙◌, append-nil, get_or-set_same}
use Rattle.std.proofs.Math.Path.{◌≡◌}
use Rattle.std.proofs.Math.Seq.{get_or-set_other}
use borrow.Author.Tests.{eq-eqb, ne_eqb, eqb-true, eqb-false, lt-leb, leb-false}
use Rattle.cells.specs.Proof.Split.{by-test}
use Rattle.link.specs.declared.Link.{Link}
use Rattle.link.specs.declared.SymbolId.{SymbolId}
use Rattle.link.specs.Judge.{change_of}
use Rattle.link.specs.Bounds.{lesser, symbol_rows, section_slots}
use Rattle.interner.specs.Names.{Store}
use Rattle.interner.specs.Calls as Names
use Rattle.interner_laws.specs.Interns.{id}
use Rattle.symbol.specs.Row.{state_at, symbol_at, set_row}
use Rattle.symbol.specs.RowLaws.{symbol_of}
use Rattle.symbol_resolution.specs.declared.rows.Holder.TheVariants.{Removed}
use Rattle.symbol_resolution.specs.Holder.{global_at, held_by, holder_of}
use Rattle.symbols.specs.Calls.{lent_of}
use Rattle.link.specs.Said.{number_in}
use Rattle.symbols.specs.Lookup.{not_found}
use Rattle.symbols.specs.New.{null_row, null_of, new_of}
use Rattle.symbols.specs.Remove.{Rows, rows_of, remove_row_of, remove_of}
use Rattle.gc_laws.proofs.Terms as CollectionLaws
use Rattle.symbol_laws.specs.History as History
use Rattle.symbol_laws.specs.History.{State, Entry, only, rows, opened}
use Rattle.symbol_laws.specs.Rank.{first_by_rank, joined_in}
use Rattle.symbol_laws.specs.Standing.{hidden_by}
use Rattle.symbol_laws.proofs.Rows.{stored_there}
use Rattle.symbol_laws.proofs.View.{lesser-second}
use Rattle.symbol_laws.specs.Held.{Inv}
use Rattle.symbol_laws.specs.Below.{Below}
use Rattle.symbol_laws.proofs.BelowLemmas.{inv-below}
use Rattle.symbol_laws.proofs.Refused.{remove-link}
use Rattle.symbol_laws.proofs.Within as Within
use Rattle.merge_laws.specs.Steps.{Step, Makes}
use Rattle.merge_laws.specs.Calls.{Linked}
use Rattle.link_laws.specs.Calls.{Call, intern, add, remove, get, get_global, add_group, merge, merge_file, load, collect, plain_collect, lists_in, Drops, call_left, call_number, call_next, run_calls, Removes, RemovesNothing, reads, add_list}
use Rattle.link_laws.proofs.PlainCalls.{Compared, alike, many, compared, many-next}
use Rattle.link_laws.specs.CallSteps.{call_steps}
use Rattle.link_laws.proofs.CallStepsLemmas.{call-makes}
use Rattle.link_laws.proofs.CollectPast.{run_past, remove-past}
use Rattle.link_laws.proofs.Idle.{drops-nothing}
use Rattle.link_laws.specs.Kept.{signatures, Reached}
use Rattle.link_laws.proofs.Kept.{Lasting, lasting-within, lasting-on, reached-within, reached-on}
use Rattle.link_laws.proofs.Removal.{Ready, Onward, steps-onward}

-- from one state to a later one, whatever is removed between them
pub record Later (s t : State) : Type 0 where
  pub ready : Ready t
  pub more : s.link.symbols ≤ t.link.symbols
  pub names_more : s.link.names ≤ t.link.names
  pub named : (n : ℕ) → n < s.link.names → global_at s.names n ≢ 0 → global_at t.names n ≡ global_at s.names n
  pub gone : (i : ℕ) → i < s.link.symbols → state_at s.symbols i ≡ 2 → state_at t.symbols i ≡ 2

onward-later : (s t : State) → Onward s t → Later s t
onward-later s t o =
    record { ready = o.ready; more = o.kept.more; names_more = o.kept.names_more; named = o.kept.named; gone = o.gone }

later-none : (s : State) → Ready s → Later s s
later-none s g = record { ready = g; more = le_refl _; names_more = le_refl _; named = λ n h u. refl; gone = λ i h z. z }

later-both : (s t u : State) → Later s t → Later t u → Later s u
later-both s t u a b =
    record {
      ready = b.ready;
      more = le_trans a.more b.more;
      names_more = le_trans a.names_more b.names_more;
      named = λ n h k. b.named n (omega (arith, h, a.names_more)) (λ z. k (sym (a.named n h k) ∙ z)) ∙ a.named n h k;
      gone = λ i h z. b.gone i (omega (arith, h, a.more)) (a.gone i h z);
    }

-- ---- calls that remove nothing

makes-onward : (s t : State) (ks : List Step) → Ready s → Makes s ks t → Onward s t
makes-onward s t ks g m = subst (Onward s) m.leads (steps-onward ks s g)

pub call-onward : (k : Call) (s : Linked) → (Removes k s → ⊥) → Ready s.table → Onward s.table (call_next k s).table
call-onward k s q g = makes-onward s.table (call_next k s).table (call_steps k s) g (call-makes k s q)

-- so no row of theirs is removed
pub calls-whole : (ks : List Call) (s : Linked) → RemovesNothing ks s → Ready s.table → ((i : ℕ) → i < s.table.link.symbols → state_at s.table.symbols i ≢ 2)
    → (i : ℕ) → i < (run_calls ks s).table.link.symbols → state_at (run_calls ks s).table.symbols i ≢ 2
calls-whole [] s q g w = w
calls-whole (k ∷ ks) s q g w =
    let o = call-onward k s q.0 g in
    calls-whole ks (call_next k s) q.1 o.ready (o.kept.whole w)

-- ---- a remove

module _ (s : State) (g : Ready s) (id : SymbolId) where
  abbrev x : Rows
  x = rows_of s.symbols s.sections

  row-gone : (i : ℕ) → i < s.link.symbols → state_at s.symbols i ≡ 2 → state_at (remove_row_of s.link x id).symbols i ≡ 2
  unfolding remove_row_of
  row-gone i h z =
      by-test (eqb (state_at s.symbols id.0) 2) (λ a. rw a z)
      (λ a.
      rw a
      (by-test (eqb i id.0)
      (λ e. let k : i ≡ id.0 = eqb-true _ _ e in rw k (get_or-set_same s.symbols (id.0 * 8 + 0) 2 0 (omega (arith, g.room, h, k))))
      (λ e. get_or-set_other s.symbols (id.0 * 8 + 0) (i * 8 + 0) 2 0 (λ d. eqb-false i id.0 e (omega (arith, d))) ∙ z)))

  row-removed : id.0 < s.link.symbols → state_at (remove_row_of s.link x id).symbols id.0 ≡ 2
  unfolding remove_row_of
  row-removed h =
      by-test (eqb (state_at s.symbols id.0) 2) (λ a. rw a (eqb-true _ _ a))
      (λ a. rw a (get_or-set_same s.symbols (id.0 * 8 + 0) 2 0 (omega (arith, g.room, h))))

  remove-gone : (i : ℕ) → i < s.link.symbols → state_at s.symbols i ≡ 2 → state_at (remove_of s.link x id).rows.symbols i ≡ 2
  unfolding remove_of
  remove-gone i h z =
      by-test (eqb (change_of s.link (lent_of s.link.chains (length s.symbols) (section_slots (length s.sections)))).number 0)
      (λ a. by-test (leb s.link.symbols id.0) (λ b. rw (a, b) z) (λ b. rw (a, b) (row-gone i h z))) (λ a. rw a z)

  -- an accepted one removes the row, which is counted
  accepted-removes : number_in (remove_of s.link x id).said ≡ 0
      → (id.0 < s.link.symbols) × (state_at (remove_of s.link x id).rows.symbols id.0 ≡ 2)
  unfolding remove_of
  accepted-removes e =
      by-test (eqb (change_of s.link (lent_of s.link.chains (length s.symbols) (section_slots (length s.sections)))).number 0)
      (λ a.
      by-test (leb s.link.symbols id.0) (λ b. let q : ◌≡◌ {A = ℕ} 21 0 = rw (a, b) at e in absurd (omega arith))
      (λ b. let h = leb-false _ _ b in (h, rw (a, b) (row-removed h))))
      (λ a. absurd (eqb-false _ _ a (rw a at e)))

  remove-later : Later s (History.call_next (History.remove id) s)
  remove-later =
      let l = remove-link s.link x id in
      let p = remove-past s id in
      record {
        ready =
            record {
              below = subst (λ (k : Link). Below (record { bytes = s.bytes; names = s.names; symbols = (remove_of s.link x id).rows.symbols; sections = (remove_of s.link x id).rows.sections; link = k })) (sym l)
                  (record { few = g.below.few; held = g.below.held });
              room = rw l (omega (arith, g.room, p.symbols-long));
            };
        more = rw l (le_refl _);
        names_more = rw l (le_refl _);
        named = λ n h u. refl;
        gone = remove-gone;
      }

-- ---- a collection

module _ (s : Linked) (g : Ready s.table) (marks : List ℕ) (entry : Option SymbolId) (work : List ℕ) where
  abbrev on : State
  on = (call_next (collect marks entry work) s).table

  abbrev answer : Result Dropped Refusal
  answer = (call_left (collect marks entry work) s).answer

  collect-gone : (a : Result Dropped Refusal) → answer ≡ a → (i : ℕ) → state_at s.table.symbols i ≡ 2 → state_at on.symbols i ≡ 2
  collect-gone (Ok o) e i z =
      (CollectionLaws.removes s.table.link (lists_in s marks) s.table.symbols s.table.sections entry work o.sections o.symbols e).stays i 0 (omega arith)
      (λ f y m q. absurd (m.present z)) ∙ z
  collect-gone (Err r) e i z =
      subst (λ (t : Linked). state_at t.table.symbols i ≡ 2) (sym (drops-nothing marks entry work s (λ (d : Drops answer). subst Drops e d))) z

  collect-later : Later s.table on
  collect-later =
      let p = run_past s.table.link s.table.symbols s.table.sections (lists_in s marks) entry work in
      let l = p.link in
      record {
        ready =
            record {
              below = subst (λ (k : Link). Below (record { bytes = s.table.bytes; names = s.table.names; symbols = on.symbols; sections = on.sections; link = k })) (sym l)
                  (record { few = g.below.few; held = g.below.held });
              room = rw l (omega (arith, g.room, p.symbols-long));
            };
        more = rw l (le_refl _);
        names_more = rw l (le_refl _);
        named = λ n h u. refl;
        gone = λ i h z. collect-gone answer refl i z;
      }

-- ---- any calls

quiet-later : (k : Call) (s : Linked) → (Removes k s → ⊥) → Ready s.table → Later s.table (call_next k s).table
quiet-later k s q g = onward-later s.table (call_next k s).table (call-onward k s q g)

call-later : (k : Call) (s : Linked) → Ready s.table → Later s.table (call_next k s).table
call-later (intern x) s g = quiet-later (intern x) s (λ (e : ⊥). e) g
call-later (reads k) s g = later-none s.table g
call-later (add conversion u) s g = quiet-later (add conversion u) s (λ (e : ⊥). e) g
call-later (add_list conversion adds ids) s g = quiet-later (add_list conversion adds ids) s (λ (e : ⊥). e) g
call-later (remove id) s g = remove-later s.table g id
call-later (add_group o work n) s g = quiet-later (add_group o work n) s (λ (e : ⊥). e) g
call-later (merge o work ids) s g = quiet-later (merge o work ids) s (λ (e : ⊥). e) g
call-later (merge_file file cells work ids) s g = quiet-later (merge_file file cells work ids) s (λ (e : ⊥). e) g
call-later (load o marks) s g = quiet-later (load o marks) s (λ (e : ⊥). e) g
call-later (collect marks entry work) s g = collect-later s g marks entry work
call-later (plain_collect marks entry work) s g = go (compared marks entry work s)
  where
    go : Compared marks entry work s → Later s.table (call_next (plain_collect marks entry work) s).table
    go (alike r t a) = subst (λ (x : Linked). Later s.table x.table) (sym t) (collect-later s g marks entry work)
    go (many m u v e) = subst (λ (x : Linked). Later s.table x.table) (sym (many-next marks entry work s e)) (later-none s.table g)

pub calls-later : (ks : List Call) (s : Linked) → Ready s.table → Later s.table (run_calls ks s).table
calls-later [] s g = later-none s.table g
calls-later (k ∷ ks) s g =
    let a = call-later k s g in
    later-both s.table (call_next k s).table (run_calls ks (call_next k s)).table a (calls-later ks (call_next k s) a.ready)

pub inv-ready : (s : State) (past : List Entry) → Inv s past → Ready s
inv-ready s past inv = record { below = inv-below s past inv; room = inv.room }

-- ---- lookups of a link, whatever was removed from it

holder-at : (s : Linked) (n : ℕ) → n < s.table.link.names → global_at s.table.names n ≢ 0 → global_at s.table.names n < s.table.link.symbols
    → state_at s.table.symbols (global_at s.table.names n) ≡ 2 → holder_of s.table.link s.table.names s.table.symbols (record { 0 = n }) ≡ Removed
unfolding holder_of held_by
holder-at s n h u l z = rw (lt-leb _ _ h, ne_eqb _ _ u, lt-leb _ _ l, eq-eqb _ _ z)

module _ (s : Linked) (met : List (List ℕ)) (k : Lasting s met) (g : Ready s.table) where
  fits : Within.Fits s.table
  fits = record { few = g.below.few; room = g.room }

  pub got-absent : (id : SymbolId) → s.table.link.symbols ≤ id.0 → call_left (get id) s ≡ not_found 21 id.0
  got-absent = Within.got-absent s.table fits (lasting-within s met k)

  pub got-removed : (id : SymbolId) → state_at s.table.symbols id.0 ≡ 2 → call_left (get id) s ≡ not_found 21 id.0
  got-removed = Within.got-removed s.table fits (lasting-within s met k)

  pub got-present : (id : SymbolId) → id.0 < s.table.link.symbols → state_at s.table.symbols id.0 ≢ 2
      → call_left (get id) s ≡ Ok (symbol_at s.table.symbols id)
  got-present = Within.got-present s.table fits (lasting-within s met k)

  -- the accepted remove of a row, then any calls: its id isn't found, nor is its name
  module _ (id : SymbolId) (ok : call_number (remove id) s ≡ 0) (ls : List Call) where
    abbrev then : Linked
    then = run_calls ls (call_next (remove id) s)

    stays : Later (call_next (remove id) s).table then.table
    stays = calls-later ls (call_next (remove id) s) (call-later (remove id) s g).ready

    removed : (id.0 < s.table.link.symbols) × (state_at (call_next (remove id) s).table.symbols id.0 ≡ 2)
    removed = accepted-removes s.table g id ok

    then-lasting : Lasting then (met ++ signatures (remove id ∷ ls) s)
    then-lasting = lasting-on (remove id ∷ ls) s met k

    still-gone : state_at then.table.symbols id.0 ≡ 2
    still-gone = stays.gone id.0 (omega (arith, removed.0, (call-later (remove id) s g).more)) removed.1

    pub removed-got : call_left (get id) then ≡ not_found 21 id.0
    removed-got =
        Within.got-removed then.table
        (record { few = stays.ready.below.few; room = stays.ready.room })
        (lasting-within then _ then-lasting) id still-gone

    pub removed-global : (n : ℕ) → n < s.table.link.names → global_at s.table.names n ≡ id.0 → id.0 ≢ 0 → call_left (get_global (record { 0 = n })) then ≡ not_found 21 n
    removed-global n h e u =
        let a : Later s.table then.table = later-both s.table (call_next (remove id) s).table then.table (call-later (remove id) s g) stays in
        let ne : global_at s.table.names n ≢ 0 = λ z. u (sym e ∙ z) in
        let same : global_at then.table.names n ≡ id.0 = a.named n h ne ∙ e in
        let z : state_at then.table.symbols (global_at then.table.names n) ≡ 2 = subst (λ (i : ℕ). state_at then.table.symbols i ≡ 2) (sym same) still-gone in
        let low : n < then.table.link.names = omega (arith, h, a.names_more) in
        Within.looked then.table
        (record { few = stays.ready.below.few; room = stays.ready.room })
        (lasting-within then _ then-lasting) n Removed
        (holder-at then n low (λ q. u (sym same ∙ q)) (stays.ready.below.held n low (λ q. u (sym same ∙ q))) z)

-- ---- by a name's bytes: an intern, then the lookup by the id that it answers

module _ (s : Linked) (past : List Entry) (met : List (List ℕ)) (g : Reached s past met) (b : List ℕ) where
  abbrev id_now : ℕ
  id_now = id (call_left (intern b) s)

  interned : Reached (call_next (intern b) s) (past ++ []) (met ++ signatures (intern b ∷ []) s)
  interned = reached-on (intern b ∷ []) s past met ((λ (e : ⊥). e), tt) g

  pub interned-row : (x : Entry) (xs : List Entry) → only id_now past ≡ x ∷ xs
      → call_left (get_global (record { 0 = id_now })) (call_next (intern b) s)
      ≡ Ok (symbol_of (record { 0 = x.id }) (hidden_by (call_next (intern b) s).table.link.gabi (rows (x ∷ xs)) (joined_in (rows (x ∷ xs)) (first_by_rank (call_next (intern b) s).table.link.gabi x.row (rows xs)))))
  interned-row x xs e =
      Within.lookup-row (call_next (intern b) s).table (past ++ []) interned.held (reached-within (call_next (intern b) s) _ _ interned) id_now x xs
      (ap (only id_now) (append-nil past) ∙ e)

  pub interned-none : only id_now past ≡ [] → call_left (get_global (record { 0 = id_now })) (call_next (intern b) s) ≡ not_found 23 0
  interned-none e =
      Within.lookup-none (call_next (intern b) s).table (past ++ []) interned.held (reached-within (call_next (intern b) s) _ _ interned) id_now
      (ap (only id_now) (append-nil past) ∙ e)

-- ---- a new table has its null row alone, present

null-whole : (gabi : Bool) (symbols sections : List ℕ) (s : Store) → symbol_rows (length symbols) ≢ 0 → number_in (null_of gabi symbols sections s).said ≡ 0
    → (i : ℕ) → i < (opened (null_of gabi symbols sections s)).link.symbols → state_at (opened (null_of gabi symbols sections s)).symbols i ≢ 2
unfolding null_of
null-whole gabi symbols sections s some e =
    by-test (eqb s.link.names 0) (λ a. let q : ◌≡◌ {A = ℕ} 2 0 = rw a at e in absurd (omega arith))
    (λ a.
    rw a
    (λ i h d.
    let k : i ≡ 0 = omega (arith, h) in
    let m : lesser 65535 (length symbols / 8) ≤ length symbols / 8 = lesser-second 65535 _ in
    let q : state_at (set_row symbols (record { 0 = 0 }) null_row) i ≡ 1 = rw k (stored_there symbols (record { 0 = 0 }) null_row (omega (arith, some, m))) in
    omega (arith, q, d)))

pub new-whole : (key : ℕ) (gabi : Bool) (bytes names symbols sections : List ℕ) → number_in (new_of key gabi bytes names symbols sections).said ≡ 0
    → (i : ℕ) → i < (opened (new_of key gabi bytes names symbols sections)).link.symbols → state_at (opened (new_of key gabi bytes names symbols sections)).symbols i ≢ 2
unfolding new_of
new-whole key gabi bytes names symbols sections e =
    by-test (eqb (symbol_rows (length symbols)) 0) (λ a. let q : ◌≡◌ {A = ℕ} 2 0 = rw a at e in absurd (omega arith))
    (λ a. rw a (null-whole gabi symbols sections (Names.new_of key bytes names).store (eqb-false _ _ a) (rw a at e)))
