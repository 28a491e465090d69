-- That a name's symbol bears the name and a row that isn't local is its name's symbol: kept by every call, those that remove too; and so in a new table.
-- Assumes nothing.
use Rattle.gc_sections.specs.declared.Dropped.{Dropped}
use Rattle.link.specs.declared.cause.Refusal.{Refusal}
use Rattle.std.specs.Prelude.{ℕ, ◌+◌, ◌*◌, ◌/◌, ◌≤◌, ◌<◌, refl, Bool, List, [], ◌∷◌, ◌++◌, ◌≢◌, eqb, leb, length, Option, Result, Ok, Err}
use Rattle.std.proofs.Common.{arith, sym, ap, subst, ◌∙◌, get_or-set_other}
use Rattle.std.proofs.Math.Path.{◌≡◌}
use borrow.Author.Tests.{eqb-false}
use Rattle.cells.specs.Proof.Split.{by-test}
use Rattle.link.specs.declared.SymbolId.{SymbolId}
use Rattle.link.specs.declared.Link.{Link}
use Rattle.link.specs.Judge.{change_of}
use Rattle.link.specs.Bounds.{lesser, symbol_rows, section_slots}
use Rattle.link.specs.Said.{number_in}
use Rattle.interner.specs.Names.{Store}
use Rattle.interner.specs.Calls as Names
use Rattle.symbol.specs.Layout.{scope_in}
use Rattle.symbol.specs.Row.{field, state_at, scope_at}
use Rattle.symbol.specs.Proof.RowLaws.{field-same, scope-back}
use Rattle.symbols.specs.Calls.{lent_of}
use Rattle.symbols.specs.New.{null_row, null_of, new_of}
use Rattle.symbols.specs.Remove.{Rows, rows_of, remove_row_of, remove_of}
use Rattle.gc_laws.proofs.Terms as CollectionLaws
use Rattle.symbol_laws.specs.History as History
use Rattle.symbol_laws.specs.History.{State, opened}
use Rattle.symbol_laws.proofs.Refused.{remove-link}
use Rattle.symbol_laws.proofs.View.{lesser-second}
use Rattle.symbol_laws.proofs.Start.{new-inv}
use Rattle.merge_laws.specs.Marked.{Marked}
use Rattle.merge_laws.specs.Calls.{Linked}
use Rattle.link_laws.specs.Calls.{Call, intern, add, remove, add_group, merge, merge_file, load, collect, plain_collect, lists_in, Drops, call_left}
use Rattle.link_laws.specs.Calls.{call_next, run_calls, Removes, reads, add_list}
use Rattle.link_laws.specs.CallSteps.{call_steps}
use Rattle.link_laws.specs.Kept.{signatures}
use Rattle.link_laws.proofs.Kept.{calls-marked}
use Rattle.link_laws.proofs.PlainCalls.{Compared, alike, many, compared, many-drops}
use Rattle.link_laws.proofs.CallStepsLemmas.{call-makes}
use Rattle.link_laws.proofs.CollectPast.{run_past}
use Rattle.link_laws.proofs.Idle.{drops-nothing}
use Rattle.link_laws.proofs.Removal.{Ready}
use Rattle.link_laws.proofs.LookedUp.{calls-later}
use Rattle.index_laws.specs.Bearing.{Bears}
use Rattle.index_laws.proofs.Bearing.{Alike, bears-alike, steps-bear}

-- ---- a remove

module _ (s : State) (id : SymbolId) where
  abbrev x : Rows
  x = rows_of s.symbols s.sections

  remove-cell : (i f : ℕ) → f ≢ 0 → f < 8 → field (remove_of s.link x id).rows.symbols i f ≡ field s.symbols i f
  unfolding remove_of remove_row_of
  remove-cell i f u h =
      by-test (eqb (change_of s.link (lent_of s.link.chains (length s.symbols) (section_slots (length s.sections)))).number 0)
      (λ a.
      by-test (leb s.link.symbols id.0) (λ b. rw (a, b))
      (λ b.
      by-test (eqb (state_at s.symbols id.0) 2) (λ c. rw (a, b, c))
      (λ c. rw (a, b, c) (get_or-set_other s.symbols (id.0 * 8 + 0) (i * 8 + f) 2 0 (λ d. u (omega (arith, d, h)))))))
      (λ a. rw a)

  remove-alike : Alike s (History.call_next (History.remove id) s)
  remove-alike =
      let l = remove-link s.link x id in
      record {
        names = ap (λ (k : Link). k.names) l;
        symbols = ap (λ (k : Link). k.symbols) l;
        global = λ n. refl;
        name = λ i. remove-cell i 1 (λ z. omega arith) (omega arith);
        scope = λ i. ap scope_in (remove-cell i 4 (λ z. omega arith) (omega arith));
      }

-- ---- a collection

module _ (s : Linked) (marks : List ℕ) (entry : Option SymbolId) (work : List ℕ) where
  abbrev after : State
  after = (call_next (collect marks entry work) s).table

  collect-cell : (a : Result Dropped Refusal) → (call_left (collect marks entry work) s).answer ≡ a → (i f : ℕ) → f ≢ 0 → f < 8
      → field after.symbols i f ≡ field s.table.symbols i f
  collect-cell (Ok o) e i f u h =
      (CollectionLaws.removes s.table.link (lists_in s marks) s.table.symbols s.table.sections entry work o.sections o.symbols e).stays i f h
      (λ z. absurd (u z))
  collect-cell (Err r) e i f u h =
      ap (λ (t : Linked). field t.table.symbols i f)
      (drops-nothing marks entry work s (λ (d : Drops (call_left (collect marks entry work) s).answer). subst Drops e d))

  collect-alike : Alike s.table after
  collect-alike =
      let l = (run_past s.table.link s.table.symbols s.table.sections (lists_in s marks) entry work).link in
      let cell = collect-cell (call_left (collect marks entry work) s).answer refl in
      record {
        names = ap (λ (k : Link). k.names) l;
        symbols = ap (λ (k : Link). k.symbols) l;
        global = λ n. refl;
        name = λ i. cell i 1 (λ z. omega arith) (omega arith);
        scope = λ i. ap scope_in (cell i 4 (λ z. omega arith) (omega arith));
      }

-- ---- any call

call-bears : (k : Call) (s : Linked) (met : List (List ℕ)) → Marked s.table met → Ready s.table → Bears s.table → Bears (call_next k s).table
call-bears k s met m g b = go k
  where
    quiet : (k : Call) → (Removes k s → ⊥) → Bears (call_next k s).table
    quiet k q = let c = call-makes k s q in subst Bears c.leads (steps-bear (call_steps k s) s.table met c.accepted m g b)

    collected : (marks : List ℕ) (entry : Option SymbolId) (work : List ℕ) → Bears (call_next (collect marks entry work) s).table
    collected marks entry work = bears-alike s.table (call_next (collect marks entry work) s).table (collect-alike s marks entry work) b

    plain : (marks : List ℕ) (entry : Option SymbolId) (work : List ℕ) → Compared marks entry work s
        → Bears (call_next (plain_collect marks entry work) s).table
    plain marks entry work (alike r t a) = subst (λ (x : Linked). Bears x.table) (sym t) (collected marks entry work)
    plain marks entry work (many m u v e) = quiet (plain_collect marks entry work) (λ d. many-drops marks entry work s e d)

    go : (k : Call) → Bears (call_next k s).table
    go (intern x) = quiet (intern x) (λ (e : ⊥). e)
    go (reads k) = quiet (reads k) (λ (e : ⊥). e)
    go (add conversion u) = quiet (add conversion u) (λ (e : ⊥). e)
    go (add_list conversion adds ids) = quiet (add_list conversion adds ids) (λ (e : ⊥). e)
    go (remove id) = bears-alike s.table (call_next (remove id) s).table (remove-alike s.table id) b
    go (add_group o work n) = quiet (add_group o work n) (λ (e : ⊥). e)
    go (merge o work ids) = quiet (merge o work ids) (λ (e : ⊥). e)
    go (merge_file file cells work ids) = quiet (merge_file file cells work ids) (λ (e : ⊥). e)
    go (load o marks) = quiet (load o marks) (λ (e : ⊥). e)
    go (collect marks entry work) = collected marks entry work
    go (plain_collect marks entry work) = plain marks entry work (compared marks entry work s)

pub calls-bear : (ks : List Call) (s : Linked) (met : List (List ℕ)) → Marked s.table met → Ready s.table → Bears s.table → Bears (run_calls ks s).table
calls-bear [] s met m g b = b
calls-bear (k ∷ ks) s met m g b =
    calls-bear ks (call_next k s) (met ++ signatures (k ∷ []) s) (calls-marked (k ∷ []) s met m) (calls-later (k ∷ []) s g).ready (call-bears k s met m g b)

-- ---- a new table: its null row is local, and no name has a symbol

null-local : (gabi : Bool) (symbols sections : List ℕ) (s : Store) → symbol_rows (length symbols) ≢ 0 → number_in (null_of gabi symbols sections s).said ≡ 0
    → (i : ℕ) → i < (opened (null_of gabi symbols sections s)).link.symbols → scope_at (opened (null_of gabi symbols sections s)).symbols i ≡ 0
unfolding null_of
null-local gabi symbols sections s some e =
    by-test (eqb s.link.names 0) (λ a. let q : ◌≡◌ {A = ℕ} 2 0 = rw a at e in absurd (omega arith))
    (λ a.
    rw a
    (λ i h.
    let k : i ≡ 0 = omega (arith, h) in
    let m : lesser 65535 (length symbols / 8) ≤ length symbols / 8 = lesser-second 65535 _ in
    rw k (ap scope_in (field-same symbols (record { 0 = 0 }) null_row 4 (omega arith) (omega (arith, some, m))) ∙ scope-back 0 0 (omega arith))))

pub new-local : (key : ℕ) (gabi : Bool) (bytes names symbols sections : List ℕ) → number_in (new_of key gabi bytes names symbols sections).said ≡ 0
    → (i : ℕ) → i < (opened (new_of key gabi bytes names symbols sections)).link.symbols
    → scope_at (opened (new_of key gabi bytes names symbols sections)).symbols i ≡ 0
unfolding new_of
new-local key gabi bytes names symbols sections e =
    by-test (eqb (symbol_rows (length symbols)) 0) (λ a. let q : ◌≡◌ {A = ℕ} 2 0 = rw a at e in absurd (omega arith))
    (λ a. rw a (null-local gabi symbols sections (Names.new_of key bytes names).store (eqb-false _ _ a) (rw a at e)))

pub new-bears : (key : ℕ) (gabi : Bool) (bytes names symbols sections : List ℕ) → number_in (new_of key gabi bytes names symbols sections).said ≡ 0
    → Bears (opened (new_of key gabi bytes names symbols sections))
new-bears key gabi bytes names symbols sections e =
    let i = new-inv key gabi bytes names symbols sections e in
    record {
      some = λ z. omega (arith, i.some, z);
      named = λ n h u. absurd (u (i.held_by n h));
      borne = λ j h u. absurd (u (new-local key gabi bytes names symbols sections e j h));
    }
