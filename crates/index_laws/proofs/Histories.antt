-- Over every history from a new table: the link with an index runs as the link without one.
-- Assumes nothing.
use Rattle.std.specs.Prelude.{ℕ, ◌/◌, ◌≤◌, ◌≡◌, refl, Bool, List, [], ◌∷◌, eqb, ltb, length}
use Rattle.std.proofs.Common.{arith, sym, ap, subst, ◌∙◌, eq-eqb}
use Rattle.cells.specs.Proof.Split.{by-test}
use Rattle.link.specs.declared.cause.Refusal.{Refusal}
use Rattle.link.specs.Bounds.{lesser, not_lent, name_rows, symbol_rows}
use Rattle.link.specs.Judge.{none, judge_of, judge_sections, judge_names, judge_lists}
use Rattle.link.specs.Proof.Ways as Link
use Rattle.link.specs.Said.{number_in}
use Rattle.interner.specs.Names.{Store}
use Rattle.interner.specs.Calls as Names
use Rattle.interner_laws.specs.Good.{Good}
use Rattle.symbol.specs.Proof.RowLaws.{length-set_row}
use Rattle.symbol_resolution.specs.Holder.{holder_of}
use Rattle.symbols.specs.New.{null_row, null_of, new_of}
use Rattle.symbol_laws.specs.History.{State, opened, store}
use Rattle.symbol_laws.specs.Within.{Within}
use Rattle.symbol_laws.proofs.Within as WithinLaws
use Rattle.symbol_laws.proofs.Within.{Fits}
use Rattle.symbol_laws.proofs.Start.{new-inv}
use Rattle.merge_laws.specs.Calls.{Linked, linked}
use Rattle.merge_laws.proofs.MarkedLemmas.{new-marked}
use Rattle.link_laws.specs.Calls.{Call, get_global, call_left, call_next, run_calls}
use Rattle.link_laws.proofs.LocalRows.{inv-shown}
use Rattle.link_laws.proofs.LookedUp.{inv-ready}
use Rattle.name_index.specs.Index.{Index, index_of, judge_index}
use Rattle.indexed_table.specs.Lookup.{lent, judge_lookup}
use Rattle.indexed_table.specs.Indexed.{change_index, caught_up}
use Rattle.index_laws.specs.Listed.{rows_at}
use Rattle.index_laws.specs.IndexedCalls.{Indexed, indexed, appends, index_refusal, indexed_left, indexed_next, run_indexed, looked_up}
use Rattle.index_laws.proofs.CallsBear.{new-local, new-bears}
use Rattle.index_laws.proofs.Kept.{Kept, kept-next}
use Rattle.index_laws.proofs.Lookup.{answer-is, index-passes}

-- ---- the index's count is never refused

module _ (k : Call) (s : Linked) (x : Index) (met : List (List ℕ)) (g : Kept s x met) where
  counted : judge_index x ≡ none
  counted = index-passes s.table x g.ready.below.few g.listed

  changed : (change_index s.table.link x).number ≡ 0
  unfolding change_index
  changed = by-test s.table.link.broken (λ a. rw a) (λ a. rw a (ap (λ (r : Refusal). r.number) counted))

  passes : (index_refusal k (indexed s x)).number ≡ 0
  passes = by-test (appends k) (λ a. rw a changed) (λ a. rw a)

  pub left-is : indexed_left k (indexed s x) ≡ call_left k s
  left-is = rw (eq-eqb _ _ passes)

  pub next-is : indexed_next k (indexed s x)
      ≡ indexed (call_next k s) (caught_up (rows_at (call_next k s).table) x s.table.link.symbols (call_next k s).table.link.symbols)
  next-is = rw (eq-eqb _ _ passes)

-- ---- every history

-- a link with an index, and the link without one that it is as
pub record After (x : Indexed) (s : Linked) : Type 0 where
  pub same : x ≡ indexed s x.index
  pub met : List (List ℕ)
  pub kept : Kept s x.index met

pub runs : (ks : List Call) (s : Linked) (x : Index) (met : List (List ℕ)) → Kept s x met → After (run_indexed ks (indexed s x)) (run_calls ks s)
runs [] s x met g = record { same = refl; met = met; kept = g }
runs (k ∷ ks) s x met g =
    subst (λ (y : Indexed). After (run_indexed ks y) (run_calls ks (call_next k s))) (sym (next-is k s x met g))
    (runs ks (call_next k s) (caught_up (rows_at (call_next k s).table) x s.table.link.symbols (call_next k s).table.link.symbols) _ (kept-next k s x met g))

-- ---- the lookup's head passes

lesser-most : (a b n : ℕ) → n ≤ a → n ≤ b → n ≤ lesser a b
unfolding lesser
lesser-most a b n h k = by-test (ltb a b) (λ t. rw t h) (λ t. rw t k)

module _ (s : State) (f : Fits s) (w : Within s.link s.names) (names : Good (store s)) where
  sections-judged : none ≡ judge_sections s.link s.link.slots
  sections-judged = Link.sections-fine s.link s.link.slots none _ (omega arith) refl w.sections-in refl

  names-judged : none ≡ judge_names s.link (name_rows (length s.names)) (length s.bytes)
  names-judged = Link.names-fine s.link (name_rows (length s.names)) (length s.bytes) none _ w.chains-lent w.names_in refl names.chained.bytes-in refl

  lists-judged : none ≡ judge_lists s.link not_lent not_lent
  lists-judged =
      Link.lists-fine s.link not_lent not_lent none _ refl (lesser-most 4095 (not_lent / 8) s.link.inputs w.inputs_in (omega (arith, w.inputs_in)))
      w.lists-in refl

  pub lookup-judged : none ≡ judge_of s.link (lent s.link (rows_at s))
  lookup-judged =
      Link.over-rest s.link (lent s.link (rows_at s)) none none _ none sections-judged refl
      refl (lesser-most 65535 (length s.symbols / 8) s.link.symbols f.few (omega (arith, f.room))) names-judged refl lists-judged

module _ (s : Linked) (x : Index) (met : List (List ℕ)) (g : Kept s x met) (w : Within s.table.link s.table.names) (n : ℕ) where
  fits : Fits s.table
  fits = record { few = g.ready.below.few; room = g.ready.room }

  lookup-passes : (judge_lookup s.table.link (rows_at s.table) x).number ≡ 0
  unfolding judge_lookup
  lookup-passes =
      rw (← lookup-judged s.table fits w g.marked.good) (ap (λ (r : Refusal). r.number) (index-passes s.table x g.ready.below.few g.listed))

  pub same-lookup : (looked_up (indexed s x) (record { 0 = n })).answer ≡ call_left (get_global (record { 0 = n })) s
  same-lookup =
      answer-is s.table x g.bears g.shown g.marked.good g.listed n lookup-passes
      ∙ sym (WithinLaws.looked s.table fits w n (holder_of s.table.link s.table.names s.table.symbols (record { 0 = n })) refl)

-- ---- a new table

null-long : (gabi : Bool) (symbols sections : List ℕ) (s : Store) → length (opened (null_of gabi symbols sections s)).symbols ≡ length symbols
unfolding null_of
null-long gabi symbols sections s =
    by-test (eqb s.link.names 0) (λ a. rw a) (λ a. rw a (length-set_row symbols (record { 0 = 0 }) null_row))

new-long : (key : ℕ) (gabi : Bool) (bytes names symbols sections : List ℕ)
    → length (opened (new_of key gabi bytes names symbols sections)).symbols ≡ length symbols
unfolding new_of
new-long key gabi bytes names symbols sections =
    by-test (eqb (symbol_rows (length symbols)) 0) (λ a. rw a) (λ a. rw a (null-long gabi symbols sections (Names.new_of key bytes names).store))

module _ (key : ℕ) (gabi : Bool) (bytes names symbols sections inputs lists places : List ℕ)
    (new : number_in (new_of key gabi bytes names symbols sections).said ≡ 0)
    (each : length symbols / 8 ≤ length places) where
  abbrev start : Linked
  start = linked (opened (new_of key gabi bytes names symbols sections)) inputs lists

  pub start-kept : Kept start (index_of places 0) []
  start-kept =
      let i = new-inv key gabi bytes names symbols sections new in
      record {
        marked = new-marked key gabi bytes names symbols sections new;
        ready = inv-ready start.table [] i;
        shown = inv-shown start.table i;
        bears = new-bears key gabi bytes names symbols sections new;
        listed =
            record {
              room = omega arith;
              few = omega arith;
              counted = λ k h. absurd (omega arith);
              global = λ k h. absurd (omega arith);
              sorted = λ i j a b. absurd (omega (arith, b));
              all = λ j h u. absurd (u (new-local key gabi bytes names symbols sections new j h));
            };
        places = omega (arith, new-long key gabi bytes names symbols sections, each);
      }
