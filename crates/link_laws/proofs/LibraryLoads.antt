-- Laws of the definitions of LibraryLoads.antt.
-- Assumes nothing.
use Rattle.std.specs.Prelude.{ℕ, ◌+◌, ◌*◌, ◌<◌, ◌≤◌, ◌≡◌, refl, Bool, true, false, List, [], ◌∷◌, eqb, ltb, get_or, length}
use Rattle.std.proofs.Common.{arith, sym, ap, subst, ltb-true, ltb-false}
use Rattle.std.proofs.lemmas.Bool.{false≢true}
use Rattle.cells.specs.Proof.Split.{by-test}
use Rattle.link.specs.Bounds.{not_lent, name_rows, symbol_rows}
use Rattle.interner.specs.Names.{Store}
use Rattle.interner.specs.Calls as Names
use Rattle.symbols.specs.New.{null_of, new_of}
use Rattle.symbols.specs.Remove.{rows_of}
use Rattle.shared_objects.specs.Need.{input_kind_at}
use Rattle.merge_stages.specs.Stages as Stages
use Rattle.shared_objects.specs.Load as Shared
use Rattle.load_laws.specs.Needed.{library_kind}
use Rattle.symbol_laws.specs.History as History
use Rattle.symbol_laws.proofs.Refused.{remove-link}
use Rattle.merge_laws.proofs.Lists.{keep-inputs}
use Rattle.merge_laws.specs.Calls.{Linked, all_in}
use Rattle.link_laws.specs.Calls.{Call, intern, add, remove, add_group, merge, merge_file, load, collect, plain_collect, library_in, lists_in, call_left, call_next, run_calls, is_read, reads, add_list}
use Rattle.link_laws.proofs.PlainCalls.{plain-link}
use Rattle.elf_laws.specs.Object as ElfFile
use Rattle.link_laws.proofs.FileCall.{next-read, next-unread}
use Rattle.link_laws.specs.Leaves.{by_elements}
use Rattle.link_laws.proofs.Lists.{direct-count, call-listed, list_count}
use Rattle.link_laws.proofs.CollectPast.{run_past}
use Rattle.link_laws.proofs.CallSteps.{group-count}
use Rattle.link_laws.proofs.InputRows.{Took, none, one, merge-took, LoadTook, load-took}
use Rattle.link_laws.proofs.InputRows as InputRows
use Rattle.link_laws.proofs.Libraries.{stay_all}
use Rattle.link_laws.specs.LibraryLoads.{inputs, count, LoadedAt, later}

direct : (k : History.Call) (s : Linked) → (History.Removes k s.table → ⊥) → count (History.call_next k s.table).link ≡ inputs s
direct k s = direct-count count keep-inputs (λ l n. refl) k s.table

-- only merges and loads take a row
other-count : (c : Call) (s : Linked) → by_elements c ≡ false → inputs (call_next c s) ≡ inputs s
other-count (intern x) s e = direct (History.intern x) s (λ (z : ⊥). z)
other-count (reads k) s e = refl
other-count (add conversion u) s e = direct (History.add conversion u) s (λ (z : ⊥). z)
other-count (add_list conversion adds ids) s e = list_count count keep-inputs (λ l n. refl) conversion adds ids s
other-count (remove id) s e = ap count (remove-link s.table.link (rows_of s.table.symbols s.table.sections) id)
other-count (add_group o work n) s e = group-count o s.table work n count keep-inputs
other-count (merge o work ids) s e = absurd (false≢true (sym e))
other-count (merge_file file cells work ids) s e = absurd (false≢true (sym e))
other-count (load o marks) s e = absurd (false≢true (sym e))
other-count (collect marks entry work) s e =
    ap count (run_past s.table.link s.table.symbols s.table.sections (lists_in s marks) entry work).link
other-count (plain_collect marks entry work) s e = ap count (plain-link marks entry work s)

module _ (k : ℕ) (cs : List Call) (s : Linked) (fresh : inputs s ≤ k) where
  -- a call that took row k, of kind library at the end
  unchanged : (c : Call) → inputs (call_next c s) ≡ inputs s → k < inputs (call_next c s) → ⊥
  unchanged c e h = omega (arith, fresh)

  by-object : (o : Stages.Object) (work ids : List ℕ) → length (call_next (merge o work ids) s).lists ≤ not_lent
      → k < inputs (call_next (merge o work ids) s) → input_kind_at (run_calls cs (call_next (merge o work ids) s)).inputs k ≡ library_kind → ⊥
  by-object o work ids n h e = go (merge-took o (all_in s work ids))
    where
      t : Linked
      t = call_next (merge o work ids) s

      go : Took 1 (call_left (merge o work ids) s).said.number s.table.link t.inputs t.table.link → ⊥
      go (none f) = unchanged (merge o work ids) f h
      go (one z f g) =
          let p : k ≡ inputs s = omega (arith, fresh) in
          let q : get_or (run_calls cs t).inputs (k * 8 + 0) 0 ≡ get_or t.inputs (k * 8 + 0) 0 = (stay_all cs t n).inputs-same (k * 8 + 0) (omega arith) in
          let r : get_or t.inputs (k * 8 + 0) 0 ≡ 1 = rw p g in
          omega arith

  by-file-object : (file cells work ids : List ℕ) → length (call_next (merge_file file cells work ids) s).lists ≤ not_lent
      → k < inputs (call_next (merge_file file cells work ids) s) → input_kind_at (run_calls cs (call_next (merge_file file cells work ids) s)).inputs k ≡ library_kind → ⊥
  by-file-object file cells work ids n h e =
      by-test (is_read file cells s)
      (λ t.
      let q = next-read file cells work ids s t in
      by-object (ElfFile.rows_of file) work ids (subst (λ (u : Linked). length u.lists ≤ not_lent) q n) (subst (λ (u : Linked). k < inputs u) q h)
      (subst (λ (u : Linked). input_kind_at (run_calls cs u).inputs k ≡ library_kind) q e))
      (λ t. unchanged (merge_file file cells work ids) (ap inputs (next-unread file cells work ids s t)) h)

  by-load : (o : Shared.Input) (marks : List ℕ) → k < inputs (call_next (load o marks) s) → LoadedAt k (load o marks ∷ cs) s
  by-load o marks h = go (load-took o (library_in s marks))
    where
      go : LoadTook s.table.link (call_left (load o marks) s) → LoadedAt k (load o marks ∷ cs) s
      go (InputRows.none f) = absurd (unchanged (load o marks) f h)
      go (InputRows.one z f) =
          record { before = []; library = o; marks = marks; behind = cs; split = refl; loaded = z; place = omega (arith, fresh) }

  here : (c : Call) → length (call_next c s).lists ≤ not_lent → k < inputs (call_next c s) → input_kind_at (run_calls cs (call_next c s)).inputs k ≡ library_kind
      → LoadedAt k (c ∷ cs) s
  here c n h e = by-test (by_elements c) (λ t. element c t n h e) (λ t. absurd (unchanged c (other-count c s t) h))
    where
      element : (c : Call) → by_elements c ≡ true → length (call_next c s).lists ≤ not_lent → k < inputs (call_next c s)
          → input_kind_at (run_calls cs (call_next c s)).inputs k ≡ library_kind → LoadedAt k (c ∷ cs) s
      element (intern x) t n h e = absurd (false≢true t)
      element (reads k) t n h e = absurd (false≢true t)
      element (add conversion u) t n h e = absurd (false≢true t)
      element (add_list conversion adds ids) t n h e = absurd (false≢true t)
      element (remove id) t n h e = absurd (false≢true t)
      element (add_group o work m) t n h e = absurd (false≢true t)
      element (merge o work ids) t n h e = absurd (by-object o work ids n h e)
      element (merge_file file cells work ids) t n h e = absurd (by-file-object file cells work ids n h e)
      element (load o marks) t n h e = by-load o marks h
      element (collect marks entry work) t n h e = absurd (false≢true t)
      element (plain_collect marks entry work) t n h e = absurd (false≢true t)

-- a lent list has fewer than 2^64 cells
pub from-loads : (ks : List Call) (s : Linked) → length s.lists ≤ not_lent → (k : ℕ) → inputs s ≤ k → k < inputs (run_calls ks s)
    → input_kind_at (run_calls ks s).inputs k ≡ library_kind → LoadedAt k ks s
from-loads [] s n k h g e = absurd (omega (arith, h, g))
from-loads (c ∷ cs) s n k h g e =
    let m : length (call_next c s).lists ≤ not_lent = omega (arith, (call-listed c s n).lists.long) in
    by-test (ltb k (inputs (call_next c s))) (λ t. here k cs s h c m (ltb-true _ _ t) e)
    (λ t. later k c cs s (from-loads cs (call_next c s) m k (ltb-false _ _ t) g e))

-- ---- a new table counts none

null-inputs : (gabi : Bool) (symbols sections : List ℕ) (s : Store) → (null_of gabi symbols sections s).table.link.inputs ≡ s.link.inputs
unfolding null_of
null-inputs gabi symbols sections s = by-test (eqb s.link.names 0) (λ a. rw a) (λ a. rw a)

names-inputs : (key : ℕ) (bytes names : List ℕ) → (Names.new_of key bytes names).store.link.inputs ≡ 0
unfolding Names.new_of
names-inputs key bytes names = by-test (eqb (name_rows (length names)) 0) (λ a. rw a) (λ a. rw a (keep-inputs _ (record { 0 = 0 }) []))

pub new-inputs : (key : ℕ) (gabi : Bool) (bytes names symbols sections : List ℕ) (k : ℕ) → (new_of key gabi bytes names symbols sections).table.link.inputs ≤ k
unfolding new_of
new-inputs key gabi bytes names symbols sections k =
    by-test (eqb (symbol_rows (length symbols)) 0) (λ a. rw a (omega arith))
    (λ a. rw a (omega (arith, null-inputs gabi symbols sections (Names.new_of key bytes names).store, names-inputs key bytes names)))
