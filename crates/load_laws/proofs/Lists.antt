-- Inputs and lists: a load writes none that is counted before it, and none past the counts that it leaves.
-- Assumes nothing.
use Rattle.std.specs.Prelude.{ℕ, ◌+◌, ◌<◌, ◌≤◌, ◌≡◌, List, eqb, ltb, get_or, set, length}
use Rattle.std.proofs.Common.{arith, length-set, get_or-set_other, lt-ltb, ltb-true}
use Rattle.std.proofs.Math.Path.{refl}
use Rattle.cells.specs.Proof.Split.{by-test}
use Rattle.strings.specs.Lookup.{Looked, look_up}
use Rattle.link.specs.declared.Link.{Link}
use Rattle.link.specs.declared.Interned.{Interned}
use Rattle.link.specs.Stage.{Stage}
use Rattle.link.specs.Bounds.{not_lent, input_rows}
use Rattle.link.specs.Judge.{going_of}
use Rattle.link.specs.Counts.{more_inputs, with_lists}
use Rattle.interner.specs.Names.{Store, store_of, find_of, fits_of, keep_of}
use Rattle.symbol.specs.Codes.{successor}
use Rattle.elf_object.specs.Rows.{rows_in, field}
use Rattle.shared_objects.specs.Record.{Recorded, recorded_of, record_fits, keep_name, record_as, record_of, dependency_of, dependencies_of}
use Rattle.shared_objects.specs.Define.{Definition}
use Rattle.shared_objects.specs.Define.{Added, plan_of, view, define_of}
use Rattle.shared_objects.specs.SymbolsLoad.{State, staged, library_symbol_named, looked_of, symbol_of, symbols_of}
use Rattle.shared_objects.specs.Need.{Judged}
use Rattle.shared_objects.specs.Stages.{ListLinks, Links, library_cells, library_row_of, input_stage, lists_of, list_stage, contents_of, with_name, issued_of, library_of}
use Rattle.shared_objects.specs.Stages as Stages
use Rattle.shared_objects.specs.Load.{All, Input, ended_as, links_in, wanted_of, head_in, name_of, load_of}
use Rattle.shared_objects.specs.Load as Load
use Rattle.merge_laws.proofs.Loop.{loop-holds}
use Rattle.merge_laws.specs.Lists.{Listed}
use Rattle.merge_laws.proofs.Lists.{listed-none, lists-listed, listed-both, row-taken, keep-lists, keep-inputs}
use Rattle.load_laws.specs.LoadSteps.{recording, adding, list_first, lists_in, symbol_first}
use Rattle.load_laws.proofs.Whole.{record-room, symbols-loop, dependencies-loop}
use Rattle.load_laws.proofs.Unbroken.{commit-count}

-- ---- a name recorded

next-is : (n m : ℕ) → n < m → m ≤ not_lent → successor n ≡ n + 1
unfolding successor
next-is n m h g = simp (lt-ltb n not_lent (omega arith))

-- a cell stored at the count
cell-listed : (i x : List ℕ) (k l : Link) (id : ℕ) → k.lists < length x → l.lists ≡ k.lists + 1 → l.inputs ≡ k.inputs → Listed i x k i (set x k.lists id) l
cell-listed i x k l id h e f =
    lists-listed i x k (set x k.lists id) l
    (record {
      more = omega arith;
      past = λ q b. get_or-set_other x k.lists q id 0 (λ z. omega arith);
      long = length-set x k.lists id;
      inside = λ b. omega (arith, length-set x k.lists id);
    })
    (λ q b. get_or-set_other x k.lists q id 0 (λ z. omega arith)) f

-- a lent list has fewer than 2^64 cells
record-listed : (i : List ℕ) (s : Recorded) (x : List ℕ) (place : ℕ) → length s.lists ≤ not_lent
    → Listed i s.lists s.stage.link i (record_of s x place).lists (record_of s x place).stage.link
unfolding record_of record_as keep_name
record-listed i s x place fit =
    let st : Store = store_of s.bytes s.names s.stage.link in
    let id : Interned = record { 0 = find_of s.bytes s.names s.stage.link x } in
    let k : Store = keep_of st id x in
    by-test (record_fits s.stage.link s.bytes s.names (length s.lists) id (length x))
    (λ t.
    let h : s.stage.link.lists < length s.lists = (record-room s.stage.link s.bytes s.names (length s.lists) id (length x) t).1 in
    rw t
    (cell-listed i s.lists s.stage.link (with_lists k.link (successor s.stage.link.lists)) id.0 h
    (next-is s.stage.link.lists (length s.lists) h fit) (keep-inputs st id x)))
    (λ t. rw t (listed-none i s.lists s.stage.link s.stage.link refl refl))

-- ---- symbols

define-listed : (i lists : List ℕ) (s : Added) (x : List ℕ) (binding visibility n : ℕ)
    → Listed i lists s.stage.link i lists (define_of s x binding visibility n).stage.link
unfolding define_of
define-listed i lists s x binding visibility n =
    let p : Definition = plan_of (view s) x binding visibility in
    listed-none i lists s.stage.link _ (commit-count (λ (l : Link). l.lists) keep-lists (λ l n. refl) s x p n)
    (commit-count (λ (l : Link). l.inputs) keep-inputs (λ l n. refl) s x p n)

module _ (i entries file : List ℕ) where
  abbrev SymbolListed : State → State → Type 0
  SymbolListed s t = Listed i s.lists s.stage.link i t.lists t.stage.link

  named-listed : (s : State) (x : List ℕ) (n : ℕ) → length s.lists ≤ not_lent → SymbolListed s (library_symbol_named entries s x n)
  unfolding library_symbol_named
  named-listed s x n fit =
      by-test (eqb (field entries n 4) 0)
      (λ a.
      by-test (eqb (field entries n 1) 1) (λ b. rw (a, b) (record-listed i (recording s) x n fit))
      (λ b. rw (a, b) (listed-none i s.lists s.stage.link s.stage.link refl refl)))
      (λ a. rw a (define-listed i s.lists (adding s) x (field entries n 1) (field entries n 3) n))

  symbol-listed : (s : State) (n : ℕ) → length s.lists ≤ not_lent → SymbolListed s (symbol_of entries file s n)
  unfolding symbol_of looked_of
  symbol-listed s n fit =
      let x : Looked = look_up file (field entries n 0) in
      by-test x.found (λ a. rw a (named-listed (staged s (going_of s.stage.link)) x.name n fit))
      (λ a. rw a (listed-none i s.lists s.stage.link s.stage.link refl refl))

  symbols-listed : (s : State) → length s.lists ≤ not_lent → SymbolListed s (symbols_of entries file s)
  unfolding symbols_of
  symbols-listed s fit =
      rw (symbols-loop entries file (rows_in entries) 0 s)
      (loop-holds (λ t. t.stage.number) (symbol_of entries file) (SymbolListed s)
      (λ t n p.
      listed-both i s.lists s.stage.link i t.lists t.stage.link i _ _ p
      (symbol-listed t n (omega (arith, p.lists.long)))) (rows_in entries) 0 s
      (listed-none i s.lists s.stage.link s.stage.link refl refl))

-- ---- dependencies

module _ (i file needs : List ℕ) where
  abbrev RecordListed : Recorded → Recorded → Type 0
  RecordListed s t = Listed i s.lists s.stage.link i t.lists t.stage.link

  dependency-listed : (s : Recorded) (j : ℕ) → length s.lists ≤ not_lent → RecordListed s (dependency_of file needs s j)
  unfolding dependency_of
  dependency-listed s j fit =
      record-listed i (recorded_of s.bytes s.names s.lists (going_of s.stage.link)) (look_up file (get_or needs j 0)).name j fit

  dependencies-listed : (s : Recorded) → length s.lists ≤ not_lent → RecordListed s (dependencies_of file needs s)
  unfolding dependencies_of
  dependencies-listed s fit =
      rw (dependencies-loop file needs (length needs) 0 s)
      (loop-holds (λ t. t.stage.number) (dependency_of file needs) (RecordListed s)
      (λ t j p.
      listed-both i s.lists s.stage.link i t.lists t.stage.link i _ _ p
      (dependency-listed t j (omega (arith, p.lists.long)))) (length needs) 0 s
      (listed-none i s.lists s.stage.link s.stage.link refl refl))

-- ---- the library's row

input-listed : (inputs lists : List ℕ) (l : Link) (id : Interned) (first middle : ℕ)
    → Listed inputs lists l (library_row_of inputs l id first middle).inputs lists (library_row_of inputs l id first middle).stage.link
unfolding library_row_of
input-listed inputs lists l id first middle =
    by-test (ltb l.inputs (input_rows (length inputs)))
    (λ t. rw t (row-taken inputs lists l (more_inputs l) (library_cells id.0 first middle l.lists) refl (ltb-true _ _ t) refl refl))
    (λ t. rw t (listed-none inputs lists l l refl refl))

input-stage-listed : (inputs : List ℕ) (r : Recorded) (id : Interned) (first middle : ℕ)
    → let t = input_stage inputs r id first middle in Listed inputs r.lists r.stage.link t.inputs t.lists t.stage.link
unfolding input_stage
input-stage-listed inputs r id first middle =
    by-test (eqb r.stage.number 0) (λ a. rw a (input-listed inputs r.lists r.stage.link id first middle))
    (λ a. rw a (listed-none inputs r.lists r.stage.link r.stage.link refl refl))

list-links-listed : (file needs : List ℕ) (s : ListLinks) (id : Interned) (first : ℕ) → length s.lists ≤ not_lent
    → let t = lists_of file needs s id first in Listed s.inputs s.lists s.stage.link t.inputs t.lists t.stage.link
unfolding lists_of
list-links-listed file needs s id first fit =
    let r : Recorded = dependencies_of file needs (list_first s) in
    listed-both s.inputs s.lists s.stage.link s.inputs r.lists r.stage.link _ _ _
    (dependencies-listed s.inputs file needs (list_first s) fit) (input-stage-listed s.inputs r id first s.stage.link.lists)

-- ---- the library

abbrev LibraryListed : Links → Links → Type 0
LibraryListed s t = Listed s.inputs s.lists s.stage.link t.inputs t.lists t.stage.link

list-stage-listed : (file needs inputs : List ℕ) (s : State) (id : Interned) (first : ℕ) → length s.lists ≤ not_lent
    → let t = list_stage file needs inputs s id first in Listed inputs s.lists s.stage.link t.inputs t.lists t.stage.link
unfolding list_stage
list-stage-listed file needs inputs s id first fit =
    by-test (eqb s.stage.number 0) (λ a. rw a (list-links-listed file needs (lists_in inputs s) id first fit))
    (λ a. rw a (listed-none inputs s.lists s.stage.link s.stage.link refl refl))

module _ (entries file needs : List ℕ) where
  contents-listed : (s : Links) (id : Interned) → length s.lists ≤ not_lent → LibraryListed s (contents_of entries file needs s id)
  unfolding contents_of
  contents-listed s id fit =
      let t : State = symbols_of entries file (symbol_first s) in
      let p = symbols-listed s.inputs entries file (symbol_first s) fit in
      listed-both s.inputs s.lists s.stage.link s.inputs t.lists t.stage.link _ _ _ p
      (list-stage-listed file needs s.inputs t id s.stage.link.lists (omega (arith, p.lists.long)))

  library-listed : (s : Links) (x : List ℕ) → length s.lists ≤ not_lent → LibraryListed s (library_of entries file needs s x)
  unfolding library_of issued_of Stages.kept_of
  library-listed s x fit =
      let st : Store = store_of s.bytes s.names s.stage.link in
      let id : Interned = record { 0 = find_of s.bytes s.names s.stage.link x } in
      let k : Store = keep_of st id x in
      by-test (fits_of st id (length x))
      (λ a.
      rw a
      (listed-both s.inputs s.lists s.stage.link s.inputs s.lists k.link _ _ _
      (listed-none s.inputs s.lists s.stage.link k.link (keep-lists st id x) (keep-inputs st id x))
      (contents-listed (with_name s k (going_of k.link)) id fit)))
      (λ a. rw a (listed-none s.inputs s.lists s.stage.link s.stage.link refl refl))

-- ---- the load

abbrev LoadListed : All → All → Type 0
LoadListed a b = Listed a.inputs a.lists a.link b.inputs b.lists b.link

ended-listed : (i x : List ℕ) (k : Link) (j y : List ℕ) (s : Stage) → Listed i x k j y s.link → Listed i x k j y (ended_as s).link
unfolding ended_as
ended-listed i x k j y s p =
    by-test (eqb s.number 0) (λ a. rw a p)
    (λ a. rw a (listed-both i x k j y s.link j y _ p (listed-none j y s.link _ refl refl)))

wanted-listed : (entries file needs : List ℕ) (a : All) (x : List ℕ) (j : Judged) → length a.lists ≤ not_lent
    → LoadListed a (wanted_of entries file needs a x j).cells
unfolding wanted_of
wanted-listed entries file needs a x j fit =
    by-test j.needed
    (λ t.
    rw t
    (ended-listed a.inputs a.lists a.link _ _ (library_of entries file needs (links_in a) x).stage
    (library-listed entries file needs (links_in a) x fit)))
    (λ t. rw t (listed-none a.inputs a.lists a.link a.link refl refl))

pub load-listed : (o : Input) (a : All) → length a.lists ≤ not_lent → LoadListed a (load_of o a).cells
unfolding load_of Load.library_named
load-listed o a fit =
    by-test (eqb (head_in o a).number 0) (λ t. rw t (wanted-listed o.entries o.image o.needs a (name_of o) _ fit))
    (λ t. rw t (listed-none a.inputs a.lists a.link a.link refl refl))
