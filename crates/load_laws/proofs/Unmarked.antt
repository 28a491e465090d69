-- A load marks no group's signature.
-- Assumes nothing.
use Rattle.std.specs.Prelude.{ℕ, true, List, [], ◌∷◌, ◌++◌, eqb, get_or, length}
use Rattle.std.proofs.Common.{ap, ◌∙◌, subst, append-nil}
use Rattle.cells.specs.Proof.Split.{by-test}
use Rattle.strings.specs.Lookup.{Looked, look_up}
use Rattle.link.specs.declared.Interned.{Interned}
use Rattle.link.specs.Judge.{going_of}
use Rattle.interner.specs.Names.{Store, store_of, find_of, fits_of, keep_of}
use Rattle.elf_object.specs.Rows.{rows_in, field}
use Rattle.shared_objects.specs.Record.{Recorded, record_of, dependency_of, dependencies_of}
use Rattle.shared_objects.specs.SymbolsLoad.{State, staged, symbol_of, symbols_of}
use Rattle.shared_objects.specs.Need.{Judged}
use Rattle.shared_objects.specs.Stages.{ListLinks, Links, with_name}
use Rattle.shared_objects.specs.Load.{All, Input, links_in, head_in, name_of, load_of}
use Rattle.symbol_laws.specs.History as History
use Rattle.merge_laws.specs.Steps.{others}
use Rattle.merge_laws.specs.Marked.{marks_of, Marked}
use Rattle.merge_laws.proofs.MarkedLemmas.{steps-marked}
use Rattle.merge_laws.proofs.Markless.{Markless, marks-none, both, loop-markless, row-markless}
use Rattle.load_laws.specs.LoadSteps.{record_steps, recording, named_steps, looked_steps, symbol_steps, symbols_steps, dependency_steps, dependencies_steps, input_steps, list_first, lists_steps, lists_in, list_stage_steps, symbol_first, contents_steps, kept_steps, issued_steps, library_steps, wanted_steps, asked_steps, load_steps}
use Rattle.load_laws.specs.Whole.{table_in}
use Rattle.load_laws.proofs.Whole.{load-makes}

-- ---- symbols

record-markless : (sections : List ℕ) (s : Recorded) (x : List ℕ) (place : ℕ) → Markless (record_steps sections s x place)
unfolding record_steps
record-markless sections s x place = by-test (eqb (record_of s x place).stage.number 0) (λ a. rw a tt) (λ a. rw a tt)

named-markless : (entries : List ℕ) (s : State) (x : List ℕ) (i : ℕ) → Markless (named_steps entries s x i)
unfolding named_steps
named-markless entries s x i =
    by-test (eqb (field entries i 4) 0)
    (λ a.
    by-test (eqb (field entries i 1) 1) (λ b. rw (a, b) (record-markless s.sections (recording s) x i)) (λ b. rw (a, b) tt))
    (λ a. rw a (row-markless _ true x _ _))

looked-markless : (entries : List ℕ) (s : State) (i : ℕ) (x : Looked) → Markless (looked_steps entries s i x)
looked-markless entries s i x =
    by-test x.found (λ a. rw a (named-markless entries (staged s (going_of s.stage.link)) x.name i)) (λ a. rw a tt)

symbol-markless : (entries file : List ℕ) (s : State) (i : ℕ) → Markless (symbol_steps entries file s i)
unfolding symbol_steps
symbol-markless entries file s i = looked-markless entries s i (look_up file (field entries i 0))

-- ---- the lists and the library's row

dependency-markless : (sections file needs : List ℕ) (s : Recorded) (j : ℕ) → Markless (dependency_steps sections file needs s j)
unfolding dependency_steps
dependency-markless sections file needs s j = record-markless sections _ (look_up file (get_or needs j 0)).name j

input-markless : (sections inputs : List ℕ) (r : Recorded) (id : Interned) (first middle : ℕ) → Markless (input_steps sections inputs r id first middle)
unfolding input_steps
input-markless sections inputs r id first middle = by-test (eqb r.stage.number 0) (λ a. rw a tt) (λ a. rw a tt)

lists-markless : (sections file needs : List ℕ) (s : ListLinks) (id : Interned) (first : ℕ) → Markless (lists_steps sections file needs s id first)
unfolding lists_steps
lists-markless sections file needs s id first =
    both (dependencies_steps sections file needs (list_first s)) _
    (loop-markless (λ t. t.stage.number) (dependency_of file needs) (dependency_steps sections file needs) (dependency-markless sections file needs)
    (length needs) 0 (list_first s))
    (input-markless sections s.inputs (dependencies_of file needs (list_first s)) id first s.stage.link.lists)

-- ---- the library

list-stage-markless : (file needs inputs : List ℕ) (s : State) (id : Interned) (first : ℕ) → Markless (list_stage_steps file needs inputs s id first)
unfolding list_stage_steps
list-stage-markless file needs inputs s id first =
    by-test (eqb s.stage.number 0) (λ a. rw a (lists-markless s.sections file needs (lists_in inputs s) id first)) (λ a. rw a tt)

module _ (entries file needs : List ℕ) where
  contents-markless : (s : Links) (id : Interned) → Markless (contents_steps entries file needs s id)
  unfolding contents_steps
  contents-markless s id =
      both (symbols_steps entries file (symbol_first s)) _
      (loop-markless (λ t. t.stage.number) (symbol_of entries file) (symbol_steps entries file) (symbol-markless entries file) (rows_in entries) 0 (symbol_first s))
      (list-stage-markless file needs s.inputs (symbols_of entries file (symbol_first s)) id s.stage.link.lists)

  library-markless : (s : Links) (x : List ℕ) → Markless (library_steps entries file needs s x)
  unfolding library_steps issued_steps kept_steps
  library-markless s x =
      let id : Interned = record { 0 = find_of s.bytes s.names s.stage.link x } in
      let k : Store = keep_of (store_of s.bytes s.names s.stage.link) id x in
      by-test (fits_of (store_of s.bytes s.names s.stage.link) id (length x))
      (λ a. rw a (contents-markless (with_name s k (going_of k.link)) id)) (λ a. rw a tt)

  wanted-markless : (a : All) (x : List ℕ) (j : Judged) → Markless (wanted_steps entries file needs a x j)
  unfolding wanted_steps
  wanted-markless a x j =
      by-test j.needed
      (λ t. rw t (both (library_steps entries file needs (links_in a) x) (others _ _ ∷ []) (library-markless (links_in a) x) tt)) (λ t. rw t tt)

pub load-markless : (o : Input) (a : All) → Markless (load_steps o a)
unfolding load_steps asked_steps
load-markless o a =
    by-test (eqb (head_in o a).number 0) (λ t. rw t (wanted-markless o.entries o.image o.needs a (name_of o) _)) (λ t. rw t tt)

-- so the signatures met stay those
pub load-marked : (o : Input) (a : All) (met : List (List ℕ)) → Marked (table_in a) met → Marked (table_in (load_of o a).cells) met
load-marked o a met m =
    let steps = load-makes o a in
    subst (Marked (table_in (load_of o a).cells)) (ap (◌++◌ met) (marks-none (load_steps o a) (table_in a) (load-markless o a)) ∙ append-nil met)
    (subst (λ (t : History.State). Marked t (met ++ marks_of (load_steps o a) (table_in a))) steps.leads
    (steps-marked (load_steps o a) (table_in a) met steps.accepted m))
