-- A library that is loaded: the rows that it adds are those of the symbols that it defines, in order and none left out.
-- Assumes nothing.
use Rattle.shared_objects.specs.declared.Load.{Load}
use Rattle.shared_objects.specs.declared.Load.TheVariants.{NotNeeded, Loaded}
use Rattle.std.specs.Prelude.{ℕ, zero, suc, ◌≤◌, true, cond, eqb, get_or, length, Result, Ok, Err}
use native.Mathlib.Omega.{arith}
use Rattle.std.proofs.Common.{zero-add, le_refl, sym, ◌∙◌}
use Rattle.std.proofs.Math.Path.{◌≡◌, refl, ap}
use mathlib.Core.List.{List, [], ◌∷◌, ◌++◌, append-nil}
use borrow.Author.Tests.{eqb-true, eqb-false}
use Rattle.cells.specs.Proof.Split.{by-test}
use Rattle.strings.specs.Lookup.{Looked, look_up}
use Rattle.link.specs.declared.Interned.{Interned}
use Rattle.link.specs.Stage.{Stage}
use Rattle.link.specs.declared.cause.Refusal.{Refusal}
use Rattle.link.specs.Judge.{going_of}
use Rattle.symbol.specs.declared.Row.{Row}
use Rattle.symbol_resolution.specs.Decision.{Decision}
use Rattle.symbol_resolution.specs.Decide.{refusal_of}
use Rattle.elf_object.specs.Rows.{rows_in, field}
use Rattle.shared_objects.specs.Record.{Recorded, record_of, dependency_of, dependencies_of}
use Rattle.shared_objects.specs.Define.{plan_of, view, accept_of, kept_of, commit_of, define_of}
use Rattle.shared_objects.specs.SymbolsLoad.{State, staged, library_symbol_named, looked_of, symbol_of, symbols_of}
use Rattle.shared_objects.specs.Need.{Judged}
use Rattle.shared_objects.specs.Stages.{ListLinks, Links}
use Rattle.shared_objects.specs.Load as Load
use Rattle.shared_objects.specs.Load.{All, Input, want_of, ended_as, links_in, head_in, name_of, wanted_of, load_of}
use Rattle.merge_laws.specs.Steps.{Step, others}
use Rattle.merge_laws.specs.Loop.{loop_steps}
use Rattle.merge_laws.proofs.Loop.{loop, loop-going, loop-next, steps_next}
use Rattle.merge_laws.specs.MergeSteps.{row_steps}
use Rattle.merge_laws.specs.Kept.{global_rows, added_rows}
use Rattle.merge_laws.proofs.Markless.{added-append, both-none, loop-none}
use Rattle.load_laws.specs.LoadSteps.{record_steps, recording, adding, named_steps, symbol_steps, dependency_steps, dependencies_steps, input_steps, list_first, lists_steps, lists_in, list_stage_steps, symbol_first, contents_steps, kept_steps, issued_steps, library_steps, wanted_steps, asked_steps, load_steps}
use Rattle.load_laws.proofs.Whole.{symbols-loop}
use Rattle.load_laws.specs.Stops.{link_id, named, end, number, symbols_to, added, fits}
use Rattle.load_laws.proofs.Stops.{name-stop, name-pass, symbols-stop}
use Rattle.load_laws.specs.Accepted.{row_of, symbol_rows}

-- ---- lists add no row

pub record-none : (sections : List ℕ) (s : Recorded) (x : List ℕ) (place : ℕ) → added_rows (record_steps sections s x place) ≡ []
unfolding record_steps
record-none sections s x place = by-test (eqb (record_of s x place).stage.number 0) (λ a. rw a) (λ a. rw a)

dependency-none : (sections file needs : List ℕ) (s : Recorded) (j : ℕ) → added_rows (dependency_steps sections file needs s j) ≡ []
unfolding dependency_steps
dependency-none sections file needs s j = record-none sections _ (look_up file (get_or needs j 0)).name j

pub lists-none : (file needs inputs : List ℕ) (s : State) (id : Interned) (first : ℕ) → added_rows (list_stage_steps file needs inputs s id first) ≡ []
unfolding list_stage_steps lists_steps input_steps
lists-none file needs inputs s id first =
    let l : ListLinks = lists_in inputs s in
    by-test (eqb s.stage.number 0)
    (λ a.
    rw a
    (both-none (dependencies_steps s.sections file needs (list_first l)) _
    (loop-none (λ t. t.stage.number) (dependency_of file needs) (dependency_steps s.sections file needs) (dependency-none s.sections file needs) (length needs) 0 (list_first l))
    (by-test (eqb (dependencies_of file needs (list_first l)).stage.number 0) (λ b. rw b) (λ b. rw b))))
    (λ a. rw a)

-- ---- a symbol's row

symbol-row : (entries file : List ℕ) (s : State) (i : ℕ) → (symbol_of entries file s i).stage.number ≡ 0
    → added_rows (symbol_steps entries file s i) ≡ cond (eqb (field entries i 4) 0) [] (global_rows (row_of entries file s i))
unfolding symbol_steps named_steps row_steps symbol_of looked_of library_symbol_named define_of commit_of kept_of accept_of
symbol-row entries file s i e =
    let x : Looked = look_up file (field entries i 0) in
    let t : State = staged s (going_of s.stage.link) in
    let d : Decision = (plan_of (view (adding t)) x.name (field entries i 1) (field entries i 3)).decision in
    by-test x.found
    (λ a.
    by-test (eqb (field entries i 4) 0)
    (λ b.
    by-test (eqb (field entries i 1) 1) (λ c. rw (a, b, c) (record-none s.sections (recording t) x.name i)) (λ c. rw (a, b, c)))
    (λ b.
    by-test (eqb (refusal_of d) 2) (λ c. let z : ◌≡◌ {A = ℕ} 2 0 = rw (a, b, c) at e in absurd (omega arith))
    (λ c.
    by-test (eqb (refusal_of d) 0) (λ f. rw (a, b, c, f) (append-nil (global_rows (row_of entries file s i))))
    (λ f. absurd (eqb-false _ _ f (rw (a, b, c, f) at e))))))
    (λ a. let z : ◌≡◌ {A = ℕ} 9 0 = rw a at e in absurd (omega arith))

module _ (entries file needs : List ℕ) (s : Links) (x : List ℕ) where
  module _ (whole : number entries file needs s x ≡ 0) where
    name-fits : fits entries file needs s x ≡ true
    name-fits =
        by-test (fits entries file needs s x) (λ t. t)
        (λ t. let e : number entries file needs s x ≡ 2 = ap (λ (l : Links). l.stage.number) (name-stop entries file needs s x t) in absurd (omega (arith, e, whole)))

    abbrev first : State
    first = symbol_first (named entries file needs s x s x)

    abbrev number_in : State → ℕ
    number_in t = t.stage.number

    abbrev next : State → ℕ → State
    next = symbol_of entries file

    abbrev steps_of : ℕ → List Step
    steps_of n = loop_steps number_in next (symbol_steps entries file) n 0 first

    symbols-going : (added entries file needs s x).stage.number ≡ 0
    symbols-going =
        by-test (eqb (added entries file needs s x).stage.number 0) (λ t. eqb-true _ _ t)
        (λ t.
        let u = eqb-false _ _ t in
        absurd (u (sym (ap (λ (l : Links). l.stage.number) (name-pass entries file needs s x name-fits ∙ symbols-stop entries file needs s x u)) ∙ whole)))

    symbol-going : (n : ℕ) → n ≤ rows_in entries → (symbols_to entries file needs s x n).stage.number ≡ 0
    unfolding symbols_of
    symbol-going n h =
        ap number_in (symbols-loop entries file n 0 first)
        ∙ loop-going number_in next (rows_in entries) 0 n first refl (ap number_in (sym (symbols-loop entries file (rows_in entries) 0 first)) ∙ symbols-going) h

    symbols-rows : (n : ℕ) → n ≤ rows_in entries → added_rows (steps_of n) ≡ symbol_rows entries file needs s x n
    symbols-rows zero h = refl
    symbols-rows (suc n) h =
        let t : State = symbols_to entries file needs s x n in
        let e : t ≡ loop number_in next n 0 first = symbols-loop entries file n 0 first in
        let z : number_in (loop number_in next n 0 first) ≡ 0 = ap number_in (sym e) ∙ symbol-going n (omega arith) in
        let taken : number_in (next t n) ≡ 0 =
        ap (λ (k : State). number_in (next k n)) e
        ∙ ap (λ (j : ℕ). number_in (next (loop number_in next n 0 first) j)) (sym (zero-add n))
        ∙ ap number_in (sym (loop-next number_in next n 0 first z)) ∙ ap number_in (sym (symbols-loop entries file (suc n) 0 first)) ∙ symbol-going (suc n) h in
        let k : steps_of (suc n) ≡ steps_of n ++ symbol_steps entries file t n =
        steps_next number_in next (symbol_steps entries file) n 0 first z
        ∙ ap (λ (j : ℕ). steps_of n ++ symbol_steps entries file (loop number_in next n 0 first) j) (zero-add n)
        ∙ ap (λ (r : State). steps_of n ++ symbol_steps entries file r n) (sym e) in
        ap added_rows k ∙ added-append (steps_of n) (symbol_steps entries file t n)
        ∙ ap (λ (l : List Row). l ++ added_rows (symbol_steps entries file t n)) (symbols-rows n (omega arith))
        ∙ ap (◌++◌ (symbol_rows entries file needs s x n)) (symbol-row entries file t n taken)

    library-rows : added_rows (library_steps entries file needs s x) ≡ symbol_rows entries file needs s x (rows_in entries)
    unfolding library_steps issued_steps kept_steps contents_steps
    library-rows =
        rw name-fits
        (added-append (steps_of (rows_in entries)) _
        ∙ ap (◌++◌ (added_rows (steps_of (rows_in entries)))) (lists-none file needs s.inputs (added entries file needs s x) (link_id entries file needs s x s x) (named entries file needs s x s x).stage.link.lists)
        ∙ append-nil (added_rows (steps_of (rows_in entries))) ∙ symbols-rows (rows_in entries) (le_refl _))

-- ---- the call

module _ (o : Input) (a : All) where
  abbrev judged : Judged
  judged = want_of o.asneeded a.link a.bytes a.names a.symbols a.inputs a.lists a.marks o.entries o.image (name_of o)

  abbrev stage : Stage
  stage = (end o.entries o.image o.needs (links_in a) (name_of o)).stage

  loaded-whole : (ended_as stage).answer ≡ Ok Loaded → stage.number ≡ 0
  unfolding ended_as
  loaded-whole e = by-test (eqb stage.number 0) (λ t. eqb-true _ _ t) (λ t. absurd (differ _ (rw t at e)))
    where
      differ : (r : Refusal) → Err r ≡ Ok Loaded → ⊥
      differ r e = let z : ◌≡◌ {A = ℕ} 0 1 = cc in omega arith

  pub load-rows : (load_of o a).answer ≡ Ok Loaded
      → added_rows (load_steps o a) ≡ symbol_rows o.entries o.image o.needs (links_in a) (name_of o) (rows_in o.entries)
  unfolding load_of Load.library_named wanted_of load_steps asked_steps wanted_steps
  load-rows e =
      by-test (eqb (head_in o a).number 0)
      (λ h.
      by-test judged.needed
      (λ j.
      let z : stage.number ≡ 0 = loaded-whole (rw (h, j) at e) in
      rw (h, j)
      (added-append (library_steps o.entries o.image o.needs (links_in a) (name_of o)) (others _ _ ∷ [])
      ∙ append-nil (added_rows (library_steps o.entries o.image o.needs (links_in a) (name_of o)))
      ∙ library-rows o.entries o.image o.needs (links_in a) (name_of o) z))
      (λ j. absurd (unneeded (rw (h, j) at e))))
      (λ h. absurd (refusal _ (rw h at e)))
    where
      unneeded : ◌≡◌ {A = Result Load Refusal} (Ok NotNeeded) (Ok Loaded) → ⊥
      unneeded e = let z : ◌≡◌ {A = ℕ} 0 1 = cc in omega arith

      refusal : (r : Refusal) → Err r ≡ Ok Loaded → ⊥
      refusal r e = let z : ◌≡◌ {A = ℕ} 0 1 = cc in omega arith
