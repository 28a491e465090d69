-- A load writes neither a section's row nor a section's symbol.
-- Assumes nothing.
use Rattle.std.specs.Prelude.{ℕ, ◌≡◌, refl, Bool, List, eqb, length}
use Rattle.std.proofs.Common.{◌∙◌}
use Rattle.cells.specs.Proof.Split.{by-test}
use Rattle.strings.specs.Lookup.{Looked, look_up}
use Rattle.link.specs.declared.Interned.{Interned}
use Rattle.link.specs.Judge.{going_of}
use Rattle.interner.specs.Names.{Store, store_of, find_of, fits_of, keep_of}
use Rattle.upcoming_symbol.specs.Judge.{judge_of}
use Rattle.upcoming_symbol.specs.Upcoming.{library_code, external_row_of}
use Rattle.symbol_resolution.specs.Decision.{Decision}
use Rattle.symbol_resolution.specs.Decide.{refusal_of}
use Rattle.symbol_resolution.specs.Apply.{Table, table_of, note_section, append_of, apply_of}
use Rattle.symbol_resolution.specs.Proof.Outcomes.{decision-left}
use Rattle.elf_object.specs.Rows.{rows_in, field}
use Rattle.shared_objects.specs.Define.{Definition}
use Rattle.shared_objects.specs.Define.{Added, rowed_of, external_of, plan_of, accept_of, kept_of, commit_of, view, define_of}
use Rattle.shared_objects.specs.SymbolsLoad.{State, staged, library_symbol_named, looked_of, symbol_of, symbols_of}
use Rattle.shared_objects.specs.Stages.{Links, list_stage, contents_of, with_name, issued_of, library_of}
use Rattle.shared_objects.specs.Stages as Stages
use Rattle.shared_objects.specs.Load.{All, Input, links_in, wanted_of, head_in, name_of, load_of}
use Rattle.shared_objects.specs.Load as Load
use Rattle.merge_laws.proofs.Loop.{loop-holds}
use Rattle.load_laws.specs.LoadSteps.{adding, symbol_first}
use Rattle.load_laws.proofs.Whole.{symbols-loop}
use Rattle.load_laws.specs.Stops.{want}

-- "A local `Section` row becomes its section's symbol", and a library's rows are `ExternallyDefined`
applied-sections : (t : Table) (gabi : Bool) (id : Interned) (binding visibility : ℕ) (d : Decision) → (apply_of t (external_row_of gabi id binding visibility) d).sections ≡ t.sections
unfolding append_of note_section external_row_of
applied-sections t gabi id binding visibility d =
    decision-left (λ (u : Table). u.sections ≡ t.sections) t (external_row_of gabi id binding visibility) refl
    (by-test (eqb (library_code gabi (judge_of binding visibility)) 0) (λ a. rw a) (λ a. rw a)) (λ k x. refl) d

define-sections : (s : Added) (x : List ℕ) (binding visibility i : ℕ) → (define_of s x binding visibility i).sections ≡ s.sections
unfolding define_of commit_of kept_of accept_of plan_of external_of rowed_of
define-sections s x binding visibility i =
    let st : Store = store_of s.bytes s.names s.stage.link in
    let id : Interned = record { 0 = find_of s.bytes s.names s.stage.link x } in
    let p : Definition = plan_of (view s) x binding visibility in
    let k : Store = keep_of st id x in
    by-test (eqb (refusal_of p.decision) 2) (λ a. rw a)
    (λ a.
    by-test (eqb (refusal_of p.decision) 0)
    (λ b. rw (a, b) (applied-sections (table_of k.names s.symbols s.sections k.link) s.stage.link.gabi id binding visibility p.decision)) (λ b. rw (a, b)))

module _ (entries file : List ℕ) where
  named-sections : (s : State) (x : List ℕ) (i : ℕ) → (library_symbol_named entries s x i).sections ≡ s.sections
  unfolding library_symbol_named
  named-sections s x i =
      by-test (eqb (field entries i 4) 0) (λ a. by-test (eqb (field entries i 1) 1) (λ b. rw (a, b)) (λ b. rw (a, b)))
      (λ a. rw a (define-sections (adding s) x (field entries i 1) (field entries i 3) i))

  symbol-sections : (s : State) (i : ℕ) → (symbol_of entries file s i).sections ≡ s.sections
  unfolding symbol_of looked_of
  symbol-sections s i =
      let x : Looked = look_up file (field entries i 0) in
      by-test x.found (λ a. rw a (named-sections (staged s (going_of s.stage.link)) x.name i)) (λ a. rw a)

  symbols-sections : (s : State) → (symbols_of entries file s).sections ≡ s.sections
  unfolding symbols_of
  symbols-sections s =
      rw (symbols-loop entries file (rows_in entries) 0 s)
      (loop-holds (λ t. t.stage.number) (symbol_of entries file) (λ t. t.sections ≡ s.sections) (λ t i e. symbol-sections t i ∙ e) (rows_in entries) 0 s refl)

-- the lists don't hold sections
list-stage-sections : (file needs inputs : List ℕ) (s : State) (id : Interned) (first : ℕ) → (list_stage file needs inputs s id first).sections ≡ s.sections
unfolding list_stage
list-stage-sections file needs inputs s id first = by-test (eqb s.stage.number 0) (λ a. rw a) (λ a. rw a)

library-sections : (entries file needs : List ℕ) (s : Links) (x : List ℕ) → (library_of entries file needs s x).sections ≡ s.sections
unfolding library_of issued_of Stages.kept_of contents_of
library-sections entries file needs s x =
    let st : Store = store_of s.bytes s.names s.stage.link in
    let id : Interned = record { 0 = find_of s.bytes s.names s.stage.link x } in
    let k : Store = keep_of st id x in
    let named : Links = with_name s k (going_of k.link) in
    by-test (fits_of st id (length x))
    (λ a.
    rw a
    (list-stage-sections file needs s.inputs (symbols_of entries file (symbol_first named)) id k.link.lists
    ∙ symbols-sections entries file (symbol_first named)))
    (λ a. rw a)

pub load-sections : (o : Input) (a : All) → (load_of o a).cells.sections ≡ a.sections
unfolding load_of Load.library_named wanted_of
load-sections o a =
    by-test (eqb (head_in o a).number 0)
    (λ h. by-test (want o a).needed (λ w. rw (h, w) (library-sections o.entries o.image o.needs (links_in a) (name_of o))) (λ w. rw (h, w))) (λ h. rw h)
