-- The refusals of a load.
-- Assumes nothing.
use Rattle.std.specs.Prelude.{ℕ, refl, Bool, List, eqb, ltb, get_or, length}
use Rattle.byte_slices.specs.Proof.Ways.{pick}
use Rattle.strings.specs.Lookup.{look_up}
use Rattle.link.specs.declared.Link.{Link}
use Rattle.link.specs.declared.Lent.{Lent}
use Rattle.link.specs.declared.Interned.{Interned}
use Rattle.link.specs.declared.cause.Refusal.{Refusal}
use Rattle.link.specs.Stage.{Stage}
use Rattle.link.specs.Bounds.{input_rows}
use Rattle.link.specs.Judge.{refused, none, change_of}
use Rattle.link.specs.Said.{number_in}
use Rattle.link.specs.Counts.{lent_of}
use Rattle.interner.specs.Names.{store_of, find_of, fits_of}
use Rattle.upcoming_symbol.specs.Upcoming.{external_row_of}
use Rattle.symbol_resolution.specs.Decision.{Decision}
use Rattle.symbol_resolution.specs.Holder.{holder_of}
use Rattle.symbol_resolution.specs.Decide.{refusal_of}
use Rattle.elf_object.specs.Rows.{rows_in, field}
use Rattle.elf_object.specs.Judge.{bad_entry}
use Rattle.merge_symbols.specs.Plan.{View}
use Rattle.shared_objects.specs.Head.{bad_need, soname_missing, rows_of, unnamed_of, marks_short, name_refusal, after_rows, check_of}
use Rattle.shared_objects.specs.Record.{Recorded, record_fits, keep_name, record_as, record_of, dependency_of, dependencies_of}
use Rattle.shared_objects.specs.Define.{Definition}
use Rattle.shared_objects.specs.Define.{Added, judged_of, rowed_of, external_of, plan_of, accept_of, kept_of, commit_of, view, define_of}
use Rattle.shared_objects.specs.SymbolsLoad.{State, library_symbol_named, looked_of, symbol_of, symbols_of}
use Rattle.shared_objects.specs.declared.Outcome.{Outcome}
use Rattle.shared_objects.specs.Stages.{InputLinks, ListLinks, Links, library_row_of, input_stage, lists_of, list_stage, contents_of, issued_of, library_of}
use Rattle.shared_objects.specs.Stages as Stages
use Rattle.shared_objects.specs.Load.{All, Input, Left, said_of, want_of, ended_as, links_in, wanted_of, head_in, name_of, load_of}
use Rattle.shared_objects.specs.Load as Load
use Rattle.merge_laws.proofs.ByNumber.{changed}
use Rattle.merge_laws.proofs.Loop.{loop-holds}
use Rattle.load_laws.proofs.Whole.{symbols-loop, dependencies-loop}
use Rattle.link_laws.proofs.Among.{Among}
use Rattle.link_laws.proofs.AddNumbers as AddNumbers
use Rattle.link_laws.specs.Table.{load_numbers}

abbrev In : ℕ → Type 0
In = Among load_numbers

-- ---- the head

abbrev pub lent_in : All → Lent
lent_in a = lent_of (length a.names) (length a.bytes) (length a.symbols) (length a.sections) (length a.inputs) (length a.lists)

module _ (P : Refusal → Type 0) (one : (k : ℕ) → P (refused 1 k)) (fine : P none) where
  pub rows-give : (entries file needs : List ℕ) (sonamed : Bool) (soname : ℕ) → P (rows_of entries file needs sonamed soname)
  unfolding rows_of
  rows-give entries file needs sonamed soname =
      pick P (ltb (bad_entry entries) (rows_in entries)) _ _ (λ a. one _)
      (λ a.
      pick P (soname_missing file sonamed soname) _ _ (λ b. one 0)
      (λ b. pick P (ltb (bad_need file needs) (length needs)) _ _ (λ c. one _) (λ c. fine)))

  pub head-gives : P (refused 22 0) → P (refused 25 0) → P (refused 2 0) → (o : Input) (a : All) → P (head_in o a)
  unfolding check_of after_rows name_refusal
  head-gives broken unnamed short o a =
      pick P (eqb (change_of a.link (lent_in a)).number 0) _ _
      (λ t.
      pick P (eqb (rows_of o.entries o.image o.needs o.sonamed o.soname).number 0) _ _
      (λ b.
      pick P (unnamed_of o.archived o.sonamed) _ _ (λ c. unnamed)
      (λ c. pick P (marks_short o.asneeded (length a.marks) a.link.names) _ _ (λ d. short) (λ d. fine)))
      (λ b. rows-give o.entries o.image o.needs o.sonamed o.soname))
      (λ t. changed P broken one fine a.link (lent_in a))

-- ---- a name recorded, a symbol added

record-numbers : (s : Recorded) (x : List ℕ) (place : ℕ) → In (record_of s x place).stage.number
unfolding record_of record_as keep_name
record-numbers s x place =
    pick (λ (r : Recorded). In r.stage.number)
    (record_fits s.stage.link s.bytes s.names (length s.lists) (record { 0 = find_of s.bytes s.names s.stage.link x }) (length x)) _ _
    (λ a. refl) (λ a. refl)

plan-numbers : (v : View) (x : List ℕ) (binding visibility : ℕ) → In (refusal_of (plan_of v x binding visibility).decision)
unfolding plan_of external_of rowed_of judged_of
plan-numbers v x binding visibility =
    let id : Interned = record { 0 = find_of v.bytes v.names v.link x } in
    let r = external_row_of v.link.gabi id binding visibility in
    pick (λ (d : Decision). In (refusal_of d)) (fits_of (store_of v.bytes v.names v.link) r.name (length x)) _ _
    (λ a.
    AddNumbers.decide-numbers In refl refl refl refl v.link v.symbols v.sections r
    (AddNumbers.external-fields In refl refl refl refl refl refl refl v.link.gabi id binding visibility) (holder_of v.link v.names v.symbols r.name))
    (λ a. refl)

commit-numbers : (s : Added) (x : List ℕ) (p : Definition) (i : ℕ) → In (refusal_of p.decision) → In (commit_of s x p i).stage.number
unfolding commit_of kept_of accept_of
commit-numbers s x p i e =
    pick (λ (a : Added). In a.stage.number) (eqb (refusal_of p.decision) 2) _ _ (λ a. refl)
    (λ a. pick (λ (a : Added). In a.stage.number) (eqb (refusal_of p.decision) 0) _ _ (λ b. refl) (λ b. e))

define-numbers : (s : Added) (x : List ℕ) (binding visibility i : ℕ) → In (define_of s x binding visibility i).stage.number
unfolding define_of
define-numbers s x binding visibility i = commit-numbers s x (plan_of (view s) x binding visibility) i (plan-numbers (view s) x binding visibility)

-- ---- the symbols, the dependencies, the library's row

module _ (entries file : List ℕ) where
  named-numbers : (s : State) (x : List ℕ) (i : ℕ) → In (library_symbol_named entries s x i).stage.number
  unfolding library_symbol_named
  named-numbers s x i =
      pick P (eqb (field entries i 4) 0) _ _ (λ a. pick P (eqb (field entries i 1) 1) _ _ (λ b. record-numbers _ x i) (λ b. refl))
      (λ a. define-numbers _ x (field entries i 1) (field entries i 3) i)
    where
      P : State → Type 0
      P t = In t.stage.number

  symbol-numbers : (s : State) (i : ℕ) → In (symbol_of entries file s i).stage.number
  unfolding symbol_of looked_of
  symbol-numbers s i =
      pick (λ (t : State). In t.stage.number) (look_up file (field entries i 0)).found _ _ (λ a. named-numbers _ (look_up file (field entries i 0)).name i)
      (λ a. refl)

  symbols-numbers : (s : State) → In s.stage.number → In (symbols_of entries file s).stage.number
  unfolding symbols_of
  symbols-numbers s e =
      rw (symbols-loop entries file (rows_in entries) 0 s)
      (loop-holds (λ (t : State). t.stage.number) (symbol_of entries file) (λ (t : State). In t.stage.number) (λ t i h. symbol-numbers t i) (rows_in entries) 0 s e)

module _ (file needs : List ℕ) where
  dependency-numbers : (s : Recorded) (j : ℕ) → In (dependency_of file needs s j).stage.number
  unfolding dependency_of
  dependency-numbers s j = record-numbers _ (look_up file (get_or needs j 0)).name j

  dependencies-numbers : (s : Recorded) → In s.stage.number → In (dependencies_of file needs s).stage.number
  unfolding dependencies_of
  dependencies-numbers s e =
      rw (dependencies-loop file needs (length needs) 0 s)
      (loop-holds (λ (t : Recorded). t.stage.number) (dependency_of file needs) (λ (t : Recorded). In t.stage.number) (λ t j h. dependency-numbers t j) (length needs) 0 s e)

  row-numbers : (inputs : List ℕ) (l : Link) (id : Interned) (first middle : ℕ) → In (library_row_of inputs l id first middle).stage.number
  unfolding library_row_of
  row-numbers inputs l id first middle =
      pick (λ (i : InputLinks). In i.stage.number) (ltb l.inputs (input_rows (length inputs))) _ _ (λ a. refl) (λ a. refl)

  input-numbers : (inputs : List ℕ) (r : Recorded) (id : Interned) (first middle : ℕ) → In r.stage.number → In (input_stage inputs r id first middle).stage.number
  unfolding input_stage
  input-numbers inputs r id first middle e =
      pick (λ (t : ListLinks). In t.stage.number) (eqb r.stage.number 0) _ _ (λ a. row-numbers inputs r.stage.link id first middle) (λ a. e)

  lists-numbers : (s : ListLinks) (id : Interned) (first : ℕ) → In (lists_of file needs s id first).stage.number
  unfolding lists_of
  lists-numbers s id first = input-numbers s.inputs _ id first s.stage.link.lists (dependencies-numbers _ refl)

  stage-numbers : (inputs : List ℕ) (s : State) (id : Interned) (first : ℕ) → In s.stage.number → In (list_stage file needs inputs s id first).stage.number
  unfolding list_stage
  stage-numbers inputs s id first e =
      pick (λ (t : Links). In t.stage.number) (eqb s.stage.number 0) _ _ (λ a. lists-numbers _ id first) (λ a. e)

-- ---- the call

contents-numbers : (entries file needs : List ℕ) (s : Links) (id : Interned) → In s.stage.number → In (contents_of entries file needs s id).stage.number
unfolding contents_of
contents-numbers entries file needs s id e = stage-numbers file needs s.inputs _ id s.stage.link.lists (symbols-numbers entries file _ e)

library-numbers : (entries file needs : List ℕ) (s : Links) (x : List ℕ) → In (library_of entries file needs s x).stage.number
unfolding library_of issued_of Stages.kept_of
library-numbers entries file needs s x =
    pick (λ (t : Links). In t.stage.number)
    (fits_of (store_of s.bytes s.names s.stage.link) (record { 0 = find_of s.bytes s.names s.stage.link x }) (length x)) _ _
    (λ a. contents-numbers entries file needs _ _ refl) (λ a. refl)

ended-numbers : (s : Stage) → In s.number → In (number_in (said_of (ended_as s).answer))
unfolding ended_as
ended-numbers s e = pick (λ (r : Outcome). In (number_in (said_of r.answer))) (eqb s.number 0) _ _ (λ a. refl) (λ a. e)

pub load-numbers : (o : Input) (a : All) → In (number_in (load_of o a).said)
unfolding load_of Load.library_named wanted_of
load-numbers o a =
    pick P (eqb (head_in o a).number 0) _ _
    (λ h.
    pick P (want_of o.asneeded a.link a.bytes a.names a.symbols a.inputs a.lists a.marks o.entries o.image (name_of o)).needed _ _
    (λ w. ended-numbers (library_of o.entries o.image o.needs (links_in a) (name_of o)).stage (library-numbers o.entries o.image o.needs (links_in a) (name_of o)))
    (λ w. refl))
    (λ h. head-gives (λ (r : Refusal). In r.number) (λ k. refl) refl refl refl refl o a)
  where
    P : Left → Type 0
    P x = In (number_in x.said)
