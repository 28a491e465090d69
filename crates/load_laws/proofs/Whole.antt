-- A load is its steps.
-- Assumes nothing.
use Prim.Native.Nat.{ℕ, zero, suc, ◌+◌, ◌/◌, ◌<◌, ◌≤◌}
use Rattle.std.proofs.Common.{arith, sym, ltb-true}
use Rattle.std.specs.Prelude.{◌≡◌, Bool, List, [], ◌∷◌, eqb, ltb, get_or, length}
use Rattle.std.proofs.Math.Path.{refl, ap, subst}
use Rattle.std.proofs.Math.Bool.{true, false, cond}
use Rattle.std.proofs.lemmas.Bool.{false≢true}
use Rattle.cells.specs.Proof.Split.{by-test}
use Rattle.strings.specs.Lookup.{Looked, look_up}
use Rattle.link.specs.declared.Link.{Link}
use Rattle.link.specs.declared.Interned.{Interned}
use Rattle.link.specs.Stage.{Stage}
use Rattle.link.specs.Bounds.{input_rows}
use Rattle.link.specs.Judge.{going_of, broken_of}
use Rattle.link.specs.Counts.{more_inputs, with_lists}
use Rattle.interner.specs.Names.{Store, store_of, find_of, fits_of, keep_of}
use Rattle.symbol.specs.Codes.{successor}
use Rattle.upcoming_symbol.specs.Upcoming.{external_row_of}
use Rattle.symbol_resolution.specs.Decide.{refusal_of}
use Rattle.elf_object.specs.Rows.{rows_in, field}
use Rattle.shared_objects.specs.Record.{Recorded, recorded_of, record_fits, keep_name, record_as, record_of, dependency_of, dependencies_from, dependencies_of}
use Rattle.shared_objects.specs.Define.{Definition}
use Rattle.shared_objects.specs.Define.{Added, judged_of, rowed_of, external_of, plan_of, accept_of, kept_of, commit_of, view, define_of}
use Rattle.shared_objects.specs.SymbolsLoad.{State, staged, library_symbol_named, looked_of, symbol_of, symbols_from, symbols_of}
use Rattle.shared_objects.specs.Need.{Judged}
use Rattle.shared_objects.specs.Stages.{ListLinks, Links, library_row_of, input_stage, lists_of, list_stage, contents_of, with_name, issued_of, library_of}
use Rattle.shared_objects.specs.Stages as Stages
use Rattle.shared_objects.specs.Load.{All, Input, want_of, ended_as, links_in, wanted_of, head_in, name_of, load_of}
use Rattle.shared_objects.specs.Load as Load
use Rattle.symbol_laws.proofs.View.{lesser-first}
use Rattle.symbol_laws.specs.History as History
use Rattle.symbol_laws.specs.History.{with_store, issue, library}
use Rattle.merge_laws.specs.Steps.{part, others, counts_from, Bounded, Makes}
use Rattle.merge_laws.proofs.Steps.{makes_none, makes_both}
use Rattle.merge_laws.proofs.Beside.{Beside, beside_none, others-make}
use Rattle.merge_laws.specs.Loop.{loop_steps}
use Rattle.merge_laws.proofs.Loop.{loop, loop-makes}
use Rattle.merge_laws.specs.MergeSteps.{adds_of}
use Rattle.merge_laws.proofs.Committed.{Fair, committed, committed-makes}
use Rattle.merge_laws.proofs.SymbolStage.{chosen-fits, chosen-add}
use Rattle.load_laws.specs.LoadSteps.{record_steps, recording, adding, defined_steps, named_steps, looked_steps, symbol_steps, symbols_steps, dependency_steps, dependencies_steps, input_steps, list_first, lists_steps, lists_in, list_stage_steps, symbol_first, contents_steps, kept_steps, issued_steps, library_steps, wanted_steps, asked_steps, load_steps}
use Rattle.load_laws.specs.Whole.{table_in, number_of}

abbrev library_table : Links → History.State
library_table s = record { bytes = s.bytes; names = s.names; symbols = s.symbols; sections = s.sections; link = s.stage.link }

abbrev pub symbol_table : State → History.State
symbol_table s = record { bytes = s.bytes; names = s.names; symbols = s.symbols; sections = s.sections; link = s.stage.link }

abbrev pub add_table : Added → History.State
add_table s = record { bytes = s.bytes; names = s.names; symbols = s.symbols; sections = s.sections; link = s.stage.link }

-- with the symbols and sections that recording leaves alone
abbrev record_table : List ℕ → List ℕ → Recorded → History.State
record_table symbols sections s = record { bytes = s.bytes; names = s.names; symbols = symbols; sections = sections; link = s.stage.link }

abbrev list_table : List ℕ → List ℕ → ListLinks → History.State
list_table symbols sections s = record { bytes = s.bytes; names = s.names; symbols = symbols; sections = sections; link = s.stage.link }

-- counts alone
counts-beside : (x : List ℕ) (k l : Link) → counts_from l k ≡ l → l.sections ≡ k.sections → (Bounded k → Bounded l) → Beside x k x l
counts-beside x k l c e b = record { long = refl; behind = refl; counts = c; more = omega arith; past = λ q h. refl; bounded = b }

-- ---- a name recorded

-- what fits has room for its name, and a free cell
pub record-room : (l : Link) (bytes names : List ℕ) (lists : ℕ) (id : Interned) (n : ℕ) → record_fits l bytes names lists id n ≡ true
    → (fits_of (store_of bytes names l) id n ≡ true) × (l.lists < lists)
unfolding record_fits
record-room l bytes names lists id n e =
    by-test (fits_of (store_of bytes names l) id n)
    (λ a. by-test (ltb l.lists lists) (λ b. (a, ltb-true _ _ b)) (λ b. absurd (false≢true (rw (a, b) at e))))
    (λ a. absurd (false≢true (rw a at e)))

module _ (symbols sections : List ℕ) where
  record-makes : (s : Recorded) (x : List ℕ) (place : ℕ)
      → Makes (record_table symbols sections s) (record_steps sections s x place) (record_table symbols sections (record_of s x place))
  unfolding record_of record_as keep_name record_steps
  record-makes s x place =
      let id : Interned = record { 0 = find_of s.bytes s.names s.stage.link x } in
      let k : Store = keep_of (store_of s.bytes s.names s.stage.link) id x in
      let named : History.State = with_store (record_table symbols sections s) k in
      let l : Link = with_lists k.link (successor s.stage.link.lists) in
      by-test (record_fits s.stage.link s.bytes s.names (length s.lists) id (length x))
      (λ t.
      rw t
      (makes_both (record_table symbols sections s) named _ (part (issue x) ∷ []) (others sections l ∷ [])
      (record { leads = refl; accepted = ((record-room s.stage.link s.bytes s.names (length s.lists) id (length x) t).0, tt) })
      (others-make named sections l (counts-beside sections k.link l refl refl (λ b. b)))))
      (λ t. rw t (makes_none (record_table symbols sections s)))

-- ---- a symbol that is added

module _ (s : Added) (x : List ℕ) (p : Definition) (i : ℕ) where
  committed-is : committed (add_table s) x p.id p.row p.decision ≡ add_table (commit_of s x p i)
  unfolding commit_of kept_of accept_of
  committed-is =
      by-test (eqb (refusal_of p.decision) 2) (λ t. rw t)
      (λ t. by-test (eqb (refusal_of p.decision) 0) (λ z. rw (t, z)) (λ z. rw (t, z)))

module _ (s : Added) (x : List ℕ) (binding visibility i : ℕ) where
  abbrev plan : Definition
  plan = plan_of (view s) x binding visibility

  abbrev room : Bool
  room = fits_of (store_of s.bytes s.names s.stage.link) (record { 0 = find_of s.bytes s.names s.stage.link x }) (length x)

  fair : Fair (add_table s) x plan.id plan.row plan.decision true
  unfolding plan_of external_of rowed_of judged_of external_row_of adds_of
  fair =
      record {
        found = refl;
        own = refl;
        fits = chosen-fits room false false false _;
        added = λ b. chosen-add room false false false _ refl;
        idle = λ b. absurd (false≢true (sym b));
      }

  define-makes : Makes (add_table s) (defined_steps x plan) (add_table (define_of s x binding visibility i))
  unfolding define_of
  define-makes =
      subst (Makes (add_table s) (defined_steps x plan)) (committed-is s x plan i)
      (committed-makes (add_table s) x plan.id plan.row plan.decision true library fair)

-- ---- symbols

named-makes : (entries : List ℕ) (s : State) (x : List ℕ) (i : ℕ) → Makes (symbol_table s) (named_steps entries s x i) (symbol_table (library_symbol_named entries s x i))
unfolding library_symbol_named named_steps
named-makes entries s x i =
    by-test (eqb (field entries i 4) 0)
    (λ a.
    by-test (eqb (field entries i 1) 1) (λ b. rw (a, b) (record-makes s.symbols s.sections (recording s) x i))
    (λ b. rw (a, b) (makes_none (symbol_table s))))
    (λ a. rw a (define-makes (adding s) x (field entries i 1) (field entries i 3) i))

looked-makes : (entries : List ℕ) (s : State) (i : ℕ) (x : Looked) → Makes (symbol_table s) (looked_steps entries s i x) (symbol_table (looked_of entries s i x))
unfolding looked_of
looked-makes entries s i x =
    by-test x.found (λ a. rw a (named-makes entries (staged s (going_of s.stage.link)) x.name i)) (λ a. rw a (makes_none (symbol_table s)))

module _ (entries file : List ℕ) where
  pub symbol-makes : (s : State) (i : ℕ) → Makes (symbol_table s) (symbol_steps entries file s i) (symbol_table (symbol_of entries file s i))
  unfolding symbol_of symbol_steps
  symbol-makes s i = looked-makes entries s i (look_up file (field entries i 0))

  pub symbols-loop : (n i : ℕ) (s : State) → symbols_from entries file n i s ≡ loop number_of (symbol_of entries file) n i s
  unfolding symbols_from
  symbols-loop zero i s = refl
  symbols-loop (suc n) i s =
      ap (λ (t : State). cond (eqb (symbol_of entries file s i).stage.number 0) t (symbol_of entries file s i))
      (symbols-loop n (i + 1) (symbol_of entries file s i))

  pub symbols-make-to : (n : ℕ) (s : State)
      → Makes (symbol_table s) (loop_steps number_of (symbol_of entries file) (symbol_steps entries file) n 0 s) (symbol_table (symbols_from entries file n 0 s))
  symbols-make-to n s =
      rw (symbols-loop n 0 s)
      (loop-makes number_of (symbol_of entries file) (symbol_steps entries file) symbol_table (λ s. Unit {0}) (λ s i h. tt) (λ s i h. symbol-makes s i) n 0 s tt)

  symbols-make : (s : State) → Makes (symbol_table s) (symbols_steps entries file s) (symbol_table (symbols_of entries file s))
  unfolding symbols_of
  symbols-make s = symbols-make-to (rows_in entries) s

-- ---- dependencies

abbrev record_number : Recorded → ℕ
record_number s = s.stage.number

module _ (file needs : List ℕ) where
  pub dependencies-loop : (n j : ℕ) (s : Recorded) → dependencies_from file needs n j s ≡ loop record_number (dependency_of file needs) n j s
  unfolding dependencies_from
  dependencies-loop zero j s = refl
  dependencies-loop (suc n) j s =
      ap (λ (t : Recorded). cond (eqb (dependency_of file needs s j).stage.number 0) t (dependency_of file needs s j))
      (dependencies-loop n (j + 1) (dependency_of file needs s j))

  module _ (symbols sections : List ℕ) where
    abbrev cells : Recorded → History.State
    cells = record_table symbols sections

    dependency-makes : (s : Recorded) (j : ℕ) → Makes (cells s) (dependency_steps sections file needs s j) (cells (dependency_of file needs s j))
    unfolding dependency_of dependency_steps
    dependency-makes s j =
        record-makes symbols sections (recorded_of s.bytes s.names s.lists (going_of s.stage.link)) (look_up file (get_or needs j 0)).name j

    dependencies-make : (s : Recorded) → Makes (cells s) (dependencies_steps sections file needs s) (cells (dependencies_of file needs s))
    unfolding dependencies_of
    dependencies-make s =
        rw (dependencies-loop (length needs) 0 s)
        (loop-makes record_number (dependency_of file needs) (dependency_steps sections file needs) cells (λ s. Unit {0}) (λ s j h. tt)
        (λ s j h. dependency-makes s j) (length needs) 0 s tt)

-- ---- the library's row

input-beside : (inputs sections : List ℕ) (l : Link) (id : Interned) (first middle : ℕ)
    → Beside sections l sections (library_row_of inputs l id first middle).stage.link
unfolding library_row_of
input-beside inputs sections l id first middle =
    by-test (ltb l.inputs (input_rows (length inputs)))
    (λ t.
    let h : l.inputs < input_rows (length inputs) = ltb-true _ _ t in
    let k : input_rows (length inputs) ≤ 4095 = lesser-first 4095 (length inputs / 8) in
    rw t (counts-beside sections l (more_inputs l) refl refl (λ b. (b.0, omega arith))))
    (λ t. rw t (beside_none sections l))

module _ (symbols sections : List ℕ) where
  input-makes : (inputs : List ℕ) (r : Recorded) (id : Interned) (first middle : ℕ)
      → Makes (record_table symbols sections r) (input_steps sections inputs r id first middle) (list_table symbols sections (input_stage inputs r id first middle))
  unfolding input_stage input_steps
  input-makes inputs r id first middle =
      by-test (eqb r.stage.number 0)
      (λ t. rw t (others-make (record_table symbols sections r) sections _ (input-beside inputs sections r.stage.link id first middle)))
      (λ t. rw t (makes_none (record_table symbols sections r)))

  lists-make : (file needs : List ℕ) (s : ListLinks) (id : Interned) (first : ℕ)
      → Makes (list_table symbols sections s) (lists_steps sections file needs s id first) (list_table symbols sections (lists_of file needs s id first))
  unfolding lists_of lists_steps
  lists-make file needs s id first =
      let r : Recorded = dependencies_of file needs (list_first s) in
      makes_both (list_table symbols sections s) (record_table symbols sections r) _ (dependencies_steps sections file needs (list_first s)) _
      (dependencies-make file needs symbols sections (list_first s)) (input-makes s.inputs r id first s.stage.link.lists)

-- ---- the library

module _ (file needs inputs : List ℕ) where
  list-stage-makes : (s : State) (id : Interned) (first : ℕ)
      → Makes (symbol_table s) (list_stage_steps file needs inputs s id first) (library_table (list_stage file needs inputs s id first))
  unfolding list_stage list_stage_steps
  list-stage-makes s id first =
      by-test (eqb s.stage.number 0) (λ t. rw t (lists-make s.symbols s.sections file needs (lists_in inputs s) id first))
      (λ t. rw t (makes_none (symbol_table s)))

module _ (entries file needs : List ℕ) where
  contents-make : (s : Links) (id : Interned) → Makes (library_table s) (contents_steps entries file needs s id) (library_table (contents_of entries file needs s id))
  unfolding contents_of contents_steps
  contents-make s id =
      let t : State = symbols_of entries file (symbol_first s) in
      makes_both (library_table s) (symbol_table t) _ (symbols_steps entries file (symbol_first s)) _ (symbols-make entries file (symbol_first s))
      (list-stage-makes file needs s.inputs t id s.stage.link.lists)

  library-makes : (s : Links) (x : List ℕ) → Makes (library_table s) (library_steps entries file needs s x) (library_table (library_of entries file needs s x))
  unfolding library_of issued_of Stages.kept_of library_steps issued_steps kept_steps
  library-makes s x =
      let id : Interned = record { 0 = find_of s.bytes s.names s.stage.link x } in
      let k : Store = keep_of (store_of s.bytes s.names s.stage.link) id x in
      let named : Links = with_name s k (going_of k.link) in
      by-test (fits_of (store_of s.bytes s.names s.stage.link) id (length x))
      (λ t.
      rw t
      (makes_both (library_table s) (library_table named) _ (part (issue x) ∷ []) (contents_steps entries file needs named id)
      (record { leads = refl; accepted = (t, tt) }) (contents-make named id)))
      (λ t. rw t (makes_none (library_table s)))

  -- ---- the call

  ended-beside : (sections : List ℕ) (s : Stage) → Beside sections s.link sections (ended_as s).link
  unfolding ended_as
  ended-beside sections s =
      by-test (eqb s.number 0) (λ t. rw t (beside_none sections s.link))
      (λ t. rw t (counts-beside sections s.link (broken_of s.link) refl refl (λ b. b)))

  wanted-makes : (a : All) (x : List ℕ) (j : Judged) → Makes (table_in a) (wanted_steps entries file needs a x j) (table_in (wanted_of entries file needs a x j).cells)
  unfolding wanted_of wanted_steps
  wanted-makes a x j =
      let u : Links = library_of entries file needs (links_in a) x in
      by-test j.needed
      (λ t.
      rw t
      (makes_both (table_in a) (library_table u) _ (library_steps entries file needs (links_in a) x) (others u.sections (ended_as u.stage).link ∷ [])
      (library-makes (links_in a) x)
      (others-make (library_table u) u.sections (ended_as u.stage).link (ended-beside u.sections u.stage))))
      (λ t. rw t (makes_none (table_in a)))

pub load-makes : (o : Input) (a : All) → Makes (table_in a) (load_steps o a) (table_in (load_of o a).cells)
unfolding load_of Load.library_named load_steps asked_steps
load-makes o a =
    by-test (eqb (head_in o a).number 0)
    (λ t.
    rw t
    (wanted-makes o.entries o.image o.needs a (name_of o)
    (want_of o.asneeded a.link a.bytes a.names a.symbols a.inputs a.lists a.marks o.entries o.image (name_of o))))
    (λ t. rw t (makes_none (table_in a)))
