-- What names, rows and lists don't touch of the link stays; so a load that isn't refused leaves it unbroken.
-- Assumes nothing.
use Rattle.std.specs.Prelude.{ℕ, ◌≡◌, refl, Bool, true, false, List, eqb, ltb, get_or, length}
use Rattle.std.proofs.Common.{◌∙◌}
use borrow.Author.Tests.{eqb-true, eqb-false, eq-eqb}
use Rattle.cells.specs.Proof.Split.{by-test}
use Rattle.strings.specs.Lookup.{Looked, look_up}
use Rattle.link.specs.declared.Link.{Link}
use Rattle.link.specs.declared.Lent.{Lent}
use Rattle.link.specs.declared.Interned.{Interned}
use Rattle.link.specs.Bounds.{input_rows}
use Rattle.link.specs.Judge.{going_of, change_of}
use Rattle.link.specs.Counts.{more_inputs, with_symbols, with_lists}
use Rattle.interner.specs.Names.{Store, store_of, find_of, fits_of, keep_of}
use Rattle.symbol_resolution.specs.Decide.{refusal_of}
use Rattle.symbol_resolution.specs.Apply.{table_of}
use Rattle.elf_object.specs.Rows.{rows_in, field}
use Rattle.shared_objects.specs.Head.{check_of}
use Rattle.shared_objects.specs.Record.{Recorded, recorded_of, record_fits, keep_name, record_as, record_of, dependency_of, dependencies_of}
use Rattle.shared_objects.specs.Define.{Definition}
use Rattle.shared_objects.specs.Define.{Added, plan_of, accept_of, kept_of, commit_of, view, define_of}
use Rattle.shared_objects.specs.SymbolsLoad.{State, staged, library_symbol_named, looked_of, symbol_of, symbols_of}
use Rattle.shared_objects.specs.Stages.{ListLinks, Links, library_row_of, input_stage, lists_of, list_stage, contents_of, with_name, issued_of, library_of}
use Rattle.shared_objects.specs.Stages as Stages
use Rattle.shared_objects.specs.Load.{All, Input, ended_as, links_in, wanted_of, head_in, name_of, load_of}
use Rattle.shared_objects.specs.Load as Load
use Rattle.merge_laws.proofs.Issue.{keeps}
use Rattle.merge_laws.proofs.Loop.{loop-holds}
use Rattle.merge_laws.proofs.SymbolStageLemmas.{applied-count}
use Rattle.merge_laws.proofs.Whole.{change-passed}
use Rattle.load_laws.specs.LoadSteps.{recording, adding, list_first, lists_in, symbol_first}
use Rattle.load_laws.proofs.Whole.{symbols-loop, dependencies-loop}
use Rattle.load_laws.specs.Stops.{want, ending}
use Rattle.load_laws.specs.Unbroken.{Loads}

module _ {A : Type 0} (count : Link → A) (same : (s : Store) (id : Interned) (x : List ℕ) → count (keep_of s id x).link ≡ count s.link)
    (also : (l : Link) (n : ℕ) → count (with_symbols l n) ≡ count l) where
  pub commit-count : (s : Added) (x : List ℕ) (p : Definition) (i : ℕ) → count (commit_of s x p i).stage.link ≡ count s.stage.link
  unfolding commit_of kept_of accept_of
  commit-count s x p i =
      let st : Store = store_of s.bytes s.names s.stage.link in
      let k : Store = keep_of st p.id x in
      by-test (eqb (refusal_of p.decision) 2) (λ a. rw a)
      (λ a.
      by-test (eqb (refusal_of p.decision) 0)
      (λ b.
      rw (a, b)
      (applied-count count same also (table_of k.names s.symbols s.sections k.link) p.row p.decision ∙ same st p.id x))
      (λ b. rw (a, b) (same st p.id x)))

  module _ (listed : (l : Link) (n : ℕ) → count (with_lists l n) ≡ count l) where
    record-count : (s : Recorded) (x : List ℕ) (place : ℕ) → count (record_of s x place).stage.link ≡ count s.stage.link
    unfolding record_of record_as keep_name
    record-count s x place =
        let st : Store = store_of s.bytes s.names s.stage.link in
        let id : Interned = record { 0 = find_of s.bytes s.names s.stage.link x } in
        by-test (record_fits s.stage.link s.bytes s.names (length s.lists) id (length x))
        (λ t. rw t (listed (keep_of st id x).link _ ∙ same st id x)) (λ t. rw t)

    named_count : (entries : List ℕ) (s : State) (x : List ℕ) (i : ℕ) → count (library_symbol_named entries s x i).stage.link ≡ count s.stage.link
    unfolding library_symbol_named define_of
    named_count entries s x i =
        by-test (eqb (field entries i 4) 0)
        (λ a. by-test (eqb (field entries i 1) 1) (λ b. rw (a, b) (record-count (recording s) x i)) (λ b. rw (a, b)))
        (λ a. rw a (commit-count (adding s) x (plan_of (view (adding s)) x (field entries i 1) (field entries i 3)) i))

    symbol-count : (entries file : List ℕ) (s : State) (i : ℕ) → count (symbol_of entries file s i).stage.link ≡ count s.stage.link
    unfolding symbol_of looked_of
    symbol-count entries file s i =
        let x : Looked = look_up file (field entries i 0) in
        by-test x.found (λ a. rw a (named_count entries (staged s (going_of s.stage.link)) x.name i)) (λ a. rw a)

    pub symbols-count : (entries file : List ℕ) (s : State) → count (symbols_of entries file s).stage.link ≡ count s.stage.link
    unfolding symbols_of
    symbols-count entries file s =
        rw (symbols-loop entries file (rows_in entries) 0 s)
        (loop-holds (λ t. t.stage.number) (symbol_of entries file) (λ t. count t.stage.link ≡ count s.stage.link)
        (λ t i e. symbol-count entries file t i ∙ e) (rows_in entries) 0 s refl)

    dependency-count : (file needs : List ℕ) (s : Recorded) (j : ℕ) → count (dependency_of file needs s j).stage.link ≡ count s.stage.link
    unfolding dependency_of
    dependency-count file needs s j =
        record-count (recorded_of s.bytes s.names s.lists (going_of s.stage.link)) (look_up file (get_or needs j 0)).name j

    pub dependencies-count : (file needs : List ℕ) (s : Recorded) → count (dependencies_of file needs s).stage.link ≡ count s.stage.link
    unfolding dependencies_of
    dependencies-count file needs s =
        rw (dependencies-loop file needs (length needs) 0 s)
        (loop-holds (λ t. t.stage.number) (dependency_of file needs) (λ t. count t.stage.link ≡ count s.stage.link)
        (λ t j e. dependency-count file needs t j ∙ e) (length needs) 0 s refl)

    module _ (rowed : (l : Link) → count (more_inputs l) ≡ count l) where
      input-count : (inputs : List ℕ) (r : Recorded) (id : Interned) (first middle : ℕ)
          → count (input_stage inputs r id first middle).stage.link ≡ count r.stage.link
      unfolding input_stage library_row_of
      input-count inputs r id first middle =
          by-test (eqb r.stage.number 0)
          (λ a.
          by-test (ltb r.stage.link.inputs (input_rows (length inputs))) (λ b. rw (a, b) (rowed r.stage.link)) (λ b. rw (a, b)))
          (λ a. rw a)

      lists-count : (file needs : List ℕ) (s : ListLinks) (id : Interned) (first : ℕ) → count (lists_of file needs s id first).stage.link ≡ count s.stage.link
      unfolding lists_of
      lists-count file needs s id first =
          input-count s.inputs (dependencies_of file needs (list_first s)) id first s.stage.link.lists ∙ dependencies-count file needs (list_first s)

      list-stage-count : (file needs inputs : List ℕ) (s : State) (id : Interned) (first : ℕ)
          → count (list_stage file needs inputs s id first).stage.link ≡ count s.stage.link
      unfolding list_stage
      list-stage-count file needs inputs s id first =
          by-test (eqb s.stage.number 0) (λ a. rw a (lists-count file needs (lists_in inputs s) id first)) (λ a. rw a)

      pub library-count : (entries file needs : List ℕ) (s : Links) (x : List ℕ) → count (library_of entries file needs s x).stage.link ≡ count s.stage.link
      unfolding library_of issued_of Stages.kept_of contents_of
      library-count entries file needs s x =
          let st : Store = store_of s.bytes s.names s.stage.link in
          let id : Interned = record { 0 = find_of s.bytes s.names s.stage.link x } in
          let k : Store = keep_of st id x in
          let named : Links = with_name s k (going_of k.link) in
          by-test (fits_of st id (length x))
          (λ a.
          rw a
          (list-stage-count file needs s.inputs (symbols_of entries file (symbol_first named)) id k.link.lists
          ∙ symbols-count entries file (symbol_first named) ∙ same st id x))
          (λ a. rw a)

keep-broken : (s : Store) (id : Interned) (x : List ℕ) → (keep_of s id x).link.broken ≡ s.link.broken
keep-broken s id x = keeps (λ (k : Store). k.link.broken ≡ s.link.broken) s id x refl (λ h r. refl)

-- what passes the head isn't broken
head-whole : (l : Link) (n : Lent) (entries file needs : List ℕ) (archived sonamed : Bool) (soname : ℕ) (asneeded : Bool) (marks : ℕ)
    → (check_of l n entries file needs archived sonamed soname asneeded marks).number ≡ 0 → l.broken ≡ false
unfolding check_of
head-whole l n entries file needs archived sonamed soname asneeded marks h =
    by-test (eqb (change_of l n).number 0) (λ a. (change-passed l n (eqb-true _ _ a)).0) (λ a. absurd (eqb-false _ _ a (rw a at h)))

module _ (o : Input) (a : All) where
  pub loaded-whole : (head_in o a).number ≡ 0 → (want o a).needed ≡ true → (ending o a).stage.number ≡ 0 → Loads o a
  unfolding load_of Load.library_named wanted_of ended_as
  loaded-whole h w z =
      record {
        all = rw (eq-eqb (head_in o a).number 0 h, w, eq-eqb (ending o a).stage.number 0 z);
        whole =
            library-count (λ (l : Link). l.broken) keep-broken (λ l n. refl) (λ l n. refl) (λ l. refl) o.entries o.image o.needs (links_in a) (name_of o)
            ∙ head-whole a.link _ o.entries o.image o.needs o.archived o.sonamed o.soname o.asneeded (length a.marks) h;
      }
