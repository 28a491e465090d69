-- A load's answer is that of its head, else, where it is loaded, of the first of its elements that is refused.
-- Assumes nothing.
use Rattle.std.specs.Prelude.{ℕ, ◌/◌, ◌≡◌, Bool, cond, ◌&&◌, length}
use Rattle.std.proofs.Math.Path.{refl, sym, ap}
use Rattle.std.proofs.Common.{◌∙◌, subst, eqb-true}
use Rattle.std.proofs.Math.Bool.{true, false, not}
use mathlib.Core.List.{List, [], ◌++◌}
use Rattle.std.proofs.Math.Dec.{eqb, ltb}
use Rattle.std.proofs.lemmas.Bool.{eqb-false}
use Rattle.cells.specs.Proof.Split.{by-test}
use Rattle.link.specs.declared.Link.{Link}
use Rattle.link.specs.declared.cause.Refusal.{Refusal}
use Rattle.link.specs.Stage.{Stage}
use Rattle.link.specs.declared.Interned.{Interned}
use Rattle.link.specs.Counts.{lent_of}
use Rattle.link.specs.Judge.{refused}
use Rattle.interner_laws.specs.Good.{Good}
use Rattle.interner_laws.proofs.Interns.{keep-good}
use Rattle.shared_objects.specs.Head as Head
use Rattle.shared_objects.specs.Need as Need
use Rattle.shared_objects.specs.Need.{need_of}
use Rattle.shared_objects.specs.Record as Lists
use Rattle.shared_objects.specs.Record.{dependency_of}
use Rattle.shared_objects.specs.SymbolsLoad as Symbols
use Rattle.shared_objects.specs.SymbolsLoad.{symbol_of}
use Rattle.shared_objects.specs.declared.Outcome.{Outcome}
use Rattle.shared_objects.specs.Stages.{Links, library_row_of}
use Rattle.shared_objects.specs.Load.{Input, All, Left, said_of, want_of, ended_as, links_in, wanted_of, library_named, head_in, name_of, load_of}
use Rattle.load_laws.proofs.Unneeded.{head-marks}
use Rattle.load_laws.specs.Names.{state_store}
use Rattle.load_laws.specs.LoadSteps.{list_first, lists_in}
use Rattle.load_laws.specs.Stops.{first, added, recorded, end, fits}
use Rattle.load_laws.proofs.Stops.{listed, name-stop, name-pass, symbols-stop, symbols-pass, dependencies-stop, dependencies-pass}
use Rattle.load_laws.specs.Whole.{table_in}
use Rattle.symbol_laws.specs.History.{State, store}
use Rattle.link_laws.specs.Calls.{refusal_by}
use Rattle.link_laws.specs.Rules.{first_refusal, numbered}
use Rattle.link_laws.proofs.Rules.{numbered-both, turn-numbered, follows, headed, first-is, first-none, taken, left_out}
use Rattle.link_laws.specs.TableRules.{is_unroomed}
use Rattle.link_laws.proofs.InternExactly.{fits-is}
use Rattle.link_laws.proofs.AddExactly.{least-below}
use Rattle.link_laws.specs.MergeRules.{input_rules}
use Rattle.link_laws.specs.LoadRules.{library_name, is_needed, load_head, symbol_rules, dependency_rules, symbol_list, dependency_list, input_list, library_rules, load_rules}
use Rattle.link_laws.proofs.LoadExactly.{head-exactly, head-numbered, symbol_said, record_said, symbol-rules-numbered, symbols-exactly, symbols-good, dependencies-exactly}
use Rattle.link_laws.proofs.LoadNeeded.{needed-is}

module _ (o : Input) (a : All) where
  abbrev t : State
  t = table_in a

  abbrev s : Links
  s = links_in a

  abbrev x : List ℕ
  x = library_name o

  abbrev symbols_done : Symbols.State
  symbols_done = added o.entries o.image o.needs s x

  abbrev lists_done : Lists.Recorded
  lists_done = recorded o.entries o.image o.needs s x

  abbrev whole : Links
  whole = end o.entries o.image o.needs s x

  -- ---- no rule has the number of a result

  symbol-numbered : numbered (symbol_list o a) ≡ true
  symbol-numbered =
      turn-numbered (symbol_rules o) (symbol_of o.entries o.image) (symbol-rules-numbered o) (length o.entries / 8) 0 (first o.entries o.image o.needs s x)

  dependency-numbered : numbered (dependency_list o a) ≡ true
  dependency-numbered =
      turn-numbered (dependency_rules o) (dependency_of o.image o.needs) (λ s j. refl) (length o.needs) 0 (list_first (lists_in a.inputs symbols_done))

  library-numbered : numbered (library_rules o a) ≡ true
  library-numbered = numbered-both (symbol_list o a) ((dependency_list o a) ++ (input_list o a)) symbol-numbered (numbered-both (dependency_list o a) (input_list o a) dependency-numbered refl)

  pub load-numbered : numbered (load_rules o a) ≡ true
  load-numbered =
      numbered-both (load_head o t a.inputs a.lists (length a.marks)) (cond (o.asneeded && not (is_needed o t a.inputs a.lists)) [] (library_rules o a)) (head-numbered o a)
      (by-test (o.asneeded && not (is_needed o t a.inputs a.lists)) (λ e. rw e) (λ e. rw e library-numbered))

  -- ---- stage by stage

  abbrev links_said : Links → Refusal
  links_said k = refused k.stage.number k.stage.place

  input-exactly : (inputs : List ℕ) (l : Link) (id : Interned) (from middle : ℕ)
      → refused (library_row_of inputs l id from middle).stage.number (library_row_of inputs l id from middle).stage.place ≡ first_refusal (input_rules l inputs)
  unfolding library_row_of
  input-exactly inputs l id from middle =
      rw (least-below 4095 (length inputs / 8) l.inputs)
      (by-test (ltb l.inputs 4095 && ltb l.inputs (length inputs / 8)) (λ e. rw e) (λ e. rw e))

  module _ (g : Good (store t)) where
    first_good : Good (state_store (first o.entries o.image o.needs s x))
    first_good = keep-good (store t) x g

    symbols-said : symbol_said symbols_done ≡ first_refusal (symbol_list o a)
    symbols-said = symbols-exactly o (first o.entries o.image o.needs s x) first_good refl

    lists-said : symbols_done.stage.number ≡ 0 → record_said lists_done ≡ first_refusal (dependency_list o a)
    lists-said z = dependencies-exactly o (list_first (lists_in a.inputs symbols_done)) (symbols-good o (first o.entries o.image o.needs s x) first_good z) refl

    -- from the dependencies on
    rest-exactly : symbols_done.stage.number ≡ 0 → links_said (listed o.entries o.image o.needs s x) ≡ first_refusal ((dependency_list o a) ++ (input_list o a))
    rest-exactly z =
        let p = symbols-pass o.entries o.image o.needs s x z in
        follows (dependency_list o a) (input_list o a) (record_said lists_done) _ dependency-numbered (lists-said z)
        (λ e. ap links_said (p ∙ dependencies-stop o.entries o.image o.needs s x (eqb-false _ _ e)))
        (λ e.
        ap links_said (p ∙ dependencies-pass o.entries o.image o.needs s x (eqb-true _ _ e))
        ∙ input-exactly a.inputs lists_done.stage.link _ _ _)

    listed-exactly : links_said (listed o.entries o.image o.needs s x) ≡ first_refusal ((symbol_list o a) ++ ((dependency_list o a) ++ (input_list o a)))
    listed-exactly =
        follows (symbol_list o a) ((dependency_list o a) ++ (input_list o a)) (symbol_said symbols_done) _ symbol-numbered symbols-said
        (λ e. ap links_said (symbols-stop o.entries o.image o.needs s x (eqb-false _ _ e)))
        (λ e. rest-exactly (eqb-true _ _ e))

    library-exactly : links_said whole ≡ first_refusal (library_rules o a)
    library-exactly =
        let f : fits o.entries o.image o.needs s x ≡ not (is_unroomed t x) = fits-is t x g.chained in
        first-is (is_unroomed t x) _ _ (λ e. ap links_said (name-stop o.entries o.image o.needs s x (f ∙ ap not e)))
        (λ e. ap links_said (name-pass o.entries o.image o.needs s x (f ∙ ap not e)) ∙ listed-exactly)

    -- ---- the answer

    ended-said : (k : Stage) (r : Refusal) → refused k.number k.place ≡ r → (eqb r.number 0 ≡ true → r ≡ refused 0 0) → refusal_by (said_of (ended_as k).answer) ≡ r
    unfolding ended_as
    ended-said k r e q =
        by-test (eqb k.number 0)
        (λ b. ap (λ (y : Outcome). refusal_by (said_of y.answer)) (taken _ _ b) ∙ sym (q (ap (λ (y : Refusal). eqb y.number 0) (sym e) ∙ b)))
        (λ b. ap (λ (y : Outcome). refusal_by (said_of y.answer)) (left_out _ _ b) ∙ e)

    name-is : name_of o ≡ x
    unfolding Need.library_name
    name-is = refl

    abbrev left_said : Left → Refusal
    left_said y = refusal_by y.said

    wanted-exactly : (j : Need.Judged) → left_said (wanted_of o.entries o.image o.needs a x j) ≡ first_refusal (cond (not j.needed) [] (library_rules o a))
    unfolding wanted_of
    wanted-exactly j =
        by-test j.needed
        (λ e.
        ap left_said (taken _ _ e) ∙ ended-said whole.stage (first_refusal (library_rules o a)) library-exactly (λ z. first-none (library_rules o a) library-numbered z)
        ∙ ap first_refusal (sym (left_out [] (library_rules o a) (ap not e))))
        (λ e. ap left_said (left_out _ _ e) ∙ ap first_refusal (sym (taken [] (library_rules o a) (ap not e))))

    want_is : eqb (head_in o a).number 0 ≡ true
        → not (want_of o.asneeded a.link a.bytes a.names a.symbols a.inputs a.lists a.marks o.entries o.image x).needed
        ≡ o.asneeded && not (is_needed o t a.inputs a.lists)
    unfolding want_of
    want_is h = go o.asneeded refl
      where
        go : (b : Bool) → o.asneeded ≡ b
            → not (cond b (need_of a.link a.bytes a.names a.symbols a.inputs a.lists a.marks o.entries o.image x) (Need.judged_as a.marks true)).needed
            ≡ b && not (is_needed o t a.inputs a.lists)
        go true e =
            ap not
            (needed-is o t a.inputs a.lists g.chained a.marks
            (head-marks a.link o.archived o.sonamed o.soname (length a.marks)
            (lent_of (length a.names) (length a.bytes) (length a.symbols) (length a.sections) (length a.inputs) (length a.lists)) o.entries o.image o.needs
            (subst (λ (b : Bool). (Head.check_of a.link (lent_of (length a.names) (length a.bytes) (length a.symbols) (length a.sections) (length a.inputs) (length a.lists)) o.entries o.image o.needs o.archived o.sonamed o.soname b (length a.marks)).number ≡ 0) e (eqb-true _ _ h))))
        go false e = refl

    pub load-exactly : left_said (load_of o a) ≡ first_refusal (load_rules o a)
    unfolding load_of library_named
    load-exactly =
        headed (cond (o.asneeded && not (is_needed o t a.inputs a.lists)) [] (library_rules o a)) left_said (load_head o t a.inputs a.lists (length a.marks)) (head_in o a) _ _
        (head-numbered o a) (head-exactly o a) refl
        (λ h. ap (λ (y : List ℕ). left_said (library_named o.entries o.image o.needs o.asneeded a y)) name-is
        ∙ wanted-exactly _ ∙ ap (λ (b : Bool). first_refusal (cond b [] (library_rules o a))) (want_is h))
