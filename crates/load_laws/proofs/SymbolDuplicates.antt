-- 17 of a library's symbol: what an add of its row answers where the symbols before it have led.
-- Assumes nothing.
use Prim.Native.Nat.{ℕ, ◌+◌, ◌≤◌}
use Rattle.std.proofs.Common.{zero-add, ◌∙◌, eqb-true, eq-eqb}
use native.Mathlib.Omega.{arith}
use Rattle.std.proofs.Math.Path.{◌≡◌, refl, sym, ap, subst}
use Rattle.std.specs.Prelude.{true, ◌≢◌, eqb, ltb, length}
use Rattle.std.proofs.Math.Bool.{false}
use Rattle.std.proofs.lemmas.Bool.{false≢true, eqb-false}
use mathlib.Core.List.{List, [], ◌∷◌, ◌++◌, append_assoc}
use Rattle.cells.specs.Proof.Split.{by-test}
use Rattle.link.specs.Bounds.{input_rows}
use Rattle.byte_slices.specs.Proof.Ways.{pick}
use Rattle.link.specs.declared.cause.Refusal.{Refusal}
use Rattle.link.specs.Judge.{refused, change_of}
use Rattle.link.specs.Said.{number_in, place_in}
use Rattle.gabi.specs.SymbolTable.{Sym}
use Rattle.gabi.specs.Resolution.{duplicate, resolve}
use Rattle.interner.specs.Names.{fits_of, find_of}
use Rattle.symbol.specs.Row.{scope_refused, value_refused}
use Rattle.upcoming_symbol.specs.declared.Conversion.TheVariants as To
use Rattle.upcoming_symbol.specs.Upcoming.{external_row_of}
use Rattle.symbol_resolution.specs.Decision.{Decision}
use Rattle.symbol_resolution.specs.Decide.{refusal_of}
use Rattle.elf_object.specs.Rows.{rows_in, field, elf_at}
use Rattle.elf_object.specs.Judge.{bad_entry}
use Rattle.merge_symbols.specs.Plan.{place_of}
use Rattle.shared_objects.specs.Head.{bad_need, soname_missing, rows_of, unnamed_of, marks_short, name_refusal, after_rows, check_of}
use Rattle.shared_objects.specs.Record.{Recorded, record_fits, keep_name, record_as, record_of, dependency_of, dependencies_of}
use Rattle.shared_objects.specs.Define.{Definition}
use Rattle.shared_objects.specs.Define.{Added, judged_of, rowed_of, external_of, plan_of, accept_of, kept_of, commit_of, view, define_of}
use Rattle.shared_objects.specs.SymbolsLoad.{State, library_symbol_named, looked_of, symbol_of, symbols_of}
use Rattle.shared_objects.specs.Stages.{Links, library_row_of}
use Rattle.shared_objects.specs.Load.{All, Input, Left, ended_as, links_in, wanted_of, head_in, name_of, load_of}
use Rattle.shared_objects.specs.Load as Load
use Rattle.symbol_laws.specs.History as History
use Rattle.symbol_laws.specs.History.{store, Entry, only, rows, issue, id_of}
use Rattle.symbol_laws.proofs.History.{log-append}
use Rattle.symbol_laws.specs.Held.{Inv}
use Rattle.symbol_laws.specs.Gabi.{Means, AllMean, sym_of}
use Rattle.symbol_laws.specs.ContentWords.{shared_entry}
use Rattle.symbol_laws.proofs.Gabi.{external-means}
use Rattle.merge_laws.specs.Steps.{Step, part, others, step_next, step_notes, run_steps, log_steps}
use Rattle.merge_laws.specs.Loop.{loop_steps}
use Rattle.merge_laws.proofs.Loop.{loop, loop-ends, steps-split}
use Rattle.merge_laws.proofs.Kept.{steps-keep}
use Rattle.merge_laws.proofs.Refusals.{Fields}
use Rattle.merge_laws.proofs.Stops.{loop-left}
use Rattle.merge_laws.proofs.ByNumber.{changed}
use Rattle.merge_laws.proofs.Duplicates as Duplicates
use Rattle.merge_laws.proofs.Duplicates.{judged, Held, seventeen-held}
use Rattle.load_laws.specs.LoadSteps.{recording, adding, symbol_steps, list_first, lists_in, list_stage_steps, contents_steps, kept_steps, issued_steps, library_steps, wanted_steps, asked_steps, load_steps}
use Rattle.load_laws.specs.Whole.{table_in, number_of}
use Rattle.load_laws.proofs.Whole.{symbol_table, add_table, symbols-loop, symbols-make-to, dependencies-loop}
use Rattle.load_laws.specs.Elements.{symbol_name}
use Rattle.load_laws.proofs.Refusals.{external-fields, DependencyLeft}
use Rattle.load_laws.proofs.RefusalsLemmas.{dependency-left}
use Rattle.load_laws.specs.Stops as Stops
use Rattle.load_laws.proofs.Stops as StopsLaws
use Rattle.load_laws.specs.Stops.{want, ending}
use Rattle.merge_laws.specs.Table.{binding_causes}
use Rattle.load_laws.specs.SymbolDuplicates.{plan_at, first, symbols_to, steps_to, past_to, symbol_number, row_to, Adds, Comes, RefusedAt, LogBegins}

-- ---- one symbol, from the state that the symbols before it left

module _ (s : Added) (x : List ℕ) (binding visibility i : ℕ) where
  abbrev plan : Definition
  plan = plan_of (view s) x binding visibility

  plan-own : plan.row.name ≡ id_of (add_table s) x
  unfolding plan_of external_of rowed_of external_row_of
  plan-own = refl

  plan-judged : fits_of (store (add_table s)) plan.row.name (length x) ≡ true → plan.decision ≡ judged (add_table s) x plan.row plan-own
  unfolding plan_of external_of rowed_of judged_of external_row_of
  plan-judged w = rw w

  plan-room : eqb (refusal_of plan.decision) 2 ≡ false → fits_of (store (add_table s)) plan.row.name (length x) ≡ true
  unfolding plan_of external_of rowed_of judged_of external_row_of
  plan-room e =
      by-test (fits_of (store (add_table s)) (id_of (add_table s) x) (length x)) (λ t. t) (λ t. absurd (false≢true (sym (rw t at e))))

  plan-fields : Fields binding_causes plan.row
  unfolding plan_of external_of rowed_of
  plan-fields = external-fields s.stage.link.gabi (id_of (add_table s) x) binding visibility

  define-number : (define_of s x binding visibility i).stage.number ≡ refusal_of plan.decision
  unfolding define_of commit_of kept_of accept_of
  define-number =
      by-test (eqb (refusal_of plan.decision) 2) (λ t. rw t (sym (eqb-true _ _ t)))
      (λ t. by-test (eqb (refusal_of plan.decision) 0) (λ z. rw (t, z) (sym (eqb-true _ _ z))) (λ z. rw (t, z)))

  define-place : refusal_of plan.decision ≡ 17 → (define_of s x binding visibility i).stage.place ≡ i
  unfolding define_of commit_of kept_of place_of
  define-place q = rw q

record-other : (s : Recorded) (x : List ℕ) (place : ℕ) → (record_of s x place).stage.number ≡ 17 → ⊥
unfolding record_of record_as keep_name
record-other s x place q =
    by-test (record_fits s.stage.link s.bytes s.names (length s.lists) (record { 0 = find_of s.bytes s.names s.stage.link x }) (length x))
    (λ t. let z : ◌≡◌ {A = ℕ} 0 17 = rw t at q in omega arith) (λ t. let z : ◌≡◌ {A = ℕ} 2 17 = rw t at q in omega arith)

module _ (entries file : List ℕ) (s : State) (i : ℕ) where
  module _ (f : (symbol_name entries file i).found ≡ true) (d : eqb (field entries i 4) 0 ≡ false) where
    pub symbol-number : (symbol_of entries file s i).stage.number ≡ refusal_of (plan_at entries file s i).decision
    unfolding symbol_of looked_of library_symbol_named
    symbol-number = rw (f, d) (define-number (adding s) (symbol_name entries file i).name (field entries i 1) (field entries i 3) i)

    symbol-place : refusal_of (plan_at entries file s i).decision ≡ 17 → (symbol_of entries file s i).stage.place ≡ i
    unfolding symbol_of looked_of library_symbol_named
    symbol-place q = rw (f, d) (define-place (adding s) (symbol_name entries file i).name (field entries i 1) (field entries i 3) i q)

  -- 17 is no number of a symbol that isn't added
  symbol-found : (symbol_of entries file s i).stage.number ≡ 17 → (symbol_name entries file i).found ≡ true
  unfolding symbol_of looked_of
  symbol-found q = by-test (symbol_name entries file i).found (λ t. t) (λ t. let z : ◌≡◌ {A = ℕ} 9 17 = rw t at q in absurd (omega arith))

  symbol-defines : (symbol_of entries file s i).stage.number ≡ 17 → eqb (field entries i 4) 0 ≡ false
  unfolding symbol_of looked_of library_symbol_named
  symbol-defines q =
      let f = symbol-found q in
      by-test (eqb (field entries i 4) 0)
      (λ t.
      by-test (eqb (field entries i 1) 1) (λ b. absurd (record-other (recording s) (symbol_name entries file i).name i (rw (f, t, b) at q)))
      (λ b. let z : ◌≡◌ {A = ℕ} 0 17 = rw (f, t, b) at q in absurd (omega arith)))
      (λ t. t)

-- ---- a load: what it has done before symbol i

module _ (o : Input) (a : All) where
  abbrev pub table_to : ℕ → History.State
  table_to i = symbol_table (symbols_to o a i)

  pub steps-lead : (i : ℕ) → run_steps (steps_to o a i) (table_in a) ≡ table_to i
  steps-lead i = (symbols-make-to o.entries o.image i (first o a)).leads

  pub row-means : (i : ℕ) → Adds o a i → (row_to o a i).scope ≢ 0 → scope_refused (row_to o a i) ≡ false → Means (row_to o a i) (shared_entry a.link.gabi (sym_of (elf_at o.entries i)))
  unfolding plan_of external_of rowed_of
  row-means i is z p =
      external-means To.Nothing (elf_at o.entries i) (id_of (table_to i) (symbol_name o.entries o.image i).name) false 0 _ a.link.gabi is.defines z p

  module _ (past : List Entry) (inv : Inv (table_in a) past) (i : ℕ) where
    kept-to : Inv (table_to i) (past_to o a past i)
    kept-to = subst (λ (t : History.State). Inv t (past_to o a past i)) (steps-lead i) (steps-keep (steps_to o a i) (table_in a) past inv)

    module _ (is : Adds o a i) where
      abbrev name : List ℕ
      name = (symbol_name o.entries o.image i).name

      abbrev own : (row_to o a i).name ≡ id_of (table_to i) name
      own = plan-own (adding (symbols_to o a i)) name (field o.entries i 1) (field o.entries i 3) i

      number-judged : fits_of (store (table_to i)) (row_to o a i).name (length name) ≡ true → symbol_number o a i ≡ refusal_of (judged (table_to i) name (row_to o a i) own)
      number-judged w =
          symbol-number o.entries o.image (symbols_to o a i) i is.found is.defines
          ∙ ap (λ (d : Decision). refusal_of d) (plan-judged (adding (symbols_to o a i)) name (field o.entries i 1) (field o.entries i 3) i w)

      -- 17 itself says that its name has accepted adds, and that it is global and passes
      pub held_at : symbol_number o a i ≡ 17 → Held binding_causes refl (table_to i) (past_to o a past i) (row_to o a i)
      held_at q =
          let k : refusal_of (plan_at o.entries o.image (symbols_to o a i) i).decision ≡ 17 =
          sym (symbol-number o.entries o.image (symbols_to o a i) i is.found is.defines) ∙ q in
          let two : eqb (refusal_of (plan_at o.entries o.image (symbols_to o a i) i).decision) 2 ≡ false = rw k in
          let w = plan-room (adding (symbols_to o a i)) name (field o.entries i 1) (field o.entries i 3) i two in
          seventeen-held binding_causes refl (table_to i) (past_to o a past i) kept-to (row_to o a i)
          (plan-fields (adding (symbols_to o a i)) name (field o.entries i 1) (field o.entries i 3) i) (sym (number-judged w) ∙ q)

      module _ (y : Entry) (ys : List Entry) (e : only (row_to o a i).name.0 (past_to o a past i) ≡ y ∷ ys) where
        number_is : symbol_number o a i ≡ refusal_of (judged (table_to i) name (row_to o a i) own)
        number_is = number-judged (Duplicates.fits (table_to i) name (row_to o a i) own (past_to o a past i) kept-to y ys e)

        module _ (global : (row_to o a i).scope ≢ 0) (passes : scope_refused (row_to o a i) ≡ false) (valued : value_refused (row_to o a i) ≡ false)
            (g : Sym) (gs : List Sym) (m : AllMean (rows (y ∷ ys)) (g ∷ gs)) (h : Sym) (mine : Means (row_to o a i) h) where
          pub refused-duplicate : symbol_number o a i ≡ 17 → resolve ((g ∷ gs) ++ (h ∷ [])) ≡ duplicate
          refused-duplicate q =
              Duplicates.refused-duplicate (table_to i) name (row_to o a i) own (past_to o a past i) kept-to y ys e global passes valued g gs m h mine (sym number_is ∙ q)

          pub duplicate-refused : resolve ((g ∷ gs) ++ (h ∷ [])) ≡ duplicate → symbol_number o a i ≡ 17
          duplicate-refused d =
              number_is ∙ Duplicates.duplicate-refused (table_to i) name (row_to o a i) own (past_to o a past i) kept-to y ys e global passes valued g gs m h mine d

  -- ---- the call's 17 is a symbol's

  refused-at : (i : ℕ) → Comes o a i → symbol_number o a i ≡ 17 → RefusedAt o a i
  refused-at i c q =
      record {
        comes = c;
        refuses = q;
        adds =
            record {
              found = symbol-found o.entries o.image (symbols_to o a i) i q;
              defines = symbol-defines o.entries o.image (symbols_to o a i) i q;
            };
      }

  place_at : (i : ℕ) → symbol_number o a i ≡ 17 → (symbol_of o.entries o.image (symbols_to o a i) i).stage.place ≡ i
  place_at i q =
      let f = symbol-found o.entries o.image (symbols_to o a i) i q in
      let d = symbol-defines o.entries o.image (symbols_to o a i) i q in
      symbol-place o.entries o.image (symbols_to o a i) i f d (sym (symbol-number o.entries o.image (symbols_to o a i) i f d) ∙ q)

  abbrev added : State
  added = Stops.added o.entries o.image o.needs (links_in a) (name_of o)

  abbrev recorded : Recorded
  recorded = Stops.recorded o.entries o.image o.needs (links_in a) (name_of o)

  two-other : ◌≡◌ {A = ℕ} 2 17 → ⊥
  two-other z = omega arith

  none_other : ◌≡◌ {A = ℕ} 0 17 → ⊥
  none_other z = omega arith

  recorded-other : recorded.stage.number ≢ 0 → recorded.stage.number ≡ 17 → ⊥
  unfolding dependencies_of
  recorded-other u q =
      let start : Recorded = list_first (lists_in (links_in a).inputs added) in
      let r =
      loop-left (λ (t : Recorded). t.stage.number) (dependency_of o.image o.needs) DependencyLeft (λ s j z u. dependency-left o.image o.needs s j u)
      (length o.needs) (Stops.dependencies_to o.entries o.image o.needs (links_in a) (name_of o)) start
      (λ n. dependencies-loop o.image o.needs n 0 start) refl u in
      two-other (sym (ap (λ (t : Recorded). t.stage.number) r.leaves.as_it_was) ∙ q)

  library-refused-at : (head_in o a).number ≡ 0 → (want o a).needed ≡ true → (ending o a).stage.number ≡ 17 → RefusedAt o a (ending o a).stage.place
  unfolding symbols_of library_row_of
  library-refused-at h w q =
      by-test (Stops.fits o.entries o.image o.needs (links_in a) (name_of o))
      (λ f.
      let p = StopsLaws.name-pass o.entries o.image o.needs (links_in a) (name_of o) f in
      by-test (eqb added.stage.number 0)
      (λ b.
      let e = p ∙ StopsLaws.symbols-pass o.entries o.image o.needs (links_in a) (name_of o) (eqb-true _ _ b) in
      by-test (eqb recorded.stage.number 0)
      (λ c.
      let k = ap (λ (t : Links). t.stage.number) (e ∙ StopsLaws.dependencies-pass o.entries o.image o.needs (links_in a) (name_of o) (eqb-true _ _ c)) in
      by-test (ltb recorded.stage.link.inputs (input_rows (length a.inputs)))
      (λ t. absurd (none_other (sym (k ∙ rw t) ∙ q))) (λ t. absurd (two-other (sym (k ∙ rw t) ∙ q))))
      (λ c.
      let k = ap (λ (t : Links). t.stage.number) (e ∙ StopsLaws.dependencies-stop o.entries o.image o.needs (links_in a) (name_of o) (eqb-false _ _ c)) in
      absurd (recorded-other (eqb-false _ _ c) (sym k ∙ q))))
      (λ b.
      let r =
      loop-left (λ (t : State). t.stage.number) (symbol_of o.entries o.image) (λ (s t : State) (i : ℕ). Unit {0}) (λ s i z u. tt)
      (rows_in o.entries) (symbols_to o a) (first o a) (λ n. symbols-loop o.entries o.image n 0 (first o a)) refl (eqb-false _ _ b) in
      let e = p ∙ StopsLaws.symbols-stop o.entries o.image o.needs (links_in a) (name_of o) (eqb-false _ _ b) in
      let k : symbol_number o a r.n ≡ 17 = sym (ap (λ (t : Links). t.stage.number) e ∙ ap (λ (t : State). t.stage.number) r.is) ∙ q in
      let at : (ending o a).stage.place ≡ r.n =
      ap (λ (t : Links). t.stage.place) e ∙ ap (λ (t : State). t.stage.place) r.is ∙ place_at r.n k in
      subst (RefusedAt o a) (sym at) (refused-at r.n (record { head = h; needed = w; named = f; below = r.below; going = r.goes }) k)))
      (λ f. absurd (two-other (sym (ap (λ (t : Links). t.stage.number) (StopsLaws.name-stop o.entries o.image o.needs (links_in a) (name_of o) f)) ∙ q)))

  head-other : (head_in o a).number ≡ 17 → ⊥
  unfolding check_of after_rows name_refusal rows_of
  head-other =
      pick P (eqb (change_of a.link _).number 0) _ _
      (λ b.
      pick P (eqb (rows_of o.entries o.image o.needs o.sonamed o.soname).number 0) _ _
      (λ c.
      pick P (unnamed_of o.archived o.sonamed) _ _ (λ d e. omega arith)
      (λ d. pick P (marks_short o.asneeded (length a.marks) a.link.names) _ _ (λ f e. omega arith) (λ f e. omega arith)))
      (λ c.
      pick P (ltb (bad_entry o.entries) (rows_in o.entries)) _ _ (λ d e. omega arith)
      (λ d.
      pick P (soname_missing o.image o.sonamed o.soname) _ _ (λ f e. omega arith)
      (λ f. pick P (ltb (bad_need o.image o.needs) (length o.needs)) _ _ (λ g e. omega arith) (λ g e. omega arith)))))
      (λ b. changed P (λ e. omega arith) (λ k e. omega arith) (λ e. omega arith) a.link _)
    where
      P : Refusal → Type 0
      P r = r.number ≡ 17 → ⊥

  pub load-refused-at : number_in (load_of o a).said ≡ 17 → RefusedAt o a (place_in (load_of o a).said)
  unfolding load_of Load.library_named wanted_of ended_as
  load-refused-at q =
      by-test (eqb (head_in o a).number 0)
      (λ h.
      by-test (want o a).needed
      (λ w.
      by-test (eqb (ending o a).stage.number 0) (λ z. absurd (none_other (rw (h, w, z) at q)))
      (λ z. rw (h, w, z) (library-refused-at (eqb-true _ _ h) w (rw (h, w, z) at q))))
      (λ w. absurd (none_other (rw (h, w) at q))))
      (λ h. absurd (head-other (rw h at q)))

  -- and a symbol's 17 is the call's
  pub load-ends-at : (i : ℕ) → Comes o a i → symbol_number o a i ≡ 17 → refused (number_in (load_of o a).said) (place_in (load_of o a).said) ≡ refused 17 i
  unfolding symbols_of
  load-ends-at i c q =
      let next : State → ℕ → State = symbol_of o.entries o.image in
      let at : symbols_to o a i ≡ loop number_of next i 0 (first o a) = symbols-loop o.entries o.image i 0 (first o a) in
      let here : next (symbols_to o a i) i ≡ next (loop number_of next i 0 (first o a)) (0 + i) =
      ap (λ (t : State). next t i) at ∙ ap (next (loop number_of next i 0 (first o a))) (sym (zero-add i)) in
      let last : added ≡ next (symbols_to o a i) i =
      symbols-loop o.entries o.image (rows_in o.entries) 0 (first o a)
      ∙ loop-ends number_of next i (rows_in o.entries) 0 (first o a) c.below (ap number_of (sym at) ∙ c.going) (λ z. seventeen (sym q ∙ ap number_of here ∙ z))
      ∙ sym here in
      let k : added.stage.number ≡ 17 = ap number_of last ∙ q in
      let e =
      StopsLaws.name-pass o.entries o.image o.needs (links_in a) (name_of o) c.named
      ∙ StopsLaws.symbols-stop o.entries o.image o.needs (links_in a) (name_of o) (λ z. seventeen (sym k ∙ z)) in
      let number : (ending o a).stage.number ≡ 17 = ap (λ (t : Links). t.stage.number) e ∙ k in
      let place : (ending o a).stage.place ≡ i = ap (λ (t : Links). t.stage.place) e ∙ ap (λ (t : State). t.stage.place) last ∙ place_at i q in
      ap (λ (x : Left). refused (number_in x.said) (place_in x.said)) (StopsLaws.refused-breaks o a c.head c.needed (λ z. seventeen (sym number ∙ z)))
      ∙ rw (number, place)
    where
      seventeen : ◌≡◌ {A = ℕ} 17 0 → ⊥
      seventeen z = omega arith

  -- ---- what was done before the symbol is the beginning of what the load does

  joined : (s r b e : List Step) → ((s ++ r) ++ b) ++ e ≡ s ++ ((r ++ b) ++ e)
  joined s r b e = ap (λ (l : List Step). l ++ e) (append_assoc s r b) ∙ append_assoc s (r ++ b) e

  pub record Begins (i : ℕ) : Type 0 where
    pub rest : List Step
    pub is : load_steps o a ≡ steps_to o a i ++ rest

  pub steps-begin-to : (i : ℕ) → (head_in o a).number ≡ 0 → (want o a).needed ≡ true → Stops.fits o.entries o.image o.needs (links_in a) (name_of o) ≡ true
      → i ≤ rows_in o.entries → (symbols_to o a i).stage.number ≡ 0 → Begins i
  unfolding load_steps asked_steps wanted_steps library_steps issued_steps kept_steps contents_steps
  steps-begin-to i head needed named small going =
      let next : State → ℕ → State = symbol_of o.entries o.image in
      let k =
      steps-split number_of next (symbol_steps o.entries o.image) i (rows_in o.entries) 0 (first o a) small
      (ap number_of (sym (symbols-loop o.entries o.image i 0 (first o a))) ∙ going) in
      let symbols : List Step = loop_steps number_of next (symbol_steps o.entries o.image) i 0 (first o a) in
      let lists : List Step =
      list_stage_steps o.image o.needs a.inputs added (id_of (table_in a) (name_of o)) (first o a).stage.link.lists in
      let last : List Step = others (ending o a).sections (ended_as (ending o a).stage).link ∷ [] in
      record {
        rest = (k.rest ++ lists) ++ last;
        is =
            rw (eq-eqb (head_in o a).number 0 head, needed, named)
            (ap (λ (l : List Step). part (issue (name_of o)) ∷ ((l ++ lists) ++ last)) k.is
            ∙ ap (◌∷◌ (part (issue (name_of o)))) (joined symbols k.rest lists last));
      }

  steps-begin : (i : ℕ) → Comes o a i → Begins i
  steps-begin i c = steps-begin-to i c.head c.needed c.named (omega (arith, c.below)) c.going

  pub log-begins : (i : ℕ) → Comes o a i → LogBegins o a i
  log-begins i c =
      let b = steps-begin i c in
      record {
        rest = log_steps b.rest (run_steps (steps_to o a i) (table_in a));
        is = ap (λ (l : List Step). log_steps l (table_in a)) b.is ∙ log-append step_next step_notes (steps_to o a i) b.rest (table_in a);
      }
