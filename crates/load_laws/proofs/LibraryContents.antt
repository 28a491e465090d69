-- The accepted adds of a load, refused or not: each is that of a symbol that the library defines, and its row has what the symbol's entry says.
-- Assumes nothing.
use Rattle.std.specs.Prelude.{ℕ, zero, suc, ◌+◌, ◌<◌, true, false, Bool, ◌≢◌, eqb, length}
use Rattle.std.proofs.Common.{arith, zero-add, sym, ◌∙◌, subst}
use Rattle.std.proofs.Math.Path.{◌≡◌, refl, ap}
use mathlib.Core.List.{List, [], ◌∷◌, ◌++◌, append_assoc}
use borrow.Author.Tests.{eqb-true, eqb-false}
use Rattle.cells.specs.Proof.Split.{by-test}
use Rattle.gabi.specs.SymbolTable.{Sym}
use Rattle.merge_symbols.specs.Plan.{View}
use Rattle.strings.specs.Lookup.{Looked, look_up}
use Rattle.interner.specs.Names.{store_of, fits_of}
use Rattle.interner_laws.specs.Good.{Issued, find}
use Rattle.symbol.specs.declared.Row.{Row}
use Rattle.symbol.specs.Codes.{type_at, visibility_at, value_at, file_at}
use Rattle.symbol.specs.Row.{scope_refused}
use Rattle.symbol_resolution.specs.Decide.{refusal_of}
use Rattle.symbol_resolution.specs.Holder.{holder_of}
use Rattle.upcoming_symbol.specs.Upcoming.{external_row_of}
use Rattle.elf_object.specs.Rows.{rows_in, field}
use Rattle.shared_objects.specs.Define.{Definition}
use Rattle.shared_objects.specs.Define.{judged_of, rowed_of, external_of, plan_of, view}
use Rattle.shared_objects.specs.SymbolsLoad.{State, staged, symbol_of, symbols_of}
use Rattle.link.specs.Judge.{going_of}
use Rattle.shared_objects.specs.Load.{All, Input, links_in, want_of, head_in, name_of, load_of}
use Rattle.symbol_laws.specs.Rank as Rank
use Rattle.symbol_laws.specs.History as History
use Rattle.symbol_laws.specs.History.{store, issue, put, library}
use Rattle.symbol_laws.specs.ObjectWords.{entry}
use Rattle.symbol_laws.specs.ContentWords.{Admitted, shows, shared_entry}
use Rattle.symbol_laws.proofs.ContentWords.{shared-is, decided-passes}
use Rattle.merge_laws.specs.Steps.{Step, part, others}
use Rattle.merge_laws.specs.Marked.{Marked}
use Rattle.merge_laws.proofs.NamesOn.{issued-in}
use Rattle.merge_laws.specs.Loop.{loop_steps}
use Rattle.merge_laws.proofs.Loop.{loop, loop-next, steps_next}
use Rattle.merge_laws.proofs.Profile.{steps-profile}
use Rattle.merge_laws.specs.MergeSteps.{row_steps}
use Rattle.merge_laws.specs.Kept.{added_rows}
use Rattle.merge_laws.proofs.Markless.{added-append}
use Rattle.merge_laws.proofs.LogContents.{all_append}
use Rattle.load_laws.specs.LoadSteps.{recording, adding, named_steps, symbol_steps, contents_steps, kept_steps, issued_steps, library_steps, wanted_steps, asked_steps, load_steps}
use Rattle.load_laws.specs.Whole.{table_in, number_of}
use Rattle.load_laws.proofs.Whole.{symbols-loop, load-makes}
use Rattle.load_laws.specs.Stops as Stops
use Rattle.load_laws.specs.Stops.{want}
use Rattle.load_laws.specs.SymbolDuplicates.{symbols_to, steps_to}
use Rattle.load_laws.proofs.SymbolDuplicates.{table_to, steps-lead, symbol-number, Begins, steps-begin-to}
use Rattle.load_laws.proofs.Accepted.{record-none, lists-none}
use Rattle.load_laws.specs.LibraryContents.{FromLibrary}

module _ (entries file : List ℕ) (s : State) (i : ℕ) (P : Row → Type 0) where
  abbrev x : Looked
  x = look_up file (field entries i 0)

  abbrev p : Definition
  p = plan_of (view (adding (staged s (going_of s.stage.link)))) x.name (field entries i 1) (field entries i 3)

  symbol-rows : (x.found ≡ true → eqb (field entries i 4) 0 ≡ false → refusal_of p.decision ≡ 0 → p.row.scope ≢ 0 → P p.row) → Rank.All P (added_rows (symbol_steps entries file s i))
  unfolding symbol_steps named_steps row_steps
  symbol-rows f =
      by-test x.found
      (λ b.
      by-test (eqb (field entries i 4) 0)
      (λ c.
      by-test (eqb (field entries i 1) 1)
      (λ d. rw (b, c, d) (subst (Rank.All P) (sym (record-none s.sections (recording (staged s (going_of s.stage.link))) x.name i)) tt)) (λ d. rw (b, c, d) tt))
      (λ c.
      by-test (eqb (refusal_of p.decision) 2) (λ d. rw (b, c, d) tt)
      (λ d.
      by-test (eqb (refusal_of p.decision) 0)
      (λ e.
      by-test (eqb p.row.scope 0) (λ v. rw (b, c, d, e, v) tt)
      (λ v. let q : P p.row = f b c (eqb-true _ _ e) (eqb-false _ _ v) in rw (b, c, d, e, v) (q, tt)))
      (λ e. rw (b, c, d, e) tt))))
      (λ b. rw b tt)

-- ---- the row that is planned

module _ (v : View) (x : List ℕ) (e : Sym) where
  abbrev planned : Definition
  planned = plan_of v x e.binding e.visibility

  planned-passes : refusal_of planned.decision ≡ 0 → scope_refused planned.row ≡ false
  unfolding plan_of external_of rowed_of judged_of
  planned-passes z =
      by-test (fits_of (store_of v.bytes v.names v.link) planned.row.name (length x))
      (λ f. (decided-passes v.link v.symbols v.sections planned.row (holder_of v.link v.names v.symbols planned.row.name) (rw f at z)).0)
      (λ f. let q : ◌≡◌ {A = ℕ} 2 0 = rw f at z in absurd (omega arith))

  row_shows : planned.row.scope ≢ 0 → scope_refused planned.row ≡ false
      → Admitted e × (visibility_at planned.row.scope ≡ shows (shared_entry v.link.gabi e))
  unfolding plan_of external_of rowed_of external_row_of
  row_shows = shared-is v.link.gabi e

  planned-shows : planned.row.scope ≢ 0 → refusal_of planned.decision ≡ 0
      → Admitted e × (visibility_at planned.row.scope ≡ shows (shared_entry v.link.gabi e))
  planned-shows g z = row_shows g (planned-passes z)

-- ---- the load

module _ (o : Input) (a : All) where
  abbrev entries : List ℕ
  entries = o.entries

  abbrev file : List ℕ
  file = o.image

  abbrev first : State
  first = Stops.first entries file o.needs (links_in a) (name_of o)

  abbrev From : Row → Type 0
  From = FromLibrary o a

  -- no step before changed the profile
  profile-to : (i : ℕ) → (table_to o a i).link.gabi ≡ a.link.gabi
  profile-to i = ap (λ (t : History.State). t.link.gabi) (sym (steps-lead o a i)) ∙ steps-profile (steps_to o a i) (table_in a)

  module _ (met : List (List ℕ)) (known : Marked (table_in a) met) (head : (head_in o a).number ≡ 0) (needed : (want o a).needed ≡ true)
      (fits : Stops.fits entries file o.needs (links_in a) (name_of o) ≡ true) (i : ℕ) (low : i < rows_in entries) (going : (symbols_to o a i).stage.number ≡ 0)
      (found : (x entries file (symbols_to o a i) i From).found ≡ true) (d : eqb (field entries i 4) 0 ≡ false)
      (z : refusal_of (p entries file (symbols_to o a i) i From).decision ≡ 0) where
    abbrev next : State → ℕ → State
    next = symbol_of entries file

    abbrev bytes : List ℕ
    bytes = (x entries file (symbols_to o a i) i From).name

    abbrev r : Row
    r = (p entries file (symbols_to o a i) i From).row

    its-steps : symbol_steps entries file (symbols_to o a i) i ≡ part (issue bytes) ∷ part (put r library) ∷ []
    unfolding symbol_steps named_steps row_steps
    its-steps = rw (found, d, z)

    steps-to : steps_to o a (suc i) ≡ steps_to o a i ++ (part (issue bytes) ∷ part (put r library) ∷ [])
    steps-to =
        let e = symbols-loop entries file i 0 first in
        let g : number_of (loop number_of next i 0 first) ≡ 0 = ap number_of (sym e) ∙ going in
        ap (◌∷◌ (part (issue (name_of o))))
        (steps_next number_of next (symbol_steps entries file) i 0 first g
        ∙ ap (λ (j : ℕ). loop_steps number_of next (symbol_steps entries file) i 0 first ++ symbol_steps entries file (loop number_of next i 0 first) j) (zero-add i)
        ∙ ap (λ (s : State). loop_steps number_of next (symbol_steps entries file) i 0 first ++ symbol_steps entries file s i) (sym e)
        ∙ ap (◌++◌ (loop_steps number_of next (symbol_steps entries file) i 0 first)) its-steps)

    next-is : symbols_to o a (suc i) ≡ next (symbols_to o a i) i
    next-is =
        let e = symbols-loop entries file i 0 first in
        let g : number_of (loop number_of next i 0 first) ≡ 0 = ap number_of (sym e) ∙ going in
        symbols-loop entries file (suc i) 0 first ∙ loop-next number_of next i 0 first g ∙ ap (next (loop number_of next i 0 first)) (zero-add i) ∙ ap (λ (s : State). next s i) (sym e)

    begins : Begins o a (suc i)
    begins =
        steps-begin-to o a (suc i) head needed fits (omega (arith, low)) (ap number_of next-is ∙ symbol-number entries file (symbols_to o a i) i found d ∙ z)

    own-id : r.name.0 ≡ find (store (table_to o a i)) bytes
    unfolding plan_of external_of rowed_of external_row_of
    own-id = refl

    row_named : Issued (store (table_in (load_of o a).cells)) r.name.0 bytes
    row_named =
        issued-in (table_in a) (table_in (load_of o a).cells) met known (steps_to o a i) (load_steps o a) begins.rest bytes r library
        (begins.is ∙ ap (λ (l : List Step). l ++ begins.rest) steps-to ∙ append_assoc (steps_to o a i) (part (issue bytes) ∷ part (put r library) ∷ []) begins.rest)
        (load-makes o a) (own-id ∙ ap (λ (t : History.State). find (store t) bytes) (sym (steps-lead o a i)))

  module _ (met : List (List ℕ)) (known : Marked (table_in a) met) where
    from-library : (head_in o a).number ≡ 0 → (want o a).needed ≡ true → Stops.fits entries file o.needs (links_in a) (name_of o) ≡ true
        → (i : ℕ) → i < rows_in entries → (symbols_to o a i).stage.number ≡ 0 → (x entries file (symbols_to o a i) i From).found ≡ true → eqb (field entries i 4) 0 ≡ false
        → refusal_of (p entries file (symbols_to o a i) i From).decision ≡ 0 → (p entries file (symbols_to o a i) i From).row.scope ≢ 0
        → From (p entries file (symbols_to o a i) i From).row
    unfolding plan_of external_of rowed_of external_row_of type_at value_at file_at
    from-library head needed fits i h going found d z g =
        let s : State = staged (symbols_to o a i) (going_of (symbols_to o a i).stage.link) in
        let (admitted, visible) = planned-shows (view (adding s)) (look_up file (field entries i 0)).name (entry entries i) g z in
        record {
          number = i;
          below = h;
          defines = eqb-false _ _ d;
          passed = admitted;
          type = refl;
          shown = visible ∙ ap (λ (gabi : Bool). shows (shared_entry gabi (entry entries i))) (profile-to i);
          value = refl;
          found = found;
          named = row_named met known head needed fits i h going found d z;
          filed = refl;
          size = refl;
        }

    rows-from : (head_in o a).number ≡ 0 → (want o a).needed ≡ true → Stops.fits entries file o.needs (links_in a) (name_of o) ≡ true
        → (n i : ℕ) → i + n ≡ rows_in entries → number_of (loop number_of (symbol_of entries file) i 0 first) ≡ 0
        → Rank.All From (added_rows (loop_steps number_of (symbol_of entries file) (symbol_steps entries file) n i (loop number_of (symbol_of entries file) i 0 first)))
    rows-from head needed fits zero i e z = tt
    rows-from head needed fits (suc n) i e z =
        let next : State → ℕ → State = symbol_of entries file in
        let t : State = loop number_of next i 0 first in
        let same : symbols_to o a i ≡ t = symbols-loop entries file i 0 first in
        let mine : Rank.All From (added_rows (symbol_steps entries file t i)) =
        subst (λ (s : State). Rank.All From (added_rows (symbol_steps entries file s i))) same (symbol-rows entries file (symbols_to o a i) i From (from-library head needed fits i (omega arith) (ap number_of same ∙ z))) in
        by-test (eqb (number_of (next t i)) 0)
        (λ b.
        let k : loop number_of next (i + 1) 0 first ≡ next t i =
        ap (λ (j : ℕ). loop number_of next j 0 first) (let q : i + 1 ≡ suc i = omega arith in q) ∙ loop-next number_of next i 0 first z ∙ ap (next t) (zero-add i) in
        rw (b, added-append (symbol_steps entries file t i) (loop_steps number_of next (symbol_steps entries file) n (i + 1) (next t i)))
        (all_append From (added_rows (symbol_steps entries file t i)) _ mine
        (subst (λ (s : State). Rank.All From (added_rows (loop_steps number_of next (symbol_steps entries file) n (i + 1) s))) k
        (rows-from head needed fits n (i + 1) (omega arith) (ap number_of k ∙ eqb-true _ _ b)))))
        (λ b. rw b mine)

    library-rows : (head_in o a).number ≡ 0 → (want o a).needed ≡ true → Rank.All From (added_rows (library_steps entries file o.needs (links_in a) (name_of o)))
    unfolding library_steps issued_steps kept_steps contents_steps
    library-rows head needed =
        by-test (Stops.fits entries file o.needs (links_in a) (name_of o))
        (λ b.
        rw (b, added-append (loop_steps number_of (symbol_of entries file) (symbol_steps entries file) (rows_in entries) 0 first) _, lists-none file o.needs (links_in a).inputs (symbols_of entries file first) _ _)
        (all_append From (added_rows (loop_steps number_of (symbol_of entries file) (symbol_steps entries file) (rows_in entries) 0 first)) [] (rows-from head needed b (rows_in entries) 0 (zero-add _) refl) tt))
        (λ b. rw b tt)

    pub load-logged : Rank.All From (added_rows (load_steps o a))
    unfolding load_steps asked_steps wanted_steps
    load-logged =
        by-test (eqb (head_in o a).number 0)
        (λ b.
        by-test (want_of o.asneeded a.link a.bytes a.names a.symbols a.inputs a.lists a.marks entries file (name_of o)).needed
        (λ c.
        rw (b, c, added-append (library_steps entries file o.needs (links_in a) (name_of o)) (others _ _ ∷ []))
        (all_append From (added_rows (library_steps entries file o.needs (links_in a) (name_of o))) [] (library-rows (eqb-true _ _ b) c) tt))
        (λ c. rw (b, c) tt))
        (λ b. rw b tt)
