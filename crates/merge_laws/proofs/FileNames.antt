-- The file name of an object's symbol. "Type 4 sets the file name of the symbols after it": a symbol's row has the name of the last symbol of type 4 before it.
-- Assumes nothing.
use Prim.Native.Nat.{ℕ, zero, suc, ◌<◌, ◌≤◌}
use Rattle.std.proofs.Common.{arith, zero-add, sym, ◌∙◌, ltb-true, ltb-false}
use Rattle.std.proofs.Math.Path.{◌≡◌, refl, ap, subst}
use Rattle.std.specs.Prelude.{true, false, List, [], ◌∷◌, ◌++◌, eqb, ltb, length, Some, Bool, cond, not, ◌&&◌}
use Rattle.cells.specs.Proof.Split.{by-test}
use Rattle.gabi.specs.SymbolTable.{stt_file}
use Rattle.link.specs.declared.Interned.{Interned}
use Rattle.interner.specs.Names.{Store, fits_of}
use Rattle.interner_laws.specs.Good.{Issued, Stays, count, name, find}
use Rattle.interner_laws.proofs.Histories.{issued-stays}
use Rattle.interner_laws.proofs.Interns.{keep-issued}
use Rattle.symbol.specs.Codes.{successor, file_at}
use Rattle.symbol_resolution.specs.Decision.{Decision}
use Rattle.symbol_resolution.specs.Decide.{refusal_of}
use Rattle.upcoming_symbol.specs.Upcoming.{elf_row_of}
use Rattle.elf_object.specs.Rows.{rows_in, field}
use Rattle.section_groups.specs.Filter.{filter_of, dropped_at}
use Rattle.merge_symbols.specs.Plan.{input_of, is_first, filtered_at, judged_of, rowed_of, read_of, planned_of, file_after}
use Rattle.merge_symbols.specs.Stage as Symbols
use Rattle.merge_stages.specs.Stages.{All, Object, symbols_in}
use Rattle.merge_elf.specs.Merge.{head_in, merge_of}
use Rattle.symbol_laws.specs.History.{State, store, issue, id_of, part_next}
use Rattle.symbol_laws.specs.ObjectWords.{entry}
use Rattle.symbol_laws.proofs.DirectContents.{file-back}
use Rattle.merge_laws.specs.FileNames.{IsFile, none, last}
use Rattle.merge_laws.specs.MergeWords as Words
use Rattle.merge_laws.specs.Steps.{Step, part, run_steps, Makes}
use Rattle.merge_laws.proofs.Loop.{loop, loop-next, loop-going}
use Rattle.merge_laws.specs.MergeSteps.{symbol_first, adds_of, row_steps, named_steps, symbol_steps, merge_steps}
use Rattle.merge_laws.specs.Marked.{Marked, marks_of}
use Rattle.merge_laws.proofs.MarkedLemmas.{steps-marked}
use Rattle.merge_laws.proofs.NamesOn.{rest-makes, steps-stay}
use Rattle.merge_laws.specs.SymbolIds.{is_dropped, name_of, plan_of}
use Rattle.merge_laws.proofs.SymbolIds.{commit-number}
use Rattle.merge_laws.specs.SymbolStage as SymbolStage
use Rattle.merge_laws.specs.SymbolStage.{number_of}
use Rattle.merge_laws.proofs.SymbolStageLemmas.{symbol-makes, symbols-loop}
use Rattle.merge_laws.specs.SymbolDuplicates.{steps_to, row_to}
use Rattle.merge_laws.proofs.SymbolDuplicates.{table_to, steps-make, Begins, steps-begin-to}
use Rattle.merge_laws.specs.Whole.{table_in}
use Rattle.merge_laws.proofs.Whole.{merge-makes}
use Rattle.merge_laws.specs.Stops.{reserved, object, grouped, marked, symbol_reader, symbols_to}
use Rattle.merge_laws.proofs.WorkGroups.{symbols-are, bears-own}
use Rattle.merge_laws.proofs.ObjectContents.{lost-is}
use Rattle.merge_laws.proofs.Profile.{makes-profile}

-- ---- laws of the words

-- what holds below i and of i holds below its successor
up_to : (P : ℕ → Type 0) (i j : ℕ) → P i → (j < i → P j) → j < suc i → P j
up_to P i j here below h = by-test (ltb j i) (λ t. below (ltb-true j i t)) (λ t. subst P (let l : i ≤ j = ltb-false j i t in let q : i ≡ j = omega arith in q) here)

module _ (s : Store) (names : ℕ → Bool) (Bears : ℕ → List ℕ → Type 0) (i f : ℕ) where
  abbrev Other : ℕ → Type 0
  Other j = names j ≡ false

  -- one symbol further, which is of another type
  further : Other i → IsFile s names Bears i f → IsFile s names Bears (suc i) f
  further u (none all e) = none (λ j. up_to Other i j u (all j)) e
  further u (last j id b h e all c k q) = last j id b (omega arith) e (λ k l. up_to Other i k u (all k l)) c k q

  -- said by other words
  renamed : (others : ℕ → Bool) → ((j : ℕ) → j < i → names j ≡ others j) → IsFile s names Bears i f → IsFile s others Bears i f
  renamed others w (none all e) = none (λ j l. sym (w j l) ∙ all j l) e
  renamed others w (last j id b h e all c k q) = last j id b h (sym (w j h) ∙ e) (λ k l m. sym (w k m) ∙ all k l m) c k q

  -- in a later link
  pub file-stays : (t : Store) → Stays s t → IsFile s names Bears i f → IsFile t names Bears i f
  file-stays t w (none all q) = none all q
  file-stays t w (last j id b h e all c k q) = last j id b h e all c (issued-stays count name s t id.0 b w k) q

-- ---- the symbols of a merge

module _ (o : Object) (a : All) (met : List (List ℕ)) (known : Marked (table_in a) met) (head : (head_in o a).number ≡ 0) (goes : (reserved o a).reserved.number ≡ 0)
    (groups : (grouped o a).stage.number ≡ 0) (filter : ltb (filter_of (marked o a).stage.link.gabi (marked o a).work (object o a).entries) (rows_in (object o a).entries) ≡ false) where
  abbrev reader : Symbols.Object
  reader = symbol_reader o a

  abbrev t : List ℕ
  t = (object o a).entries

  abbrev end : Store
  end = store (table_in (merge_of o a).cells)

  abbrev first : Symbols.State
  first = symbol_first (symbols_in (marked o a))

  abbrev next : Symbols.State → ℕ → Symbols.State
  next = Symbols.symbol_of reader

  abbrev bytes : ℕ → List ℕ
  bytes i = (name_of reader i).name

  abbrev Bears : ℕ → List ℕ → Type 0
  Bears = Words.Bears o.headers o.entries o.contents o.image

  -- the symbols that name a file: as the state says of them, and in words
  abbrev names : ℕ → Bool
  names j = cond (is_dropped reader (symbols_to o a j) j) false (eqb (field t j 2) stt_file)

  abbrev pub said_names : ℕ → Bool
  said_names = Words.names_file o.headers o.entries o.contents o.image a.stage.link.gabi met

  profile-to : (j : ℕ) → (symbols_to o a j).stage.link.gabi ≡ a.stage.link.gabi
  profile-to j = makes-profile (table_in a) (table_to o a j) (steps_to o a j) (steps-make o a j)

  names-are : (j : ℕ) → j < rows_in t → names j ≡ said_names j
  names-are j h =
      ap (λ (b : Bool). cond b false (eqb (field t j 2) stt_file)) (ap (λ (g : Bool). dropped_at g (marked o a).work t j) (profile-to j) ∙ by-profile a.stage.link.gabi)
      ∙ tree (a.stage.link.gabi && lost) (eqb (field t j 2) stt_file)
      ∙ ap (λ (l : List ℕ). not (a.stage.link.gabi && lost) && eqb (entry l j).type stt_file) (symbols-are o a head goes)
    where
      lost : Bool
      lost = Words.is_lost o.headers o.entries o.contents o.image met j

      by-profile : (g : Bool) → dropped_at g (marked o a).work t j ≡ g && lost
      by-profile true = lost-is o a head goes groups met known j h
      by-profile false = refl

      tree : (d f : Bool) → cond d false f ≡ not d && f
      tree true f = refl
      tree false f = refl

  abbrev name_id : Symbols.State → ℕ → Interned
  name_id s i = id_of (SymbolStage.table_in s) (bytes i)

  -- an accepted symbol, and what it leaves of the file
  module _ (s : Symbols.State) (i : ℕ) (fine : (next s i).stage.number ≡ 0) where
    abbrev decision : Decision
    decision = (plan_of reader s i).decision

    found : is_dropped reader s i ≡ false → (name_of reader i).found ≡ true
    unfolding Symbols.symbol_of Symbols.looked_of
    found k = by-test (name_of reader i).found (λ b. b) (λ b. let z : ◌≡◌ {A = ℕ} 9 0 = rw (k, b) at fine in absurd (omega arith))

    -- a dropped one leaves it
    file-left : is_dropped reader s i ≡ true → (next s i).stage.file ≡ s.stage.file
    unfolding Symbols.symbol_of
    file-left d = rw d

  module _ (s : Symbols.State) (i : ℕ) (fine : (next s i).stage.number ≡ 0) (keeps : is_dropped reader s i ≡ false) where
    decided : refusal_of (decision s i fine) ≡ 0
    unfolding Symbols.symbol_of Symbols.looked_of
    decided = commit-number (input_of t (marked o a).work) s (bytes i) i (rw (keeps, found s i fine keeps) at fine)

    file-next : (next s i).stage.file ≡ file_after s.stage.file (field t i 2) (name_id s i)
    unfolding Symbols.symbol_of Symbols.looked_of Symbols.symbol_named Symbols.commit_of Symbols.kept_of Symbols.accept_row planned_of read_of rowed_of
    file-next = rw (keeps, found s i fine keeps, decided)

    fits : fits_of (store (SymbolStage.table_in s)) (name_id s i) (length (bytes i)) ≡ true
    unfolding planned_of read_of rowed_of judged_of elf_row_of
    fits =
        by-test (fits_of (store (SymbolStage.table_in s)) (name_id s i) (length (bytes i))) (λ b. b)
        (λ b. let z : ◌≡◌ {A = ℕ} 2 0 = rw b at decided in absurd (omega arith))

    -- of type 4: its name is issued, and no row is added
    its-steps : eqb (field t i 2) 4 ≡ true → symbol_steps reader s i ≡ part (issue (bytes i)) ∷ []
    unfolding symbol_steps named_steps row_steps adds_of
    its-steps b =
        by-test (is_first i (eqb (length (bytes i)) 0) (filtered_at t (marked o a).work i)) (λ c. rw (keeps, found s i fine keeps, decided, b, c)) (λ c. rw (keeps, found s i fine keeps, decided, b, c))

  next-is : (i : ℕ) → (symbols_to o a i).stage.number ≡ 0 → symbols_to o a (suc i) ≡ next (symbols_to o a i) i
  next-is i z =
      let e = symbols-loop reader i 0 first in
      let g : number_of (loop number_of next i 0 first) ≡ 0 = ap number_of (sym e) ∙ z in
      symbols-loop reader (suc i) 0 first ∙ loop-next number_of next i 0 first g ∙ ap (next (loop number_of next i 0 first)) (zero-add i)
      ∙ ap (λ (s : Symbols.State). next s i) (sym e)

  before-is : (i : ℕ) → (symbols_to o a (suc i)).stage.number ≡ 0 → (symbols_to o a i).stage.number ≡ 0
  before-is i z =
      ap number_of (symbols-loop reader i 0 first)
      ∙ loop-going number_of next (suc i) 0 i first refl (ap number_of (sym (symbols-loop reader (suc i) 0 first)) ∙ z) (omega arith)

  -- a symbol of type 4: its name's bytes at the end
  module _ (i : ℕ) (low : i < rows_in t) (z : (symbols_to o a (suc i)).stage.number ≡ 0) where
    abbrev before : State
    before = table_to o a i

    abbrev then : State
    then = part_next (issue (bytes i)) before

    going : (symbols_to o a i).stage.number ≡ 0
    going = before-is i z

    fine : (next (symbols_to o a i) i).stage.number ≡ 0
    fine = ap number_of (sym (next-is i going)) ∙ z

    before-marked : Marked before (met ++ marks_of (steps_to o a i) (table_in a))
    before-marked =
        let m = steps-make o a i in
        subst (λ (t : State). Marked t (met ++ marks_of (steps_to o a i) (table_in a))) m.leads (steps-marked (steps_to o a i) (table_in a) met m.accepted known)

    begins : Begins o a (suc i)
    begins = steps-begin-to o a (suc i) head goes groups filter (omega (arith, low)) z

    file-issued : is_dropped reader (symbols_to o a i) i ≡ false → eqb (field t i 2) 4 ≡ true → Issued end (find (store before) (bytes i)) (bytes i)
    file-issued kept b =
        let leads : table_to o a (suc i) ≡ then =
        ap SymbolStage.table_in (next-is i going) ∙ sym (symbol-makes reader (symbols_to o a i) i).leads
        ∙ ap (λ (l : List Step). run_steps l before) (its-steps (symbols_to o a i) i fine kept b) in
        let on : Makes then begins.rest (table_in (merge_of o a).cells) =
        rest-makes (table_in a) then (table_in (merge_of o a).cells) (steps_to o a (suc i)) (merge_steps o a) begins.rest
        (subst (Makes (table_in a) (steps_to o a (suc i))) leads (steps-make o a (suc i))) begins.is (merge-makes o a) in
        let fit = fits (symbols_to o a i) i fine kept in
        issued-stays count name (store then) end (find (store before) (bytes i)) (bytes i)
        (subst (λ (t : State). Stays (store then) (store t)) on.leads
        (steps-stay begins.rest then _ on.accepted (steps-marked (part (issue (bytes i)) ∷ []) before _ (fit, tt) before-marked)))
        (keep-issued (store before) (bytes i) before-marked.good fit)

  file-same : (i : ℕ) → (symbols_to o a (suc i)).stage.number ≡ 0 → is_dropped reader (symbols_to o a i) i ≡ false
      → (symbols_to o a (suc i)).stage.file ≡ file_after (symbols_to o a i).stage.file (field t i 2) (name_id (symbols_to o a i) i)
  file-same i z k =
      let e = next-is i (before-is i z) in
      ap (λ (s : Symbols.State). s.stage.file) e ∙ file-next (symbols_to o a i) i (ap number_of (sym e) ∙ z) k

  file-dropped : (i : ℕ) → (symbols_to o a (suc i)).stage.number ≡ 0 → is_dropped reader (symbols_to o a i) i ≡ true → (symbols_to o a (suc i)).stage.file ≡ (symbols_to o a i).stage.file
  file-dropped i z d =
      let e = next-is i (before-is i z) in
      ap (λ (s : Symbols.State). s.stage.file) e ∙ file-left (symbols_to o a i) i (ap number_of (sym e) ∙ z) d

  file-to : (i : ℕ) → i ≤ rows_in t → (symbols_to o a i).stage.number ≡ 0 → IsFile end names Bears i (symbols_to o a i).stage.file
  unfolding file_after Symbols.symbols_from file_at
  file-to zero h z = none (λ j l. absurd (omega arith)) refl
  file-to (suc i) h z =
      by-test (is_dropped reader (symbols_to o a i) i)
      (λ d.
      subst (IsFile end names Bears (suc i)) (sym (file-dropped i z d))
      (further end names Bears i (symbols_to o a i).stage.file (rw d) (file-to i (omega arith) (before-is i z))))
      (λ d.
      by-test (eqb (field t i 2) 4)
      (λ b.
      let id : Interned = name_id (symbols_to o a i) i in
      let e : (symbols_to o a (suc i)).stage.file ≡ successor id.0 = file-same i z d ∙ rw b in
      last i id (bytes i) (omega arith) (rw (d, b)) (λ k p q. absurd (omega arith))
      (bears-own o a head goes i (omega arith) (found (symbols_to o a i) i (fine i (omega arith) z) d)) (file-issued i (omega arith) z d b)
      (λ l. ap file_at e ∙ file-back (Some id) l))
      (λ b.
      let e : (symbols_to o a (suc i)).stage.file ≡ (symbols_to o a i).stage.file = file-same i z d ∙ rw b in
      subst (IsFile end names Bears (suc i)) (sym e)
      (further end names Bears i (symbols_to o a i).stage.file (rw (d, b)) (file-to i (omega arith) (before-is i z)))))

  row-cell : (i : ℕ) → (row_to o a i).file ≡ (symbols_to o a i).stage.file
  unfolding planned_of read_of rowed_of elf_row_of
  row-cell i = refl

  -- the row of symbol i, of the object's own table
  pub row-file : (i : ℕ) → i < rows_in t → (symbols_to o a i).stage.number ≡ 0 → IsFile end said_names Bears i (row_to o a i).file
  row-file i h z =
      subst (IsFile end said_names Bears i) (sym (row-cell i))
      (renamed end names Bears i (symbols_to o a i).stage.file said_names (λ j l. names-are j (omega (arith, h, l))) (file-to i (omega (arith, h)) z))
