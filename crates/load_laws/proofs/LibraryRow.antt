-- The row of a loaded library: its name, the undefined names of binding 1 that it was given, its dependencies, by ids that stand for these names; and
-- earlier libraries' rows and lists stay. So what a later judgement of need reads is what was loaded.
-- Assumes nothing.
use Rattle.shared_objects.specs.declared.Load.TheVariants.{Loaded}
use Rattle.std.specs.Prelude.{ℕ, ◌+◌, ◌*◌, ◌/◌, ◌<◌, ◌≤◌, true, List, eqb, ltb, get_or, take, Ok}
use Rattle.std.proofs.Common.{arith, sym, ap, subst, ◌∙◌}
use Rattle.std.proofs.Math.Path.{◌≡◌, refl}
use Rattle.std.proofs.Math.ListN.{length}
use borrow.Author.Tests.{eqb-true, eqb-false, ltb-true, ltb-false}
use Rattle.cells.specs.Rows.{put_row}
use Rattle.cells.specs.Proof.Rows.{row_same, row_other}
use Rattle.byte_slices.specs.Proof.Ways.{pick}
use Rattle.link.specs.declared.Link.{Link}
use Rattle.link.specs.declared.Lent.{Lent}
use Rattle.link.specs.declared.cause.Refusal.{Refusal}
use Rattle.link.specs.Stage.{Stage}
use Rattle.link.specs.declared.Interned.{Interned}
use Rattle.link.specs.Bounds.{lesser, input_rows}
use Rattle.link.specs.Judge.{going_of, judge_sections, judge_names, judge_lists, after_symbols, after_sections, judge_of, change_of}
use Rattle.link.specs.Counts.{more_inputs}
use Rattle.interner.specs.Names.{Store, store_of, fits_of}
use Rattle.interner_laws.specs.Good.{Good, count, name}
use Rattle.interner_laws.proofs.Histories.{issued-stays}
use Rattle.interner_laws.proofs.Terms.{keeps-good, keeps-names, keeps-issued}
use Rattle.elf_object.specs.Rows.{rows_in, field}
use Rattle.shared_objects.specs.Head.{check_of}
use Rattle.shared_objects.specs.Record.{Recorded, recorded_of, dependencies_of}
use Rattle.shared_objects.specs.SymbolsLoad.{State, state_of, symbols_of}
use Rattle.shared_objects.specs.declared.Outcome.{Outcome}
use Rattle.shared_objects.specs.Stages.{InputLinks, library_cells, library_row_of, ListLinks, list_links, with_input, input_stage, lists_of, Links, with_lists, list_stage, contents_of, with_name, kept_of, issued_of, library_of}
use Rattle.shared_objects.specs.Load.{All, Input, Left, want_of, ended_as, links_in, wanted_of, library_named, head_in, load_of}
use Rattle.load_laws.proofs.Grown.{Grown, first_part, second-part, before_same}
use Rattle.load_laws.specs.LawsRecorded.{most}
use Rattle.load_laws.proofs.Recorded.{keep-lists, dependencies-grown, symbols-grown}
use Rattle.load_laws.specs.Names.{Kept, Each, record_store, state_store, undefined_names, dependency_names}
use Rattle.load_laws.proofs.LawsNames.{kept-both, relinked, each-stays, symbols-names, dependencies-names}
use Rattle.load_laws.proofs.Counted.{keep-inputs, dependencies-count, symbols-count}
use Rattle.load_laws.specs.LibraryRow.{x, self, named, start, loaded, middle, undefineds, dependencies, LibraryRow, LibraryNames}

-- ---- what the head lets through has its lists

passed-lists : (l : Link) (n : Lent) → (judge_of l n).number ≡ 0 → l.lists ≤ n.lists
unfolding judge_of after_sections after_symbols judge_lists
passed-lists l n =
    pick (λ (r : Refusal). r.number ≡ 0 → l.lists ≤ n.lists) (eqb (judge_sections l n.sections).number 0) _ _
    (λ t.
    pick (λ (r : Refusal). r.number ≡ 0 → l.lists ≤ n.lists) (ltb _ l.symbols) _ _ (λ u e. absurd (omega arith))
    (λ u.
    pick (λ (r : Refusal). r.number ≡ 0 → l.lists ≤ n.lists) (eqb (judge_names l n.names n.bytes).number 0) _ _
    (λ v.
    pick (λ (r : Refusal). r.number ≡ 0 → l.lists ≤ n.lists) (ltb _ l.inputs) _ _ (λ w e. absurd (omega arith))
    (λ w. pick (λ (r : Refusal). r.number ≡ 0 → l.lists ≤ n.lists) (ltb n.lists l.lists) _ _ (λ y e. absurd (omega arith)) (λ y e. ltb-false _ _ y)))
    (λ v e. absurd (eqb-false _ _ v e))))
    (λ t e. absurd (eqb-false _ _ t e))

change-lists : (l : Link) (n : Lent) → (change_of l n).number ≡ 0 → l.lists ≤ n.lists
unfolding change_of
change-lists l n =
    pick (λ (r : Refusal). r.number ≡ 0 → l.lists ≤ n.lists) l.broken _ _ (λ t e. absurd (omega arith)) (λ t e. passed-lists l n e)

head-lists : (o : Input) (a : All) → (head_in o a).number ≡ 0 → a.link.lists ≤ length a.lists
unfolding check_of
head-lists o a =
    pick (λ (r : Refusal). r.number ≡ 0 → a.link.lists ≤ length a.lists) (eqb (change_of a.link _).number 0) _ _
    (λ t e. change-lists a.link _ (eqb-true _ _ t)) (λ t e. absurd (eqb-false _ _ t e))

-- ---- the stages, where none refuses

pub below_rows : (k n : ℕ) → k < input_rows n → k * 8 + 8 ≤ n
unfolding lesser
below_rows k n =
    pick (λ (m : ℕ). k < m → k * 8 + 8 ≤ n) (ltb 4095 (n / 8)) _ _ (λ t h. omega (arith, ltb-true 4095 (n / 8) t)) (λ t h. omega arith)

module _ (inputs : List ℕ) (l : Link) (id : Interned) (first middle : ℕ) where
  input-done : (library_row_of inputs l id first middle).stage.number ≡ 0
      → (l.inputs * 8 + 8 ≤ length inputs) × ((library_row_of inputs l id first middle).inputs ≡ put_row inputs l.inputs (library_cells id.0 first middle l.lists))
      × ((library_row_of inputs l id first middle).stage.link ≡ more_inputs l)
  unfolding library_row_of
  input-done =
      pick (λ (r : InputLinks). r.stage.number ≡ 0
      → (l.inputs * 8 + 8 ≤ length inputs) × (r.inputs ≡ put_row inputs l.inputs (library_cells id.0 first middle l.lists)) × (r.stage.link ≡ more_inputs l))
      (ltb l.inputs (input_rows (length inputs))) _ _ (λ t e. (below_rows _ _ (ltb-true _ _ t), refl, refl)) (λ t e. absurd (omega arith))

module _ (file needs : List ℕ) (s : ListLinks) (id : Interned) (first : ℕ) where
  abbrev recordeds : Recorded
  recordeds = dependencies_of file needs (recorded_of s.bytes s.names s.lists (going_of s.stage.link))

  abbrev taken : InputLinks
  taken = library_row_of s.inputs recordeds.stage.link id first s.stage.link.lists

  lists-done : (lists_of file needs s id first).stage.number ≡ 0
      → (recordeds.stage.number ≡ 0) × (taken.stage.number ≡ 0) × (lists_of file needs s id first ≡ with_input recordeds taken)
  unfolding lists_of input_stage
  lists-done =
      pick (λ (r : ListLinks). r.stage.number ≡ 0 → (recordeds.stage.number ≡ 0) × (taken.stage.number ≡ 0) × (r ≡ with_input recordeds taken))
      (eqb recordeds.stage.number 0) _ _ (λ t e. (eqb-true _ _ t, e, refl)) (λ t e. absurd (eqb-false _ _ t e))

module _ (entries file needs : List ℕ) (s : Links) (id : Interned) where
  abbrev symboled : State
  symboled = symbols_of entries file (state_of s.bytes s.names s.symbols s.sections s.lists s.stage)

  abbrev listed : ListLinks
  listed =
      lists_of file needs (list_links symboled.bytes symboled.names s.inputs symboled.lists (going_of symboled.stage.link)) id s.stage.link.lists

  contents-done : (contents_of entries file needs s id).stage.number ≡ 0
      → (symboled.stage.number ≡ 0) × (listed.stage.number ≡ 0) × (contents_of entries file needs s id ≡ with_lists symboled listed)
  unfolding contents_of list_stage
  contents-done =
      pick (λ (r : Links). r.stage.number ≡ 0 → (symboled.stage.number ≡ 0) × (listed.stage.number ≡ 0) × (r ≡ with_lists symboled listed))
      (eqb symboled.stage.number 0) _ _ (λ t e. (eqb-true _ _ t, e, refl)) (λ t e. absurd (eqb-false _ _ t e))

module _ (o : Input) (a : All) where
  abbrev end : Recorded
  end = dependencies_of o.image o.needs (middle o a)

  abbrev after : All
  after = (load_of o a).cells

  abbrev whole : Links
  whole = library_of o.entries o.image o.needs (links_in a) (x o a)

  abbrev contents : Links
  contents = contents_of o.entries o.image o.needs (with_name (links_in a) (named o a) (going_of (named o a).link)) (record { 0 = self o a })

  library-done : whole.stage.number ≡ 0
      → (contents.stage.number ≡ 0) × (whole ≡ contents) × (fits_of (store_of a.bytes a.names a.link) (record { 0 = self o a }) (length (x o a)) ≡ true)
  unfolding library_of issued_of kept_of
  library-done =
      pick (λ (r : Links). r.stage.number ≡ 0
      → (contents.stage.number ≡ 0) × (r ≡ contents) × (fits_of (store_of a.bytes a.names a.link) (record { 0 = self o a }) (length (x o a)) ≡ true))
      (fits_of (store_of a.bytes a.names a.link) (record { 0 = self o a }) (length (x o a))) _ _ (λ t e. (e, refl, t)) (λ t e. absurd (omega arith))

  ended-done : (s : Stage) → (ended_as s).answer ≡ Ok Loaded → (s.number ≡ 0) × ((ended_as s).link ≡ s.link)
  unfolding ended_as
  ended-done s =
      pick (λ (r : Outcome). r.answer ≡ Ok Loaded → (s.number ≡ 0) × (r.link ≡ s.link)) (eqb s.number 0) _ _ (λ t e. (eqb-true _ _ t, refl))
      (λ t e. absurd (let z : ◌≡◌ {A = ℕ} 0 1 = cc in omega arith))

  -- the head lets it through, no stage refuses, and what is left is what the stages left
  record LoadedAs (t : Left) : Type 0 where
    pub passed : (head_in o a).number ≡ 0
    pub unrefused : whole.stage.number ≡ 0
    pub bytes : t.cells.bytes ≡ whole.bytes
    pub names : t.cells.names ≡ whole.names
    pub inputs : t.cells.inputs ≡ whole.inputs
    pub lists : t.cells.lists ≡ whole.lists
    pub link : t.cells.link ≡ whole.stage.link

  load-done : (load_of o a).answer ≡ Ok Loaded → LoadedAs (load_of o a)
  unfolding load_of library_named wanted_of
  load-done =
      pick (λ (t : Left). t.answer ≡ Ok Loaded → LoadedAs t) (eqb (head_in o a).number 0) _ _
      (λ h.
      pick (λ (t : Left). t.answer ≡ Ok Loaded → LoadedAs t)
      (want_of o.asneeded a.link a.bytes a.names a.symbols a.inputs a.lists a.marks o.entries o.image (x o a)).needed _ _
      (λ u e.
      let d = ended-done whole.stage e in
      record { passed = eqb-true _ _ h; unrefused = d.0; bytes = refl; names = refl; inputs = refl; lists = refl; link = d.1 })
      (λ u e. absurd (let z : ◌≡◌ {A = ℕ} 0 1 = cc in omega arith)))
      (λ h e. absurd (let z : ◌≡◌ {A = ℕ} 0 1 = cc in omega arith))

  abbrev k : ℕ
  k = a.link.inputs

  module _ (fit : length a.lists ≤ most) (e : (load_of o a).answer ≡ Ok Loaded) where
    abbrev head-zero : (head_in o a).number ≡ 0
    head-zero = (load-done e).passed

    contents-zero : contents.stage.number ≡ 0
    contents-zero = (library-done (load-done e).unrefused).0

    loaded-zero : (loaded o a).stage.number ≡ 0
    loaded-zero = (contents-done o.entries o.image o.needs (with_name (links_in a) (named o a) (going_of (named o a).link)) (record { 0 = self o a }) contents-zero).0

    abbrev lister : ListLinks
    lister = list_links (loaded o a).bytes (loaded o a).names a.inputs (loaded o a).lists (going_of (loaded o a).stage.link)

    lister-zero : (lists_of o.image o.needs lister (record { 0 = self o a }) (named o a).link.lists).stage.number ≡ 0
    lister-zero = (contents-done o.entries o.image o.needs (with_name (links_in a) (named o a) (going_of (named o a).link)) (record { 0 = self o a }) contents-zero).1

    abbrev row : InputLinks
    row = library_row_of a.inputs end.stage.link (record { 0 = self o a }) (named o a).link.lists (loaded o a).stage.link.lists

    end-zero : end.stage.number ≡ 0
    end-zero = (lists-done o.image o.needs lister (record { 0 = self o a }) (named o a).link.lists lister-zero).0

    row_zero : row.stage.number ≡ 0
    row_zero = (lists-done o.image o.needs lister (record { 0 = self o a }) (named o a).link.lists lister-zero).1

    whole_is : whole ≡ with_lists (loaded o a) (with_input end row)
    whole_is =
        (library-done (load-done e).unrefused).1
        ∙ (contents-done o.entries o.image o.needs (with_name (links_in a) (named o a) (going_of (named o a).link)) (record { 0 = self o a }) contents-zero).2
        ∙ ap (λ (r : ListLinks). with_lists (loaded o a) r) (lists-done o.image o.needs lister (record { 0 = self o a }) (named o a).link.lists lister-zero).2

    first-is : (named o a).link.lists ≡ a.link.lists
    first-is = keep-lists (store_of a.bytes a.names a.link) (record { 0 = self o a }) (x o a)

    low : (named o a).link.lists ≤ length a.lists
    low = rw first-is (head-lists o a head-zero)

    abbrev inputs : Link → ℕ
    inputs l = l.inputs

    inputs-is : end.stage.link.inputs ≡ k
    unfolding dependencies_of symbols_of
    inputs-is =
        dependencies-count inputs keep-inputs (λ l n. refl) (λ l n. refl) o.image o.needs (length o.needs) 0 (middle o a)
        ∙ symbols-count inputs keep-inputs (λ l n. refl) (λ l n. refl) o.entries o.image (rows_in o.entries) 0 (start o a)
        ∙ keep-inputs (store_of a.bytes a.names a.link) (record { 0 = self o a }) (x o a)

    grown-symbols : Grown a.lists (named o a).link.lists (loaded o a).lists (loaded o a).stage.link.lists (undefineds o a)
    unfolding symbols_of
    grown-symbols = symbols-grown o.entries o.image (rows_in o.entries) 0 (start o a) fit low loaded-zero

    grown-dependencies : Grown (loaded o a).lists (loaded o a).stage.link.lists end.lists end.stage.link.lists (dependencies o a)
    unfolding dependencies_of
    grown-dependencies =
        dependencies-grown o.image o.needs (length o.needs) 0 (middle o a) (rw grown-symbols.long fit) grown-symbols.within end-zero

    abbrev cells : List ℕ
    cells = library_cells (self o a) (named o a).link.lists (loaded o a).stage.link.lists end.stage.link.lists

    after-inputs : after.inputs ≡ put_row a.inputs k cells
    after-inputs =
        (load-done e).inputs ∙ ap (λ (s : Links). s.inputs) whole_is
        ∙ (input-done a.inputs end.stage.link (record { 0 = self o a }) (named o a).link.lists (loaded o a).stage.link.lists row_zero).1
        ∙ ap (λ (n : ℕ). put_row a.inputs n cells) inputs-is

    after-lists : after.lists ≡ end.lists
    after-lists = (load-done e).lists ∙ ap (λ (s : Links). s.lists) whole_is

    after-link : after.link ≡ more_inputs end.stage.link
    after-link =
        (load-done e).link ∙ ap (λ (s : Links). s.stage.link) whole_is
        ∙ (input-done a.inputs end.stage.link (record { 0 = self o a }) (named o a).link.lists (loaded o a).stage.link.lists row_zero).2

    last-is : after.link.lists ≡ end.stage.link.lists
    last-is = ap (λ (l : Link). l.lists) after-link

    room : k * 8 + 8 ≤ length a.inputs
    room = rw inputs-is at (input-done a.inputs end.stage.link (record { 0 = self o a }) (named o a).link.lists (loaded o a).stage.link.lists row_zero).0

    cell : (f : ℕ) → f < 8 → field after.inputs k f ≡ get_or cells f 0
    cell f h = ap (λ (l : List ℕ). field l k f) after-inputs ∙ row_same a.inputs k cells f refl h room

    pub library-row : LibraryRow o a
    library-row =
        record {
          kind = cell 0 (omega arith);
          name = cell 1 (omega arith);
          lacks = rw (cell 4 (omega arith), cell 5 (omega arith), after-lists) (
              first_part a.lists (loaded o a).lists end.lists (named o a).link.lists (loaded o a).stage.link.lists end.stage.link.lists (undefineds o a) (dependencies o a) low grown-symbols grown-dependencies
              );
          needs = rw (cell 2 (omega arith), cell 3 (omega arith), after-lists) (
              second-part a.lists (loaded o a).lists end.lists (named o a).link.lists (loaded o a).stage.link.lists end.stage.link.lists (undefineds o a) (dependencies o a) low grown-symbols grown-dependencies
              );
          lacks-in = rw (cell 4 (omega arith), cell 5 (omega arith)) (omega (arith, grown-symbols.count, grown-dependencies.count, last-is));
          needs-in = rw (cell 2 (omega arith), cell 3 (omega arith)) (omega (arith, grown-dependencies.count, last-is));
          counted = ap (λ (l : Link). l.inputs) after-link ∙ ap (λ (n : ℕ). n + 1) inputs-is;
          earlier-rows = λ j f h g. ap (λ (l : List ℕ). field l j f) after-inputs ∙ row_other a.inputs k cells j f refl g (λ q. omega arith);
          earlier-lists =
              ap (λ (l : List ℕ). take a.link.lists l) after-lists ∙ ap (λ (n : ℕ). take n end.lists) (sym first-is)
              ∙ before_same a.lists (loaded o a).lists end.lists (named o a).link.lists (loaded o a).stage.link.lists end.stage.link.lists (undefineds o a) (dependencies o a) low grown-symbols grown-dependencies
              ∙ ap (λ (n : ℕ). take n a.lists) first-is;
        }

    -- ---- and its names, where names are good

    abbrev before : Store
    before = store_of a.bytes a.names a.link

    abbrev store : Store
    store = store_of after.bytes after.names after.link

    module _ (g : Good before) where
      own-kept : Kept before (named o a)
      own-kept = record { good = keeps-good before g (x o a); stays = keeps-names before g (x o a) (record { 0 = self o a }) }

      symbols-kept : Kept (named o a) (state_store (loaded o a)) × Each (state_store (loaded o a)) (undefineds o a) (undefined_names o.entries o.image (rows_in o.entries) 0)
      unfolding symbols_of
      symbols-kept = symbols-names o.entries o.image (rows_in o.entries) 0 (start o a) own-kept.good loaded-zero

      dependencies-kept : Kept (state_store (loaded o a)) (record_store end) × Each (record_store end) (dependencies o a) (dependency_names o.image o.needs (length o.needs) 0)
      unfolding dependencies_of
      dependencies-kept = dependencies-names o.image o.needs (length o.needs) 0 (middle o a) symbols-kept.0.good end-zero

      store_is : store ≡ store_of end.bytes end.names (more_inputs end.stage.link)
      store_is =
          let b : after.bytes ≡ end.bytes = (load-done e).bytes ∙ ap (λ (s : Links). s.bytes) whole_is in
          let n : after.names ≡ end.names = (load-done e).names ∙ ap (λ (s : Links). s.names) whole_is in
          ap (λ (y : List ℕ). store_of y after.names after.link) b
          ∙ ap (λ (y : List ℕ). store_of end.bytes y after.link) n
          ∙ ap (λ (l : Link). store_of end.bytes end.names l) after-link

      -- the row changes no name
      row_kept : Kept (record_store end) store
      row_kept =
          subst (λ (s : Store). Kept (record_store end) s) (sym store_is)
          (relinked end.bytes end.names end.stage.link (more_inputs end.stage.link) refl refl refl refl dependencies-kept.0.good)

      after-symbols : Kept (state_store (loaded o a)) store
      after-symbols = kept-both (state_store (loaded o a)) (record_store end) store dependencies-kept.0 row_kept

      after-own : Kept (named o a) store
      after-own = kept-both (named o a) (state_store (loaded o a)) store symbols-kept.0 after-symbols

      pub library-names : LibraryNames o a
      library-names =
          record {
            kept = kept-both before (named o a) store own-kept after-own;
            own = issued-stays count name (named o a) store (self o a) (x o a) after-own.stays (keeps-issued before g (x o a) (library-done (load-done e).unrefused).2);
            lacked = each-stays (state_store (loaded o a)) store (undefineds o a) _ after-symbols.stays symbols-kept.1;
            listed = each-stays (record_store end) store (dependencies o a) _ row_kept.stays dependencies-kept.1;
          }
