-- A load of a shared object under another key of the hash: the same answer and marks, and a link that is alike again.
-- Assumes nothing.
use Prim.Native.Nat.{ℕ, zero, suc, ◌+◌, ◌<◌}
use Rattle.std.specs.Prelude.{◌≡◌, eqb, ltb, length, get_or}
use Rattle.std.proofs.Math.Path.{refl, ap, subst}
use Rattle.std.proofs.Common.{sym}
use Rattle.std.proofs.Math.Bool.{Bool, true, false, cond}
use Rattle.std.proofs.lemmas.Bool.{false≢true}
use mathlib.Core.List.{List}
use Rattle.cells.specs.Proof.Split.{by-test}
use Rattle.link.specs.declared.Link.{Link}
use Rattle.link.specs.declared.Interned.{Interned}
use Rattle.link.specs.Bounds.{input_rows}
use Rattle.link.specs.Judge.{going_of}
use Rattle.link.specs.Counts.{lent_of}
use Rattle.strings.specs.Lookup.{Looked, look_up}
use Rattle.interner.specs.Names.{Store, store_of, fits_of, keep_of}
use Rattle.interner_laws.specs.Good.{find}
use Rattle.interner_laws.specs.Interns.{id_of}
use Rattle.upcoming_symbol.specs.Upcoming.{external_row_of}
use Rattle.symbol_resolution.specs.Decide.{refusal_of}
use Rattle.symbol_resolution.specs.Apply.{Table, table_of}
use Rattle.elf_object.specs.Rows.{rows_in, field}
use Rattle.merge_symbols.specs.Plan.{View}
use Rattle.shared_objects.specs.Head.{check_of, after_rows, name_refusal}
use Rattle.cells.specs.Search.{any_from}
use Rattle.shared_objects.specs.Need as Need
use Rattle.shared_objects.specs.Need.{Judged, clear_named, clear_mark, clear_from, clear_all, mark_all, wanted_in, name_wanted, symbol_wanted, some_wanted, marked_of, need_of, judged_as}
use Rattle.shared_objects.specs.Record.{Recorded, recorded_of, record_fits, recorded, keep_name, record_as, record_of, dependency_of, dependencies_from, dependencies_of}
use Rattle.shared_objects.specs.Define.{Definition}
use Rattle.shared_objects.specs.Define.{judged_of, rowed_of, external_of, plan_of, Added, added_of, tabled, accept_of, with_row, kept_of, commit_of, view, define_of}
use Rattle.shared_objects.specs.SymbolsLoad.{State, state_of, with_added, with_recorded, staged, library_symbol_named, looked_of, symbol_of, symbols_from, symbols_of}
use Rattle.shared_objects.specs.Stages as Stages
use Rattle.shared_objects.specs.Stages.{library_row_of, ListLinks, list_links, input_stage, lists_of, Links, links_of, with_lists, list_stage, contents_of, with_name, issued_of, library_of}
use Rattle.shared_objects.specs.Load as Load
use Rattle.shared_objects.specs.Load.{All, all_of, Input, want_of, ended_as, links_in, leave_loaded, wanted_of, head_in, name_of, load_of}
use Rattle.key_laws.specs.Rekeyed.{keyed, rekeyed, Rekeyed, Moved}
use Rattle.key_laws.proofs.RekeyedLemmas.{moved, moved_cond, find-same, fits-same, keep-moved, with-counts}
use Rattle.key_laws.proofs.Tables.{change-keyed, holder-same, apply-moved}
use Rattle.key_laws.proofs.Groups.{stage_under, keep-chains, fits-row}
use Rattle.key_laws.proofs.SymbolStage.{view_store, view_under, decision-same}

-- ---- whether it is needed

module _ (k : ℕ) (s : Store) (n : List ℕ) (e : Rekeyed k s n) (entries file : List ℕ) where
  abbrev l : Link
  l = s.link

  clear-same : (i : ℕ) (marks : List ℕ) → clear_mark s.bytes n (keyed k l) entries file i marks ≡ clear_mark s.bytes s.names l entries file i marks
  unfolding clear_mark clear_named
  clear-same i marks = rw (find-same k s n e (look_up file (field entries i 0)).name)

  clear-from-same : (m i : ℕ) (marks : List ℕ)
      → clear_from s.bytes n (keyed k l) entries file m i marks ≡ clear_from s.bytes s.names l entries file m i marks
  unfolding clear_from
  clear-from-same zero i marks = refl
  clear-from-same (suc m) i marks = rw (clear-same i marks) (clear-from-same m (i + 1) _)

  wanted-same : (symbols marks : List ℕ) (id : ℕ) → wanted_in (keyed k l) n symbols marks id ≡ wanted_in l s.names symbols marks id
  unfolding wanted_in
  wanted-same symbols marks id = rw (holder-same k s n e symbols (record { 0 = id }))

  symbol-wanted-same : (symbols marks : List ℕ) (i : ℕ)
      → symbol_wanted (Need.view_of s.bytes n symbols marks (keyed k l)) entries file i ≡ symbol_wanted (Need.view_of s.bytes s.names symbols marks l) entries file i
  unfolding symbol_wanted name_wanted
  symbol-wanted-same symbols marks i =
      rw (find-same k s n e (look_up file (field entries i 0)).name, wanted-same symbols marks (find s (look_up file (field entries i 0)).name))

  any_same : (p q : ℕ → Bool) → ((i : ℕ) → p i ≡ q i) → (i m : ℕ) → any_from p i m ≡ any_from q i m
  unfolding any_from
  any_same p q f i zero = refl
  any_same p q f i (suc m) = rw (f i, any_same p q f (i + 1) m)

  need-same : (symbols inputs lists marks x : List ℕ)
      → need_of (keyed k l) s.bytes n symbols inputs lists marks entries file x ≡ need_of l s.bytes s.names symbols inputs lists marks entries file x
  unfolding need_of marked_of some_wanted clear_all
  need-same symbols inputs lists marks x =
      let now : List ℕ = mark_all inputs lists (find s x) l.names l.inputs (clear_from s.bytes s.names l entries file (rows_in entries) 0 marks) in
      rw (find-same k s n e x, clear-from-same (rows_in entries) 0 marks)
      (ap (judged_as now)
      (any_same (symbol_wanted (Need.view_of s.bytes n symbols now (keyed k l)) entries file) (symbol_wanted (Need.view_of s.bytes s.names symbols now l) entries file)
      (symbol-wanted-same symbols now) 0 (rows_in entries)))

  pub want-same : (asneeded : Bool) (symbols inputs lists marks x : List ℕ)
      → want_of asneeded (keyed k l) s.bytes n symbols inputs lists marks entries file x
      ≡ want_of asneeded l s.bytes s.names symbols inputs lists marks entries file x
  unfolding want_of
  want-same asneeded symbols inputs lists marks x = rw (need-same symbols inputs lists marks x)

-- ---- a name among the lists

abbrev record_store : Recorded → Store
record_store s = store_of s.bytes s.names s.stage.link

abbrev record_under : ℕ → List ℕ → Recorded → Recorded
record_under k n s = recorded_of s.bytes n s.lists (stage_under k s.stage)

module _ (k : ℕ) where
  abbrev Record : Recorded → Recorded → Type 0
  Record = Moved record_store (record_under k) k

  record-moved : (s : Recorded) (n : List ℕ) → Rekeyed k (record_store s) n → (x : List ℕ) (place : ℕ) → Record (record_of s x place) (record_of (record_under k n s) x place)
  unfolding record_of record_as record_fits keep_name
  record-moved s n e x place =
      let st : Store = record_store s in
      let t = keep-moved k st n e x (id_of st x) refl in
      let fits : Bool = cond (fits_of st (id_of st x) (length x)) (cond (ltb s.stage.link.lists (length s.lists)) true false) false in
      rw (find-same k st n e x, fits-same k st n e (id_of st x) (length x))
      (moved_cond record_store (record_under k) k fits _ _ _ _
      (λ a.
      record {
        names = t.names;
        is = ap (λ (u : Store). recorded s u (id_of st x)) t.is;
        alike = with-counts k (keep_of st (id_of st x) x) t.names t.alike _ refl refl refl refl;
      })
      (λ a. record { names = n; is = refl; alike = e }))

  dependency-moved : (file needs : List ℕ) (s : Recorded) (n : List ℕ) → Rekeyed k (record_store s) n → (j : ℕ)
      → Record (dependency_of file needs s j) (dependency_of file needs (record_under k n s) j)
  unfolding dependency_of
  dependency-moved file needs s n e j = record-moved (recorded_of s.bytes s.names s.lists (going_of s.stage.link)) n e (look_up file (get_or needs j 0)).name j

  dependencies-from : (file needs : List ℕ) (m j : ℕ) (s : Recorded) (n : List ℕ) → Rekeyed k (record_store s) n
      → Record (dependencies_from file needs m j s) (dependencies_from file needs m j (record_under k n s))
  unfolding dependencies_from
  dependencies-from file needs zero j s n e = moved record_store (record_under k) k s n e
  dependencies-from file needs (suc m) j s n e =
      let t = dependency-moved file needs s n e j in
      let g : Recorded = dependency_of file needs s j in
      subst (λ (u : Recorded). Record (dependencies_from file needs (suc m) j s) (cond (eqb u.stage.number 0) (dependencies_from file needs m (j + 1) u) u)) (sym t.is)
      (moved_cond record_store (record_under k) k (eqb g.stage.number 0) _ _ _ _
      (λ a. dependencies-from file needs m (j + 1) g t.names t.alike) (λ a. moved record_store (record_under k) k g t.names t.alike))

  dependencies-moved : (file needs : List ℕ) (s : Recorded) (n : List ℕ) → Rekeyed k (record_store s) n
      → Record (dependencies_of file needs s) (dependencies_of file needs (record_under k n s))
  unfolding dependencies_of
  dependencies-moved file needs s n e = dependencies-from file needs (length needs) 0 s n e

-- ---- a symbol that it defines

abbrev added_store : Added → Store
added_store s = store_of s.bytes s.names s.stage.link

abbrev added_under : ℕ → List ℕ → Added → Added
added_under k n s = added_of s.bytes n s.symbols s.sections (stage_under k s.stage)

module _ (k : ℕ) (v : View) (n : List ℕ) (e : Rekeyed k (view_store v) n) (x : List ℕ) (binding visibility : ℕ) where
  plan-same : plan_of (view_under k n v) x binding visibility ≡ plan_of v x binding visibility
  unfolding plan_of external_of rowed_of judged_of
  plan-same =
      rw (
        find-same k (view_store v) n e x,
        fits-same k (view_store v) n e (external_row_of v.link.gabi (id_of (view_store v) x) binding visibility).name (length x),
        decision-same k v n e (external_row_of v.link.gabi (id_of (view_store v) x) binding visibility),
      )

  plan-id : (plan_of v x binding visibility).id ≡ id_of (view_store v) x
  unfolding plan_of external_of rowed_of
  plan-id = refl

  plan-name : (plan_of v x binding visibility).row.name ≡ id_of (view_store v) x
  unfolding plan_of external_of rowed_of external_row_of
  plan-name = refl

  plan-row : eqb (refusal_of (plan_of v x binding visibility).decision) 2 ≡ false → find (view_store v) x < v.link.chains
  unfolding plan_of external_of rowed_of judged_of external_row_of
  plan-row z =
      by-test (fits_of (view_store v) (id_of (view_store v) x) (length x)) (λ a. fits-row k (view_store v) n e x (length x) a)
      (λ a. absurd (false≢true (sym (rw a at z))))

module _ (k : ℕ) where
  abbrev Add : Added → Added → Type 0
  Add = Moved added_store (added_under k) k

  define-kept : (s : Added) (n : List ℕ) (t : Store) (m : List ℕ) → Rekeyed k t m → (p : Definition) (i : ℕ) → p.row.name.0 < t.link.chains
      → Add (kept_of s t p i) (kept_of (added_under k n s) (rekeyed k m t) p i)
  unfolding kept_of accept_of
  define-kept s n t m q p i h =
      let a = apply-moved k t.bytes (table_of t.names s.symbols s.sections t.link) m q p.row p.decision h in
      moved_cond added_store (added_under k) k (eqb (refusal_of p.decision) 0) _ _ _ _
      (λ z. record { names = a.names; is = ap (λ (u : Table). with_row t.bytes (tabled u)) a.is; alike = a.alike })
      (λ z. record { names = m; is = refl; alike = q })

  define-moved : (s : Added) (n : List ℕ) → Rekeyed k (added_store s) n → (x : List ℕ) (binding visibility i : ℕ)
      → Add (define_of s x binding visibility i) (define_of (added_under k n s) x binding visibility i)
  unfolding define_of commit_of
  define-moved s n e x binding visibility i =
      let p : Definition = plan_of (view s) x binding visibility in
      let t = keep-moved k (added_store s) n e x p.id (plan-id k (view s) n e x binding visibility) in
      let kept : Store = keep_of (added_store s) p.id x in
      rw (plan-same k (view s) n e x binding visibility)
      (moved_cond added_store (added_under k) k (eqb (refusal_of p.decision) 2) _ _ _ _ (λ a. record { names = n; is = refl; alike = e })
      (λ a.
      let h : p.row.name.0 < kept.link.chains =
      rw (keep-chains (added_store s) p.id x, ap (λ (j : Interned). j.0) (plan-name k (view s) n e x binding visibility))
      (plan-row k (view s) n e x binding visibility a) in
      rw t.is (define-kept s n kept t.names t.alike p i h)))

-- ---- its symbols

abbrev state_store : State → Store
state_store s = store_of s.bytes s.names s.stage.link

abbrev state_under : ℕ → List ℕ → State → State
state_under k n s = state_of s.bytes n s.symbols s.sections s.lists (stage_under k s.stage)

module _ (k : ℕ) (entries : List ℕ) where
  abbrev Symbol : State → State → Type 0
  Symbol = Moved state_store (state_under k) k

  named-moved : (s : State) (n : List ℕ) → Rekeyed k (state_store s) n → (x : List ℕ) (i : ℕ) → Symbol (library_symbol_named entries s x i) (library_symbol_named entries (state_under k n s) x i)
  unfolding library_symbol_named
  named-moved s n e x i =
      let r = record-moved k (recorded_of s.bytes s.names s.lists (going_of s.stage.link)) n e x i in
      let d = define-moved k (added_of s.bytes s.names s.symbols s.sections (going_of s.stage.link)) n e x (field entries i 1) (field entries i 3) i in
      moved_cond state_store (state_under k) k (eqb (field entries i 4) 0) _ _ _ _
      (λ a.
      moved_cond state_store (state_under k) k (eqb (field entries i 1) 1) _ _ _ _
      (λ b. record { names = r.names; is = ap (with_recorded (state_under k n s)) r.is; alike = r.alike })
      (λ b. record { names = n; is = refl; alike = e }))
      (λ a. record { names = d.names; is = ap (with_added (state_under k n s)) d.is; alike = d.alike })

  symbol-moved : (file : List ℕ) (s : State) (n : List ℕ) → Rekeyed k (state_store s) n → (i : ℕ) → Symbol (symbol_of entries file s i) (symbol_of entries file (state_under k n s) i)
  unfolding symbol_of looked_of
  symbol-moved file s n e i =
      let x : Looked = look_up file (field entries i 0) in
      moved_cond state_store (state_under k) k x.found _ _ _ _ (λ f. named-moved (staged s (going_of s.stage.link)) n e x.name i)
      (λ f. record { names = n; is = refl; alike = e })

  symbols-from : (file : List ℕ) (m i : ℕ) (s : State) (n : List ℕ) → Rekeyed k (state_store s) n
      → Symbol (symbols_from entries file m i s) (symbols_from entries file m i (state_under k n s))
  unfolding symbols_from
  symbols-from file zero i s n e = moved state_store (state_under k) k s n e
  symbols-from file (suc m) i s n e =
      let t = symbol-moved file s n e i in
      let g : State = symbol_of entries file s i in
      subst (λ (u : State). Symbol (symbols_from entries file (suc m) i s) (cond (eqb u.stage.number 0) (symbols_from entries file m (i + 1) u) u)) (sym t.is)
      (moved_cond state_store (state_under k) k (eqb g.stage.number 0) _ _ _ _
      (λ a. symbols-from file m (i + 1) g t.names t.alike) (λ a. moved state_store (state_under k) k g t.names t.alike))

  symbols-moved : (file : List ℕ) (s : State) (n : List ℕ) → Rekeyed k (state_store s) n → Symbol (symbols_of entries file s) (symbols_of entries file (state_under k n s))
  unfolding symbols_of
  symbols-moved file s n e = symbols-from file (rows_in entries) 0 s n e

-- ---- its name, symbols, dependencies and row

abbrev list_store : ListLinks → Store
list_store s = store_of s.bytes s.names s.stage.link

abbrev list_under : ℕ → List ℕ → ListLinks → ListLinks
list_under k n s = list_links s.bytes n s.inputs s.lists (stage_under k s.stage)

abbrev links_store : Links → Store
links_store s = store_of s.bytes s.names s.stage.link

abbrev links_under : ℕ → List ℕ → Links → Links
links_under k n s = links_of s.bytes n s.symbols s.sections s.inputs s.lists (stage_under k s.stage)

module _ (k : ℕ) where
  abbrev Lists : ListLinks → ListLinks → Type 0
  Lists = Moved list_store (list_under k) k

  abbrev Whole : Links → Links → Type 0
  Whole = Moved links_store (links_under k) k

  input-moved : (inputs : List ℕ) (r : Recorded) (n : List ℕ) → Rekeyed k (record_store r) n → (id : Interned) (first middle : ℕ)
      → Lists (input_stage inputs r id first middle) (input_stage inputs (record_under k n r) id first middle)
  unfolding input_stage library_row_of
  input-moved inputs r n e id first middle =
      moved_cond list_store (list_under k) k (eqb r.stage.number 0) _ _ _ _
      (λ a.
      by-test (ltb r.stage.link.inputs (input_rows (length inputs)))
      (λ b. rw b (record { names = n; is = refl; alike = with-counts k (record_store r) n e _ refl refl refl refl }))
      (λ b. rw b (record { names = n; is = refl; alike = e })))
      (λ a. record { names = n; is = refl; alike = e })

  lists-moved : (file needs : List ℕ) (s : ListLinks) (n : List ℕ) → Rekeyed k (list_store s) n → (id : Interned) (first : ℕ)
      → Lists (lists_of file needs s id first) (lists_of file needs (list_under k n s) id first)
  unfolding lists_of
  lists-moved file needs s n e id first =
      let f : Recorded = recorded_of s.bytes s.names s.lists (going_of s.stage.link) in
      let t = dependencies-moved k file needs f n e in
      rw t.is (input-moved s.inputs (dependencies_of file needs f) t.names t.alike id first s.stage.link.lists)

  list-stage-moved : (file needs inputs : List ℕ) (s : State) (n : List ℕ) → Rekeyed k (state_store s) n → (id : Interned) (first : ℕ)
      → Whole (list_stage file needs inputs s id first) (list_stage file needs inputs (state_under k n s) id first)
  unfolding list_stage
  list-stage-moved file needs inputs s n e id first =
      let t = lists-moved file needs (list_links s.bytes s.names inputs s.lists (going_of s.stage.link)) n e id first in
      moved_cond links_store (links_under k) k (eqb s.stage.number 0) _ _ _ _
      (λ a. record { names = t.names; is = ap (with_lists (state_under k n s)) t.is; alike = t.alike })
      (λ a. record { names = n; is = refl; alike = e })

  contents-moved : (entries file needs : List ℕ) (s : Links) (n : List ℕ) → Rekeyed k (links_store s) n → (id : Interned)
      → Whole (contents_of entries file needs s id) (contents_of entries file needs (links_under k n s) id)
  unfolding contents_of
  contents-moved entries file needs s n e id =
      let f : State = state_of s.bytes s.names s.symbols s.sections s.lists s.stage in
      let t = symbols-moved k entries file f n e in
      rw t.is (list-stage-moved file needs s.inputs (symbols_of entries file f) t.names t.alike id s.stage.link.lists)

  library-moved : (entries file needs : List ℕ) (s : Links) (n : List ℕ) → Rekeyed k (links_store s) n → (x : List ℕ)
      → Whole (library_of entries file needs s x) (library_of entries file needs (links_under k n s) x)
  unfolding library_of issued_of Stages.kept_of
  library-moved entries file needs s n e x =
      let st : Store = links_store s in
      let t = keep-moved k st n e x (id_of st x) refl in
      let kept : Store = keep_of st (id_of st x) x in
      rw (find-same k st n e x, fits-same k st n e (id_of st x) (length x))
      (moved_cond links_store (links_under k) k (fits_of st (id_of st x) (length x)) _ _ _ _
      (λ a. rw t.is (contents-moved entries file needs (with_name s kept (going_of kept.link)) t.names t.alike (id_of st x)))
      (λ a. record { names = n; is = refl; alike = e }))

-- ---- the call

abbrev pub all_store : All → Store
all_store a = store_of a.bytes a.names a.link

abbrev pub all_under : ℕ → List ℕ → All → All
all_under k n a = all_of a.bytes n a.symbols a.sections a.inputs a.lists a.marks (keyed k a.link)

abbrev pub load_store : Load.Left → Store
load_store o = all_store o.cells

abbrev pub load_under : ℕ → List ℕ → Load.Left → Load.Left
load_under k n o = record { cells = all_under k n o.cells; answer = o.answer; said = o.said }

module _ (k : ℕ) where
  abbrev Left : Load.Left → Load.Left → Type 0
  Left = Moved load_store (load_under k) k

  left-moved : (marks : List ℕ) (s : Links) (n : List ℕ) → Rekeyed k (links_store s) n → Left (leave_loaded marks s) (leave_loaded marks (links_under k n s))
  unfolding ended_as
  left-moved marks s n e =
      by-test (eqb s.stage.number 0) (λ a. rw a (record { names = n; is = refl; alike = e }))
      (λ a. rw a (record { names = n; is = refl; alike = with-counts k (links_store s) n e _ refl refl refl refl }))

  module _ (a : All) (n : List ℕ) (e : Rekeyed k (all_store a) n) where
    wanted-moved : (entries file needs x : List ℕ) (j : Judged) → Left (wanted_of entries file needs a x j) (wanted_of entries file needs (all_under k n a) x j)
    unfolding wanted_of
    wanted-moved entries file needs x j =
        let t = library-moved k entries file needs (links_in a) n e x in
        moved_cond load_store (load_under k) k j.needed _ _ _ _
        (λ q. rw t.is (left-moved j.marks (library_of entries file needs (links_in a) x) t.names t.alike))
        (λ q. record { names = n; is = refl; alike = e })

    library-named : (entries file needs : List ℕ) (asneeded : Bool) (x : List ℕ)
        → Left (Load.library_named entries file needs asneeded a x) (Load.library_named entries file needs asneeded (all_under k n a) x)
    unfolding Load.library_named
    library-named entries file needs asneeded x =
        rw (want-same k (all_store a) n e entries file asneeded a.symbols a.inputs a.lists a.marks x) (wanted-moved entries file needs x _)

    head-same : (o : Input) → head_in o (all_under k n a) ≡ head_in o a
    unfolding check_of after_rows name_refusal
    head-same o =
        rw (
          e.long,
          change-keyed k a.link
              (lent_of (length a.names) (length a.bytes) (length a.symbols) (length a.sections) (length a.inputs) (length a.lists)),
        )

    pub load_moved : (o : Input) → Left (load_of o a) (load_of o (all_under k n a))
    unfolding load_of
    load_moved o =
        rw (head-same o)
        (moved_cond load_store (load_under k) k (eqb (head_in o a).number 0) _ _ _ _
        (λ q. library-named o.entries o.image o.needs o.asneeded (name_of o)) (λ q. record { names = n; is = refl; alike = e }))
