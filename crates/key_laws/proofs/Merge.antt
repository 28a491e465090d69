-- A merge under another key of the hash: the same answer, ids and work cells, and a link that is alike again.
-- Assumes nothing.
use Prim.Native.Nat.{ℕ, zero, suc, ◌+◌}
use Rattle.std.specs.Prelude.{◌≡◌, cond, List, eqb, ltb}
use Rattle.std.proofs.Math.Path.{refl, ap, subst}
use Rattle.std.proofs.Common.{sym}
use Rattle.cells.specs.Proof.Split.{by-test}
use Rattle.link.specs.declared.Link.{Link}
use Rattle.link.specs.Judge.{going_of}
use Rattle.interner.specs.Names.{Store, store_of}
use Rattle.elf_object.specs.Rows.{rows_in}
use Rattle.sections.specs.Rows as Sections
use Rattle.sections.specs.Rows.{sections_of, reserve_of}
use Rattle.section_groups.specs.Filter.{filter_of}
use Rattle.section_groups.specs.Group as Group
use Rattle.merge_sections.specs.Reserve as Reserve
use Rattle.merge_sections.specs.Reserve.{reserve_number, take_row_of, reserve_class_of, reserve_one_of, reserve_from, reserve_all_of, class_of, note_of, conversion_of, after_row}
use Rattle.merge_symbols.specs.Stage as Symbols
use Rattle.merge_build.specs.Finish as Finish
use Rattle.merge_stages.specs.Stages.{All, all_of, Object, SymbolLinks, symbol_links, Tabled, symbol_object, build_object, group_object, after_symbols, with_built, build_stage, merge_table_of, after_groups, put_symbols, symbols_in, filtered_of, filter_stage, merge_groups_of, after_sections, noted, tabled, group_stage, reserved_stages, stages_of}
use Rattle.merge_elf.specs.Merge as Merge
use Rattle.merge_elf.specs.Merge.{check_of, ended_as, ended_of, head_in, finished_of, merge_of}
use Rattle.key_laws.specs.Rekeyed.{keyed, Rekeyed, Moved}
use Rattle.key_laws.proofs.RekeyedLemmas.{moved, moved_cond, with-counts}
use Rattle.key_laws.proofs.Tables.{change-keyed}
use Rattle.key_laws.proofs.Groups.{stage_under, groups-moved}
use Rattle.key_laws.proofs.SymbolStage.{symbols-moved}
use Rattle.key_laws.proofs.BuildStage.{built-moved}

-- ---- sections are reserved beside the names

abbrev pub reserve_under : ℕ → Reserve.State → Reserve.State
reserve_under k s =
    Reserve.state_of s.sections s.work
    (Reserve.reserved_of (keyed k s.reserved.link) s.reserved.table s.reserved.number s.reserved.place)

module _ (k : ℕ) (b m n : List ℕ) where
  -- the names stay as they are
  pub record Beside (s t : Reserve.State) : Type 0 where
    pub is : t ≡ reserve_under k s
    pub alike : Rekeyed k (store_of b m s.reserved.link) n

  record TakenBeside (s t : Sections.Sections) : Type 0 where
    is : t ≡ sections_of s.rows (keyed k s.link)
    alike : Rekeyed k (store_of b m s.link) n

  take-beside : (s : Sections.Sections) (class : ℕ) → Rekeyed k (store_of b m s.link) n → TakenBeside (take_row_of s class) (take_row_of (sections_of s.rows (keyed k s.link)) class)
  unfolding take_row_of reserve_of Sections.room_of
  take-beside s class e =
      by-test (eqb class 2)
      (λ a.
      by-test (Sections.room_of s.link s.rows)
      (λ c. rw (a, c) (record { is = refl; alike = with-counts k (store_of b m s.link) n e _ refl refl refl refl }))
      (λ c. rw (a, c) (record { is = refl; alike = e })))
      (λ a. rw a (record { is = refl; alike = e }))

  refusal-keyed : (l : Link) (sections : List ℕ) (class table : ℕ) → reserve_number (keyed k l) sections class table ≡ reserve_number l sections class table
  unfolding reserve_number Sections.room_of
  refusal-keyed l sections class table = refl

  one-beside : (headers : List ℕ) (s : Reserve.State) → Rekeyed k (store_of b m s.reserved.link) n → (i : ℕ)
      → Beside (reserve_one_of headers s i) (reserve_one_of headers (reserve_under k s) i)
  unfolding reserve_one_of reserve_class_of
  one-beside headers s e i =
      let class : ℕ = class_of headers i in
      let l : Link = s.reserved.link in
      let number : ℕ = reserve_number l s.sections class s.reserved.table in
      let t = take-beside (sections_of s.sections l) class e in
      rw (refusal-keyed l s.sections class s.reserved.table)
      (by-test (eqb number 0)
      (λ a.
      rw a
      (record {
        is = ap (after_row s.reserved (note_of s.work i (conversion_of class l.sections)) class i) t.is;
        alike = t.alike;
      }))
      (λ a. rw a (record { is = refl; alike = e })))

  from-beside : (headers : List ℕ) (j i : ℕ) (s : Reserve.State) → Rekeyed k (store_of b m s.reserved.link) n
      → Beside (reserve_from headers j i s) (reserve_from headers j i (reserve_under k s))
  unfolding reserve_from
  from-beside headers zero i s e = record { is = refl; alike = e }
  from-beside headers (suc j) i s e =
      let t = one-beside headers s e i in
      let g : Reserve.State = reserve_one_of headers s i in
      subst
      (λ (u : Reserve.State). Beside (reserve_from headers (suc j) i s) (cond (eqb u.reserved.number 0) (reserve_from headers j (i + 1) u) u))
      (sym t.is)
      (by-test (eqb g.reserved.number 0) (λ a. rw a (from-beside headers j (i + 1) g t.alike)) (λ a. rw a (record { is = refl; alike = t.alike })))

  pub all-beside : (headers : List ℕ) (s : Reserve.State) → Rekeyed k (store_of b m s.reserved.link) n
      → Beside (reserve_all_of headers s) (reserve_all_of headers (reserve_under k s))
  unfolding reserve_all_of
  all-beside headers s e = from-beside headers _ 0 s e

-- ---- the symbols, and then what is built

abbrev links_store : SymbolLinks → Store
links_store s = store_of s.bytes s.names s.stage.link

abbrev links_under : ℕ → List ℕ → SymbolLinks → SymbolLinks
links_under k n s = symbol_links s.bytes n s.symbols s.sections s.inputs s.lists s.ids (stage_under k s.stage)

abbrev pub all_store : All → Store
all_store a = store_of a.bytes a.names a.stage.link

abbrev pub all_under : ℕ → List ℕ → All → All
all_under k n a = all_of a.bytes n a.symbols a.sections a.inputs a.lists a.work a.ids (stage_under k a.stage)

module _ (k : ℕ) where
  abbrev Links : SymbolLinks → SymbolLinks → Type 0
  Links = Moved links_store (links_under k) k

  abbrev Whole : All → All → Type 0
  Whole = Moved all_store (all_under k) k

  build-moved : (o : Tabled) (work : List ℕ) (s : SymbolLinks) (n : List ℕ) → Rekeyed k (links_store s) n → Links (build_stage o work s) (build_stage o work (links_under k n s))
  unfolding build_stage
  build-moved o work s n e =
      let f : Finish.BuildLinks = Finish.build_links s.bytes s.names s.sections s.inputs s.lists (going_of s.stage.link) in
      let t = built-moved k (build_object o work s.ids) f n e in
      moved_cond links_store (links_under k) k (eqb s.stage.number 0) _ _ _ _
      (λ a. record { names = t.names; is = ap (with_built (links_under k n s)) t.is; alike = t.alike })
      (λ a. moved links_store (links_under k) k s n e)

  table-moved : (o : Tabled) (work : List ℕ) (s : SymbolLinks) (n : List ℕ) → Rekeyed k (links_store s) n → Links (merge_table_of o work s) (merge_table_of o work (links_under k n s))
  unfolding merge_table_of
  table-moved o work s n e =
      let f : Symbols.State = Symbols.state_of s.bytes s.names s.symbols s.sections s.ids (Symbols.stage_of s.stage.link 0 0 0) in
      let t = symbols-moved k (symbol_object o work) f n e in
      rw t.is (build-moved o work (after_symbols s (Symbols.symbols_of (symbol_object o work) f)) t.names t.alike)

  -- ---- the groups, the filter, and then the symbols

  filtered-moved : (o : Tabled) (a : All) (n : List ℕ) → Rekeyed k (all_store a) n → (i : ℕ) → Whole (filtered_of o a i) (filtered_of o (all_under k n a) i)
  unfolding filtered_of
  filtered-moved o a n e i =
      let t = table-moved o a.work (symbols_in a) n e in
      moved_cond all_store (all_under k) k (ltb i (rows_in o.entries)) _ _ _ _ (λ c. record { names = n; is = refl; alike = e })
      (λ c. record { names = t.names; is = ap (put_symbols (all_under k n a)) t.is; alike = t.alike })

  filter-moved : (o : Tabled) (a : All) (n : List ℕ) → Rekeyed k (all_store a) n → Whole (filter_stage o a) (filter_stage o (all_under k n a))
  unfolding filter_stage
  filter-moved o a n e =
      moved_cond all_store (all_under k) k (eqb a.stage.number 0) _ _ _ _
      (λ c. filtered-moved o a n e (filter_of a.stage.link.gabi a.work o.entries)) (λ c. moved all_store (all_under k) k a n e)

  merge-groups-moved : (o : Tabled) (a : All) (n : List ℕ) → Rekeyed k (all_store a) n → Whole (merge_groups_of o a) (merge_groups_of o (all_under k n a))
  unfolding merge_groups_of
  merge-groups-moved o a n e =
      let f : Group.Step = Group.step_of a.bytes a.names a.work (going_of a.stage.link) in
      let t = groups-moved k (group_object o) f n e in
      rw t.is (filter-moved o (after_groups a (Group.groups_of (group_object o) f)) t.names t.alike)

  -- ---- all stages

  group-stage-moved : (o : Object) (table : ℕ) (a : All) (n : List ℕ) → Rekeyed k (all_store a) n → Whole (group_stage o table a) (group_stage o table (all_under k n a))
  unfolding group_stage
  group-stage-moved o table a n e =
      moved_cond all_store (all_under k) k (eqb a.stage.number 0) _ _ _ _
      (λ c. merge-groups-moved (tabled o table) (noted o a) n e) (λ c. moved all_store (all_under k) k a n e)

  stages-moved : (o : Object) (a : All) (n : List ℕ) → Rekeyed k (all_store a) n → Whole (stages_of o a) (stages_of o (all_under k n a))
  unfolding stages_of reserved_stages
  stages-moved o a n e =
      let f : Reserve.State = Reserve.state_of a.sections a.work (Reserve.reserved_of a.stage.link 0 0 0) in
      let r : Reserve.State = reserve_all_of o.headers f in
      let t = all-beside k a.bytes a.names n o.headers f e in
      rw t.is (group-stage-moved o r.reserved.table (after_sections a r) n t.alike)

-- ---- the call

abbrev pub merge_store : Merge.Left → Store
merge_store o = all_store o.cells

abbrev pub merge_under : ℕ → List ℕ → Merge.Left → Merge.Left
merge_under k n o = record { cells = all_under k n o.cells; answer = o.answer; said = o.said }

module _ (k : ℕ) (o : Object) (a : All) (n : List ℕ) (e : Rekeyed k (all_store a) n) where
  head-same : head_in o (all_under k n a) ≡ head_in o a
  unfolding check_of
  head-same = rw (e.long, change-keyed k a.stage.link (Merge.lent a))

  ended-moved : (a : All) (n : List ℕ) → Rekeyed k (all_store a) n → Moved merge_store (merge_under k) k (ended_of a) (ended_of (all_under k n a))
  unfolding ended_as
  ended-moved a n q =
      by-test (eqb a.stage.number 0) (λ c. rw c (record { names = n; is = refl; alike = q }))
      (λ c. rw c (record { names = n; is = refl; alike = with-counts k (all_store a) n q _ refl refl refl refl }))

  pub merge-moved : Moved merge_store (merge_under k) k (merge_of o a) (merge_of o (all_under k n a))
  unfolding merge_of finished_of
  merge-moved =
      let t = stages-moved k o a n e in
      rw head-same
      (moved_cond merge_store (merge_under k) k (eqb (head_in o a).number 0) _ _ _ _
      (λ c. rw t.is (ended-moved (stages_of o a) t.names t.alike))
      (λ c. record { names = n; is = refl; alike = e }))
