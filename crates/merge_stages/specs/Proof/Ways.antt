-- The ways through the stages.
-- Assumes nothing.
use Rattle.std.specs.Prelude.{ℕ, ◌+◌, ◌-◌, ◌<◌, ◌≤◌, ◌≡◌, refl, List, [], Some}
use Rattle.std.proofs.Common.{ap, ◌∙◌, arith}
use borrow.Author.Tests.{eq-eqb, ne_eqb, lt-ltb, le-ltb}
use Rattle.elf_object.specs.Rows.{rows_in, first_at, count_at, entries_from, section_of, table_entries}
use Rattle.merge_sections.specs.Reserve.{table_cell}
use Rattle.merge_sections.specs.Proof.Ways.{table_cell-some}
use Rattle.section_groups.specs.Filter.{filter_of}
use Rattle.merge_stages.specs.Stages.{All, Object, SymbolLinks, Tabled, table_of, built_in, build_stage, merge_table_of, symbol_stage, after_symbols, put_symbols, symbols_in, stop, filtered_of, filter_stage, grouped_in, merge_groups_of, after_sections, noted, tabled, group_stage, reserved_stages, section_stage, stages_of}

-- ---- the loaded symbol table

module _ (o : Object) where
  pub loaded-some : (t : ℕ) (own : List ℕ) → t < 0xffffffffffffffff → own ≡ entries_from o.entries (first_at o.headers t) (count_at o.headers t)
      → table_of o.headers own o.contents o.image o.section_names t ≡ tabled o (table_cell (Some t))
  unfolding table_entries section_of
  loaded-some t own h e =
      let n : t + 1 ≡ 0 → ⊥ = λ z. omega (arith, z) in
      let m : t + 1 - 1 ≡ t = omega arith in
      rw (table_cell-some t h) (simp (e, ne_eqb _ _ n, m))

  pub loaded-none : table_of o.headers [] o.contents o.image o.section_names 0 ≡ tabled o 0
  unfolding table_entries section_of
  loaded-none = refl

-- ---- the symbols, and then what is built

module _ (o : Tabled) (work : List ℕ) (t : SymbolLinks) where
  build-stopped : (t.stage.number ≡ 0 → ⊥) → t ≡ build_stage o work t
  unfolding build_stage
  build-stopped n = simp (ne_eqb _ _ n)

  build-going : t.stage.number ≡ 0
      → built_in o work t ≡ build_stage o work t
  unfolding build_stage
  build-going z = simp (eq-eqb _ _ z)

module _ (o : Tabled) (work : List ℕ) (s t : SymbolLinks) (q : t ≡ after_symbols s (symbol_stage o work s)) where
  pub table-stopped : (t.stage.number ≡ 0 → ⊥) → t ≡ merge_table_of o work s
  unfolding merge_table_of
  table-stopped n = build-stopped o work t n ∙ ap (build_stage o work) q

  pub table-built : (x : SymbolLinks) → t.stage.number ≡ 0
      → x ≡ built_in o work t → x ≡ merge_table_of o work s
  unfolding merge_table_of
  table-built x z p = p ∙ build-going o work t z ∙ ap (build_stage o work) q

-- ---- the groups, and then all that asks which sections they removed

module _ (o : Tabled) (t : All) where
  filter-stopped : (t.stage.number ≡ 0 → ⊥) → t ≡ filter_stage o t
  unfolding filter_stage
  filter-stopped n = simp (ne_eqb _ _ n)

  module _ (z : t.stage.number ≡ 0) where
    filter-local : (i : ℕ) → i ≡ filter_of t.stage.link.gabi t.work o.entries → i < rows_in o.entries → stop t 8 i ≡ filter_stage o t
    unfolding filter_stage filtered_of
    filter-local i e h = simp (eq-eqb _ _ z, ← e, lt-ltb _ _ h)

    filter-passed : (i : ℕ) → i ≡ filter_of t.stage.link.gabi t.work o.entries → rows_in o.entries ≤ i → put_symbols t (merge_table_of o t.work (symbols_in t)) ≡ filter_stage o t
    unfolding filter_stage filtered_of
    filter-passed i e h = simp (eq-eqb _ _ z, ← e, le-ltb _ _ h)

module _ (o : Tabled) (a t : All) (q : t ≡ grouped_in o a) where
  pub groups-stopped : (t.stage.number ≡ 0 → ⊥) → t ≡ merge_groups_of o a
  unfolding merge_groups_of
  groups-stopped n = filter-stopped o t n ∙ ap (filter_stage o) q

  module _ (z : t.stage.number ≡ 0) where
    pub groups-filtered : (i : ℕ) → i ≡ filter_of t.stage.link.gabi t.work o.entries → i < rows_in o.entries → stop t 8 i ≡ merge_groups_of o a
    unfolding merge_groups_of
    groups-filtered i e h = filter-local o t z i e h ∙ ap (filter_stage o) q

    pub groups-passed : (x : All) → rows_in o.entries ≡ filter_of t.stage.link.gabi t.work o.entries → x ≡ put_symbols t (merge_table_of o t.work (symbols_in t)) → x ≡ merge_groups_of o a
    unfolding merge_groups_of
    groups-passed x e p =
        let h : rows_in o.entries ≤ rows_in o.entries = omega arith in
        p ∙ filter-passed o t z (rows_in o.entries) e h ∙ ap (filter_stage o) q

-- ---- all stages

module _ (o : Object) (table : ℕ) (t : All) where
  group-stopped : (t.stage.number ≡ 0 → ⊥) → t ≡ group_stage o table t
  unfolding group_stage
  group-stopped n = simp (ne_eqb _ _ n)

  group-going : t.stage.number ≡ 0 → merge_groups_of (tabled o table) (noted o t) ≡ group_stage o table t
  unfolding group_stage
  group-going z = simp (eq-eqb _ _ z)

module _ (o : Object) (a t : All) (q : t ≡ after_sections a (section_stage o a)) where
  pub stages-stopped : (t.stage.number ≡ 0 → ⊥) → t ≡ stages_of o a
  unfolding stages_of reserved_stages
  stages-stopped n = group-stopped o (section_stage o a).reserved.table t n ∙ ap (group_stage o (section_stage o a).reserved.table) q

  pub stages-done : (x : All) (table : ℕ) → t.stage.number ≡ 0 → table ≡ (section_stage o a).reserved.table → x ≡ merge_groups_of (tabled o table) (noted o t) → x ≡ stages_of o a
  unfolding stages_of reserved_stages
  stages-done x table z e p =
      p ∙ ap (λ (m : ℕ). merge_groups_of (tabled o m) (noted o t)) e ∙ group-going o (section_stage o a).reserved.table t z
      ∙ ap (group_stage o (section_stage o a).reserved.table) q
