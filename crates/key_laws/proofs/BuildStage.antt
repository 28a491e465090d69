-- Sections built, and the object's row, under another key of the hash.
-- Assumes nothing.
use Prim.Native.Nat.{ℕ, zero, suc, ◌+◌}
use Rattle.std.specs.Prelude.{◌≡◌, cond, eqb, ltb, length}
use Rattle.std.proofs.Math.Path.{refl, subst}
use Rattle.std.proofs.Common.{sym}
use mathlib.Core.List.{List}
use Rattle.cells.specs.Proof.Split.{by-test}
use Rattle.link.specs.declared.Interned.{Interned}
use Rattle.link.specs.Bounds.{input_rows}
use Rattle.link.specs.Counts.{more_lists}
use Rattle.strings.specs.Lookup.{Looked}
use Rattle.interner.specs.Names.{Store, store_of, fits_of, keep_of}
use Rattle.interner_laws.specs.Interns.{id_of}
use Rattle.elf_object.specs.Rows.{name_offset_at, name_in}
use Rattle.merge_build.specs.Build.{Plan}
use Rattle.merge_build.specs.Relocations.{table_for, limit_of, relocations_of, symbols_ok}
use Rattle.merge_build.specs.Build as Build
use Rattle.merge_build.specs.Build.{Object, State, state_of, LinkState, link_state, row_state, lists_fit, plan_with, plan_of, build_row_of, row_built, kept_of, commit_of, tabled_of, section_named, built_from, linked, looked_of, section_of, build_from, build_of}
use Rattle.merge_build.specs.Finish.{BuildLinks, build_links, input_row_of, building, after_build, input_stage, program_stage, built_of}
use Rattle.key_laws.specs.Rekeyed.{keyed, rekeyed, Rekeyed, Moved}
use Rattle.key_laws.proofs.RekeyedLemmas.{moved, moved_cond, find-same, fits-same, keep-moved, with-counts}
use Rattle.key_laws.proofs.Groups.{stage_under}

abbrev pub link_store : LinkState → Store
link_store s = store_of s.bytes s.names s.link

abbrev pub link_under : ℕ → List ℕ → LinkState → LinkState
link_under k n s = link_state s.bytes n s.sections s.lists (keyed k s.link)

abbrev pub build_store : State → Store
build_store s = store_of s.bytes s.names s.stage.link

abbrev pub build_under : ℕ → List ℕ → State → State
build_under k n s = state_of s.bytes n s.sections s.lists (stage_under k s.stage)

abbrev Alike : ℕ → State → State → Type 0
Alike k = Moved build_store (build_under k) k

-- ---- a row built under an issued name

module _ (k : ℕ) (t : Store) (m : List ℕ) (q : Rekeyed k t m) (headers work ids : List ℕ) where
  row_moved : (sections lists relocations : List ℕ) (id : Interned) (i kind : ℕ)
      → Alike k (row_built t.bytes t.names (build_row_of headers work ids (row_state sections lists t.link) relocations id i kind))
      (row_built t.bytes m (build_row_of headers work ids (row_state sections lists (keyed k t.link)) relocations id i kind))
  unfolding build_row_of
  row_moved sections lists relocations id i kind =
      by-test (lists_fit t.link.lists (length lists) (length relocations))
      (λ a. rw a (record { names = m; is = refl; alike = with-counts k t m q (more_lists t.link (length relocations)) refl refl refl refl }))
      (λ a. rw a (record { names = m; is = refl; alike = q }))

  kept-moved : (n : List ℕ) (s : LinkState) (relocations : List ℕ) (i kind : ℕ) (p : Plan)
      → Alike k (kept_of headers work ids s t relocations i kind p) (kept_of headers work ids (link_under k n s) (rekeyed k m t) relocations i kind p)
  unfolding kept_of
  kept-moved n s relocations i kind p =
      moved_cond build_store (build_under k) k (eqb p.number 0) _ _ _ _
      (λ a. row_moved s.sections s.lists relocations p.id i kind) (λ a. record { names = m; is = refl; alike = q })

module _ (k : ℕ) (s : LinkState) (n : List ℕ) (e : Rekeyed k (link_store s) n) where
  plan-same : (lists : ℕ) (ids : List ℕ) (limit : ℕ) (relocations x : List ℕ)
      → plan_of (keyed k s.link) s.bytes n lists ids limit relocations x ≡ plan_of s.link s.bytes s.names lists ids limit relocations x
  unfolding plan_of plan_with
  plan-same lists ids limit relocations x = rw (find-same k (link_store s) n e x, fits-same k (link_store s) n e (id_of (link_store s) x) (length x))

  plan-id : (lists : ℕ) (ids : List ℕ) (limit : ℕ) (relocations x : List ℕ)
      → (plan_of s.link s.bytes s.names lists ids limit relocations x).id ≡ id_of (link_store s) x
  unfolding plan_of plan_with
  plan-id lists ids limit relocations x =
      by-test (fits_of (link_store s) (id_of (link_store s) x) (length x))
      (λ a.
      by-test (symbols_ok ids limit relocations) (λ b. by-test (lists_fit s.link.lists lists (length relocations)) (λ c. rw (a, b, c)) (λ c. rw (a, b, c)))
      (λ b. rw (a, b)))
      (λ a. rw a)

  stop-moved : (number place : ℕ) → Alike k (Build.stop s number place) (Build.stop (link_under k n s) number place)
  stop-moved number place = record { names = n; is = refl; alike = e }

  named-moved : (headers contents work ids x : List ℕ) (t symbols i kind : ℕ)
      → Alike k (section_named headers contents work ids s x t symbols i kind) (section_named headers contents work ids (link_under k n s) x t symbols i kind)
  unfolding section_named tabled_of commit_of
  named-moved headers contents work ids x t symbols i kind =
      let table : ℕ = table_for work i kind in
      let relocations : List ℕ = relocations_of headers contents table in
      let limit : ℕ = limit_of headers table t symbols in
      let p : Plan = plan_of s.link s.bytes s.names (length s.lists) ids limit relocations x in
      let u = keep-moved k (link_store s) n e x p.id (plan-id (length s.lists) ids limit relocations x) in
      rw (plan-same (length s.lists) ids limit relocations x)
      (moved_cond build_store (build_under k) k (eqb p.number 2) _ _ _ _ (λ a. stop-moved 2 i)
      (λ a. rw u.is (kept-moved k (keep_of (link_store s) p.id x) u.names u.alike headers work ids n s relocations i kind p)))

module _ (k : ℕ) (o : Object) (kind : ℕ) where
  section-moved : (s : State) (n : List ℕ) → Rekeyed k (build_store s) n → (i : ℕ) → Alike k (section_of o s i kind) (section_of o (build_under k n s) i kind)
  unfolding section_of looked_of
  section-moved s n e i =
      let x : Looked = name_in o.headers o.image o.section_names (name_offset_at o.headers i) in
      moved_cond build_store (build_under k) k (built_from o.headers o.work i kind) _ _ _ _
      (λ a.
      moved_cond build_store (build_under k) k x.found _ _ _ _
      (λ f. named-moved k (linked s) n e o.headers o.contents o.work o.ids x.name o.table o.symbols i kind)
      (λ f. stop-moved k (linked s) n e 18 i))
      (λ a. moved build_store (build_under k) k s n e)

  from-moved : (m i : ℕ) (s : State) (n : List ℕ) → Rekeyed k (build_store s) n → Alike k (build_from o kind m i s) (build_from o kind m i (build_under k n s))
  unfolding build_from
  from-moved zero i s n e = moved build_store (build_under k) k s n e
  from-moved (suc m) i s n e =
      let t = section-moved s n e i in
      let g : State = section_of o s i kind in
      subst (λ (u : State). Alike k (build_from o kind (suc m) i s) (cond (eqb u.stage.number 0) (build_from o kind m (i + 1) u) u)) (sym t.is)
      (moved_cond build_store (build_under k) k (eqb g.stage.number 0) _ _ _ _
      (λ a. from-moved m (i + 1) g t.names t.alike) (λ a. moved build_store (build_under k) k g t.names t.alike))

  build-moved : (s : State) (n : List ℕ) → Rekeyed k (build_store s) n → Alike k (build_of o s kind) (build_of o (build_under k n s) kind)
  unfolding build_of
  build-moved s n e = from-moved _ 0 s n e

-- ---- both kinds of sections, and the object's row

abbrev pub built_store : BuildLinks → Store
built_store s = store_of s.bytes s.names s.stage.link

abbrev pub built_under : ℕ → List ℕ → BuildLinks → BuildLinks
built_under k n s = build_links s.bytes n s.sections s.inputs s.lists (stage_under k s.stage)

abbrev Built : ℕ → BuildLinks → BuildLinks → Type 0
Built k = Moved built_store (built_under k) k

module _ (k : ℕ) where
  input-moved : (s : BuildLinks) (n : List ℕ) → Rekeyed k (built_store s) n → Built k (input_stage s) (input_stage (built_under k n s))
  unfolding input_stage input_row_of
  input-moved s n e =
      moved_cond built_store (built_under k) k (eqb s.stage.number 0) _ _ _ _
      (λ a.
      by-test (ltb s.stage.link.inputs (input_rows (length s.inputs)))
      (λ b. rw b (record { names = n; is = refl; alike = with-counts k (built_store s) n e _ refl refl refl refl }))
      (λ b. rw b (record { names = n; is = refl; alike = e })))
      (λ a. moved built_store (built_under k) k s n e)

  program-moved : (o : Object) (s : BuildLinks) (n : List ℕ) → Rekeyed k (built_store s) n → Built k (program_stage o s) (program_stage o (built_under k n s))
  unfolding program_stage
  program-moved o s n e =
      let t = build-moved k o 1 (building s) n e in
      let g : State = build_of o (building s) 1 in
      moved_cond built_store (built_under k) k (eqb s.stage.number 0) _ _ _ _
      (λ a. rw t.is (input-moved (after_build s g) t.names t.alike)) (λ a. moved built_store (built_under k) k s n e)

  pub built-moved : (o : Object) (s : BuildLinks) (n : List ℕ) → Rekeyed k (built_store s) n → Built k (built_of o s) (built_of o (built_under k n s))
  unfolding built_of
  built-moved o s n e =
      let t = build-moved k o 2 (building s) n e in
      rw t.is (program-moved o (after_build s (build_of o (building s) 2)) t.names t.alike)
