-- The stages that build sections are their steps.
-- Assumes nothing.
use Prim.Native.Nat.{ℕ, zero, suc, ◌+◌, ◌<◌, ◌≤◌}
use Rattle.std.proofs.Common.{arith, le_trans, sym, ap, ◌∙◌}
use Rattle.std.specs.Prelude.{◌≡◌, refl, Bool, true, cond, ◌≢◌, eqb, length}
use mathlib.Core.List.{List, [], ◌∷◌}
use Rattle.std.proofs.lemmas.Bool.{eqb-false}
use Rattle.cells.specs.Proof.Split.{by-test}
use Rattle.cells.specs.Proof.Rows.{length-put_row}
use Rattle.link.specs.declared.Link.{Link}
use Rattle.link.specs.declared.Interned.{Interned}
use Rattle.link.specs.Counts.{more_lists}
use Rattle.strings.specs.Lookup.{Looked}
use Rattle.interner.specs.Names.{Store, store_of, find_of, fits_of, keep_of}
use Rattle.sections.specs.Rows.{built_of, built_cells}
use Rattle.elf_object.specs.Rows.{rows_in, name_offset_at, name_in}
use Rattle.merge_sections.specs.Reserve.{kind_class}
use Rattle.merge_build.specs.Build.{Plan}
use Rattle.merge_build.specs.Relocations.{table_for, limit_of, relocations_of, symbols_ok}
use Rattle.merge_build.specs.Build.{Object, State, LinkState, RowState, row_state, linked, lists_fit, plan_with, plan_of, build_row_of, kept_of, commit_of, tabled_of, section_named, built_from, looked_of, section_of, build_from, build_of, section_row}
use Rattle.symbol_laws.specs.History as History
use Rattle.symbol_laws.specs.History.{with_store, issue}
use Rattle.merge_laws.specs.Steps.{part, others, Makes}
use Rattle.merge_laws.proofs.Steps.{makes_none, makes_both}
use Rattle.merge_laws.proofs.Issue.{keep-slots, keep-sections}
use Rattle.merge_laws.proofs.More.{makes-more, makes-slots}
use Rattle.merge_laws.proofs.Beside.{Beside, beside_none, others-make, row-beside}
use Rattle.merge_laws.proofs.Loop.{loop, loop-makes, loop-holds}
use Rattle.merge_laws.specs.Placed.{row_of}
use Rattle.merge_laws.proofs.Placed.{Placed, built-placed}
use Rattle.merge_laws.specs.MergeSteps.{built_steps, section_steps, build_steps}

-- ---- what a plan says

module _ (l : Link) (bytes names : List ℕ) (lists : ℕ) (ids : List ℕ) (limit : ℕ) (relocations x : List ℕ) where
  abbrev id : Interned
  id = record { 0 = find_of bytes names l x }

  abbrev plan : Plan
  plan = plan_of l bytes names lists ids limit relocations x

  abbrev fits : Bool
  fits = fits_of (store_of bytes names l) id (length x)

  plan-id : plan.id ≡ id
  unfolding plan_of plan_with
  plan-id =
      by-test fits
      (λ a.
      by-test (symbols_ok ids limit relocations)
      (λ b. by-test (lists_fit l.lists lists (length relocations)) (λ c. rw (a, b, c)) (λ c. rw (a, b, c))) (λ b. rw (a, b)))
      (λ a. rw a)

  plan-fits : plan.number ≢ 2 → fits ≡ true
  unfolding plan_of plan_with
  plan-fits z = by-test fits (λ t. t) (λ t. absurd (z (rw t)))

-- ---- one section

-- the table, with the symbols that the stage leaves alone
abbrev pub table_in : List ℕ → State → History.State
table_in symbols s = record { bytes = s.bytes; names = s.names; symbols = symbols; sections = s.sections; link = s.stage.link }

abbrev table_at : List ℕ → LinkState → History.State
table_at symbols s = record { bytes = s.bytes; names = s.names; symbols = symbols; sections = s.sections; link = s.link }

row-built : (headers work ids : List ℕ) (s : RowState) (relocations : List ℕ) (id : Interned) (n kind : ℕ) → row_of work n < s.link.slots
    → row_of work n < s.link.sections → Beside s.sections s.link (build_row_of headers work ids s relocations id n kind).sections (build_row_of headers work ids s relocations id n kind).link
unfolding build_row_of built_of
row-built headers work ids s relocations id n kind h c =
    by-test (lists_fit s.link.lists (length s.lists) (length relocations))
    (λ t. rw t (row-beside s.sections (row_of work n) _ s.link (more_lists s.link (length relocations)) refl h c (omega arith) refl (λ b. b)))
    (λ t. rw t (beside_none s.sections s.link))

module _ (symbols : List ℕ) (headers work ids : List ℕ) (s : LinkState) (relocations x : List ℕ) (n kind : ℕ) (p : Plan)
    (named : p.id ≡ record { 0 = find_of s.bytes s.names s.link x })
    (room : p.number ≢ 2 → fits_of (store_of s.bytes s.names s.link) (record { 0 = find_of s.bytes s.names s.link x }) (length x) ≡ true)
    (low : row_of work n < s.link.slots) (counted : row_of work n < s.link.sections) where
  abbrev kept : Store
  kept = keep_of (store_of s.bytes s.names s.link) p.id x

  abbrev after : History.State
  after = with_store (table_at symbols s) kept

  issued : p.number ≢ 2 → Makes (table_at symbols s) (part (issue x) ∷ []) after
  issued z =
      record {
        leads = ap (λ (k : Interned). with_store (table_at symbols s) (keep_of (store_of s.bytes s.names s.link) k x)) (sym named);
        accepted = (room z, tt);
      }

  abbrev CommitMakes : State → Type 0
  CommitMakes t =
      Makes (table_at symbols s) (cond (eqb t.stage.number 2) [] (part (issue x) ∷ others t.sections t.stage.link ∷ [])) (table_in symbols t)

  commit-makes : CommitMakes (commit_of headers work ids s relocations x n kind p)
  unfolding commit_of kept_of
  commit-makes =
      by-test (eqb p.number 2) (λ t. rw t (makes_none (table_at symbols s)))
      (λ t.
      by-test (eqb p.number 0)
      (λ z.
      rw (t, z)
      (makes_both (table_at symbols s) after _ (part (issue x) ∷ []) (others _ _ ∷ []) (issued (eqb-false _ _ t))
      (others-make after _ _ (row-built headers work ids (row_state s.sections s.lists kept.link) relocations p.id n kind
      (rw (keep-slots (store_of s.bytes s.names s.link) p.id x) low) (rw (keep-sections (store_of s.bytes s.names s.link) p.id x) counted)))))
      (λ z.
      rw (t, z, t)
      (makes_both (table_at symbols s) after _ (part (issue x) ∷ []) (others _ _ ∷ []) (issued (eqb-false _ _ t))
      (others-make after s.sections kept.link (beside_none s.sections kept.link)))))

-- no row is added to the list of sections
pub section-long : (o : Object) (kind : ℕ) (s : State) (n : ℕ) → length (section_of o s n kind).sections ≡ length s.sections
unfolding section_of looked_of section_named tabled_of commit_of kept_of build_row_of built_of
section-long o kind s n =
    let x : Looked = name_in o.headers o.image o.section_names (name_offset_at o.headers n) in
    let relocations : List ℕ = relocations_of o.headers o.contents (table_for o.work n kind) in
    let q : Plan =
    plan_of s.stage.link s.bytes s.names (length s.lists) o.ids (limit_of o.headers (table_for o.work n kind) o.table o.symbols) relocations x.name in
    let k : Store = keep_of (store_of s.bytes s.names s.stage.link) q.id x.name in
    by-test (built_from o.headers o.work n kind)
    (λ a.
    by-test x.found
    (λ b.
    by-test (eqb q.number 2) (λ c. simp (a, b, c))
    (λ c.
    by-test (eqb q.number 0)
    (λ d.
    by-test (lists_fit k.link.lists (length s.lists) (length relocations)) (λ e. simp (a, b, c, d, e) (length-put_row s.sections (row_of o.work n) (built_cells (section_row o.headers n kind q.id k.link.lists (length relocations)))))
    (λ e. simp (a, b, c, d, e)))
    (λ d. simp (a, b, c, d))))
    (λ b. simp (a, b)))
    (λ a. simp a)

-- of the kinds that have rows
module _ (symbols : List ℕ) (o : Object) (kind count : ℕ) (rowed : kind_class kind ≡ 2) (placed : Placed o.headers o.work count) where
  section-makes : (s : State) (n : ℕ) → count ≤ s.stage.link.slots → count ≤ s.stage.link.sections → Makes (table_in symbols s) (section_steps o kind s n) (table_in symbols (section_of o s n kind))
  unfolding section_of looked_of section_named tabled_of section_steps built_steps
  section-makes s n c d =
      let x : Looked = name_in o.headers o.image o.section_names (name_offset_at o.headers n) in
      let table : ℕ = table_for o.work n kind in
      let relocations : List ℕ = relocations_of o.headers o.contents table in
      let limit : ℕ = limit_of o.headers table o.table o.symbols in
      by-test (built_from o.headers o.work n kind)
      (λ b.
      let low : row_of o.work n < count = built-placed o.headers o.work count n kind placed rowed b in
      by-test x.found
      (λ f.
      simp (b, f)
      (commit-makes symbols o.headers o.work o.ids (linked s) relocations x.name n kind
      (plan_of s.stage.link s.bytes s.names (length s.lists) o.ids limit relocations x.name)
      (plan-id s.stage.link s.bytes s.names (length s.lists) o.ids limit relocations x.name)
      (plan-fits s.stage.link s.bytes s.names (length s.lists) o.ids limit relocations x.name) (omega arith) (omega arith)))
      (λ f. simp (b, f) (makes_none (table_in symbols s))))
      (λ b. simp b (makes_none (table_in symbols s)))

abbrev pub number_of : State → ℕ
number_of s = s.stage.number

pub build-loop : (o : Object) (kind k n : ℕ) (s : State) → build_from o kind k n s ≡ loop number_of (λ t n. section_of o t n kind) k n s
unfolding build_from
build-loop o kind zero n s = refl
build-loop o kind (suc k) n s =
    ap (λ (t : State). cond (eqb (section_of o s n kind).stage.number 0) t (section_of o s n kind)) (build-loop o kind k (n + 1) (section_of o s n kind))

module _ (symbols : List ℕ) (o : Object) (kind count : ℕ) (rowed : kind_class kind ≡ 2) (placed : Placed o.headers o.work count) where
  -- kept by each section
  record Fits (s t : State) : Type 0 where
    slots : t.stage.link.slots ≡ s.stage.link.slots
    counted : count ≤ t.stage.link.sections

  section-fits : (s t : State) (n : ℕ) → count ≤ s.stage.link.slots → Fits s t → Fits s (section_of o t n kind)
  section-fits s t n c f =
      let k : count ≤ t.stage.link.slots = omega (arith, f.slots) in
      let m = section-makes symbols o kind count rowed placed t n k f.counted in
      record { slots = makes-slots _ _ _ m ∙ f.slots; counted = le_trans f.counted (makes-more _ _ _ m) }

  pub build-makes : (s : State) → count ≤ s.stage.link.slots → count ≤ s.stage.link.sections
      → Makes (table_in symbols s) (build_steps o s kind) (table_in symbols (build_of o s kind))
  unfolding build_of
  build-makes s c d =
      rw (build-loop o kind (rows_in o.headers) 0 s)
      (loop-makes number_of (λ t n. section_of o t n kind) (section_steps o kind) (table_in symbols) (Fits s) (λ t n f. section-fits s t n c f)
      (λ t n f. section-makes symbols o kind count rowed placed t n (omega (arith, f.slots)) f.counted) (rows_in o.headers) 0 s
      (record { slots = refl; counted = d }))

pub build-long : (o : Object) (kind : ℕ) (s : State) → length (build_of o s kind).sections ≡ length s.sections
unfolding build_of
build-long o kind s =
    rw (build-loop o kind (rows_in o.headers) 0 s)
    (loop-holds number_of (λ t n. section_of o t n kind) (λ t. length t.sections ≡ length s.sections)
    (λ t n e. section-long o kind t n ∙ e) (rows_in o.headers) 0 s refl)
