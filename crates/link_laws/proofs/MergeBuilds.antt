-- Of the sections that a merge builds: each one's answer is that of its first rule that holds, over names as every link has them.
-- Assumes nothing.
use Rattle.std.specs.Prelude.{ℕ, ◌+◌, ◌/◌, ◌-◌, ◌≡◌, refl, Bool, true, false, not, ◌&&◌, List, [], ◌∷◌, eqb, ltb, get_or}
use Rattle.std.proofs.Common.{sym, ◌∙◌}
use Rattle.std.proofs.Math.Path.{ap}
use Rattle.std.proofs.Math.Bool.{cond}
use Rattle.std.proofs.Math.ListN.{length}
use borrow.Author.Tests.{eqb-true, eq-eqb}
use Rattle.cells.specs.Proof.Split.{by-test}
use Rattle.byte_slices.specs.Bytes.{part}
use Rattle.link.specs.declared.Link.{Link}
use Rattle.link.specs.declared.cause.Refusal.{Refusal}
use Rattle.link.specs.Judge.{refused}
use Rattle.link.specs.Counts.{more_lists}
use Rattle.interner.specs.Names.{Store, store_of, find_of, fits_of, keep_of}
use Rattle.interner_laws.specs.Good.{Chained, Good}
use Rattle.interner_laws.proofs.Interns.{keep-good}
use Rattle.elf_object.specs.Rows as Elf
use Rattle.elf_object.specs.Judge.{range_ok}
use Rattle.merge_build.specs.Build.{Plan}
use Rattle.merge_stages.specs.Stages.{Tabled, build_object}
use Rattle.merge_build.specs.Relocations as Relocations
use Rattle.merge_build.specs.Relocations.{limit_of, symbol_ok, symbols_ok}
use Rattle.merge_build.specs.Build as Build
use Rattle.merge_build.specs.Build.{plan_with, plan_of, kept_of, build_row_of, commit_of, tabled_of, built_from, looked_of, section_of, build_of, lists_fit}
use Rattle.load_laws.proofs.LawsNames.{relinked}
use Rattle.symbol_laws.specs.History.{State, store}
use Rattle.merge_laws.proofs.Loop.{loop-holds}
use Rattle.merge_laws.proofs.BuildStage.{build-loop}
use Rattle.link_laws.specs.Rules.{Rule, in_turn, ◌gives◌at◌, first_refusal, numbered}
use Rattle.link_laws.proofs.Rules.{first-none, not-below}
use Rattle.link_laws.proofs.InternExactly.{none_more, fits-is}
use Rattle.link_laws.specs.ObjectRules.{cell_at, is_excluded, is_section, is_named, name_in}
use Rattle.link_laws.specs.TableRules.{is_unroomed, names_of}
use Rattle.link_laws.specs.MergeRules.{Reading, lacks_id, nameable_in, table_for, relocations, own_build_rules, build_rules}
use Rattle.link_laws.proofs.MergeExactly.{stage-exactly, at_work, identified_by, excluded-is}
use Rattle.link_laws.proofs.MergeSymbols.{looked-found, looked-name}

abbrev pub build_said : Build.State → Refusal
build_said s = refused s.stage.number s.stage.place

ids-ok : (ids : List ℕ) (limit : ℕ) (ks : List ℕ) → symbols_ok ids limit ks ≡ not (lacks_id (identified_by ids) limit ks)
unfolding symbols_ok symbol_ok
ids-ok ids limit [] = refl
ids-ok ids limit (k ∷ ks) =
    rw (not-below k limit)
    (by-test (ltb k limit) (λ a. by-test (eqb (get_or ids k 0) 0) (λ b. rw (a, b)) (λ b. rw (a, b) (ids-ok ids limit ks))) (λ a. rw a))

-- no section's rules ask the profile
-- without a table nothing is named, so the limit doesn't matter
module _ (d : Tabled) (work ids : List ℕ) (kind n : ℕ) where
  abbrev limit_for : ℕ
  limit_for = nameable_in d.headers d.table (length d.entries / 8) (table_for (at_work false work) (identified_by ids) d kind n)

  relocations-are : Relocations.relocations_of d.headers d.contents (Relocations.table_for work n kind) ≡ relocations (at_work false work) (identified_by ids) d kind n
  unfolding Relocations.relocations_of Relocations.table_for Elf.section_of
  relocations-are = by-test (eqb kind 1) (λ a. rw a (by-test (eqb (cell_at work n 2) 0) (λ e. rw e) (λ e. rw e))) (λ a. rw a)

  lacks-is : symbols_ok ids (limit_of d.headers (Relocations.table_for work n kind) d.table (length d.entries / 8)) (Relocations.relocations_of d.headers d.contents (Relocations.table_for work n kind))
      ≡ not (lacks_id (identified_by ids) limit_for (relocations (at_work false work) (identified_by ids) d kind n))
  unfolding limit_of Relocations.table_for Elf.section_of Relocations.relocations_of symbols_ok
  lacks-is =
      by-test (eqb kind 1)
      (λ a.
      by-test (eqb (cell_at work n 2) 0) (λ e. rw (a, e))
      (λ e. rw (a, e) (ids-ok ids _ (part d.contents (cell_at d.headers (cell_at work n 2 - 1) 5) (cell_at d.headers (cell_at work n 2 - 1) 6)))))
      (λ a. rw a)

module _ (d : Tabled) (work ids : List ℕ) (kind : ℕ) (s : Build.State) (n : ℕ) where
  abbrev o : Build.Object
  o = build_object d work ids

  abbrev k : Reading
  k = at_work false work

  abbrev t : State
  t = names_of s.bytes s.names s.stage.link

  abbrev here : Build.LinkState
  here = Build.linked s

  abbrev moved : List ℕ
  moved = Relocations.relocations_of o.headers o.contents (Relocations.table_for o.work n kind)

  abbrev limit : ℕ
  limit = limit_of o.headers (Relocations.table_for o.work n kind) o.table o.symbols

  abbrev plan_for : List ℕ → Plan
  plan_for x = plan_of s.stage.link s.bytes s.names (length s.lists) o.ids limit moved x

  commit-said : (x : List ℕ) (p : Plan) → build_said (commit_of o.headers o.work o.ids here moved x n kind p) ≡ cond (eqb p.number 0) (refused 0 0) (refused p.number n)
  unfolding commit_of kept_of
  commit-said x p =
      by-test (eqb p.number 2) (λ e. rw (e, eqb-true p.number 2 e))
      (λ e. by-test (eqb p.number 0) (λ f. rw (e, f)) (λ f. rw (e, f)))

  module _ (c : Chained (store t)) where
    plan-number : (x : List ℕ)
        → (plan_for x).number
        ≡ cond (is_unroomed t x) 2 (cond (lacks_id (identified_by ids) (limit_for d work ids kind n) (relocations k (identified_by ids) d kind n)) 19 (cond (ltb (length s.lists) (s.stage.link.lists + length (relocations k (identified_by ids) d kind n))) 2 0))
    unfolding plan_of plan_with range_ok
    plan-number x =
        rw (fits-is t x c, lacks-is d work ids kind n, none_more (length s.lists) s.stage.link.lists (length moved), relocations-are d work ids kind n)
        (by-test (is_unroomed t x) (λ a. rw a)
        (λ a.
        by-test (lacks_id (identified_by ids) (limit_for d work ids kind n) (relocations k (identified_by ids) d kind n)) (λ b. rw (a, b))
        (λ b. by-test (ltb (length s.lists) (s.stage.link.lists + length (relocations k (identified_by ids) d kind n))) (λ d. rw (a, b, d)) (λ d. rw (a, b, d)))))

    number-tree : (x y z : Bool) → cond (eqb (cond x 2 (cond y 19 (cond z 2 0))) 0) (refused 0 0) (refused (cond x 2 (cond y 19 (cond z 2 0))) n)
        ≡ cond x (refused 2 n) (cond y (refused 19 n) (cond z (refused 2 n) (refused 0 0)))
    number-tree true y z = refl
    number-tree false true z = refl
    number-tree false false true = refl
    number-tree false false false = refl

    named-exactly : (x : List ℕ) → build_said (Build.section_named o.headers o.contents o.work o.ids here x o.table o.symbols n kind)
        ≡ first_refusal ((is_unroomed t x gives 2 at n) ∷ (lacks_id (identified_by ids) (limit_for d work ids kind n) (relocations k (identified_by ids) d kind n) gives 19 at n) ∷ (ltb (length s.lists) (s.stage.link.lists + length (relocations k (identified_by ids) d kind n)) gives 2 at n) ∷ [])
    unfolding Build.section_named tabled_of
    named-exactly x =
        commit-said x (plan_for x)
        ∙ ap (λ (m : ℕ). cond (eqb m 0) (refused 0 0) (refused m n)) (plan-number x)
        ∙ number-tree (is_unroomed t x) (lacks_id (identified_by ids) (limit_for d work ids kind n) (relocations k (identified_by ids) d kind n)) (ltb (length s.lists) (s.stage.link.lists + length (relocations k (identified_by ids) d kind n)))

    abbrev name : List ℕ
    name = name_in o.headers o.image o.section_names (cell_at o.headers n 1)

    looked-exactly : build_said (looked_of o s n kind (Elf.name_in o.headers o.image o.section_names (cell_at o.headers n 1))) ≡ first_refusal (own_build_rules k (identified_by ids) d kind n s)
    unfolding looked_of
    looked-exactly =
        rw (looked-found o.headers o.image o.section_names (cell_at o.headers n 1))
        (by-test (is_named o.headers o.image o.section_names (cell_at o.headers n 1))
        (λ e. rw (e, looked-name o.headers o.image o.section_names (cell_at o.headers n 1) e) (named-exactly name))
        (λ e. rw e))

    section-exactly : build_said s ≡ refused 0 0 → build_said (section_of o s n kind) ≡ first_refusal (build_rules k (identified_by ids) d kind s n)
    unfolding section_of built_from Elf.is_loaded
    section-exactly z =
        rw (not-below n (length o.headers / 8), excluded-is o.headers n)
        (by-test (ltb n (length o.headers / 8))
        (λ a.
        by-test (is_excluded o.headers n) (λ b. rw (a, b) z)
        (λ b.
        by-test (eqb (cell_at o.headers n 0) kind) (λ d. by-test (eqb (cell_at o.work n 1) 2) (λ e. rw (a, b, d, e) z) (λ e. rw (a, b, d, e) looked-exactly))
        (λ d. rw (a, b, d) z)))
        (λ a. rw a z))

-- ---- names stay good

abbrev pub Names : Build.State → Type 0
Names s = Good (store_of s.bytes s.names s.stage.link)

-- whatever the lists
lists-good : (b n : List ℕ) (l : Link) (c : ℕ) → Good (store_of b n l) → Good (store_of b n (more_lists l c))
lists-good b n l c g = (relinked b n l (more_lists l c) refl refl refl refl g).good

module _ (d : Tabled) (work ids : List ℕ) (kind : ℕ) (s : Build.State) (n : ℕ) (g : Names s) where
  abbrev built : Build.Object
  built = build_object d work ids

  abbrev kept : List ℕ → Store
  kept x = keep_of (store_of s.bytes s.names s.stage.link) (record { 0 = find_of s.bytes s.names s.stage.link x }) x

  plan-id : (x : List ℕ) → (plan_for d work ids kind s n x).id ≡ record { 0 = find_of s.bytes s.names s.stage.link x }
  unfolding plan_of plan_with
  plan-id x =
      by-test (fits_of (store_of s.bytes s.names s.stage.link) (record { 0 = find_of s.bytes s.names s.stage.link x }) (length x))
      (λ a.
      by-test (symbols_ok ids (limit d work ids kind s n) (moved d work ids kind s n))
      (λ b. by-test (lists_fit s.stage.link.lists (length s.lists) (length (moved d work ids kind s n))) (λ d. rw (a, b, d)) (λ d. rw (a, b, d))) (λ b. rw (a, b)))
      (λ a. rw a)

  commit-good : (x : List ℕ) (p : Plan) → p.id ≡ record { 0 = find_of s.bytes s.names s.stage.link x }
      → Names (commit_of d.headers work ids (here d work ids kind s n) (moved d work ids kind s n) x n kind p)
  unfolding commit_of kept_of build_row_of
  commit-good x p e =
      let k : Good (keep_of (store_of s.bytes s.names s.stage.link) p.id x) = rw e (keep-good (store_of s.bytes s.names s.stage.link) x g) in
      by-test (eqb p.number 2) (λ a. rw a g)
      (λ a.
      by-test (eqb p.number 0)
      (λ b.
      by-test (lists_fit (keep_of (store_of s.bytes s.names s.stage.link) p.id x).link.lists (length s.lists) (length (moved d work ids kind s n)))
      (λ d. rw (a, b, d) (lists-good _ _ _ _ k)) (λ d. rw (a, b, d) k))
      (λ b. rw (a, b) k))

  section-good : Names (section_of built s n kind)
  unfolding section_of looked_of Build.section_named tabled_of
  section-good =
      let x = Elf.name_in d.headers d.image d.section_names (cell_at d.headers n 1) in
      by-test (built_from d.headers work n kind)
      (λ a. by-test x.found (λ b. rw (a, b) (commit-good x.name (plan_for d work ids kind s n x.name) (plan-id x.name))) (λ b. rw (a, b) g))
      (λ a. rw a g)

-- ---- all of them

module _ (d : Tabled) (work ids : List ℕ) (kind : ℕ) where
  abbrev builder : Build.Object
  builder = build_object d work ids

  abbrev own : Build.State → ℕ → List Rule
  own = build_rules (at_work false work) (identified_by ids) d kind

  pub record Named (s : Build.State) (n : ℕ) : Type 0 where
    pub quiet : build_said s ≡ refused 0 0
    pub good : Good (store_of s.bytes s.names s.stage.link)

  abbrev pub build_next : Build.State → ℕ → Build.State
  build_next s n = section_of builder s n kind

  pub build-rules-numbered : (s : Build.State) (n : ℕ) → numbered (own s n) ≡ true
  build-rules-numbered s n =
      by-test (is_section d.headers n kind && not (eqb (cell_at work n 1) 2)) (λ e. rw e) (λ e. rw e)

  one : (s : Build.State) (n : ℕ) → Named s n → build_said (build_next s n) ≡ first_refusal (own s n)
  one s n h = section-exactly d work ids kind s n h.good.chained h.quiet

  stays : (s : Build.State) (n : ℕ) → Named s n → (build_said (build_next s n)).number ≡ 0 → Named (build_next s n) (n + 1)
  stays s n h z =
      let e = one s n h in
      record {
        quiet = e ∙ first-none (own s n) (build-rules-numbered s n) (ap (λ (r : Refusal). eqb r.number 0) (sym e) ∙ eq-eqb _ _ z);
        good = section-good d work ids kind s n h.good;
      }

  pub builds-exactly : (s : Build.State) → Named s 0 → build_said (build_of builder s kind) ≡ first_refusal (in_turn own build_next (length d.headers / 8) 0 s)
  unfolding build_of
  builds-exactly s h =
      ap build_said (build-loop builder kind (length d.headers / 8) 0 s)
      ∙ stage-exactly own build_next build_said Named build-rules-numbered one stays (length d.headers / 8) 0 s h h.quiet

  -- and after them all
  pub builds-good : (s : Build.State) → Names s → Names (build_of builder s kind)
  unfolding build_of
  builds-good s g =
      rw (build-loop builder kind (length d.headers / 8) 0 s)
      (loop-holds (λ (s : Build.State). s.stage.number) build_next Names (λ s n g. section-good d work ids kind s n g) (length d.headers / 8) 0 s g)
