-- Laws of the definitions of Origin.antt.
-- Assumes nothing.
use Rattle.std.specs.Prelude.{ℕ, zero, suc, ◌+◌, ◌≡◌, refl, Bool, ◌||◌, List, [], ◌∷◌, ◌++◌, eqb, ltb}
use Rattle.std.proofs.Common.{ap}
use Rattle.byte_slices.specs.Proof.Ways.{pick}
use Rattle.link.specs.Said.{Said, number_in}
use Rattle.strings.specs.Lookup.{Looked}
use Rattle.symbol.specs.declared.Row.{Row}
use Rattle.symbol_resolution.specs.Decision.{Decision}
use Rattle.symbol_resolution.specs.Decide.{refusal_of}
use Rattle.elf_object.specs.Rows.{rows_in, field, name_in, name_offset_at, is_loaded}
use Rattle.section_groups.specs.Group as Group
use Rattle.merge_symbols.specs.Plan.{input_of, planned_of}
use Rattle.merge_symbols.specs.Stage as Symbols
use Rattle.merge_build.specs.Build as Build
use Rattle.merge_build.specs.Finish as Finish
use Rattle.merge_stages.specs.Stages as Stages
use Rattle.merge_sections.specs.Reserve as Reserve
use Rattle.section_groups.specs.Filter.{filter_of, dropped_at}
use Rattle.merge_elf.specs.Merge as Merge
use Rattle.symbol_laws.specs.Hidden.{is_hidden, some_hidden}
use Rattle.symbol_laws.specs.History.{State, Source, direct, object, library, Entry, noted, only, rows, issue, put, put_of}
use Rattle.merge_laws.specs.Steps.{Step, part, mark, others, step_next, log_steps}
use Rattle.merge_laws.specs.Loop.{loop_steps}
use Rattle.merge_laws.specs.MergeSteps.{row_steps, adds, named_steps, symbol_steps, symbols_steps, signed_steps, group_section_steps, groups_steps, built_steps, section_steps, build_steps, input_steps, program_steps, both_steps, build_first, build_stage_steps, symbol_first, table_steps, filtered_steps, filter_steps, group_first, merge_groups_steps, group_stage_steps, reserved_steps, reserve_first, stages_steps, merge_steps}
use Rattle.merge_laws.specs.Origin.{ShownFrom, AllShown, LogShown, with_object, from_objects}

pub shown-both : (ks ls : List Step) → AllShown ks → AllShown ls → AllShown (ks ++ ls)
shown-both [] ls p q = q
shown-both (k ∷ ks) ls p q = (p.0, shown-both ks ls p.1 q)

module _ {S : Type 0} (number : S → ℕ) (next : S → ℕ → S) (steps : S → ℕ → List Step) (Holds : S → Type 0)
    (stays : (s : S) (i : ℕ) → Holds s → Holds (next s i)) (one : (s : S) (i : ℕ) → Holds s → AllShown (steps s i)) where
  pub loop-shown : (n i : ℕ) (s : S) → Holds s → AllShown (loop_steps number next steps n i s)
  loop-shown zero i s h = tt
  loop-shown (suc n) i s h =
      pick AllShown (eqb (number (next s i)) 0) _ _
      (λ t. shown-both (steps s i) (loop_steps number next steps n (i + 1) (next s i)) (one s i h) (loop-shown n (i + 1) (next s i) (stays s i h)))
      (λ t. one s i h)

pub row-shown : (from : Source) (a : Bool) (x : List ℕ) (r : Row) (d : Decision) → ShownFrom from r → AllShown (row_steps from a x r d)
unfolding row_steps
row-shown from a x r d p =
    pick AllShown (eqb (refusal_of d) 2) _ _ (λ t. tt)
    (λ t. pick AllShown (eqb (refusal_of d) 0) _ _ (λ t. pick AllShown a _ _ (λ t. (tt, (p, tt))) (λ t. (tt, tt))) (λ t. (tt, tt)))

pub log-both : (a b : List Entry) → LogShown a → LogShown b → LogShown (a ++ b)
log-both [] b p q = q
log-both (x ∷ a) b p q = (p.0, log-both a b p.1 q)

noted-shown : (r : Row) (from : Source) (a : Said) → ShownFrom from r → LogShown (noted r from a)
unfolding noted
noted-shown r from a p =
    pick LogShown (eqb r.scope 0) _ _ (λ t. tt) (λ t. pick LogShown (eqb (number_in a) 0) _ _ (λ t. (p, tt)) (λ t. tt))

pub log-shown : (ks : List Step) (s : State) → AllShown ks → LogShown (log_steps ks s)
log-shown [] s p = tt
log-shown (part (issue x) ∷ ks) s p = log-shown ks (step_next (part (issue x)) s) p.1
log-shown (part (put r from) ∷ ks) s p =
    log-both (noted r from (put_of s r).said) (log_steps ks (step_next (part (put r from)) s)) (noted-shown r from (put_of s r).said p.0)
    (log-shown ks (step_next (part (put r from)) s) p.1)
log-shown (mark n ∷ ks) s p = log-shown ks (step_next (mark n) s) p.1
log-shown (others x l ∷ ks) s p = log-shown ks (step_next (others x l) s) p.1

hidden-one : (from : Source) (x : Entry) (l m : List Entry) → ShownFrom from x.row → some_hidden (rows l) ≡ some_hidden (rows m)
    → (is_hidden x.row || some_hidden (rows l)) ≡ some_hidden (rows (with_object from x m))
hidden-one direct x l m p e = ap (◌||◌ (is_hidden x.row)) e
hidden-one object x l m p e = ap (◌||◌ (is_hidden x.row)) e
hidden-one library x l m p e = rw p e

-- where no library's is hidden, hidden is theirs
pub hidden-objects : (l : List Entry) → LogShown l → some_hidden (rows l) ≡ some_hidden (rows (from_objects l))
hidden-objects [] p = refl
hidden-objects (x ∷ xs) p = hidden-one x.from x xs (from_objects xs) p.0 (hidden-objects xs p.1)

-- of one name
pub only-shown : (n : ℕ) (l : List Entry) → LogShown l → LogShown (only n l)
only-shown n [] p = tt
only-shown n (x ∷ xs) p = pick LogShown (eqb x.name n) _ _ (λ t. (p.0, only-shown n xs p.1)) (λ t. only-shown n xs p.1)

-- ---- a merge

symbols-shown : (o : Symbols.Object) (s : Symbols.State) → AllShown (symbols_steps o s)
unfolding symbol_steps named_steps
symbols-shown o s =
    loop-shown (λ t. t.stage.number) (Symbols.symbol_of o) (symbol_steps o) (λ t. Unit {0}) (λ t i h. tt)
    (λ t i h.
    let x : Looked = name_in o.headers o.image o.symbol_names (field o.entries i 0) in
    let p = planned_of (Symbols.view t) (input_of o.entries o.work) x.name i t.stage.file in
    pick AllShown (dropped_at t.stage.link.gabi o.work o.entries i) _ _ (λ k. tt)
    (λ k. pick AllShown x.found _ _ (λ f. row-shown object (adds (input_of o.entries o.work) x.name i) x.name p.row p.decision tt) (λ f. tt)))
    (rows_in o.entries) 0 s tt

pub group-shown : (o : Group.Object) (s : Group.Step) (n : ℕ) → AllShown (group_section_steps o s n)
unfolding group_section_steps signed_steps
group-shown o s n =
    pick AllShown (is_loaded o.headers n 7) _ _
    (λ t. pick AllShown (eqb (Group.group_section_of o s n).stage.number 0) _ _ (λ t. (tt, (tt, tt))) (λ t. tt)) (λ t. tt)

groups-shown : (o : Group.Object) (s : Group.Step) → AllShown (groups_steps o s)
groups-shown o s =
    loop-shown (λ t. t.stage.number) (Group.group_section_of o) (group_section_steps o) (λ t. Unit {0}) (λ t i h. tt) (λ t i h. group-shown o t i)
    (rows_in o.headers) 0 s tt

build-shown : (o : Build.Object) (s : Build.State) (kind : ℕ) → AllShown (build_steps o s kind)
unfolding section_steps built_steps
build-shown o s kind =
    loop-shown (λ t. t.stage.number) (λ t n. Build.section_of o t n kind) (section_steps o kind) (λ t. Unit {0}) (λ t i h. tt)
    (λ t i h.
    pick AllShown (Build.built_from o.headers o.work i kind) _ _
    (λ a.
    pick AllShown (name_in o.headers o.image o.section_names (name_offset_at o.headers i)).found _ _
    (λ b. pick AllShown (eqb (Build.section_of o t i kind).stage.number 2) _ _ (λ c. tt) (λ c. (tt, (tt, tt)))) (λ b. tt))
    (λ a. tt))
    (rows_in o.headers) 0 s tt

program-shown : (o : Build.Object) (s : Finish.BuildLinks) → AllShown (program_steps o s)
unfolding program_steps input_steps
program-shown o s =
    pick AllShown (eqb s.stage.number 0) _ _
    (λ a.
    let f : Finish.BuildLinks = Finish.after_build s (Build.build_of o (Finish.building s) 1) in
    shown-both (build_steps o (Finish.building s) 1) (input_steps f) (build-shown o (Finish.building s) 1)
    (pick AllShown (eqb f.stage.number 0) _ _ (λ b. (tt, tt)) (λ b. tt)))
    (λ a. tt)

both-shown : (o : Build.Object) (s : Finish.BuildLinks) → AllShown (both_steps o s)
unfolding both_steps
both-shown o s =
    let t : Finish.BuildLinks = Finish.after_build s (Build.build_of o (Finish.building s) 2) in
    shown-both (build_steps o (Finish.building s) 2) (program_steps o t) (build-shown o (Finish.building s) 2) (program-shown o t)

build-stage-shown : (o : Stages.Tabled) (work : List ℕ) (s : Stages.SymbolLinks) → AllShown (build_stage_steps o work s)
unfolding build_stage_steps
build-stage-shown o work s =
    pick AllShown (eqb s.stage.number 0) _ _ (λ a. both-shown (Stages.build_object o work s.ids) (build_first s)) (λ a. tt)

table-shown : (o : Stages.Tabled) (work : List ℕ) (s : Stages.SymbolLinks) → AllShown (table_steps o work s)
unfolding table_steps
table-shown o work s =
    let p : Symbols.Object = Stages.symbol_object o work in
    let t : Stages.SymbolLinks = Stages.after_symbols s (Symbols.symbols_of p (symbol_first s)) in
    shown-both (symbols_steps p (symbol_first s)) (build_stage_steps o work t) (symbols-shown p (symbol_first s)) (build-stage-shown o work t)

filter-shown : (o : Stages.Tabled) (a : Stages.All) → AllShown (filter_steps o a)
unfolding filter_steps filtered_steps
filter-shown o a =
    pick AllShown (eqb a.stage.number 0) _ _
    (λ b.
    pick AllShown (ltb (filter_of a.stage.link.gabi a.work o.entries) (rows_in o.entries)) _ _ (λ c. tt) (λ c. table-shown o a.work (Stages.symbols_in a)))
    (λ b. tt)

merge-groups-shown : (o : Stages.Tabled) (a : Stages.All) → AllShown (merge_groups_steps o a)
unfolding merge_groups_steps
merge-groups-shown o a =
    let p : Group.Object = Stages.group_object o in
    let t : Stages.All = Stages.after_groups a (Group.groups_of p (group_first a)) in
    shown-both (groups_steps p (group_first a)) (filter_steps o t) (groups-shown p (group_first a)) (filter-shown o t)

stages-shown : (o : Stages.Object) (a : Stages.All) → AllShown (stages_steps o a)
unfolding stages_steps reserved_steps group_stage_steps
stages-shown o a =
    let r : Reserve.State = Reserve.reserve_all_of o.headers (reserve_first a) in
    let b : Stages.All = Stages.after_sections a r in (
      tt,
      pick AllShown (eqb b.stage.number 0) _ _ (λ c. merge-groups-shown (Stages.tabled o r.reserved.table) (Stages.noted o b)) (λ c. tt),
    )

pub merge-shown : (o : Stages.Object) (a : Stages.All) → AllShown (merge_steps o a)
unfolding merge_steps
merge-shown o a =
    pick AllShown (eqb (Merge.head_in o a).number 0) _ _
    (λ b.
    shown-both (stages_steps o a) (others (Stages.stages_of o a).sections (Merge.ended_as (Stages.stages_of o a).stage).link ∷ []) (stages-shown o a) (tt, tt))
    (λ b. tt)
