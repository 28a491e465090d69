-- In the gABI profile a load adds no hidden row.
-- Assumes nothing.
use Rattle.std.specs.Prelude.{ℕ, ◌≡◌, false, List, eqb, get_or, length}
use Rattle.std.proofs.Common.{◌∙◌}
use Rattle.std.proofs.Math.Bool.{true}
use Rattle.byte_slices.specs.Proof.Ways.{pick}
use Rattle.strings.specs.Lookup.{Looked, look_up}
use Rattle.link.specs.declared.Interned.{Interned}
use Rattle.link.specs.Judge.{going_of}
use Rattle.interner.specs.Names.{Store, store_of, find_of, fits_of, keep_of}
use Rattle.elf_object.specs.Rows.{rows_in, field}
use Rattle.merge_symbols.specs.Plan.{View}
use Rattle.shared_objects.specs.Record.{Recorded, recorded_of, record_of, dependency_of, dependencies_of}
use Rattle.shared_objects.specs.Define.{Definition}
use Rattle.shared_objects.specs.Define.{rowed_of, external_of, plan_of, view}
use Rattle.shared_objects.specs.SymbolsLoad.{State, staged, symbol_of, symbols_of}
use Rattle.shared_objects.specs.Need.{Judged}
use Rattle.shared_objects.specs.Stages.{ListLinks, Links, with_name}
use Rattle.shared_objects.specs.Load.{All, Input, links_in, want_of, head_in, name_of}
use Rattle.symbol_laws.specs.Hidden.{is_hidden}
use Rattle.symbol_laws.proofs.Standing.{library-shown}
use Rattle.symbol_laws.proofs.Profile.{keep-profile}
use Rattle.symbol_laws.specs.History.{library}
use Rattle.merge_laws.proofs.Profile.{makes-profile}
use Rattle.merge_laws.specs.Origin.{AllShown}
use Rattle.merge_laws.proofs.Origin.{shown-both, loop-shown, row-shown}
use Rattle.load_laws.specs.LoadSteps.{record_steps, recording, adding, named_steps, symbol_steps, symbols_steps, dependency_steps, dependencies_steps, input_steps, list_first, lists_steps, lists_in, list_stage_steps, symbol_first, contents_steps, kept_steps, issued_steps, library_steps, wanted_steps, asked_steps, load_steps}
use Rattle.load_laws.proofs.Whole.{symbol_table, symbol-makes}

record-shown : (sections : List ℕ) (s : Recorded) (x : List ℕ) (place : ℕ) → AllShown (record_steps sections s x place)
unfolding record_steps
record-shown sections s x place = pick AllShown (eqb (record_of s x place).stage.number 0) _ _ (λ t. (tt, (tt, tt))) (λ t. tt)

plan-shown : (v : View) (x : List ℕ) (binding visibility : ℕ) → v.link.gabi ≡ true → is_hidden (plan_of v x binding visibility).row ≡ false
unfolding plan_of external_of rowed_of
plan-shown v x binding visibility g = rw g (library-shown _ binding visibility)

module _ (entries file : List ℕ) where
  named-shown : (s : State) (x : List ℕ) (i : ℕ) → s.stage.link.gabi ≡ true → AllShown (named_steps entries s x i)
  unfolding named_steps
  named-shown s x i g =
      let p : Definition = plan_of (view (adding s)) x (field entries i 1) (field entries i 3) in
      pick AllShown (eqb (field entries i 4) 0) _ _
      (λ a. pick AllShown (eqb (field entries i 1) 1) _ _ (λ b. record-shown s.sections (recording s) x i) (λ b. tt))
      (λ a. row-shown library true x p.row p.decision (plan-shown (view (adding s)) x (field entries i 1) (field entries i 3) g))

  symbol-shown : (s : State) (i : ℕ) → s.stage.link.gabi ≡ true → AllShown (symbol_steps entries file s i)
  unfolding symbol_steps
  symbol-shown s i g =
      let x : Looked = look_up file (field entries i 0) in
      pick AllShown x.found _ _ (λ a. named-shown (staged s (going_of s.stage.link)) x.name i g) (λ a. tt)

  symbols-shown : (s : State) → s.stage.link.gabi ≡ true → AllShown (symbols_steps entries file s)
  symbols-shown s g =
      loop-shown (λ t. t.stage.number) (symbol_of entries file) (symbol_steps entries file) (λ t. t.stage.link.gabi ≡ true)
      (λ t i h. makes-profile (symbol_table t) (symbol_table (symbol_of entries file t i)) (symbol_steps entries file t i) (symbol-makes entries file t i) ∙ h)
      symbol-shown (rows_in entries) 0 s g

module _ (sections file needs : List ℕ) where
  dependencies-shown : (s : Recorded) → AllShown (dependencies_steps sections file needs s)
  unfolding dependency_steps
  dependencies-shown s =
      loop-shown (λ t. t.stage.number) (dependency_of file needs) (dependency_steps sections file needs) (λ t. Unit {0}) (λ t j h. tt)
      (λ t j h. record-shown sections (recorded_of t.bytes t.names t.lists (going_of t.stage.link)) (look_up file (get_or needs j 0)).name j)
      (length needs) 0 s tt

  lists-shown : (s : ListLinks) (id : Interned) (first : ℕ) → AllShown (lists_steps sections file needs s id first)
  unfolding lists_steps input_steps
  lists-shown s id first =
      shown-both (dependencies_steps sections file needs (list_first s)) _ (dependencies-shown (list_first s))
      (pick AllShown (eqb (dependencies_of file needs (list_first s)).stage.number 0) _ _ (λ a. (tt, tt)) (λ a. tt))

module _ (entries file needs : List ℕ) where
  contents-shown : (s : Links) (id : Interned) → s.stage.link.gabi ≡ true → AllShown (contents_steps entries file needs s id)
  unfolding contents_steps list_stage_steps
  contents-shown s id g =
      let t : State = symbols_of entries file (symbol_first s) in
      shown-both (symbols_steps entries file (symbol_first s)) _ (symbols-shown entries file (symbol_first s) g)
      (pick AllShown (eqb t.stage.number 0) _ _ (λ a. lists-shown t.sections file needs (lists_in s.inputs t) id s.stage.link.lists) (λ a. tt))

  issued-shown : (s : Links) (x : List ℕ) → s.stage.link.gabi ≡ true → AllShown (library_steps entries file needs s x)
  unfolding library_steps issued_steps kept_steps
  issued-shown s x g =
      let id : Interned = record { 0 = find_of s.bytes s.names s.stage.link x } in
      let st : Store = store_of s.bytes s.names s.stage.link in
      pick AllShown (fits_of st id (length x)) _ _
      (λ a. (tt, contents-shown (with_name s (keep_of st id x) (going_of (keep_of st id x).link)) id (keep-profile st id x ∙ g))) (λ a. tt)

  wanted-shown : (a : All) (x : List ℕ) (j : Judged) → a.link.gabi ≡ true → AllShown (wanted_steps entries file needs a x j)
  unfolding wanted_steps
  wanted-shown a x j g =
      pick AllShown j.needed _ _ (λ b. shown-both (library_steps entries file needs (links_in a) x) _ (issued-shown (links_in a) x g) (tt, tt)) (λ b. tt)

pub load-shown : (o : Input) (a : All) → a.link.gabi ≡ true → AllShown (load_steps o a)
unfolding load_steps asked_steps
load-shown o a g =
    pick AllShown (eqb (head_in o a).number 0) _ _
    (λ b.
    wanted-shown o.entries o.image o.needs a (name_of o)
    (want_of o.asneeded a.link a.bytes a.names a.symbols a.inputs a.lists a.marks o.entries o.image (name_of o)) g)
    (λ b. tt)
