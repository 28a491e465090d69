-- The steps that a load is made of, stage by stage.
-- Assumes nothing.
use Rattle.std.specs.Prelude.{ℕ, Bool, true, cond, List, [], ◌∷◌, ◌++◌, eqb, get_or, length}
use Rattle.strings.specs.Lookup.{Looked, look_up}
use Rattle.link.specs.declared.Interned.{Interned}
use Rattle.link.specs.Judge.{going_of}
use Rattle.interner.specs.Names.{Store, store_of, find_of, fits_of, keep_of}
use Rattle.elf_object.specs.Rows.{rows_in, field}
use Rattle.shared_objects.specs.Record.{Recorded, recorded_of, record_of, dependency_of, dependencies_of}
use Rattle.shared_objects.specs.Define.{Definition}
use Rattle.shared_objects.specs.Define.{Added, added_of, plan_of, view}
use Rattle.shared_objects.specs.SymbolsLoad.{State, state_of, staged, symbol_of, symbols_of}
use Rattle.shared_objects.specs.Need.{Judged}
use Rattle.shared_objects.specs.Stages.{ListLinks, list_links, Links, library_row_of, with_name, library_of}
use Rattle.shared_objects.specs.Load.{All, Input, want_of, ended_as, links_in, head_in, name_of}
use Rattle.symbol_laws.specs.History.{issue, library}
use Rattle.merge_laws.specs.Steps.{Step, part, others}
use Rattle.merge_laws.specs.Loop.{loop_steps}
use Rattle.merge_laws.specs.MergeSteps.{row_steps}

-- ---- a name recorded in the lists

-- nothing on 2; else the name, and one cell more that is counted
unfoldable pub record_steps : List ℕ → Recorded → List ℕ → ℕ → List Step
record_steps sections s x place =
    cond (eqb (record_of s x place).stage.number 0) (part (issue x) ∷ others sections (record_of s x place).stage.link ∷ []) []

-- ---- symbols

abbrev pub recording : State → Recorded
recording s = recorded_of s.bytes s.names s.lists (going_of s.stage.link)

abbrev pub adding : State → Added
adding s = added_of s.bytes s.names s.symbols s.sections (going_of s.stage.link)

abbrev pub defined_steps : List ℕ → Definition → List Step
defined_steps x p = row_steps library true x p.row p.decision

-- section 0 is undefined; binding 1 is global
unfoldable pub named_steps : List ℕ → State → List ℕ → ℕ → List Step
named_steps entries s x i =
    cond (eqb (field entries i 4) 0) (cond (eqb (field entries i 1) 1) (record_steps s.sections (recording s) x i) [])
    (defined_steps x (plan_of (view (adding s)) x (field entries i 1) (field entries i 3)))

abbrev pub looked_steps : List ℕ → State → ℕ → Looked → List Step
looked_steps entries s i x = cond x.found (named_steps entries (staged s (going_of s.stage.link)) x.name i) []

unfoldable pub symbol_steps : List ℕ → List ℕ → State → ℕ → List Step
symbol_steps entries file s i = looked_steps entries s i (look_up file (field entries i 0))

abbrev pub symbols_steps : List ℕ → List ℕ → State → List Step
symbols_steps entries file s = loop_steps (λ t. t.stage.number) (symbol_of entries file) (symbol_steps entries file) (rows_in entries) 0 s

-- ---- dependencies, and the library's row

unfoldable pub dependency_steps : List ℕ → List ℕ → List ℕ → Recorded → ℕ → List Step
dependency_steps sections file needs s j =
    record_steps sections (recorded_of s.bytes s.names s.lists (going_of s.stage.link)) (look_up file (get_or needs j 0)).name j

abbrev pub dependencies_steps : List ℕ → List ℕ → List ℕ → Recorded → List Step
dependencies_steps sections file needs s =
    loop_steps (λ t. t.stage.number) (dependency_of file needs) (dependency_steps sections file needs) (length needs) 0 s

unfoldable pub input_steps : List ℕ → List ℕ → Recorded → Interned → ℕ → ℕ → List Step
input_steps sections inputs r id first middle =
    cond (eqb r.stage.number 0) (others sections (library_row_of inputs r.stage.link id first middle).stage.link ∷ []) []

abbrev pub list_first : ListLinks → Recorded
list_first s = recorded_of s.bytes s.names s.lists (going_of s.stage.link)

unfoldable pub lists_steps : List ℕ → List ℕ → List ℕ → ListLinks → Interned → ℕ → List Step
lists_steps sections file needs s id first =
    dependencies_steps sections file needs (list_first s)
    ++ input_steps sections s.inputs (dependencies_of file needs (list_first s)) id first s.stage.link.lists

-- ---- the library

abbrev pub lists_in : List ℕ → State → ListLinks
lists_in inputs s = list_links s.bytes s.names inputs s.lists (going_of s.stage.link)

unfoldable pub list_stage_steps : List ℕ → List ℕ → List ℕ → State → Interned → ℕ → List Step
list_stage_steps file needs inputs s id first =
    cond (eqb s.stage.number 0) (lists_steps s.sections file needs (lists_in inputs s) id first) []

abbrev pub symbol_first : Links → State
symbol_first s = state_of s.bytes s.names s.symbols s.sections s.lists s.stage

unfoldable pub contents_steps : List ℕ → List ℕ → List ℕ → Links → Interned → List Step
contents_steps entries file needs s id =
    symbols_steps entries file (symbol_first s)
    ++ list_stage_steps file needs s.inputs (symbols_of entries file (symbol_first s)) id s.stage.link.lists

unfoldable pub kept_steps : List ℕ → List ℕ → List ℕ → Links → Store → Interned → List Step
kept_steps entries file needs s k id = contents_steps entries file needs (with_name s k (going_of k.link)) id

-- nothing where its name doesn't fit; else the name first
unfoldable pub issued_steps : List ℕ → List ℕ → List ℕ → Links → List ℕ → Interned → List Step
issued_steps entries file needs s x id =
    cond (fits_of (store_of s.bytes s.names s.stage.link) id (length x))
    (part (issue x) ∷ kept_steps entries file needs s (keep_of (store_of s.bytes s.names s.stage.link) id x) id) []

unfoldable pub library_steps : List ℕ → List ℕ → List ℕ → Links → List ℕ → List Step
library_steps entries file needs s x =
    issued_steps entries file needs s x (record { 0 = find_of s.bytes s.names s.stage.link x })

-- ---- the load

-- nothing where it isn't needed; at the end a refused load breaks the link
unfoldable pub wanted_steps : List ℕ → List ℕ → List ℕ → All → List ℕ → Judged → List Step
wanted_steps entries file needs a x j =
    cond j.needed
    (library_steps entries file needs (links_in a) x
    ++ (others (library_of entries file needs (links_in a) x).sections (ended_as (library_of entries file needs (links_in a) x).stage).link ∷ []))
    []

unfoldable pub asked_steps : List ℕ → List ℕ → List ℕ → Bool → All → List ℕ → List Step
asked_steps entries file needs asneeded a x =
    wanted_steps entries file needs a x
    (want_of asneeded a.link a.bytes a.names a.symbols a.inputs a.lists a.marks entries file x)

-- nothing where the head refuses
unfoldable pub load_steps : Input → All → List Step
load_steps o a =
    cond (eqb (head_in o a).number 0) (asked_steps o.entries o.image o.needs o.asneeded a (name_of o)) []
