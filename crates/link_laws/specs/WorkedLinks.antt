-- Worked links: what the statements of the page say, computed for single links, one field of `WorkedLinks` for each. First a history with every call in it, but the
-- merge of a file and a list of adds, which are the merge of its rows and its adds one by one: it meets the premises of the page, and its links, answers and walk are
-- not empty. Then one more call after it: as-needed, refused merges and loads, removals; what a walk passes by; and a history whose lists grow.
-- Assumes nothing.
use Rattle.shared_objects.specs.declared.Load.TheVariants.{NotNeeded, Loaded}
use Rattle.gc_sections.specs.Run.{dropped}
use Rattle.std.specs.Prelude.{ℕ, ◌≡◌, Bool, true, false, List, [], ◌∷◌, ◌++◌, get_or, length, replicate, None, Some, Ok}
use Rattle.link.specs.Said.{number_in}
use Rattle.link.specs.declared.SymbolId.{SymbolId}
use Rattle.link.specs.declared.SectionId.{SectionId}
use Rattle.link.specs.Judge.{refused}
use Rattle.symbols.specs.New.{new_of}
use Rattle.symbols.specs.Lookup.{not_found}
use Rattle.upcoming_symbol.specs.declared.UpcomingSymbol.TheVariants.{GlobalUnknown, ExternallyDefined, Section, Elf}
use Rattle.section_groups.specs.Group as Group
use Rattle.merge_stages.specs.Stages as Stages
use Rattle.shared_objects.specs.Load as Shared
use Rattle.archive_index.specs.Archives.{one}
use Rattle.archive_walk.specs.Walk as Archive
use Rattle.symbol_laws.specs.History.{opened}
use Rattle.merge_laws.specs.Calls.{Linked, linked}
use Rattle.link_laws.specs.Calls.{Call, intern, resolve, add, remove, get, get_global, section_symbol, add_group, merge, load, archive_start, archive_next, archive_shadowed, matches, would_define, collect, plain_collect, view_in, library_in, call_left, call_refusal, call_number, call_next, run_calls, RemovesNothing}
use Rattle.archive_laws.specs.PassList.{offered}
use Rattle.link_laws.specs.Walks.{next_in}
use Rattle.link_laws.specs.Kept.{signatures}
use Rattle.link_laws.specs.Growth.{Growth, Turn, log_turns, Quiet}
use Rattle.link_laws.specs.Words.{lookup, adds, tied}
use Rattle.symbol_laws.specs.ObjectWords.{sections_in, program, loaded_as}
use Rattle.merge_laws.specs.MergeWords.{named_by, is_removed}
use Rattle.archive_laws.specs.Runs.{Run, start_run}
use Rattle.shadowed_members.specs.Shadowed as Shadowed
use Rattle.untaken_member.specs.Untaken as Untaken

-- ---- what is lent

abbrev zeros : ℕ → List ℕ
zeros n = replicate {A = ℕ} n 0

-- the hash's key
abbrev pub key : ℕ
key = 7

abbrev pub bytes : List ℕ
bytes = zeros 16

-- six rows and their heads
abbrev pub names : List ℕ
names = zeros 54

abbrev pub symbols : List ℕ
symbols = zeros 48

abbrev pub sections : List ℕ
sections = zeros 18

abbrev pub inputs : List ℕ
inputs = zeros 24

abbrev pub lists : List ℕ
lists = zeros 4

-- ---- an object: a program section `.t`, in which `f` is defined, with a relocation that names `f`; a group that lists it

-- a section's row: kind, name, flags (4 read, 8 COMDAT), link, info, first, count
abbrev section : ℕ → ℕ → ℕ → ℕ → ℕ → ℕ → ℕ → List ℕ
section kind name flags link info first count = kind ∷ name ∷ flags ∷ link ∷ info ∷ first ∷ count ∷ 0 ∷ []

-- `\0f\0.t\0`
abbrev file : List ℕ
file = 0 ∷ 102 ∷ 0 ∷ 46 ∷ 116 ∷ 0 ∷ []

-- the null symbol, and `f`: global, a function, in section 1
abbrev entries : List ℕ
entries = zeros 8 ++ (1 ∷ 1 ∷ 2 ∷ 0 ∷ 1 ∷ 0 ∷ 0 ∷ 0 ∷ [])

abbrev headers : List ℕ
headers = section 0 0 0 0 0 0 0 ++ (section 1 3 4 0 0 0 0 ++ (section 3 0 0 3 0 0 2 ++ (section 4 0 0 0 0 0 6 ++ section 6 0 0 2 1 0 1)))

abbrev pub object : Stages.Object
object = Stages.object_of headers entries (1 ∷ []) file 3

abbrev pub grouped : Group.Object
grouped =
    Group.object_of (section 0 0 0 0 0 0 0 ++ (section 7 0 8 2 1 0 1 ++ (section 3 0 0 3 0 0 2 ++ (section 4 0 0 0 0 0 6 ++ section 1 3 4 0 0 0 0)))) entries (4 ∷ []) file 2

-- a library `l` that defines `g`: `\0g\0l\0`
abbrev pub library : Shared.Input
library = Shared.input_as (1 ∷ 1 ∷ 2 ∷ 0 ∷ 1 ∷ 0 ∷ 0 ∷ 0 ∷ []) (0 ∷ 103 ∷ 0 ∷ 108 ∷ 0 ∷ []) [] [] false true 3 false

-- an index of one member, at 8, with the name `f`
abbrev pub index : List ℕ
index = 0 ∷ 0 ∷ 0 ∷ 1 ∷ 0 ∷ 0 ∷ 0 ∷ 8 ∷ 102 ∷ 0 ∷ []

abbrev pub begun : Archive.Start
begun = Archive.start_of 0 (one index) (zeros 8)

-- ---- the history, in either profile: `f` is interned, added as undefined and looked up; the index offers its member for it, which is admitted and merged; then the rest

abbrev pub s0 : Bool → Linked
s0 gabi = linked (opened (new_of key gabi bytes names symbols sections)) inputs lists

-- until a walk over the index begins
abbrev pub front : List Call
front =
    intern (102 ∷ []) ∷ resolve (record { 0 = 1 }) ∷ add [] (GlobalUnknown (record { 0 = 1 })) ∷ get (record { 0 = 1 }) ∷ get_global (record { 0 = 1 })
    ∷ archive_start 0 (one index) (zeros 8) ∷ []

-- its first call
abbrev pub taken : Bool → Archive.Step
taken gabi = Archive.next_of (one index) begun.cells begun.started.walk (view_in (run_calls front (s0 gabi)).table)

abbrev pub middle : Bool → List Call
middle gabi =
    archive_next (one index) begun.cells begun.started.walk ∷ matches headers entries (1 ∷ []) file index (taken gabi).cells (taken gabi).moved.walk 0
    ∷ archive_shadowed index (taken gabi).cells (taken gabi).moved.walk (zeros 1) ∷ []

abbrev pub back : Bool → List Call
back gabi =
    middle gabi
    ++ (merge object (zeros 40) (zeros 2) ∷ section_symbol (record { 0 = 0 }) ∷ add_group grouped (zeros 40) 1 ∷ load library (zeros 6) ∷ remove (record { 0 = 9 })
    ∷ collect (1 ∷ 1 ∷ 1 ∷ []) None (zeros 2) ∷ plain_collect (1 ∷ 1 ∷ 1 ∷ []) None (zeros 2) ∷ [])

abbrev pub ks : Bool → List Call
ks gabi = front ++ back gabi

abbrev pub end : Bool → Linked
end gabi = run_calls (ks gabi) (s0 gabi)

-- ---- what the page says of one more call: as-needed loads, refused merges and loads, removals

-- as-needed: `wanted` defines `f`, which is undefined when the walk begins; `needless` defines `h`, which nobody asks for
abbrev pub wanted : Shared.Input
wanted = Shared.input_as (1 ∷ 1 ∷ 2 ∷ 0 ∷ 1 ∷ 0 ∷ 0 ∷ 0 ∷ []) (0 ∷ 102 ∷ 0 ∷ 108 ∷ 0 ∷ []) [] [] false true 3 true

abbrev pub needless : Shared.Input
needless = Shared.input_as (1 ∷ 1 ∷ 2 ∷ 0 ∷ 1 ∷ 0 ∷ 0 ∷ 0 ∷ []) (0 ∷ 104 ∷ 0 ∷ 109 ∷ 0 ∷ []) [] [] false true 3 true

-- `f`'s row, section 0, and a local `Section` row of it that is added at the end
abbrev pub f : SymbolId
f = record { 0 = 1 }

abbrev pub part : SectionId
part = record { 0 = 0 }

abbrev pub marked : Bool → Linked
marked gabi = call_next (add [] (Section part)) (end gabi)

-- the link that the object is merged into
abbrev pub unmerged : Bool → Linked
unmerged gabi = run_calls (front ++ middle gabi) (s0 gabi)

-- ---- what the walk passes by: `f` is defined before it begins, weakly (2) or strongly (1), or it stays undefined though its member is offered

abbrev pub defined : ℕ → Bool → Linked
defined binding gabi = run_calls (intern (102 ∷ []) ∷ add [] (ExternallyDefined (record { 0 = 1 }) 0 binding) ∷ []) (s0 gabi)

-- the walk after one call over that link, and what it passed by
abbrev pub passing : Linked → Run
passing s = next_in (one index) (start_run 0 (one index) (zeros 8)) s

abbrev pub told : Linked → Shadowed.Left
told s = call_left (archive_shadowed index (passing s).cells (passing s).walk (9 ∷ [])) s

-- ---- the object, as a member that was not taken: over those links, and where `f` is common

abbrev pub common : Bool → Linked
common gabi =
    run_calls
    (intern (102 ∷ []) ∷ add [] (Elf (record { binding = 1; visibility = 0; kind = 1; section = 0xfff2; value = 4; size = 4 }) (record { 0 = 1 }) None) ∷ [])
    (s0 gabi)

abbrev pub would : Linked → Untaken.Left
would s = call_left (would_define headers entries (1 ∷ []) file (9 ∷ 9 ∷ 9 ∷ 9 ∷ [])) s

-- ---- lists that grow: a table without bytes for names, which gets them before `f` is interned

abbrev pub tight : Bool → Linked
tight gabi = linked (opened (new_of key gabi [] names symbols sections)) inputs lists

abbrev pub more : Growth
more = record { bytes = zeros 4; names = zeros 9; symbols = zeros 8; sections = zeros 9; inputs = zeros 8; lists = zeros 1 }

abbrev pub none : Growth
none = record { bytes = []; names = []; symbols = []; sections = []; inputs = []; lists = [] }

abbrev pub turns : List Turn
turns =
    record { growth = more; call = intern (102 ∷ []) } ∷ record { growth = none; call = add [] (GlobalUnknown (record { 0 = 1 })) } ∷ []

-- the numbers that the calls answer: all are accepted, but the remove of a symbol that there isn't
abbrev pub numbers : List Call → Linked → List ℕ
numbers [] s = []
numbers (k ∷ ls) s = call_number k s ∷ numbers ls (call_next k s)

pub record WorkedLinks (gabi : Bool) : Type 0 where
  pub new : number_in (new_of key gabi bytes names symbols sections).said ≡ 0
  pub answers : numbers (ks gabi) (s0 gabi) ≡ 0 ∷ 0 ∷ 0 ∷ 0 ∷ 0 ∷ 0 ∷ 0 ∷ 0 ∷ 0 ∷ 0 ∷ 0 ∷ 0 ∷ 0 ∷ 21 ∷ 0 ∷ 0 ∷ []
  pub quiet : RemovesNothing (ks gabi) (s0 gabi)
  -- `f` has accepted adds, the direct one and the object's; `g` the library's; another name none
  pub twice : length (adds (102 ∷ []) (ks gabi) (s0 gabi)) ≡ 2
  pub once : length (adds (103 ∷ []) (ks gabi) (s0 gabi)) ≡ 1
  pub never : adds (104 ∷ []) (ks gabi) (s0 gabi) ≡ []
  -- the index ties its member to `f`, which is undefined when the walk begins; the pass offers it, and is over
  pub ties : tied (one index) (run_calls front (s0 gabi)) ≡ 8 ∷ []
  pub pass : (taken gabi).moved.walk.passes ≡ 1
  pub offers : offered (one index) (next_in (one index) (start_run 0 (one index) (zeros 8)) (run_calls front (s0 gabi))) ≡ 8 ∷ []
  pub over : (next_in (one index) (next_in (one index) (start_run 0 (one index) (zeros 8)) (run_calls front (s0 gabi))) (run_calls (ks gabi) (s0 gabi))).walk.done ≡ true
  -- weakly defined: no member is offered, the walk is over, and the entry is told; strongly: nothing is; undefined though offered: it is told
  pub shadows : ((passing (defined 2 gabi)).offers ≡ []) × ((passing (defined 2 gabi)).walk.done ≡ true) × (told (defined 2 gabi) ≡ Shadowed.left (0 ∷ []) (Ok 1))
  pub strong-untold : ((passing (defined 1 gabi)).walk.done ≡ true) × (told (defined 1 gabi) ≡ Shadowed.left (9 ∷ []) (Ok 0))
  pub lacks : ((passing (run_calls front (s0 gabi))).offers ≡ 0 ∷ []) × (told (run_calls front (s0 gabi)) ≡ Shadowed.left (0 ∷ []) (Ok 1))
  -- the object's `f`, symbol 1, is strong: it would have taken over the row 1, where that is a weak definition, a common or undefined; a strong one stays
  pub would-weak : would (defined 2 gabi) ≡ Untaken.left (1 ∷ 1 ∷ 9 ∷ 9 ∷ []) (Ok 1)
  pub would-common : would (common gabi) ≡ Untaken.left (1 ∷ 1 ∷ 9 ∷ 9 ∷ []) (Ok 1)
  pub would-undefined : would (run_calls front (s0 gabi)) ≡ Untaken.left (1 ∷ 1 ∷ 9 ∷ 9 ∷ []) (Ok 1)
  pub would-not : would (defined 1 gabi) ≡ Untaken.left (9 ∷ 9 ∷ 9 ∷ 9 ∷ []) (Ok 0)
  -- the library is loaded, and the collection drops nothing, since `f` is marked
  pub loaded : (run_calls (ks gabi) (s0 gabi)).table.link.inputs ≡ 2
  pub kept : (call_left (collect (1 ∷ 1 ∷ 1 ∷ []) None (zeros 2)) (run_calls (ks gabi) (s0 gabi))).answer ≡ Ok (dropped 0 0)
  -- as-needed: needed and loaded, and not needed
  pub wants : (call_left (load wanted (zeros 6)) (run_calls front (s0 gabi))).answer ≡ Ok Loaded
  pub needs-not : ((Shared.head_in needless (library_in (end gabi) (zeros 6))).number ≡ 0) × ((call_left (load needless (zeros 6)) (end gabi)).answer ≡ Ok NotNeeded)
  -- the same object and the same library once more: `f` and `g` would be defined twice
  pub merged-twice : (call_refusal (merge object (zeros 40) (zeros 2)) (end gabi) ≡ refused 17 1) × ((call_next (merge object (zeros 40) (zeros 2)) (end gabi)).table.link.broken ≡ true)
  pub loaded-twice : (call_refusal (load library (zeros 6)) (end gabi) ≡ refused 17 0) × ((call_next (load library (zeros 6)) (end gabi)).table.link.broken ≡ true)
  -- `f`'s row is removed: 21 for its id and its name
  pub removes : call_number (remove f) (end gabi) ≡ 0
  pub removed : (call_left (get f) (call_next (remove f) (end gabi)) ≡ not_found 21 1) × (lookup (102 ∷ []) (call_next (remove f) (end gabi)) ≡ not_found 21 1)
  -- a collection without marks drops the object's section, and `f` with it
  pub drops : (call_left (collect (zeros 3) None (zeros 2)) (end gabi)).answer ≡ Ok (dropped 1 1)
  -- the section's symbol: none, then its local `Section` row, then none again
  pub section : (call_left (section_symbol part) (end gabi) ≡ None) × (call_left (section_symbol part) (marked gabi) ≡ Some (record { 0 = 3 }))
  pub section-gone : (call_number (remove (record { 0 = 3 })) (marked gabi) ≡ 0) × (call_left (section_symbol part) (call_next (remove (record { 0 = 3 })) (marked gabi)) ≡ None)
  -- the object's section is a program section that no repeated group lists; its relocation names symbol 1, which was given id 1
  pub program-section : (loaded_as headers 1 program ≡ true) × (is_removed headers entries (1 ∷ []) file (signatures (front ++ middle gabi) (s0 gabi)) (sections_in headers) 1 ≡ false)
  pub names-symbol : named_by headers (1 ∷ []) 1 (sections_in headers) ≡ 1 ∷ []
  pub gives : get_or (call_left (merge object (zeros 40) (zeros 2)) (unmerged gabi)).cells.ids 1 0 ≡ 2
  -- without growth `f` has no bytes; with it, it is interned and added
  pub opens : number_in (new_of key gabi [] names symbols sections).said ≡ 0
  pub short : call_number (intern (102 ∷ [])) (tight gabi) ≡ 2
  pub grows : length (log_turns turns (tight gabi)) ≡ 1
  pub calm : Quiet turns (tight gabi)
