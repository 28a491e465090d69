-- Two exits that meet a call's contract are equal; and what an exit that meets it is in the terms of the call's definition.
-- Assumes nothing.
use Rattle.std.specs.Prelude.{ℕ, ◌≡◌, Bool, List}
use Rattle.std.proofs.Common.{sym, ap, ◌∙◌}
use Rattle.strings.specs.Lookup.{Looked}
use Rattle.strings.specs.Contract.{StringExit, StringMeets, EndedMeets}
use Rattle.link.specs.declared.Link.{Link}
use Rattle.interner.specs.Outcome as Interner
use Rattle.interner.specs.Calls as Names
use Rattle.interner.specs.Contract.{ResolveExit, NewNamesMeets}
use Rattle.interner.specs.Contract as Interning
use Rattle.symbols.specs.Outcome as Symbols
use Rattle.symbols.specs.Calls as Calls
use Rattle.symbols.specs.New.{NewLeft, new_outcome}
use Rattle.symbols.specs.Remove.{RemoveLeft, remove_outcome}
use Rattle.symbols.specs.Contract.{NewExit, NewMeets, AddExit, RemoveExit}
use Rattle.section_groups.specs.Contract.{SectionAfterMeets, DiscardedMeets, FilterMeets}
use Rattle.section_groups.specs.AddGroup as AddGroup
use Rattle.section_groups.specs.AloneContract as Grouping
use Rattle.merge_elf.specs.declared.Outcome as Merge
use Rattle.merge_elf.specs.Merge as Merging
use Rattle.merge_file.specs.MergeFile.{FileLeft}
use Rattle.shared_objects.specs.declared.Outcome as Shared
use Rattle.shared_objects.specs.Load as Loading
use Rattle.archive_walk.specs.Walk as Archive
use Rattle.shadowed_members.specs.Shadowed as Shadowed
use Rattle.shadowed_members.specs.Contract.{ShadowedExit}
use Rattle.untaken_member.specs.Untaken as Untaken
use Rattle.untaken_member.specs.Contract.{WouldExit}
use Rattle.archive_walk.specs.Contract.{StartExit, NextExit}
use Rattle.gc_sections.specs.declared.Outcome as Collection
use Rattle.gc_sections.specs.Run as Collecting
use Rattle.gc_sections.specs.Contract as Collects
use Rattle.symbol_laws.specs.History.{table}
use Rattle.merge_laws.specs.Calls.{Linked}
use Rattle.link_laws.specs.Read as Read
use Rattle.link_laws.specs.Calls.{Call, intern, add, remove, add_group, merge, merge_file, load, collect, plain_collect, call_left, reads, add_list}
use Rattle.link_laws.proofs.OneOutcome.{names-answer, symbols-answer}
use Rattle.add_list.specs.Contract.{ListExit, listed}
use Rattle.add_list.specs.AddList.{ListLeft}
use Rattle.add_list.specs.Listed.{Listed}
use Rattle.link_laws.specs.CallContracts.{Exit, FileExit, LoadExit, Meets, MergeExit, add_exit, collect_exit, exit_of_list, group_exit, intern_exit, load_exit, merge_exit, new_exit, remove_exit, seen}

-- so all that is proved of `call_left` is proved of every exit that meets the contract
pub meets-left : (k : Call) (s : Linked) (e : Exit k) → Meets k s e → seen k e ≡ call_left k s
meets-left (intern x) s e h = h
meets-left (reads (Read.resolve id)) s e h = h
meets-left (add conversion u) s e h = h
meets-left (add_list conversion adds ids) s e h = h
meets-left (remove id) s e h = h
meets-left (reads (Read.get id)) s e h = h
meets-left (reads (Read.get_global name)) s e h = h
meets-left (reads (Read.section_symbol section)) s e h = h
meets-left (add_group o work n) s e h = h
meets-left (merge o work ids) s e h = h
meets-left (merge_file file cells work ids) s e h = h
meets-left (load o marks) s e h = h
meets-left (reads (Read.archive_start key archives cells)) s e h = h
meets-left (reads (Read.archive_next archives cells w)) s e h = h
meets-left (reads (Read.archive_shadowed index rows w cells)) s e h = h
meets-left (reads (Read.matches headers entries contents file index cells w i)) s e h = h
meets-left (reads (Read.would_define headers entries contents file cells)) s e h = h
meets-left (collect marks entry work) s e h = h
meets-left (plain_collect marks entry work) s e h = h

-- ---- no second outcome

names-outcome : (a b : Interner.Outcome) → a.link ≡ b.link → Names.said a.answer ≡ Names.said b.answer → a ≡ b
names-outcome a b e f =
    ap (λ (l : Link). record { link = l; answer = a.answer }) e ∙ ap (λ v. record { link = b.link; answer = v }) (names-answer a.answer b.answer f)

symbols-outcome : (a b : Symbols.Outcome) → a.table.link ≡ b.table.link → Calls.said a.answer ≡ Calls.said b.answer → a ≡ b
symbols-outcome a b e f =
    ap {B = Symbols.Outcome} (λ (l : Link). record { table = record { link = l }; answer = a.answer }) e
    ∙ ap {B = Symbols.Outcome} (λ v. record { table = b.table; answer = v }) (symbols-answer a.answer b.answer f)

intern-one : (x y : Interning.Exit) → Names.outcome x.bytes x.names x.result ≡ Names.outcome y.bytes y.names y.result → x ≡ y
intern-one x y e =
    let a' : x.bytes ≡ y.bytes = ap (λ (o : Names.Left). o.store.bytes) e in
    let b' : x.names ≡ y.names = ap (λ (o : Names.Left). o.store.names) e in
    let r' : x.result ≡ y.result = names-outcome x.result y.result (ap (λ (o : Names.Left). o.store.link) e) (ap (λ (o : Names.Left). o.said) e) in
    let same : intern_exit x.bytes x.names x.result ≡ intern_exit y.bytes y.names y.result = cc in
    same

add-one : (x y : AddExit) → Calls.outcome x.names x.symbols x.sections x.result ≡ Calls.outcome y.names y.symbols y.sections y.result → x ≡ y
add-one x y e =
    let a' : x.names ≡ y.names = ap (λ (o : Calls.Left). o.table.names) e in
    let b' : x.symbols ≡ y.symbols = ap (λ (o : Calls.Left). o.table.symbols) e in
    let c' : x.sections ≡ y.sections = ap (λ (o : Calls.Left). o.table.sections) e in
    let r' : x.result ≡ y.result = symbols-outcome x.result y.result (ap (λ (o : Calls.Left). o.table.link) e) (ap (λ (o : Calls.Left). o.said) e) in
    let same : add_exit x.names x.symbols x.sections x.result ≡ add_exit y.names y.symbols y.sections y.result = cc in
    same

remove-one : (x y : RemoveExit) → remove_outcome x.symbols x.sections x.result ≡ remove_outcome y.symbols y.sections y.result → x ≡ y
remove-one x y e =
    let a' : x.symbols ≡ y.symbols = ap (λ (o : RemoveLeft). o.rows.symbols) e in
    let b' : x.sections ≡ y.sections = ap (λ (o : RemoveLeft). o.rows.sections) e in
    let r' : x.result ≡ y.result = symbols-outcome x.result y.result (ap (λ (o : RemoveLeft). o.link) e) (ap (λ (o : RemoveLeft). o.said) e) in
    let same : remove_exit x.symbols x.sections x.result ≡ remove_exit y.symbols y.sections y.result = cc in
    same

group-one : (x y : Grouping.Exit) → AddGroup.left_of x.bytes x.names x.work x.result ≡ AddGroup.left_of y.bytes y.names y.work y.result → x ≡ y
group-one x y e =
    let a' : x.bytes ≡ y.bytes = ap (λ (o : AddGroup.Left). o.bytes) e in
    let b' : x.names ≡ y.names = ap (λ (o : AddGroup.Left). o.names) e in
    let c' : x.work ≡ y.work = ap (λ (o : AddGroup.Left). o.work) e in
    let r' : x.result ≡ y.result = ap (λ (o : AddGroup.Left). o.outcome) e in
    let same : group_exit x.bytes x.names x.work x.result ≡ group_exit y.bytes y.names y.work y.result = cc in
    same

merge-one : (x y : MergeExit) → Merging.outcome x.cells.bytes x.cells.names x.cells.symbols x.cells.sections x.cells.inputs x.cells.lists x.cells.work x.cells.ids x.result ≡ Merging.outcome y.cells.bytes y.cells.names y.cells.symbols y.cells.sections y.cells.inputs y.cells.lists y.cells.work y.cells.ids y.result → x ≡ y
merge-one x y e =
    let a' : x.cells.bytes ≡ y.cells.bytes = ap (λ (o : Merging.Left). o.cells.bytes) e in
    let b' : x.cells.names ≡ y.cells.names = ap (λ (o : Merging.Left). o.cells.names) e in
    let c' : x.cells.symbols ≡ y.cells.symbols = ap (λ (o : Merging.Left). o.cells.symbols) e in
    let d' : x.cells.sections ≡ y.cells.sections = ap (λ (o : Merging.Left). o.cells.sections) e in
    let e' : x.cells.inputs ≡ y.cells.inputs = ap (λ (o : Merging.Left). o.cells.inputs) e in
    let f' : x.cells.lists ≡ y.cells.lists = ap (λ (o : Merging.Left). o.cells.lists) e in
    let g' : x.cells.work ≡ y.cells.work = ap (λ (o : Merging.Left). o.cells.work) e in
    let h' : x.cells.ids ≡ y.cells.ids = ap (λ (o : Merging.Left). o.cells.ids) e in
    let k' : x.result.link ≡ y.result.link = ap (λ (o : Merging.Left). o.cells.stage.link) e in
    let m' : x.result.answer ≡ y.result.answer = ap (λ (o : Merging.Left). o.answer) e in
    let r' : x.result ≡ y.result =
    ap {B = Merge.Outcome} (λ (l : Link). record { link = l; answer = x.result.answer }) k'
    ∙ ap {B = Merge.Outcome} (λ v. record { link = y.result.link; answer = v }) m' in
    let same : merge_exit x.cells.bytes x.cells.names x.cells.symbols x.cells.sections x.cells.inputs x.cells.lists x.cells.work x.cells.ids x.result ≡ merge_exit y.cells.bytes y.cells.names y.cells.symbols y.cells.sections y.cells.inputs y.cells.lists y.cells.work y.cells.ids y.result = cc in
    same

list-one : (x y : ListExit) → listed x.names x.symbols x.sections x.ids x.result ≡ listed y.names y.symbols y.sections y.ids y.result → x ≡ y
list-one x y e =
    let a' : x.names ≡ y.names = ap (λ (o : ListLeft). o.table.names) e in
    let b' : x.symbols ≡ y.symbols = ap (λ (o : ListLeft). o.table.symbols) e in
    let c' : x.sections ≡ y.sections = ap (λ (o : ListLeft). o.table.sections) e in
    let d' : x.ids ≡ y.ids = ap (λ (o : ListLeft). o.ids) e in
    let r' : x.result ≡ y.result = ap {B = Listed} (λ (o : ListLeft). record { table = record { link = o.table.link }; refusal = o.refusal; position = o.position }) e in
    let same : exit_of_list x.names x.symbols x.sections x.ids x.result ≡ exit_of_list y.names y.symbols y.sections y.ids y.result = cc in
    same

file-one : (file cells work ids : List ℕ) (x y : FileExit) → seen (merge_file file cells work ids) x ≡ seen (merge_file file cells work ids) y → x ≡ y
file-one file cells work ids x y e =
    ap {B = FileExit} (λ (l : List ℕ). record { rows = l; merged = x.merged }) (ap (λ (o : FileLeft). o.rows) e)
    ∙ ap {B = FileExit} (λ (m : MergeExit). record { rows = y.rows; merged = m }) (merge-one x.merged y.merged (ap (λ (o : FileLeft). o.merged) e))

load_one : (x y : LoadExit) → Loading.outcome x.cells.bytes x.cells.names x.cells.symbols x.cells.sections x.cells.inputs x.cells.lists x.cells.marks x.result ≡ Loading.outcome y.cells.bytes y.cells.names y.cells.symbols y.cells.sections y.cells.inputs y.cells.lists y.cells.marks y.result → x ≡ y
load_one x y e =
    let a' : x.cells.bytes ≡ y.cells.bytes = ap (λ (o : Loading.Left). o.cells.bytes) e in
    let b' : x.cells.names ≡ y.cells.names = ap (λ (o : Loading.Left). o.cells.names) e in
    let c' : x.cells.symbols ≡ y.cells.symbols = ap (λ (o : Loading.Left). o.cells.symbols) e in
    let d' : x.cells.sections ≡ y.cells.sections = ap (λ (o : Loading.Left). o.cells.sections) e in
    let e' : x.cells.inputs ≡ y.cells.inputs = ap (λ (o : Loading.Left). o.cells.inputs) e in
    let f' : x.cells.lists ≡ y.cells.lists = ap (λ (o : Loading.Left). o.cells.lists) e in
    let g' : x.cells.marks ≡ y.cells.marks = ap (λ (o : Loading.Left). o.cells.marks) e in
    let k' : x.result.link ≡ y.result.link = ap (λ (o : Loading.Left). o.cells.link) e in
    let m' : x.result.answer ≡ y.result.answer = ap (λ (o : Loading.Left). o.answer) e in
    let r' : x.result ≡ y.result =
    ap {B = Shared.Outcome} (λ (l : Link). record { link = l; answer = x.result.answer }) k'
    ∙ ap {B = Shared.Outcome} (λ v. record { link = y.result.link; answer = v }) m' in
    let same : load_exit x.cells.bytes x.cells.names x.cells.symbols x.cells.sections x.cells.inputs x.cells.lists x.cells.marks x.result ≡ load_exit y.cells.bytes y.cells.names y.cells.symbols y.cells.sections y.cells.inputs y.cells.lists y.cells.marks y.result = cc in
    same

collect-one : (x y : Collects.Exit) → Collecting.outcome x.symbols x.sections x.work x.result ≡ Collecting.outcome y.symbols y.sections y.work y.result → x ≡ y
collect-one x y e =
    let a' : x.symbols ≡ y.symbols = ap (λ (o : Collecting.Left). o.symbols) e in
    let b' : x.sections ≡ y.sections = ap (λ (o : Collecting.Left). o.sections) e in
    let c' : x.work ≡ y.work = ap (λ (o : Collecting.Left). o.work) e in
    let l' : x.result.link ≡ y.result.link = ap (λ (o : Collecting.Left). o.link) e in
    let m' : x.result.answer ≡ y.result.answer = ap (λ (o : Collecting.Left). o.answer) e in
    let r' : x.result ≡ y.result =
    ap {B = Collection.Outcome} (λ (l : Link). record { link = l; answer = x.result.answer }) l'
    ∙ ap {B = Collection.Outcome} (λ v. record { link = y.result.link; answer = v }) m' in
    let same : collect_exit x.symbols x.sections x.work x.result ≡ collect_exit y.symbols y.sections y.work y.result = cc in
    same

new-one : (x y : NewExit) → new_outcome x.bytes x.names x.symbols x.sections x.result ≡ new_outcome y.bytes y.names y.symbols y.sections y.result → x ≡ y
new-one x y e =
    let a' : x.bytes ≡ y.bytes = ap (λ (o : NewLeft). o.bytes) e in
    let b' : x.names ≡ y.names = ap (λ (o : NewLeft). o.table.names) e in
    let c' : x.symbols ≡ y.symbols = ap (λ (o : NewLeft). o.table.symbols) e in
    let d' : x.sections ≡ y.sections = ap (λ (o : NewLeft). o.table.sections) e in
    let r' : x.result ≡ y.result = symbols-outcome x.result y.result (ap (λ (o : NewLeft). o.table.link) e) (ap (λ (o : NewLeft). o.said) e) in
    let same : new_exit x.bytes x.names x.symbols x.sections x.result ≡ new_exit y.bytes y.names y.symbols y.sections y.result = cc in
    same

resolve-one : (x y : ResolveExit) → Names.resolved x.result x.number x.place ≡ Names.resolved y.result y.number y.place → x ≡ y
resolve-one x y e =
    ap {B = ResolveExit} (λ (o : Names.Resolved). record { result = o.name; number = o.refusal.number; place = o.refusal.place }) e

start-one : (x y : StartExit) → Archive.start_left x.cells x.result ≡ Archive.start_left y.cells y.result → x ≡ y
start-one x y e = ap {B = StartExit} (λ (o : Archive.Start). record { cells = o.cells; result = o.started }) e

next_one : (x y : NextExit) → Archive.step_moved x.cells x.result ≡ Archive.step_moved y.cells y.result → x ≡ y
next_one x y e = ap {B = NextExit} (λ (o : Archive.Step). record { cells = o.cells; result = o.moved }) e

shadowed-one : (x y : ShadowedExit) → Shadowed.left x.cells x.result ≡ Shadowed.left y.cells y.result → x ≡ y
shadowed-one x y e = ap {B = ShadowedExit} (λ (o : Shadowed.Left). record { cells = o.cells; result = o.answer }) e

would-one : (x y : WouldExit) → Untaken.left x.cells x.result ≡ Untaken.left y.cells y.result → x ≡ y
would-one x y e = ap {B = WouldExit} (λ (o : Untaken.Left). record { cells = o.cells; result = o.answer }) e

seen_one : (k : Call) (x y : Exit k) → seen k x ≡ seen k y → x ≡ y
seen_one (intern b) x y e = intern-one x y e
seen_one (reads (Read.resolve id)) x y e = resolve-one x y e
seen_one (add conversion u) x y e = add-one x y e
seen_one (add_list conversion adds ids) x y e = list-one x y e
seen_one (remove id) x y e = remove-one x y e
seen_one (reads (Read.get id)) x y e = e
seen_one (reads (Read.get_global name)) x y e = e
seen_one (reads (Read.section_symbol section)) x y e = e
seen_one (add_group o work n) x y e = group-one x y e
seen_one (merge o work ids) x y e = merge-one x y e
seen_one (merge_file file cells work ids) x y e = file-one file cells work ids x y e
seen_one (load o marks) x y e = load_one x y e
seen_one (reads (Read.archive_start key archives cells)) x y e = start-one x y e
seen_one (reads (Read.archive_next archives cells w)) x y e = next_one x y e
seen_one (reads (Read.archive_shadowed index rows w cells)) x y e = shadowed-one x y e
seen_one (reads (Read.matches headers entries contents file index cells w i)) x y e = e
seen_one (reads (Read.would_define headers entries contents file cells)) x y e = would-one x y e
seen_one (collect marks entry work) x y e = collect-one x y e
seen_one (plain_collect marks entry work) x y e = collect-one x y e

-- of every call on a link
pub one-outcome : (k : Call) (s : Linked) (x y : Exit k) → Meets k s x → Meets k s y → x ≡ y
one-outcome k s x y e f = seen_one k x y (meets-left k s x e ∙ sym (meets-left k s y f))

-- of a new table
pub new-one-outcome : (key : ℕ) (gabi : Bool) (bytes names symbols sections : List ℕ) (x y : NewExit) → NewMeets key gabi bytes names symbols sections x → NewMeets key gabi bytes names symbols sections y → x ≡ y
new-one-outcome key gabi bytes names symbols sections x y e f = new-one x y (e ∙ sym f)

-- of the names of a new table, which are part of it
pub new-names-one-outcome : (key : ℕ) (bytes names : List ℕ) (x y : Interning.Exit) → NewNamesMeets key bytes names x → NewNamesMeets key bytes names y → x ≡ y
new-names-one-outcome key bytes names x y e f = intern-one x y (e ∙ sym f)

-- of a string lookup, and of the filter
pub string-one-outcome : (table : List ℕ) (offset : ℕ) (x y : StringExit) → StringMeets table offset x → StringMeets table offset y → x ≡ y
string-one-outcome table offset x y e f = ap {B = StringExit} (λ (o : Looked). record { result = o.name; found = o.found }) (e ∙ sym f)

pub ended-one-outcome : (bytes : List ℕ) (offset : ℕ) (x y : StringExit) → EndedMeets bytes offset x → EndedMeets bytes offset y → x ≡ y
ended-one-outcome bytes offset x y e f = ap {B = StringExit} (λ (o : Looked). record { result = o.name; found = o.found }) (e ∙ sym f)

pub filter-one-outcome : (gabi : Bool) (work entries : List ℕ) (x y : ℕ) → FilterMeets gabi work entries x → FilterMeets gabi work entries y → x ≡ y
filter-one-outcome gabi work entries x y e f = e ∙ sym f

pub discarded-one-outcome : (work entries : List ℕ) (i : ℕ) (x y : Bool) → DiscardedMeets work entries i x → DiscardedMeets work entries i y → x ≡ y
discarded-one-outcome work entries i x y e f = e ∙ sym f

pub section-after-one-outcome : (work : List ℕ) (section x y : ℕ) → SectionAfterMeets work section x → SectionAfterMeets work section y → x ≡ y
section-after-one-outcome work section x y e f = e ∙ sym f
