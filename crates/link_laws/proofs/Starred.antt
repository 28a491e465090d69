-- The refusal table's marks: which numbers leave all, which break the link, and that nothing else does.
-- Assumes nothing.
use Rattle.link.specs.declared.SectionId.{SectionId}
use Rattle.std.specs.Prelude.{ℕ, ◌≡◌, refl, Bool, true, false, cond, List, [], ◌∷◌, ◌≢◌, eqb, leb, length, Option, None, Some}
use Rattle.std.proofs.Common.{arith, sym, ap, ◌∙◌, subst, eqb-true}
use Rattle.std.proofs.lemmas.Bool.{false≢true, eqb-false}
use Rattle.cells.specs.Proof.Split.{by-test}
use Rattle.byte_slices.specs.Proof.Ways.{pick, apart}
use Rattle.link.specs.declared.Link.{Link}
use Rattle.link.specs.declared.SymbolId.{SymbolId}
use Rattle.link.specs.declared.cause.Refusal.{Refusal}
use Rattle.link.specs.Bounds.{section_slots}
use Rattle.link.specs.Judge.{change_of}
use Rattle.link.specs.Said.{number_in}
use Rattle.interner.specs.Names.{Store, find_of, fits_of}
use Rattle.interner.specs.Calls as Names
use Rattle.interner.specs.Calls.{intern_of, issue_of}
use Rattle.symbols.specs.Calls.{lent_of}
use Rattle.symbols.specs.Remove.{Rows, RemoveLeft, remove_of}
use Rattle.merge_stages.specs.Stages as Stages
use Rattle.merge_elf.specs.Merge as Merge
use Rattle.shared_objects.specs.Stages.{Links}
use Rattle.shared_objects.specs.Load as Shared
use Rattle.gc_sections.specs.Reach as Reach
use Rattle.gc_sections.specs.Run as Collection
use Rattle.gc_sections.specs.Run.{judged, purge_of, sweep_of, finish_of, finished, collect_of, run_of}
use Rattle.symbol_laws.specs.History.{store, table}
use Rattle.merge_laws.specs.ByNumber as ByNumber
use Rattle.merge_laws.proofs.ByNumber as ByNumberLaws
use Rattle.merge_laws.specs.ByNumber.{Between, all_left, name_stays}
use Rattle.merge_laws.specs.Calls.{Linked, all_in}
use Rattle.load_laws.specs.Stops as Loading
use Rattle.link_laws.specs.Calls.{Call, intern, add, remove, add_group, merge, merge_file, load, collect, plain_collect, lists_in, call_refusal, call_number, call_next, run_calls, file_head, is_read, reads, add_list, earlier}
use Rattle.link_laws.proofs.PlainCalls.{plain-link}
use Rattle.elf_laws.specs.Object as ElfFile
use Rattle.link_laws.proofs.FileCall.{next-read, next-unread, refusal-read, refusal-unread, head-numbers}
use Rattle.link_laws.proofs.Among.{one-within}
use Rattle.link_laws.proofs.CallSteps.{group-count}
use Rattle.link_laws.proofs.Leaves as LeavesLaws
use Rattle.link_laws.specs.Leaves.{by_elements}
use Rattle.link_laws.specs.Broken.{changes}
use Rattle.link_laws.proofs.Broken.{broken-refused}
use Rattle.link_laws.specs.Elements.{lent_to, MergeLeft, Element, numbers_at, named_at, LoadLeft}
use Rattle.link_laws.proofs.Elements.{Merges, merges, merge-leaves, Ways, ways, load-leaves}
use Rattle.link_laws.specs.Elements as Elements
use Rattle.link_laws.proofs.Elements as ElementsLaws
use Rattle.merge_laws.specs.Table.{one_of, within, merge_head_numbers, load_head_numbers, file_head_numbers, unstarred, starred}
use Rattle.link_laws.proofs.ListCall.{keep-broken, add-broken-same, list-broken-same}
use Rattle.link_laws.specs.Starred.{head_refusal}

-- ---- the numbers of an element

module _ (o : Stages.Object) (work ids : List ℕ) (s : Linked) where
  all-starred : {b : Stages.All} (at : Between o (lent_to o work ids s) b) → within (all_left o (lent_to o work ids s) at) (2 ∷ starred) ≡ true
  all-starred (ByNumber.sections n) = refl
  all-starred (ByNumber.groups n) = refl
  all-starred ByNumber.filter = refl
  all-starred (ByNumber.symbols i) = refl
  all-starred (ByNumber.uninitialized n) = refl
  all-starred (ByNumber.program n) = refl
  all-starred ByNumber.input = refl

  names-starred : {b : Stages.All} (at : Between o (lent_to o work ids s) b) → within (name_stays o (lent_to o work ids s) at) (2 ∷ starred) ≡ true
  names-starred (ByNumber.sections n) = refl
  names-starred (ByNumber.groups n) = refl
  names-starred ByNumber.filter = refl
  names-starred (ByNumber.symbols i) = refl
  names-starred (ByNumber.uninitialized n) = refl
  names-starred (ByNumber.program n) = refl
  names-starred ByNumber.input = refl

module _ (o : Shared.Input) (marks : List ℕ) (s : Linked) where
  load-starred : {b : Links} (at : Element o marks s b) → within (numbers_at o marks s at) (2 ∷ starred) ≡ true
  load-starred Loading.name = refl
  load-starred (Loading.symbols i) = refl
  load-starred (Loading.dependencies j) = refl
  load-starred Loading.row = refl

  named-starred : {b : Links} (at : Element o marks s b) → within (named_at o marks s at) (2 ∷ starred) ≡ true
  named-starred Loading.name = refl
  named-starred (Loading.symbols i) = refl
  named-starred (Loading.dependencies j) = refl
  named-starred Loading.row = refl

-- ---- a merge or a load that is refused: at its head it leaves all, at an element it breaks the link

pub data Stopped (k : Call) (s : Linked) : Type 0 where
  at_head : call_refusal k s ≡ head_refusal k s → one_of (call_number k s) (2 ∷ unstarred) ≡ true → call_next k s ≡ s → earlier k s ≡ s → Stopped k s
  at-element : one_of (call_number k s) (2 ∷ starred) ≡ true → (call_next k s).table.link.broken ≡ true → Stopped k s

abbrev broke : Linked → Bool
broke t = t.table.link.broken

merge-stopped : (o : Stages.Object) (work ids : List ℕ) (s : Linked) → MergeLeft o work ids s → Stopped (merge o work ids) s
merge-stopped o work ids s (Elements.at_head r h e) = at_head r (one-within (call_number (merge o work ids) s) merge_head_numbers (2 ∷ unstarred) refl h) e refl
merge-stopped o work ids s (Elements.at-element b at m h r e) =
    at-element (one-within (call_number (merge o work ids) s) (all_left o (lent_to o work ids s) at) (2 ∷ starred) (all-starred o work ids s at) h) (ap broke e)
merge-stopped o work ids s (Elements.but-its-name b at found m h r e) =
    at-element (one-within (call_number (merge o work ids) s) (name_stays o (lent_to o work ids s) at) (2 ∷ starred) (names-starred o work ids s at) h) (ap broke e)

-- a file that isn't read leaves all; else it is stopped as the merge of its rows
file-stopped : (file cells work ids : List ℕ) (s : Linked) → call_number (merge_file file cells work ids) s ≢ 0 → Stopped (merge_file file cells work ids) s
file-stopped file cells work ids s u =
    by-test (is_read file cells s)
    (λ t.
    let r = refusal-read file cells work ids s t in
    go t (merge-stopped (ElfFile.rows_of file) work ids s (merge-leaves (ElfFile.rows_of file) work ids s (λ z. u (ap (λ (x : Refusal). x.number) r ∙ z)))))
    (λ t.
    let r = refusal-unread file cells work ids s t in
    at_head (r ∙ sym (ap (λ (b : Bool). cond b (Merge.head_in (ElfFile.rows_of file) (all_in s work ids)) (file_head file cells s)) t))
    (subst (λ (x : Refusal). one_of x.number (2 ∷ unstarred) ≡ true) (sym r)
    (one-within (file_head file cells s).number file_head_numbers (2 ∷ unstarred) refl (subst (λ (b : Bool). cond b true (one_of (file_head file cells s).number file_head_numbers) ≡ true) t (head-numbers file cells s))))
    (next-unread file cells work ids s t) refl)
  where
    go : is_read file cells s ≡ true → Stopped (merge (ElfFile.rows_of file) work ids) s → Stopped (merge_file file cells work ids) s
    go t (at_head r n e f) =
        let q = refusal-read file cells work ids s t in
        at_head (q ∙ r ∙ sym (ap (λ (b : Bool). cond b (Merge.head_in (ElfFile.rows_of file) (all_in s work ids)) (file_head file cells s)) t))
        (subst (λ (x : Refusal). one_of x.number (2 ∷ unstarred) ≡ true) (sym q) n) (next-read file cells work ids s t ∙ e) refl
    go t (at-element n e) =
        at-element (subst (λ (x : Refusal). one_of x.number (2 ∷ starred) ≡ true) (sym (refusal-read file cells work ids s t)) n)
        (ap broke (next-read file cells work ids s t) ∙ e)

load-stopped : (o : Shared.Input) (marks : List ℕ) (s : Linked) → LoadLeft o marks s → Stopped (load o marks) s
load-stopped o marks s (Elements.at_head r h e) = at_head r (one-within (call_number (load o marks) s) load_head_numbers (2 ∷ unstarred) refl h) e refl
load-stopped o marks s (Elements.at-element b at m h r e) =
    at-element (one-within (call_number (load o marks) s) (numbers_at o marks s at) (2 ∷ starred) (load-starred o marks s at) h) (ap broke e)
load-stopped o marks s (Elements.but-its-name b at found m h r e) =
    at-element (one-within (call_number (load o marks) s) (named_at o marks s at) (2 ∷ starred) (named-starred o marks s at) h) (ap broke e)

pub stopped : (k : Call) (s : Linked) → by_elements k ≡ true → call_number k s ≢ 0 → Stopped k s
stopped (intern x) s g u = absurd (apart g)
stopped (reads k) s g u = absurd (apart g)
stopped (add conversion x) s g u = absurd (apart g)
stopped (add_list conversion adds ids) s g u = absurd (apart g)
stopped (remove id) s g u = absurd (apart g)
stopped (add_group o work n) s g u = absurd (apart g)
stopped (merge o work ids) s g u = merge-stopped o work ids s (merge-leaves o work ids s u)
stopped (merge_file file cells work ids) s g u = file-stopped file cells work ids s u
stopped (load o marks) s g u = load-stopped o marks s (load-leaves o marks s u)
stopped (collect marks entry work) s g u = absurd (apart g)
stopped (plain_collect marks entry work) s g u = absurd (apart g)

-- ---- by number

-- some number, so no result
pub some : (n : ℕ) (xs : List ℕ) → one_of 0 xs ≡ false → one_of n xs ≡ true → n ≢ 0
some n xs z k e = false≢true (sym z ∙ sym (ap (λ (m : ℕ). one_of m xs) e) ∙ k)

-- "all"
pub leaves_all : (k : Call) (s : Linked) → one_of (call_number k s) unstarred ≡ true → call_next k s ≡ earlier k s
leaves_all k s h =
    by-test (by_elements k) (λ g. go (stopped k s g u)) (λ g. LeavesLaws.refused-leaves k s g u)
  where
    u : call_number k s ≢ 0
    u = some (call_number k s) unstarred refl h

    go : Stopped k s → call_next k s ≡ earlier k s
    go (at_head r n e f) = e ∙ sym f
    go (at-element n e) = absurd (ByNumberLaws.apart (call_number k s) unstarred (2 ∷ starred) refl h n)

-- "Those marked * break the link when met inside an object or shared object"
pub starred-breaks : (k : Call) (s : Linked) → by_elements k ≡ true → one_of (call_number k s) starred ≡ true → (call_next k s).table.link.broken ≡ true
starred-breaks k s g h = go (stopped k s g (some (call_number k s) starred refl h))
  where
    go : Stopped k s → (call_next k s).table.link.broken ≡ true
    go (at_head r n e f) = absurd (ByNumberLaws.apart (call_number k s) starred (2 ∷ unstarred) refl h n)
    go (at-element n e) = e

-- 2 breaks it too, but where the head gives it: the cells for the call's own work are too few
pub two-breaks : (k : Call) (s : Linked) → by_elements k ≡ true → call_number k s ≡ 2 → (head_refusal k s).number ≢ 2 → (call_next k s).table.link.broken ≡ true
two-breaks k s g t u = go (stopped k s g (λ z. let q : ◌≡◌ {A = ℕ} 0 2 = sym z ∙ t in omega arith))
  where
    go : Stopped k s → (call_next k s).table.link.broken ≡ true
    go (at_head r n e f) = absurd (u (sym (ap (λ (x : Refusal). x.number) r) ∙ t))
    go (at-element n e) = e

-- ---- nothing else breaks it

intern-same : (s : Store) (x : List ℕ) → (intern_of s x).store.link.broken ≡ s.link.broken
unfolding intern_of issue_of
intern-same s x =
    pick P (eqb (change_of s.link (Names.lent s)).number 0) _ _
    (λ a.
    pick P (fits_of s (record { 0 = find_of s.bytes s.names s.link x }) (length x)) _ _ (λ b. keep-broken s _ x) (λ b. refl))
    (λ a. refl)
  where
    P : Names.Left → Type 0
    P o = o.store.link.broken ≡ s.link.broken

remove-same : (l : Link) (x : Rows) (id : SymbolId) → (remove_of l x id).link ≡ l
unfolding remove_of
remove-same l x id =
    pick P (eqb (change_of l (lent_of l.chains (length x.symbols) (section_slots (length x.sections)))).number 0) _ _
    (λ a. pick P (leb l.symbols id.0) _ _ (λ b. refl) (λ b. refl)) (λ a. refl)
  where
    P : RemoveLeft → Type 0
    P o = o.link ≡ l

collect-same : (l : Link) (x : Collection.Lists) (symbols sections : List ℕ) (entry : Option SymbolId) (work : List ℕ)
    → (run_of l x symbols sections entry work).link ≡ l
unfolding run_of collect_of finished sweep_of purge_of
collect-same l x symbols sections entry work =
    pick P (eqb (judged l x symbols sections work).number 0) _ _ (λ a. go w.visitor.unbuilt) (λ a. refl)
  where
    w : Reach.Walk
    w = Reach.walked l x.bytes x.names symbols sections x.lists x.marks entry work

    P : Collection.Left → Type 0
    P o = o.link ≡ l

    go : (u : Option SectionId) → P (finish_of l symbols sections w.work u)
    go None = refl
    go (Some id) = refl

direct-same : (k : Call) (s : Linked) → by_elements k ≡ false → (call_next k s).table.link.broken ≡ s.table.link.broken
direct-same (intern x) s g = intern-same (store s.table) x
direct-same (reads k) s g = refl
direct-same (add conversion u) s g = add-broken-same (table s.table) conversion u
direct-same (add_list conversion adds ids) s g = list-broken-same conversion adds ids s
direct-same (remove id) s g = ap (λ (l : Link). l.broken) (remove-same s.table.link _ id)
direct-same (add_group o work n) s g = group-count o s.table work n (λ (l : Link). l.broken) keep-broken
direct-same (merge o work ids) s g = absurd (apart (sym g))
direct-same (merge_file file cells work ids) s g = absurd (apart (sym g))
direct-same (load o marks) s g = absurd (apart (sym g))
direct-same (collect marks entry work) s g =
    ap (λ (l : Link). l.broken) (collect-same s.table.link (lists_in s marks) s.table.symbols s.table.sections entry work)
direct-same (plain_collect marks entry work) s g = ap (λ (l : Link). l.broken) (plain-link marks entry work s)

-- an accepted merge or load leaves a whole link whole
merge-whole : (o : Stages.Object) (work ids : List ℕ) (s : Linked) → Merges o work ids s → s.table.link.broken ≡ false → call_number (merge o work ids) s ≡ 0
    → (call_next (merge o work ids) s).table.link.broken ≡ false
merge-whole o work ids s (ElementsLaws.head n h) w z = absurd (n (sym (ap (λ (x : Merge.Left). x.said.number) h.all) ∙ z))
merge-whole o work ids s (ElementsLaws.accepted m) w z = ap (λ (x : Merge.Left). x.cells.stage.link.broken) m.all ∙ m.whole
merge-whole o work ids s (ElementsLaws.element n q) w z = absurd (n (sym (ap (λ (x : Merge.Left). x.said.number) q) ∙ z))

load-whole : (o : Shared.Input) (marks : List ℕ) (s : Linked) → Ways o marks s → s.table.link.broken ≡ false → call_number (load o marks) s ≡ 0
    → (call_next (load o marks) s).table.link.broken ≡ false
load-whole o marks s (ElementsLaws.refuses n q) w z = absurd (n (sym (ap (λ (x : Shared.Left). number_in x.said) q) ∙ z))
load-whole o marks s (ElementsLaws.unneeded q) w z = ap (λ (x : Shared.Left). x.cells.link.broken) q ∙ w
load-whole o marks s (ElementsLaws.loads m) w z = ap (λ (x : Shared.Left). x.cells.link.broken) m.all ∙ m.whole
load-whole o marks s (ElementsLaws.stops n q) w z = absurd (n (sym (ap (λ (x : Shared.Left). number_in x.said) q) ∙ z))

accepted-whole : (k : Call) (s : Linked) → s.table.link.broken ≡ false → call_number k s ≡ 0 → (call_next k s).table.link.broken ≡ false
accepted-whole (intern x) s w z = direct-same (intern x) s refl ∙ w
accepted-whole (reads k) s w z = w
accepted-whole (add conversion u) s w z = direct-same (add conversion u) s refl ∙ w
accepted-whole (add_list conversion adds ids) s w z = direct-same (add_list conversion adds ids) s refl ∙ w
accepted-whole (remove id) s w z = direct-same (remove id) s refl ∙ w
accepted-whole (add_group o work n) s w z = direct-same (add_group o work n) s refl ∙ w
accepted-whole (merge o work ids) s w z = merge-whole o work ids s (merges o work ids s) w z
accepted-whole (merge_file file cells work ids) s w z =
    by-test (is_read file cells s)
    (λ t.
    ap broke (next-read file cells work ids s t)
    ∙ merge-whole (ElfFile.rows_of file) work ids s (merges (ElfFile.rows_of file) work ids s) w (ap (λ (r : Refusal). r.number) (sym (refusal-read file cells work ids s t)) ∙ z))
    (λ t. ap broke (next-unread file cells work ids s t) ∙ w)
accepted-whole (load o marks) s w z = load-whole o marks s (ways o marks s) w z
accepted-whole (collect marks entry work) s w z = direct-same (collect marks entry work) s refl ∙ w
accepted-whole (plain_collect marks entry work) s w z = direct-same (plain_collect marks entry work) s refl ∙ w

pub breaks-only : (k : Call) (s : Linked) → s.table.link.broken ≡ false → (call_next k s).table.link.broken ≡ true
    → (by_elements k ≡ true) × (one_of (call_number k s) (2 ∷ starred) ≡ true)
breaks-only k s w b =
    by-test (by_elements k)
    (λ g.
    by-test (eqb (call_number k s) 0) (λ z. absurd (false≢true (sym (accepted-whole k s w (eqb-true _ _ z)) ∙ b)))
    (λ z. (g, go (stopped k s g (eqb-false _ _ z)))))
    (λ g. absurd (false≢true (sym w ∙ sym (direct-same k s g) ∙ b)))
  where
    go : Stopped k s → one_of (call_number k s) (2 ∷ starred) ≡ true
    go (at_head r n e f) = absurd (false≢true (sym w ∙ sym (ap broke e) ∙ b))
    go (at-element n e) = n

-- ---- nothing mends it

broken-leaves : (k : Call) (s : Linked) → s.table.link.broken ≡ true → call_next k s ≡ s
broken-leaves k s b =
    by-test (changes k)
    (λ c. leaves_all k s (ap (λ (r : Refusal). one_of r.number unstarred) (broken-refused s b k c)) ∙ none-earlier k) (λ c. idle k s c)
  where
    none-earlier : (k : Call) → earlier k s ≡ s
    none-earlier (intern x) = refl
    none-earlier (reads k) = refl
    none-earlier (add conversion u) = refl
    none-earlier (add_list conversion adds ids) = rw b
    none-earlier (remove id) = refl
    none-earlier (add_group o work n) = refl
    none-earlier (merge o work ids) = refl
    none-earlier (merge_file file cells work ids) = refl
    none-earlier (load o marks) = refl
    none-earlier (collect marks entry work) = refl
    none-earlier (plain_collect marks entry work) = refl

    idle : (k : Call) (s : Linked) → changes k ≡ false → call_next k s ≡ s
    idle (intern x) s c = absurd (apart (sym c))
    idle (reads k) s c = refl
    idle (add conversion u) s c = absurd (apart (sym c))
    idle (add_list conversion adds ids) s c = absurd (apart (sym c))
    idle (remove id) s c = absurd (apart (sym c))
    idle (add_group o work n) s c = absurd (apart (sym c))
    idle (merge o work ids) s c = absurd (apart (sym c))
    idle (merge_file file cells work ids) s c = absurd (apart (sym c))
    idle (load o marks) s c = absurd (apart (sym c))
    idle (collect marks entry work) s c = absurd (apart (sym c))
    idle (plain_collect marks entry work) s c = absurd (apart (sym c))

pub broken-stays : (ks : List Call) (s : Linked) → s.table.link.broken ≡ true → run_calls ks s ≡ s
broken-stays [] s b = refl
broken-stays (k ∷ ks) s b = ap (run_calls ks) (broken-leaves k s b) ∙ broken-stays ks s b
