-- 22 stands for a broken link alone; it, 20, 23, 25, 26 and 30 come at place 0.
-- Assumes nothing.
use Rattle.link.specs.declared.SectionId.{SectionId}
use Rattle.std.specs.Prelude.{ℕ, ◌/◌, ◌≡◌, Bool, true, false, List, [], ◌∷◌, ◌++◌, ◌≢◌, eqb, ltb, leb, length, Option, None, Some}
use Rattle.std.proofs.Math.Path.{refl}
use Rattle.std.proofs.Common.{sym, ap, ◌∙◌, eqb-true}
use Rattle.std.proofs.lemmas.Bool.{false≢true}
use Rattle.cells.specs.Proof.Split.{by-test}
use Rattle.byte_slices.specs.Proof.Ways.{pick}
use Rattle.link.specs.declared.Link.{Link}
use Rattle.link.specs.declared.Lent.{Lent}
use Rattle.link.specs.declared.SymbolId.{SymbolId}
use Rattle.link.specs.declared.cause.Refusal.{Refusal}
use Rattle.link.specs.Bounds.{section_slots}
use Rattle.link.specs.Judge.{change_of}
use Rattle.link.specs.Proof.Passed.{judge-gives}
use Rattle.link.specs.Said.{number_in, place_in}
use Rattle.interner.specs.Names.{Store, find_of, fits_of}
use Rattle.interner.specs.Calls as Names
use Rattle.interner.specs.Calls.{intern_of, issue_of}
use Rattle.symbol.specs.declared.Row.{Row}
use Rattle.upcoming_symbol.specs.declared.UpcomingSymbol.{UpcomingSymbol}
use Rattle.upcoming_symbol.specs.Judge.{in_range}
use Rattle.upcoming_symbol.specs.Upcoming.{name_of, row_of}
use Rattle.symbol_resolution.specs.Decision.{Decision}
use Rattle.symbol_resolution.specs.Decide.{refusal_of}
use Rattle.symbol_resolution.specs.Apply.{Table}
use Rattle.symbols.specs.Calls as Symbols
use Rattle.symbols.specs.Calls.{lent_of}
use Rattle.symbols.specs.Add as Add
use Rattle.symbols.specs.Add.{empty_at, file_of, direct_holder_of, decided_of, committed_of, add_row_of, judge_add_of, add_of}
use Rattle.symbols.specs.Remove.{Rows, RemoveLeft, remove_of}
use Rattle.elf_object.specs.Rows.{rows_in, is_loaded}
use Rattle.elf_object.specs.Judge as Elf
use Rattle.section_groups.specs.Group as Group
use Rattle.section_groups.specs.AddGroup as AddGroup
use Rattle.section_groups.specs.AddGroup.{add_group_of}
use Rattle.merge_stages.specs.Stages as Stages
use Rattle.merge_elf.specs.Merge as Merge
use Rattle.merge_elf.specs.Merge.{work_refusal, rows_refusal, check_of, head_in}
use Rattle.shared_objects.specs.Head as Head
use Rattle.shared_objects.specs.Load as Shared
use Rattle.load_laws.proofs.Unneeded as Unneeded
use Rattle.gc_sections.specs.Reach as Reach
use Rattle.gc_sections.specs.Run as Collection
use Rattle.gc_sections.specs.Run.{judge_cells, judged, purge_of, sweep_of, finish_of, finished, collect_of, run_of}
use Rattle.symbol_laws.specs.History.{State, store, table}
use Rattle.merge_laws.proofs.ByNumber as ByNumber
use Rattle.merge_laws.proofs.ByNumber.{disjoint, changed, elf-gives}
use Rattle.merge_laws.specs.Calls.{Linked, all_in}
use Rattle.link_laws.specs.Read as Read
use Rattle.link_laws.specs.Calls.{Call, intern, resolve, add, remove, get, get_global, add_group, merge, merge_file, load, archive_start, archive_next, archive_shadowed, matches, would_define, collect, plain_collect, library_in, lists_in, group_in, call_refusal, call_number, file_head, is_read, reads, add_list}
use Rattle.link_laws.proofs.PlainCalls.{Compared, alike, many, compared, many-refusal}
use Rattle.merge_file.specs.MergeFile.{file_head_of}
use Rattle.elf_laws.specs.Object as ElfFile
use Rattle.link_laws.proofs.FileCall.{refusal-read, refusal-unread, whole-gives}
use Rattle.link_laws.proofs.FileCall as Files
use Rattle.link_laws.specs.Table.{call_numbers}
use Rattle.link_laws.proofs.Among.{one-within}
use Rattle.link_laws.proofs.AddNumbers as AddNumbers
use Rattle.link_laws.proofs.Numbers.{numbers}
use Rattle.link_laws.proofs.LoadNumbers.{lent_in, rows-give, head-gives}
use Rattle.link_laws.specs.Leaves.{by_elements}
use Rattle.link_laws.specs.Broken.{changes}
use Rattle.link_laws.proofs.Broken.{broken-refused}
use Rattle.link_laws.proofs.Places.{add-place}
use Rattle.link_laws.proofs.CallPlaces.{differ, intern-place, resolve-place, global-at, group-of-head}
use Rattle.link_laws.specs.Starred.{head_refusal}
use Rattle.link_laws.proofs.Starred.{Stopped, at_head, at-element, stopped, some}
use Rattle.merge_laws.specs.Table.{one_of, within, group_numbers, binding_causes, value_causes, type_causes, starred, placeless}
use Rattle.link_laws.proofs.ListCall.{list-gives, add-broken-same}

-- ---- 22 only on a broken link

change-only : (l : Link) (n : Lent) → (change_of l n).number ≡ 22 → l.broken ≡ true
unfolding change_of
change-only l n =
    pick P l.broken _ _ (λ t e. t) (λ t. judge-gives P (λ k e. differ 1 22 refl e) (λ e. differ 0 22 refl e) l n)
  where
    P : Refusal → Type 0
    P r = r.number ≡ 22 → l.broken ≡ true

intern-only : (s : Store) (x : List ℕ) → number_in (intern_of s x).said ≡ 22 → s.link.broken ≡ true
unfolding intern_of issue_of
intern-only s x =
    pick P (eqb (change_of s.link (Names.lent s)).number 0) _ _
    (λ a.
    pick P (fits_of s (record { 0 = find_of s.bytes s.names s.link x }) (length x)) _ _ (λ b e. differ 0 22 refl e) (λ b e. differ 2 22 refl e))
    (λ a. change-only s.link (Names.lent s))
  where
    P : Names.Left → Type 0
    P o = number_in o.said ≡ 22 → s.link.broken ≡ true

judge-only : (l : Link) (n : Lent) (u : UpcomingSymbol) → (judge_add_of l n u).number ≡ 22 → l.broken ≡ true
unfolding judge_add_of
judge-only l n u =
    pick P (eqb (change_of l n).number 0) _ _ (λ a. pick P (in_range u) _ _ (λ b. change-only l n) (λ b e. differ 1 22 refl e)) (λ a. change-only l n)
  where
    P : Refusal → Type 0
    P r = r.number ≡ 22 → l.broken ≡ true

-- the row's own numbers
row-only : (t : Table) (conversion : List ℕ) (u : UpcomingSymbol) → number_in (add_row_of t (row_of t.link.gabi conversion u (empty_at t.names (name_of u))) (file_of u)).said ≢ 22
unfolding add_row_of committed_of decided_of
row-only t conversion u =
    pick P (eqb (refusal_of d) 21) _ _ (λ a e. differ 21 22 refl e) (λ a. pick P (eqb (refusal_of d) 0) _ _ (λ b e. differ 0 22 refl e) (λ b. other))
  where
    r : Row
    r = row_of t.link.gabi conversion u (empty_at t.names (name_of u))

    d : Decision
    d = decided_of t r (file_of u)

    P : Symbols.Left → Type 0
    P x = number_in x.said ≢ 22

    In : ℕ → Type 0
    In k = k ≢ 22

    other : refusal_of d ≢ 22
    other =
        AddNumbers.decide-numbers In (differ 0 22 refl) (differ 2 22 refl) (differ 17 22 refl) (differ 21 22 refl) t.link t.symbols t.sections r
        (AddNumbers.upcoming-fields In (differ 0 22 refl) (differ 2 22 refl) (differ 17 22 refl) (differ 21 22 refl) (differ 10 22 refl) (differ 11 22 refl)
        (differ 12 22 refl) (differ 13 22 refl) (differ 28 22 refl) (differ 14 22 refl) (differ 15 22 refl) (differ 16 22 refl) t.link.gabi conversion u (empty_at t.names (name_of u)))
        (direct_holder_of t.link t.names t.symbols r.name (file_of u))

add-only : (t : Table) (conversion : List ℕ) (u : UpcomingSymbol) → number_in (add_of t conversion u).said ≡ 22 → t.link.broken ≡ true
unfolding add_of
add-only t conversion u =
    pick (λ (x : Symbols.Left). number_in x.said ≡ 22 → t.link.broken ≡ true) (eqb (judge_add_of t.link (Add.lent t) u).number 0) _ _
    (λ a e. absurd (row-only t conversion u e)) (λ a. judge-only t.link (Add.lent t) u)

remove-only : (l : Link) (x : Rows) (id : SymbolId) → number_in (remove_of l x id).said ≡ 22 → l.broken ≡ true
unfolding remove_of
remove-only l x id =
    pick P (eqb (change_of l (lent_of l.chains (length x.symbols) (section_slots (length x.sections)))).number 0) _ _
    (λ a. pick P (leb l.symbols id.0) _ _ (λ b e. differ 21 22 refl e) (λ b e. differ 0 22 refl e)) (λ a. change-only l _)
  where
    P : RemoveLeft → Type 0
    P o = number_in o.said ≡ 22 → l.broken ≡ true

module _ (o : Group.Object) (s : Group.State) (n : ℕ) where
  abbrev Only : Refusal → Type 0
  Only r = r.number ≡ 22 → s.link.broken ≡ true

  group-head-only : Only (AddGroup.head_in o s n)
  unfolding AddGroup.check_of AddGroup.rows_refusal AddGroup.marks_refusal
  group-head-only =
      pick Only (eqb (change_of s.link (AddGroup.lent s)).number 0) _ _
      (λ a.
      pick Only (eqb (Elf.judge_of o.headers o.entries (length o.contents) (length o.image)).number 0) _ _
      (λ b.
      pick Only (is_loaded o.headers n 7) _ _
      (λ c. pick Only (ltb (length s.work / 8) (rows_in o.headers)) _ _ (λ d e. differ 2 22 refl e) (λ d e. differ 0 22 refl e))
      (λ c e. differ 1 22 refl e))
      (λ b.
      elf-gives Only (λ k e. differ 1 22 refl e) (λ e. differ 0 22 refl e) o.headers o.entries (length o.contents) (length o.image)))
      (λ a. change-only s.link (AddGroup.lent s))

merge-head-only : (o : Stages.Object) (a : Stages.All) → (head_in o a).number ≡ 22 → a.stage.link.broken ≡ true
unfolding check_of rows_refusal work_refusal
merge-head-only o a =
    pick P (eqb (change_of a.stage.link (Merge.lent a)).number 0) _ _
    (λ b.
    pick P (eqb (Elf.judge_of o.headers o.entries (length o.contents) (length o.image)).number 0) _ _
    (λ c.
    pick P (ltb (length a.work / 8) (rows_in o.headers)) _ _ (λ d e. differ 2 22 refl e)
    (λ d. pick P (ltb (length a.ids) (rows_in o.entries)) _ _ (λ f e. differ 2 22 refl e) (λ f e. differ 0 22 refl e)))
    (λ c. elf-gives P (λ k e. differ 1 22 refl e) (λ e. differ 0 22 refl e) o.headers o.entries (length o.contents) (length o.image)))
    (λ b. change-only a.stage.link (Merge.lent a))
  where
    P : Refusal → Type 0
    P r = r.number ≡ 22 → a.stage.link.broken ≡ true

collect-only : (l : Link) (x : Collection.Lists) (symbols sections : List ℕ) (entry : Option SymbolId) (work : List ℕ)
    → (run_of l x symbols sections entry work).said.number ≡ 22 → l.broken ≡ true
unfolding run_of collect_of finished sweep_of purge_of Collection.judge_of judge_cells
collect-only l x symbols sections entry work =
    pick P (eqb (judged l x symbols sections work).number 0) _ _ (λ a. end w.visitor.unbuilt)
    (λ a.
    pick Q (eqb (change_of l lent).number 0) _ _
    (λ b.
    pick Q (ltb (length x.marks) l.symbols) _ _ (λ c e. differ 1 22 refl e)
    (λ c. pick Q (ltb (length work / 2) l.sections) _ _ (λ d e. differ 2 22 refl e) (λ d e. differ 0 22 refl e)))
    (λ b. change-only l lent))
  where
    w : Reach.Walk
    w = Reach.walked l x.bytes x.names symbols sections x.lists x.marks entry work

    lent : Lent
    lent = Collection.lent_of (length x.bytes) (length x.names) (length symbols) (length sections) (length x.lists)

    P : Collection.Left → Type 0
    P o = o.said.number ≡ 22 → l.broken ≡ true

    Q : Refusal → Type 0
    Q r = r.number ≡ 22 → l.broken ≡ true

    end : (u : Option SectionId) → P (finish_of l symbols sections w.work u)
    end None e = differ 0 22 refl e
    end (Some id) e = differ 21 22 refl e

load-head-only : (o : Shared.Input) (a : Shared.All) → (Shared.head_in o a).number ≡ 22 → a.link.broken ≡ true
unfolding Head.check_of Head.after_rows Head.name_refusal
load-head-only o a =
    pick P (eqb (change_of a.link (lent_in a)).number 0) _ _
    (λ t.
    pick P (eqb (Head.rows_of o.entries o.image o.needs o.sonamed o.soname).number 0) _ _
    (λ b.
    pick P (Head.unnamed_of o.archived o.sonamed) _ _ (λ c e. differ 25 22 refl e)
    (λ c. pick P (Head.marks_short o.asneeded (length a.marks) a.link.names) _ _ (λ d e. differ 2 22 refl e) (λ d e. differ 0 22 refl e)))
    (λ b. rows-give P (λ k e. differ 1 22 refl e) (λ e. differ 0 22 refl e) o.entries o.image o.needs o.sonamed o.soname))
    (λ t. change-only a.link (lent_in a))
  where
    P : Refusal → Type 0
    P r = r.number ≡ 22 → a.link.broken ≡ true

module _ (o : Group.Object) (t : State) (work : List ℕ) (n : ℕ) where
  abbrev at : Group.State
  at = group_in t work

  group-only : (add_group_of o at n).said.number ≡ 22 → t.link.broken ≡ true
  group-only e = group-head-only o at n (sym (ap (λ (r : Refusal). r.number) (group-of-head o t work n 22 refl e)) ∙ e)

file-head-only : (file cells : List ℕ) (s : Linked) → (file_head file cells s).number ≡ 22 → s.table.link.broken ≡ true
file-head-only file cells s e =
    by-test s.table.link.broken (λ b. b)
    (λ b.
    whole-gives (λ (r : Refusal). r.number ≡ 22 → s.table.link.broken ≡ true) (λ q. differ 26 22 refl q) (λ i q. differ 27 22 refl q) (λ q. differ 2 22 refl q)
    (λ q. differ 0 22 refl q) file (length cells) (ap (λ (x : Bool). (file_head_of x file (length cells)).number) (sym b) ∙ e))

stopped-only : (k : Call) (s : Linked) → by_elements k ≡ true → ((head_refusal k s).number ≡ 22 → s.table.link.broken ≡ true) → call_number k s ≡ 22 → s.table.link.broken ≡ true
stopped-only k s g h e = split (stopped k s g (λ z. differ 0 22 refl (sym z ∙ e)))
  where
    split : Stopped k s → s.table.link.broken ≡ true
    split (at_head r n q f) = h (sym (ap (λ (x : Refusal). x.number) r) ∙ e)
    split (at-element n q) = absurd (false≢true (ap (λ (m : ℕ). one_of m (2 ∷ starred)) (sym e) ∙ n))

file-only : (file cells work ids : List ℕ) (s : Linked) → call_number (merge_file file cells work ids) s ≡ 22 → s.table.link.broken ≡ true
file-only file cells work ids s e =
    stopped-only (merge_file file cells work ids) s refl
    (pick (λ (r : Refusal). r.number ≡ 22 → s.table.link.broken ≡ true) (is_read file cells s) _ _ (λ t. merge-head-only (ElfFile.rows_of file) (all_in s work ids))
    (λ t. file-head-only file cells s)) e

list-only : (conversion adds ids : List ℕ) (s : Linked) → call_number (add_list conversion adds ids) s ≡ 22 → s.table.link.broken ≡ true
list-only conversion adds ids s =
    list-gives (λ (t : State). t.link.broken ≡ s.table.link.broken) (λ (r : Refusal). r.number ≡ 22 → s.table.link.broken ≡ true) conversion
    (λ t u q. add-broken-same (table t) conversion u ∙ q) adds ids s (λ b e. b) (λ e. differ 2 22 refl e) (λ e. differ 0 22 refl e)
    (λ t u q e. sym q ∙ add-only (table t) conversion u e) refl

-- a number that the call doesn't give
never : {P : Type 0} (k : Call) (s : Linked) (m : ℕ) → one_of m (0 ∷ call_numbers k) ≡ false → call_number k s ≡ m → P
never k s m d e = absurd (false≢true (sym d ∙ ap (λ (n : ℕ). one_of n (0 ∷ call_numbers k)) (sym e) ∙ numbers k s))

pub broken-only : (k : Call) (s : Linked) → call_number k s ≡ 22 → (changes k ≡ true) × (s.table.link.broken ≡ true)
broken-only (intern x) s e = (refl, intern-only (store s.table) x e)
broken-only (reads (Read.resolve id)) s e = never (resolve id) s 22 refl e
broken-only (add conversion u) s e = (refl, add-only (table s.table) conversion u e)
broken-only (add_list conversion adds ids) s e = (refl, list-only conversion adds ids s e)
broken-only (remove id) s e = (refl, remove-only s.table.link _ id e)
broken-only (reads (Read.get id)) s e = never (get id) s 22 refl e
broken-only (reads (Read.get_global name)) s e = never (get_global name) s 22 refl e
broken-only (reads (Read.section_symbol section)) s e = differ 0 22 refl e
broken-only (add_group o work n) s e = (refl, group-only o s.table work n e)
broken-only (merge o work ids) s e = (refl, stopped-only (merge o work ids) s refl (merge-head-only o (all_in s work ids)) e)
broken-only (merge_file file cells work ids) s e = (refl, file-only file cells work ids s e)
broken-only (load o marks) s e = (refl, stopped-only (load o marks) s refl (load-head-only o (library_in s marks)) e)
broken-only (reads (Read.archive_start key archives cells)) s e = never (archive_start key archives cells) s 22 refl e
broken-only (reads (Read.archive_next archives cells w)) s e = never (archive_next archives cells w) s 22 refl e
broken-only (reads (Read.archive_shadowed index rows w cells)) s e = never (archive_shadowed index rows w cells) s 22 refl e
broken-only (reads (Read.matches headers entries contents file index cells w x)) s e = never (matches headers entries contents file index cells w x) s 22 refl e
broken-only (reads (Read.would_define headers entries contents file cells)) s e = never (would_define headers entries contents file cells) s 22 refl e
broken-only (collect marks entry work) s e =
    (refl, collect-only s.table.link (lists_in s marks) s.table.symbols s.table.sections entry work e)
broken-only (plain_collect marks entry work) s e = go (compared marks entry work s)
  where
    go : Compared marks entry work s → (changes (plain_collect marks entry work) ≡ true) × (s.table.link.broken ≡ true)
    go (alike r t a) =
        (refl, collect-only s.table.link (lists_in s marks) s.table.symbols s.table.sections entry work (sym (ap (λ (x : Refusal). x.number) r) ∙ e))
    go (many m u v q) = differ 30 22 refl (sym (ap (λ (x : Refusal). x.number) (many-refusal marks entry work s q)) ∙ e)

-- ---- 20, 22, 23, 25, 26, 30 at 0

twenty-two-at : (k : Call) (s : Linked) → call_number k s ≡ 22 → (call_refusal k s).place ≡ 0
twenty-two-at k s e = let b = broken-only k s e in ap (λ (r : Refusal). r.place) (broken-refused s b.1 k b.0)

-- of a call's numbers only m has no place
sole : (n m : ℕ) (xs : List ℕ) → disjoint xs placeless ≡ true → one_of n (m ∷ xs) ≡ true → one_of n placeless ≡ true → n ≡ m
sole n m xs d h p =
    by-test (eqb n m) (λ a. eqb-true _ _ a) (λ a. absurd (ByNumber.apart n xs placeless d (rw a at h) p))

other : (n m : ℕ) → one_of m placeless ≡ false → one_of n placeless ≡ true → n ≢ m
other n m d p e = false≢true (sym d ∙ ap (λ (k : ℕ). one_of k placeless) (sym e) ∙ p)

none_of : {P : Type 0} (k : Call) (s : Linked) → disjoint (0 ∷ call_numbers k) placeless ≡ true → one_of (call_number k s) placeless ≡ true → P
none_of k s d p = absurd (ByNumber.apart (call_number k s) (0 ∷ call_numbers k) placeless d (numbers k s) p)

only-22 : (k : Call) (s : Linked) (xs : List ℕ) → disjoint xs placeless ≡ true → within (0 ∷ call_numbers k) (22 ∷ xs) ≡ true → one_of (call_number k s) placeless ≡ true
    → (call_refusal k s).place ≡ 0
only-22 k s xs d w p =
    twenty-two-at k s (sole (call_number k s) 22 xs d (one-within (call_number k s) (0 ∷ call_numbers k) (22 ∷ xs) w (numbers k s)) p)

load_at : (o : Shared.Input) (marks : List ℕ) (s : Linked) → one_of (call_number (load o marks) s) placeless ≡ true → (call_refusal (load o marks) s).place ≡ 0
load_at o marks s p = split (stopped (load o marks) s refl (some (call_number (load o marks) s) placeless refl p))
  where
    split : Stopped (load o marks) s → (call_refusal (load o marks) s).place ≡ 0
    split (at_head r n q f) =
        ap (λ (x : Refusal). x.place) r
        ∙ head-gives (λ (x : Refusal). one_of x.number placeless ≡ true → x.place ≡ 0) (λ k e. absurd (false≢true e)) (λ e. refl) (λ e. refl) (λ e. refl)
        (λ e. refl) o (library_in s marks) (sym (ap (λ (x : Refusal). one_of x.number placeless) r) ∙ p)
    split (at-element n q) = absurd (ByNumber.apart (call_number (load o marks) s) (2 ∷ starred) placeless refl n p)

file-at : (file cells work ids : List ℕ) (s : Linked) → one_of (call_number (merge_file file cells work ids) s) placeless ≡ true
    → (call_refusal (merge_file file cells work ids) s).place ≡ 0
file-at file cells work ids s p =
    by-test (is_read file cells s)
    (λ t.
    let r = refusal-read file cells work ids s t in
    ap (λ (x : Refusal). x.place) r
    ∙ only-22 (merge (ElfFile.rows_of file) work ids) s (0 ∷ 1 ∷ 2 ∷ starred) refl refl (ap (λ (x : Refusal). one_of x.number placeless) (sym r) ∙ p))
    (λ t.
    let r = refusal-unread file cells work ids s t in
    ap (λ (x : Refusal). x.place) r
    ∙ Files.head-gives (λ (x : Refusal). one_of x.number placeless ≡ true → x.place ≡ 0) (λ q. refl) (λ q. refl) (λ i q. absurd (false≢true q)) (λ q. refl) (λ q. refl)
    s.table.link.broken file (length cells) (ap (λ (x : Refusal). one_of x.number placeless) (sym r) ∙ p))

pub zero-places : (k : Call) (s : Linked) → one_of (call_number k s) placeless ≡ true → (call_refusal k s).place ≡ 0
zero-places (intern x) s p = intern-place x s (other (call_number (intern x) s) 1 refl p)
zero-places (reads (Read.resolve id)) s p = resolve-place id s (other (call_number (resolve id) s) 1 refl p)
zero-places (add conversion u) s p = add-place conversion u s (other (call_number (add conversion u) s) 21 refl p)
zero-places (add_list conversion adds ids) s p = only-22 (add_list conversion adds ids) s (0 ∷ 2 ∷ 1 ∷ (binding_causes ++ (21 ∷ (value_causes ++ (15 ∷ (type_causes ++ (17 ∷ []))))))) refl refl p
zero-places (remove id) s p = only-22 (remove id) s (0 ∷ 1 ∷ 21 ∷ []) refl refl p
zero-places (reads (Read.get id)) s p = none_of (get id) s refl p
zero-places (reads (Read.get_global name)) s p =
    (global-at s.table.link s.table.names s.table.symbols name).1
    (sole (call_number (get_global name) s) 23 (0 ∷ 1 ∷ 21 ∷ []) refl
    (one-within (call_number (get_global name) s) (0 ∷ call_numbers (get_global name)) (23 ∷ 0 ∷ 1 ∷ 21 ∷ []) refl (numbers (get_global name) s)) p)
zero-places (reads (Read.section_symbol section)) s p = refl
zero-places (add_group o work n) s p = only-22 (add_group o work n) s (0 ∷ 1 ∷ group_numbers) refl refl p
zero-places (merge o work ids) s p = only-22 (merge o work ids) s (0 ∷ 1 ∷ 2 ∷ starred) refl refl p
zero-places (merge_file file cells work ids) s p = file-at file cells work ids s p
zero-places (load o marks) s p = load_at o marks s p
zero-places (reads (Read.archive_start key archives cells)) s p = none_of (archive_start key archives cells) s refl p
zero-places (reads (Read.archive_next archives cells w)) s p = none_of (archive_next archives cells w) s refl p
zero-places (reads (Read.archive_shadowed index rows w cells)) s p = none_of (archive_shadowed index rows w cells) s refl p
zero-places (reads (Read.matches headers entries contents file index cells w e)) s p = none_of (matches headers entries contents file index cells w e) s refl p
zero-places (reads (Read.would_define headers entries contents file cells)) s p = none_of (would_define headers entries contents file cells) s refl p
zero-places (collect marks entry work) s p = only-22 (collect marks entry work) s (0 ∷ 1 ∷ 2 ∷ 21 ∷ []) refl refl p
zero-places (plain_collect marks entry work) s p = go (compared marks entry work s)
  where
    go : Compared marks entry work s → (call_refusal (plain_collect marks entry work) s).place ≡ 0
    go (alike r t a) =
        ap (λ (x : Refusal). x.place) r ∙ only-22 (collect marks entry work) s (0 ∷ 1 ∷ 2 ∷ 21 ∷ []) refl refl (sym (ap (λ (x : Refusal). one_of x.number placeless) r) ∙ p)
    go (many m u v e) = ap (λ (x : Refusal). x.place) (many-refusal marks entry work s e)

-- ---- 2 of a head at 0: no element is met

merge-head-two : (o : Stages.Object) (a : Stages.All) → (head_in o a).number ≡ 2 → (head_in o a).place ≡ 0
unfolding check_of rows_refusal work_refusal
merge-head-two o a =
    pick P (eqb (change_of a.stage.link (Merge.lent a)).number 0) _ _
    (λ b.
    pick P (eqb (Elf.judge_of o.headers o.entries (length o.contents) (length o.image)).number 0) _ _
    (λ c.
    pick P (ltb (length a.work / 8) (rows_in o.headers)) _ _ (λ d e. refl)
    (λ d. pick P (ltb (length a.ids) (rows_in o.entries)) _ _ (λ f e. refl) (λ f e. refl)))
    (λ c. elf-gives P (λ k e. differ 1 2 refl e) (λ e. refl) o.headers o.entries (length o.contents) (length o.image)))
    (λ b. changed P (λ e. refl) (λ k e. differ 1 2 refl e) (λ e. refl) a.stage.link (Merge.lent a))
  where
    P : Refusal → Type 0
    P r = r.number ≡ 2 → r.place ≡ 0

object-two : (o : Stages.Object) (work ids : List ℕ) (s : Linked) → (head_in o (all_in s work ids)).number ≡ 2 → (call_refusal (merge o work ids) s).place ≡ 0
object-two o work ids s e =
    let a : Stages.All = all_in s work ids in
    ap (λ (x : Merge.Left). x.said.place) (ByNumber.head-leaves o a (λ z. differ 0 2 refl (sym z ∙ e))).all ∙ merge-head-two o a e

file-two : (file cells work ids : List ℕ) (s : Linked) → (head_refusal (merge_file file cells work ids) s).number ≡ 2
    → (call_refusal (merge_file file cells work ids) s).place ≡ 0
file-two file cells work ids s e =
    by-test (is_read file cells s)
    (λ t. ap (λ (x : Refusal). x.place) (refusal-read file cells work ids s t) ∙ object-two (ElfFile.rows_of file) work ids s (rw t at e))
    (λ t.
    ap (λ (x : Refusal). x.place) (refusal-unread file cells work ids s t)
    ∙ Files.head-gives (λ (x : Refusal). x.number ≡ 2 → x.place ≡ 0) (λ q. refl) (λ q. refl) (λ i q. differ 27 2 refl q) (λ q. refl) (λ q. refl) s.table.link.broken file
    (length cells) (rw t at e))

pub head-two-place : (k : Call) (s : Linked) → (head_refusal k s).number ≡ 2 → (call_refusal k s).place ≡ 0
head-two-place (intern x) s e = differ 0 2 refl e
head-two-place (reads k) s e = differ 0 2 refl e
head-two-place (add conversion u) s e = differ 0 2 refl e
head-two-place (add_list conversion adds ids) s e = differ 0 2 refl e
head-two-place (remove id) s e = differ 0 2 refl e
head-two-place (add_group o work n) s e = differ 0 2 refl e
head-two-place (merge o work ids) s e = object-two o work ids s e
head-two-place (merge_file file cells work ids) s e = file-two file cells work ids s e
head-two-place (load o marks) s e =
    ap (λ (x : Shared.Left). place_in x.said) (Unneeded.head-leaves o (library_in s marks) (λ z. differ 0 2 refl (sym z ∙ e)))
    ∙ head-gives (λ (r : Refusal). r.number ≡ 2 → r.place ≡ 0) (λ k q. differ 1 2 refl q) (λ q. refl) (λ q. refl) (λ q. refl) (λ q. refl) o (library_in s marks) e
head-two-place (collect marks entry work) s e = differ 0 2 refl e
head-two-place (plain_collect marks entry work) s e = differ 0 2 refl e
