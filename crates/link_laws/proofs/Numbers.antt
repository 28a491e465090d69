-- Every call answers a result or one of the refusals that document 01 gives it.
-- Assumes nothing.
use Rattle.symbol.specs.declared.Symbol.{Symbol}
use Rattle.link.specs.declared.SectionId.{SectionId}
use Rattle.std.specs.Prelude.{ℕ, ◌/◌, ◌≡◌, refl, Bool, true, cond, List, [], ◌∷◌, ◌≢◌, eqb, ltb, leb, length, Option, Result, None, Some}
use Rattle.std.proofs.Common.{sym, ap, subst, ◌∙◌, ne_eqb}
use Rattle.cells.specs.Proof.Split.{by-test}
use Rattle.byte_slices.specs.Proof.Ways.{pick}
use Rattle.link.specs.declared.Link.{Link}
use Rattle.link.specs.declared.Lent.{Lent}
use Rattle.link.specs.declared.cause.Refusal.{Refusal}
use Rattle.link.specs.declared.Interned.{Interned}
use Rattle.link.specs.declared.SymbolId.{SymbolId}
use Rattle.link.specs.Bounds.{symbol_rows, section_slots, name_rows}
use Rattle.link.specs.Judge.{refused, change_of}
use Rattle.link.specs.Judge as Link
use Rattle.link.specs.Said.{number_in}
use Rattle.link.specs.Proof.Passed.{judge-gives}
use Rattle.interner.specs.Names.{Store, find_of, fits_of}
use Rattle.interner.specs.Calls as Names
use Rattle.interner.specs.Calls.{intern_of, issue_of, resolve_of}
use Rattle.symbol.specs.Row.{state_at}
use Rattle.symbol.specs.declared.Row.{Row}
use Rattle.upcoming_symbol.specs.declared.UpcomingSymbol.{UpcomingSymbol}
use Rattle.upcoming_symbol.specs.Judge.{in_range}
use Rattle.upcoming_symbol.specs.Upcoming.{name_of, row_of}
use Rattle.symbol_resolution.specs.declared.rows.Holder.{Holder}
use Rattle.symbol_resolution.specs.declared.rows.Holder.TheVariants.{Unissued, Nobody, Removed, Known}
use Rattle.symbol_resolution.specs.Decision.{Decision}
use Rattle.symbol_resolution.specs.Holder.{holder_of}
use Rattle.symbol_resolution.specs.Decide.{refusal_of}
use Rattle.symbol_resolution.specs.Apply.{Table}
use Rattle.symbols.specs.Calls as Symbols
use Rattle.symbols.specs.Calls.{lent_of}
use Rattle.symbols.specs.Add.{empty_at, file_of, direct_holder_of, decided_of, committed_of, add_row_of, judge_add_of, add_of}
use Rattle.symbols.specs.Add as Add
use Rattle.symbols.specs.New.{NewLeft, null_of, new_of}
use Rattle.symbols.specs.Remove.{Rows, RemoveLeft, remove_of}
use Rattle.symbols.specs.Lookup as Lookup
use Rattle.symbols.specs.Lookup.{found_at, get_of, held_of, get_global_of}
use Rattle.gc_sections.specs.Reach as Reach
use Rattle.gc_sections.specs.Run as Collection
use Rattle.gc_sections.specs.Run.{judge_cells, judged, purge_of, sweep_of, finish_of, finished, collect_of, run_of}
use Rattle.symbol_laws.specs.History.{store, table, State}
use Rattle.symbol_laws.specs.History as History
use Rattle.merge_laws.specs.Calls.{Linked, all_in}
use Rattle.link_laws.specs.Read as Read
use Rattle.link_laws.specs.Calls.{Call, intern, add, remove, add_group, merge, merge_file, load, collect, plain_collect, view_in, library_in, lists_in, call_number, file_head, is_read, reads, resolve, get, get_global, add_list}
use Rattle.link_laws.proofs.PlainCalls.{Compared, alike, many, compared, many-refusal}
use Rattle.elf_laws.specs.Object as ElfFile
use Rattle.link_laws.proofs.FileCall.{refusal-read, refusal-unread, head-numbers}
use Rattle.link_laws.specs.Table.{call_numbers, add_numbers}
use Rattle.link_laws.proofs.AddNumbers as AddNumbers
use Rattle.merge_laws.proofs.ByNumber.{changed}
use Rattle.link_laws.proofs.Among.{one-within, Among}
use Rattle.link_laws.proofs.GroupNumbers.{group-numbers}
use Rattle.link_laws.proofs.MergeNumbers.{merge-numbers}
use Rattle.link_laws.proofs.LoadNumbers.{load-numbers}
use Rattle.link_laws.proofs.ArchiveNumbers.{start-numbers, next-numbers, shadowed-numbers, matches-numbers, would-numbers}
use Rattle.merge_laws.specs.Table.{one_of, within, file_head_numbers, refusals}
use Rattle.link_laws.proofs.ListCall.{list-gives}

-- ---- names

intern-numbers : (s : Store) (x : List ℕ) → Among (call_numbers (intern x)) (number_in (intern_of s x).said)
unfolding intern_of issue_of
intern-numbers s x =
    pick (λ (o : Names.Left). P (number_in o.said)) (eqb (change_of s.link (Names.lent s)).number 0) _ _
    (λ a.
    pick (λ (o : Names.Left). P (number_in o.said)) (fits_of s (record { 0 = find_of s.bytes s.names s.link x }) (length x)) _ _
    (λ b. refl) (λ b. refl))
    (λ a. changed (λ (r : Refusal). P r.number) refl (λ k. refl) refl s.link (Names.lent s))
  where
    P : ℕ → Type 0
    P = Among (call_numbers (intern x))

resolve-numbers : (s : Store) (id : Interned) → Among (call_numbers (resolve id)) (resolve_of s id).refusal.number
unfolding resolve_of
resolve-numbers s id =
    pick (λ (o : Names.Resolved). P o.refusal.number) (eqb (Link.judge_of s.link (Names.lent s)).number 0) _ _
    (λ a. pick (λ (o : Names.Resolved). P o.refusal.number) (ltb id.0 s.link.names) _ _ (λ b. refl) (λ b. refl))
    (λ a. judge-gives (λ (r : Refusal). P r.number) (λ k. refl) refl s.link (Names.lent s))
  where
    P : ℕ → Type 0
    P = Among (call_numbers (resolve id))

-- ---- adds

judge-add-numbers : (l : Link) (n : Lent) (u : UpcomingSymbol) → Among add_numbers (judge_add_of l n u).number
unfolding judge_add_of
judge-add-numbers l n u =
    pick P (eqb (change_of l n).number 0) _ _ (λ a. pick P (in_range u) _ _ (λ b. changed P refl (λ k. refl) refl l n) (λ b. refl))
    (λ a. changed (λ (r : Refusal). P (refused r.number 0)) refl (λ k. refl) refl l n)
  where
    P : Refusal → Type 0
    P r = Among add_numbers r.number

commit-numbers : (t : Table) (r : Row) (file : Option Interned) (d : Decision) → Among add_numbers (refusal_of d) → Among add_numbers (number_in (committed_of t r file d).said)
unfolding committed_of
commit-numbers t r file d e =
    pick P (eqb (refusal_of d) 21) _ _ (λ a. refl) (λ a. pick P (eqb (refusal_of d) 0) _ _ (λ b. refl) (λ b. e))
  where
    P : Symbols.Left → Type 0
    P o = Among add_numbers (number_in o.said)

add-numbers : (t : Table) (conversion : List ℕ) (u : UpcomingSymbol) → Among add_numbers (number_in (add_of t conversion u).said)
unfolding add_of add_row_of decided_of
add-numbers t conversion u =
    let r : Row = row_of t.link.gabi conversion u (empty_at t.names (name_of u)) in
    let h : Holder = direct_holder_of t.link t.names t.symbols r.name (file_of u) in
    pick (λ (o : Symbols.Left). Among add_numbers (number_in o.said)) (eqb (judge_add_of t.link (Add.lent t) u).number 0) _ _
    (λ a.
    commit-numbers t r (file_of u) (decided_of t r (file_of u))
    (AddNumbers.decide-numbers (Among add_numbers) refl refl refl refl t.link t.symbols t.sections r
    (AddNumbers.upcoming-fields (Among add_numbers) refl refl refl refl refl refl refl refl refl refl refl refl t.link.gabi conversion u (empty_at t.names (name_of u))) h))
    (λ a. judge-add-numbers t.link (Add.lent t) u)

-- ---- the table's other calls

remove-numbers : (l : Link) (x : Rows) (id : SymbolId) → Among (call_numbers (remove id)) (number_in (remove_of l x id).said)
unfolding remove_of
remove-numbers l x id =
    pick P (eqb (change_of l (lent_of l.chains (length x.symbols) (section_slots (length x.sections)))).number 0) _ _
    (λ a. pick P (leb l.symbols id.0) _ _ (λ b. refl) (λ b. refl))
    (λ a. changed (λ (r : Refusal). Among (call_numbers (remove id)) r.number) refl (λ k. refl) refl l _)
  where
    P : RemoveLeft → Type 0
    P o = Among (call_numbers (remove id)) (number_in o.said)

get-numbers : (l : Link) (symbols : List ℕ) (id : SymbolId) → Among (call_numbers (get id)) (Lookup.refusal_of (get_of l symbols id)).number
unfolding get_of found_at
get-numbers l symbols id =
    pick P (eqb (Link.judge_of l (lent_of l.chains (length symbols) l.slots)).number 0) _ _
    (λ a. pick P (leb l.symbols id.0) _ _ (λ b. refl) (λ b. pick P (eqb (state_at symbols id.0) 2) _ _ (λ c. refl) (λ c. refl)))
    (λ a. judge-gives (λ (r : Refusal). Among (call_numbers (get id)) r.number) (λ k. refl) refl l _)
  where
    P : Result Symbol Refusal → Type 0
    P f = Among (call_numbers (get id)) (Lookup.refusal_of f).number

global-numbers : (l : Link) (names symbols : List ℕ) (name : Interned) → Among (call_numbers (get_global name)) (Lookup.refusal_of (get_global_of l names symbols name)).number
unfolding get_global_of
global-numbers l names symbols name =
    pick P (eqb (Link.judge_of l (lent_of (name_rows (length names)) (length symbols) l.slots)).number 0) _ _
    (λ a. held (holder_of l names symbols name))
    (λ a. judge-gives (λ (r : Refusal). Among (call_numbers (get_global name)) r.number) (λ k. refl) refl l _)
  where
    P : Result Symbol Refusal → Type 0
    P f = Among (call_numbers (get_global name)) (Lookup.refusal_of f).number

    held : (h : Holder) → P (held_of symbols name h)
    held Unissued = refl
    held Nobody = refl
    held Removed = refl
    held (Known id) = refl

-- ---- collection

collect-numbers : (l : Link) (x : Collection.Lists) (symbols sections : List ℕ) (entry : Option SymbolId) (work : List ℕ)
    → Among (call_numbers (collect x.marks entry work)) (run_of l x symbols sections entry work).said.number
unfolding run_of collect_of finished sweep_of purge_of Collection.judge_of judge_cells
collect-numbers l x symbols sections entry work =
    pick P (eqb (judged l x symbols sections work).number 0) _ _ (λ a. go w.visitor.unbuilt)
    (λ a.
    pick Q (eqb (change_of l lent).number 0) _ _
    (λ b.
    pick Q (ltb (length x.marks) l.symbols) _ _ (λ c. refl)
    (λ c. pick Q (ltb (length work / 2) l.sections) _ _ (λ d. refl) (λ d. refl)))
    (λ b. changed Q refl (λ k. refl) refl l lent))
  where
    w : Reach.Walk
    w = Reach.walked l x.bytes x.names symbols sections x.lists x.marks entry work

    lent : Lent
    lent = Collection.lent_of (length x.bytes) (length x.names) (length symbols) (length sections) (length x.lists)

    P : Collection.Left → Type 0
    P o = Among (call_numbers (collect x.marks entry work)) o.said.number

    Q : Refusal → Type 0
    Q r = Among (call_numbers (collect x.marks entry work)) r.number

    go : (u : Option SectionId) → P (finish_of l symbols sections w.work u)
    go None = refl
    go (Some id) = refl

plain-numbers : (marks : List ℕ) (entry : Option SymbolId) (work : List ℕ) (s : Linked)
    → one_of (call_number (plain_collect marks entry work) s) (0 ∷ call_numbers (plain_collect marks entry work)) ≡ true
plain-numbers marks entry work s = go (compared marks entry work s)
  where
    first : one_of (call_number (collect marks entry work) s) (0 ∷ call_numbers (collect marks entry work)) ≡ true
    first = collect-numbers s.table.link (lists_in s marks) s.table.symbols s.table.sections entry work

    go : Compared marks entry work s → one_of (call_number (plain_collect marks entry work) s) (0 ∷ call_numbers (plain_collect marks entry work)) ≡ true
    go (alike r t a) =
        ap (λ (x : Refusal). one_of x.number (0 ∷ call_numbers (plain_collect marks entry work))) r
        ∙ one-within (call_number (collect marks entry work) s) (0 ∷ call_numbers (collect marks entry work)) (0 ∷ call_numbers (plain_collect marks entry work)) refl first
    go (many m u v e) = ap (λ (x : Refusal). one_of x.number (0 ∷ call_numbers (plain_collect marks entry work))) (many-refusal marks entry work s e)

list-numbers : (conversion adds ids : List ℕ) (s : Linked) → Among (call_numbers (add_list conversion adds ids)) (call_number (add_list conversion adds ids) s)
list-numbers conversion adds ids s =
    list-gives (λ (t : State). Unit {0}) (λ (r : Refusal). Among (call_numbers (add_list conversion adds ids)) r.number) conversion (λ t u q. tt) adds ids s (λ b. refl) refl refl
    (λ t u q.
    one-within (History.call_number (History.add conversion u) t) (0 ∷ call_numbers (add conversion u)) (0 ∷ call_numbers (add_list conversion adds ids)) refl (add-numbers (table t) conversion u)) tt

-- ---- every call

file-numbers : (file cells work ids : List ℕ) (s : Linked) → Among (call_numbers (merge_file file cells work ids)) (call_number (merge_file file cells work ids) s)
file-numbers file cells work ids s =
    by-test (is_read file cells s)
    (λ t.
    subst (λ (r : Refusal). Among (call_numbers (merge_file file cells work ids)) r.number) (sym (refusal-read file cells work ids s t))
    (one-within (call_number (merge (ElfFile.rows_of file) work ids) s) (0 ∷ call_numbers (merge (ElfFile.rows_of file) work ids)) (0 ∷ call_numbers (merge_file file cells work ids)) refl
    (merge-numbers (ElfFile.rows_of file) (all_in s work ids))))
    (λ t.
    subst (λ (r : Refusal). Among (call_numbers (merge_file file cells work ids)) r.number) (sym (refusal-unread file cells work ids s t))
    (one-within (file_head file cells s).number (0 ∷ file_head_numbers) (0 ∷ call_numbers (merge_file file cells work ids)) refl (head-numbers file cells s)))

pub numbers : (k : Call) (s : Linked) → one_of (call_number k s) (0 ∷ call_numbers k) ≡ true
numbers (intern x) s = intern-numbers (store s.table) x
numbers (reads (Read.resolve id)) s = resolve-numbers (store s.table) id
numbers (add conversion u) s = add-numbers (table s.table) conversion u
numbers (add_list conversion adds ids) s = list-numbers conversion adds ids s
numbers (remove id) s = remove-numbers s.table.link _ id
numbers (reads (Read.get id)) s = get-numbers s.table.link s.table.symbols id
numbers (reads (Read.get_global name)) s = global-numbers s.table.link s.table.names s.table.symbols name
numbers (reads (Read.section_symbol section)) s = refl
numbers (add_group o work n) s = group-numbers o s.table work n
numbers (merge o work ids) s = merge-numbers o (all_in s work ids)
numbers (merge_file file cells work ids) s = file-numbers file cells work ids s
numbers (load o marks) s = load-numbers o (library_in s marks)
numbers (reads (Read.archive_start key archives cells)) s = start-numbers key archives cells
numbers (reads (Read.archive_next archives cells w)) s = next-numbers archives cells w (view_in s.table)
numbers (reads (Read.archive_shadowed index rows w cells)) s = shadowed-numbers index rows w (view_in s.table) cells
numbers (reads (Read.matches headers entries contents file index cells w e)) s = matches-numbers s.table.link headers entries contents file index cells w e
numbers (reads (Read.would_define headers entries contents file cells)) s = would-numbers headers entries contents file (view_in s.table) cells
numbers (collect marks entry work) s = collect-numbers s.table.link (lists_in s marks) s.table.symbols s.table.sections entry work
numbers (plain_collect marks entry work) s = plain-numbers marks entry work s

-- all of the refusal table
pub in_table : (k : Call) → within (call_numbers k) refusals ≡ true
in_table (intern x) = refl
in_table (reads (Read.resolve id)) = refl
in_table (add conversion u) = refl
in_table (add_list conversion adds ids) = refl
in_table (remove id) = refl
in_table (reads (Read.get id)) = refl
in_table (reads (Read.get_global name)) = refl
in_table (reads (Read.section_symbol section)) = refl
in_table (add_group o work n) = refl
in_table (merge o work ids) = refl
in_table (merge_file file cells work ids) = refl
in_table (load o marks) = refl
in_table (reads (Read.archive_start key archives cells)) = refl
in_table (reads (Read.archive_next archives cells w)) = refl
in_table (reads (Read.archive_shadowed index rows w cells)) = refl
in_table (reads (Read.matches headers entries contents file index cells w e)) = refl
in_table (reads (Read.would_define headers entries contents file cells)) = refl
in_table (collect marks entry work) = refl
in_table (plain_collect marks entry work) = refl

pub refusals-only : (k : Call) (s : Linked) → call_number k s ≢ 0 → one_of (call_number k s) refusals ≡ true
refusals-only k s u =
    one-within (call_number k s) (call_numbers k) refusals (in_table k)
    (subst (λ (b : Bool). cond b true (one_of (call_number k s) (call_numbers k)) ≡ true) (ne_eqb _ _ u) (numbers k s))

-- ---- a new table

null-numbers : (gabi : Bool) (symbols sections : List ℕ) (s : Store) → Among (2 ∷ []) (number_in (null_of gabi symbols sections s).said)
unfolding null_of
null-numbers gabi symbols sections s = pick (λ (x : NewLeft). Among (2 ∷ []) (number_in x.said)) (eqb s.link.names 0) _ _ (λ a. refl) (λ a. refl)

pub new-numbers : (key : ℕ) (gabi : Bool) (bytes names symbols sections : List ℕ) → Among (2 ∷ []) (number_in (new_of key gabi bytes names symbols sections).said)
unfolding new_of
new-numbers key gabi bytes names symbols sections =
    pick (λ (x : NewLeft). Among (2 ∷ []) (number_in x.said)) (eqb (symbol_rows (length symbols)) 0) _ _ (λ a. refl)
    (λ a. null-numbers gabi symbols sections (Names.new_of key bytes names).store)
