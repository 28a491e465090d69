-- "changing call on a broken link": 22 at place 0, first of all.
-- Assumes nothing.
use Rattle.std.specs.Prelude.{ℕ, ◌≡◌, Bool, true, cond, List, length, Option}
use Rattle.std.proofs.Common.{ap, ◌∙◌}
use Rattle.byte_slices.specs.Proof.Ways.{apart}
use Rattle.link.specs.declared.Link.{Link}
use Rattle.link.specs.declared.Lent.{Lent}
use Rattle.link.specs.declared.SymbolId.{SymbolId}
use Rattle.link.specs.Bounds.{section_slots}
use Rattle.link.specs.Judge.{refused, change_of}
use Rattle.link.specs.Judge as Link
use Rattle.link.specs.Counts.{lent_of}
use Rattle.interner.specs.Calls as Names
use Rattle.interner.specs.Calls.{intern_of}
use Rattle.upcoming_symbol.specs.declared.UpcomingSymbol.{UpcomingSymbol}
use Rattle.symbols.specs.Calls as Symbols
use Rattle.symbols.specs.Add as Add
use Rattle.symbols.specs.Add.{judge_add_of, add_of}
use Rattle.symbols.specs.Remove.{remove_of}
use Rattle.section_groups.specs.Group as Group
use Rattle.section_groups.specs.AddGroup as AddGroup
use Rattle.section_groups.specs.AddGroup.{add_group_of}
use Rattle.merge_stages.specs.Stages as Stages
use Rattle.merge_elf.specs.Merge as Merge
use Rattle.shared_objects.specs.Head as Head
use Rattle.shared_objects.specs.Load as Shared
use Rattle.shared_objects.specs.Load.{load_of}
use Rattle.gc_sections.specs.Run as Collection
use Rattle.gc_sections.specs.Run.{run_of}
use Rattle.symbol_laws.specs.History.{store, table}
use Rattle.merge_laws.proofs.ByNumber as ByNumber
use Rattle.merge_laws.specs.Calls.{Linked, all_in}
use Rattle.link_laws.specs.Calls.{Call, intern, add, remove, add_group, merge, merge_file, load, collect, plain_collect, group_in, lists_in, call_refusal, reads, add_list}
use Rattle.link_laws.proofs.PlainCalls.{Compared, alike, many, compared}
use Rattle.merge_file.specs.MergeFile.{file_head_of, merge_file_of}
use Rattle.add_list.specs.AddList.{add_list_of}
use Rattle.link_laws.specs.Broken.{changes}

change-broken : (l : Link) (n : Lent) → l.broken ≡ true → change_of l n ≡ refused 22 0
unfolding change_of
change-broken l n e = ap (λ (b : Bool). cond b (refused 22 0) (Link.judge_of l n)) e

module _ (s : Linked) (b : s.table.link.broken ≡ true) where
  abbrev l : Link
  l = s.table.link

  intern-broken : (x : List ℕ) → call_refusal (intern x) s ≡ refused 22 0
  unfolding intern_of
  intern-broken x = simp (change-broken l (Names.lent (store s.table)) b)

  add-broken : (conversion : List ℕ) (u : UpcomingSymbol) → call_refusal (add conversion u) s ≡ refused 22 0
  unfolding add_of judge_add_of
  add-broken conversion u = simp (change-broken l (Add.lent (table s.table)) b)

  list-broken : (conversion adds ids : List ℕ) → call_refusal (add_list conversion adds ids) s ≡ refused 22 0
  unfolding add_list_of
  list-broken conversion adds ids = rw b

  remove-broken : (id : SymbolId) → call_refusal (remove id) s ≡ refused 22 0
  unfolding remove_of
  remove-broken id = simp (change-broken l (Symbols.lent_of l.chains (length s.table.symbols) (section_slots (length s.table.sections))) b)

  group-broken : (o : Group.Object) (work : List ℕ) (n : ℕ) → call_refusal (add_group o work n) s ≡ refused 22 0
  unfolding add_group_of AddGroup.check_of
  group-broken o work n = simp (change-broken l (AddGroup.lent (group_in s.table work)) b)

  merge-broken : (o : Stages.Object) (work ids : List ℕ) → call_refusal (merge o work ids) s ≡ refused 22 0
  merge-broken o work ids = ap (λ (x : Merge.Left). x.said) (ByNumber.broken-refused o (all_in s work ids) b)

  file-broken : (file cells work ids : List ℕ) → call_refusal (merge_file file cells work ids) s ≡ refused 22 0
  unfolding merge_file_of file_head_of
  file-broken file cells work ids = rw b

  load-broken : (o : Shared.Input) (marks : List ℕ) → call_refusal (load o marks) s ≡ refused 22 0
  unfolding load_of Head.check_of
  load-broken o marks =
      simp
      (change-broken l
      (lent_of (length s.table.names) (length s.table.bytes) (length s.table.symbols) (length s.table.sections) (length s.inputs) (length s.lists)) b)

  head-broken : (marks work : List ℕ) → (Collection.judged l (lists_in s marks) s.table.symbols s.table.sections work).number ≡ 22
  unfolding Collection.judge_of
  head-broken marks work =
      simp
      (change-broken l
      (Collection.lent_of (length s.table.bytes) (length s.table.names) (length s.table.symbols) (length s.table.sections) (length s.lists)) b)

  collect-broken : (marks : List ℕ) (entry : Option SymbolId) (work : List ℕ) → call_refusal (collect marks entry work) s ≡ refused 22 0
  unfolding run_of Collection.judge_of
  collect-broken marks entry work =
      simp
      (change-broken l
      (Collection.lent_of (length s.table.bytes) (length s.table.names) (length s.table.symbols) (length s.table.sections) (length s.lists)) b)

  pub broken-refused : (k : Call) → changes k ≡ true → call_refusal k s ≡ refused 22 0
  broken-refused (intern x) c = intern-broken x
  broken-refused (reads k) c = absurd (apart c)
  broken-refused (add conversion u) c = add-broken conversion u
  broken-refused (add_list conversion adds ids) c = list-broken conversion adds ids
  broken-refused (remove id) c = remove-broken id
  broken-refused (add_group o work n) c = group-broken o work n
  broken-refused (merge o work ids) c = merge-broken o work ids
  broken-refused (merge_file file cells work ids) c = file-broken file cells work ids
  broken-refused (load o marks) c = load-broken o marks
  broken-refused (collect marks entry work) c = collect-broken marks entry work
  broken-refused (plain_collect marks entry work) c = go (compared marks entry work s)
    where
      go : Compared marks entry work s → call_refusal (plain_collect marks entry work) s ≡ refused 22 0
      go (alike r t a) = r ∙ collect-broken marks entry work
      go (many m u v e) = absurd (u (head-broken marks work))
