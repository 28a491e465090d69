-- Laws of the definitions of Lists.antt.
-- Assumes nothing.
use Rattle.std.specs.Prelude.{ℕ, ◌≤◌, ◌≡◌, refl, List, [], ◌∷◌, length, None}
use Rattle.std.proofs.Common.{ap, ◌∙◌}
use Rattle.link.specs.declared.Link.{Link}
use Rattle.link.specs.declared.Interned.{Interned}
use Rattle.link.specs.Bounds.{not_lent}
use Rattle.link.specs.Counts.{with_symbols}
use Rattle.interner.specs.Names.{Store, keep_of}
use Rattle.symbol.specs.declared.Row.{Row}
use Rattle.symbol_resolution.specs.Apply.{Table}
use Rattle.symbols.specs.Add.{add_row_of, decided_of}
use Rattle.symbols.specs.Proof.AddOutcomes.{added-left}
use Rattle.symbol_laws.specs.History as History
use Rattle.symbol_laws.specs.History.{State, table, store, Part, issue, put, id_of, part_next, run_parts}
use Rattle.symbols.specs.Remove.{rows_of}
use Rattle.symbol_laws.proofs.Refused.{remove-link}
use Rattle.symbol_laws.specs.Calls.{history_parts}
use Rattle.symbol_laws.proofs.Calls.{history-run}
use Rattle.merge_laws.proofs.SymbolStageLemmas.{applied-count}
use Rattle.merge_laws.proofs.Lists.{listed-none, keep-lists, keep-inputs, merge-left}
use Rattle.merge_laws.specs.Calls.{Linked, linked, all_in}
use Rattle.load_laws.proofs.Lists.{load-listed}
use Rattle.link_laws.specs.Calls.{Call, intern, add, remove, add_group, merge, merge_file, load, collect, plain_collect, library_in, lists_in, call_next, reads, add_list}
use Rattle.link_laws.proofs.PlainCalls.{plain-link}
use Rattle.elf_laws.specs.Object as ElfFile
use Rattle.link_laws.proofs.FileCall.{by-file}
use Rattle.link_laws.proofs.CollectPast.{run_past}
use Rattle.link_laws.proofs.CallSteps.{group-count}
use Rattle.link_laws.proofs.ListCall.{next-is, list-keeps}
use Rattle.link_laws.specs.Lists.{ListsLeft}

module _ (count : Link → ℕ) (same : (s : Store) (id : Interned) (x : List ℕ) → count (keep_of s id x).link ≡ count s.link)
    (also : (l : Link) (n : ℕ) → count (with_symbols l n) ≡ count l) where
  pub put_count : (t : Table) (r : Row) → count (add_row_of t r None).table.link ≡ count t.link
  put_count t r = added-left t r None (λ (u : Table). count u.link ≡ count t.link) refl (applied-count count same also t r (decided_of t r None))

  parts-count : (ps : List Part) (s : State) → count (run_parts ps s).link ≡ count s.link
  parts-count [] s = refl
  parts-count (issue x ∷ ps) s = parts-count ps (part_next (issue x) s) ∙ same (store s) (id_of s x) x
  parts-count (put r from ∷ ps) s = parts-count ps (part_next (put r from) s) ∙ put_count (table s) r

  pub direct-count : (k : History.Call) (s : State) → (History.Removes k s → ⊥) → count (History.call_next k s).link ≡ count s.link
  direct-count k s q = ap (λ (t : State). count t.link) (history-run (k ∷ []) s (q, tt)) ∙ parts-count (history_parts (k ∷ []) s) s

  pub list_count : (conversion adds ids : List ℕ) (s : Linked) → count (call_next (add_list conversion adds ids) s).table.link ≡ count s.table.link
  list_count conversion adds ids s =
      ap (λ (t : Linked). count t.table.link) (next-is conversion adds ids s)
      ∙ list-keeps (λ (t : State). count t.link ≡ count s.table.link) conversion
      (λ t u e. direct-count (History.add conversion u) t (λ (z : ⊥). z) ∙ e) adds ids s refl

none-listed : (s : Linked) → ListsLeft s s
none-listed s = listed-none s.inputs s.lists s.table.link s.table.link refl refl

-- the link as it was
same-listed : (s : Linked) (t : State) → t.link ≡ s.table.link → ListsLeft s (linked t s.inputs s.lists)
same-listed s t e = listed-none s.inputs s.lists s.table.link t.link (ap (λ (l : Link). l.lists) e) (ap (λ (l : Link). l.inputs) e)

direct-listed : (k : History.Call) (s : Linked) → (History.Removes k s.table → ⊥) → ListsLeft s (linked (History.call_next k s.table) s.inputs s.lists)
direct-listed k s q =
    listed-none s.inputs s.lists s.table.link (History.call_next k s.table).link
    (direct-count (λ (l : Link). l.lists) keep-lists (λ l n. refl) k s.table q) (direct-count (λ (l : Link). l.inputs) keep-inputs (λ l n. refl) k s.table q)

-- a lent list has fewer than 2^64 cells
pub call-listed : (k : Call) (s : Linked) → length s.lists ≤ not_lent → ListsLeft s (call_next k s)
call-listed (intern x) s h = direct-listed (History.intern x) s (λ (e : ⊥). e)
call-listed (reads k) s h = none-listed s
call-listed (add conversion u) s h = direct-listed (History.add conversion u) s (λ (e : ⊥). e)
call-listed (add_list conversion adds ids) s h =
    listed-none s.inputs s.lists s.table.link (call_next (add_list conversion adds ids) s).table.link
    (list_count (λ (l : Link). l.lists) keep-lists (λ l n. refl) conversion adds ids s) (list_count (λ (l : Link). l.inputs) keep-inputs (λ l n. refl) conversion adds ids s)
call-listed (remove id) s h =
    same-listed s (call_next (remove id) s).table (remove-link s.table.link (rows_of s.table.symbols s.table.sections) id)
call-listed (add_group o work n) s h =
    listed-none s.inputs s.lists s.table.link (call_next (add_group o work n) s).table.link
    (group-count o s.table work n (λ (l : Link). l.lists) keep-lists) (group-count o s.table work n (λ (l : Link). l.inputs) keep-inputs)
call-listed (merge o work ids) s h = merge-left o (all_in s work ids)
call-listed (merge_file file cells work ids) s h = by-file file cells work ids s (ListsLeft s) (merge-left (ElfFile.rows_of file) (all_in s work ids)) (none-listed s)
call-listed (load o marks) s h = load-listed o (library_in s marks) h
call-listed (collect marks entry work) s h =
    same-listed s (call_next (collect marks entry work) s).table
    (run_past s.table.link s.table.symbols s.table.sections (lists_in s marks) entry work).link
call-listed (plain_collect marks entry work) s h = same-listed s (call_next (plain_collect marks entry work) s).table (plain-link marks entry work s)
