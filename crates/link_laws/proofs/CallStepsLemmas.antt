-- Laws of the definitions of CallSteps.antt.
-- Assumes nothing.
use Rattle.std.specs.Prelude.{ℕ, ◌≡◌, refl, true, List, [], ◌∷◌, ◌++◌, eqb, length}
use Rattle.std.proofs.Common.{arith, sym, ap, ◌∙◌, subst, append-nil, eqb-true}
use Rattle.std.proofs.lemmas.Bool.{eqb-false}
use Rattle.cells.specs.Proof.Split.{by-test}
use Rattle.link.specs.Judge.{change_of}
use Rattle.link.specs.Said.{number_in}
use Rattle.interner.specs.Names.{fits_of}
use Rattle.interner.specs.Calls as Names
use Rattle.interner.specs.Calls.{intern_of, issue_of}
use Rattle.symbols.specs.Calls as Symbols
use Rattle.symbols.specs.Remove.{Rows, rows_of, remove_of}
use Rattle.gc_sections.specs.Run as Collection
use Rattle.gc_sections.specs.Run.{run_of}
use Rattle.symbol_laws.specs.History as History
use Rattle.symbol_laws.specs.History.{State, store, table, with_rows, id_of, Part, run_parts, log_parts, part_next}
use Rattle.symbol_laws.specs.Below.{Below}
use Rattle.merge_laws.proofs.Past.{steps-below}
use Rattle.symbol_laws.proofs.Refused.{add-accepted, remove-link}
use Rattle.symbol_laws.specs.Calls.{history_parts, call_parts}
use Rattle.symbol_laws.proofs.Calls.{history-run, history-log}
use Rattle.merge_laws.specs.Steps.{Step, part, run_steps, log_steps, AllGo, Makes}
use Rattle.merge_laws.proofs.Steps.{makes_none, makes_both}
use Rattle.merge_laws.specs.MergeSteps.{merge_steps}
use Rattle.merge_laws.specs.Origin.{AllShown}
use Rattle.merge_laws.proofs.Origin.{shown-both}
use Rattle.merge_laws.proofs.Whole.{merge-makes}
use Rattle.merge_laws.specs.Calls.{Linked, all_in}
use Rattle.load_laws.proofs.Whole.{load-makes}
use Rattle.link_laws.specs.Calls.{Call, intern, add, remove, add_group, merge, merge_file, load, collect, plain_collect, library_in, lists_in, call_left, call_next, call_notes, Removes, is_read, file_steps, reads, add_list, list_adds}
use Rattle.elf_laws.specs.Object as ElfFile
use Rattle.link_laws.proofs.FileCall.{next-read, next-unread}
use Rattle.link_laws.proofs.PlainCalls.{plain-link}
use Rattle.link_laws.proofs.Idle.{drops-nothing, plain-drops-nothing}
use Rattle.link_laws.proofs.CollectPast.{run_past}
use Rattle.add_list.specs.AddList.{items_of}
use Rattle.link_laws.proofs.ListCall.{listed-adds, up-to-quiet, next-is}
use Rattle.link_laws.specs.CallSteps.{part_steps, direct_steps, list_steps, call_steps}
use Rattle.link_laws.proofs.CallSteps.{group-makes, group-log, Leads, made, cleared}

-- none is a library's
pub direct-shown : (k : History.Call) (s : State) → AllShown (direct_steps k s)
direct-shown (History.add conversion u) s =
    by-test (eqb (History.call_number (History.add conversion u) s) 0) (λ a. rw a (tt, tt)) (λ a. rw a tt)
direct-shown (History.intern x) s = by-test (eqb (History.call_number (History.intern x) s) 0) (λ a. rw a (tt, tt)) (λ a. rw a tt)
direct-shown (History.remove id) s = tt

parts-run : (ps : List Part) (s : State) → run_steps (part_steps ps) s ≡ run_parts ps s
parts-run [] s = refl
parts-run (p ∷ ps) s = parts-run ps (part_next p s)

parts-log : (ps : List Part) (s : State) → log_steps (part_steps ps) s ≡ log_parts ps s
parts-log [] s = refl
parts-log (p ∷ ps) s = ap (◌++◌ (History.part_notes p s)) (parts-log ps (part_next p s))

intern-fits : (s : State) (x : List ℕ) → number_in (intern_of (store s) x).said ≡ 0 → fits_of (store s) (id_of s x) (length x) ≡ true
unfolding intern_of issue_of
intern-fits s x e =
    by-test (eqb (change_of s.link (Names.lent (store s))).number 0)
    (λ a. by-test (fits_of (store s) (id_of s x) (length x)) (λ b. b) (λ b. let q : ◌≡◌ {A = ℕ} 2 0 = rw (a, b) at e in absurd (omega arith)))
    (λ a. absurd (eqb-false _ _ a (rw a at e)))

direct-go : (k : History.Call) (s : State) → AllGo (direct_steps k s) s
direct-go (History.add conversion u) s =
    by-test (eqb (History.call_number (History.add conversion u) s) 0)
    (λ a. rw a (sym (ap (λ (o : Symbols.Left). number_in o.said) (add-accepted (table s) conversion u (eqb-true _ _ a))) ∙ eqb-true _ _ a, tt)) (λ a. rw a tt)
direct-go (History.intern x) s =
    by-test (eqb (History.call_number (History.intern x) s) 0) (λ a. rw a (intern-fits s x (eqb-true _ _ a), tt)) (λ a. rw a tt)
direct-go (History.remove id) s = tt

direct-makes : (k : History.Call) (s : State) → (History.Removes k s → ⊥) → Makes s (direct_steps k s) (History.call_next k s)
direct-makes k s q =
    record {
      leads = parts-run (history_parts (k ∷ []) s) s ∙ sym (history-run (k ∷ []) s (q, tt));
      accepted = direct-go k s;
    }

direct-log : (k : History.Call) (s : State) → (History.Removes k s → ⊥) → History.call_notes k s ≡ log_steps (direct_steps k s) s
direct-log k s q =
    sym (append-nil (History.call_notes k s)) ∙ history-log (k ∷ []) s (q, tt) ∙ sym (parts-log (history_parts (k ∷ []) s) s)

parts-append : (ps qs : List Part) → part_steps (ps ++ qs) ≡ part_steps ps ++ part_steps qs
parts-append [] qs = refl
parts-append (p ∷ ps) qs = ap (◌∷◌ (part p)) (parts-append ps qs)

list-log : (ks : List History.Call) (t : State) → History.RemovesNothing ks t → History.log_calls ks t ≡ log_steps (list_steps ks t) t
list-log ks t q = history-log ks t q ∙ sym (parts-log (history_parts ks t) t)

calls-make : (ks : List History.Call) (t : State) → History.RemovesNothing ks t → Makes t (list_steps ks t) (History.run_calls ks t)
calls-make [] t q = makes_none t
calls-make (k ∷ ks) t q =
    subst (λ (x : List Step). Makes t x (History.run_calls ks (History.call_next k t)))
    (sym (parts-append (call_parts k t) (history_parts ks (History.call_next k t))))
    (makes_both t (History.call_next k t) (History.run_calls ks (History.call_next k t)) (part_steps (call_parts k t)) (list_steps ks (History.call_next k t))
    (subst (λ (x : List Part). Makes t (part_steps x) (History.call_next k t)) (append-nil (call_parts k t)) (direct-makes k t q.0))
    (calls-make ks (History.call_next k t) q.1))

-- none is a library's
pub calls-shown-direct : (ks : List History.Call) (t : State) → AllShown (list_steps ks t)
calls-shown-direct [] t = tt
calls-shown-direct (k ∷ ks) t =
    subst AllShown (sym (parts-append (call_parts k t) (history_parts ks (History.call_next k t))))
    (shown-both (part_steps (call_parts k t)) (list_steps ks (History.call_next k t))
    (subst (λ (x : List Part). AllShown (part_steps x)) (append-nil (call_parts k t)) (direct-shown k t)) (calls-shown-direct ks (History.call_next k t)))

pub direct-below : (k : History.Call) (t : State) → (History.Removes k t → ⊥) → Below t → Below (History.call_next k t)
direct-below k t q b = let m = direct-makes k t q in subst Below m.leads (steps-below (direct_steps k t) t b)

list-quiet : (conversion adds ids : List ℕ) (s : Linked) → History.RemovesNothing (list_adds conversion adds ids s) s.table
list-quiet conversion adds ids s =
    listed-adds (λ (ks : List History.Call). History.RemovesNothing ks s.table) conversion adds ids s tt (up-to-quiet conversion (items_of adds) s.table)

list-makes : (conversion adds ids : List ℕ) (s : Linked)
    → Makes s.table (list_steps (list_adds conversion adds ids s) s.table) (call_next (add_list conversion adds ids) s).table
list-makes conversion adds ids s =
    subst (Makes s.table (list_steps (list_adds conversion adds ids s) s.table)) (ap (λ (x : Linked). x.table) (sym (next-is conversion adds ids s)))
    (calls-make (list_adds conversion adds ids s) s.table (list-quiet conversion adds ids s))

file-makes : (file cells work ids : List ℕ) (s : Linked) → Makes s.table (file_steps file cells work ids s) (call_next (merge_file file cells work ids) s).table
file-makes file cells work ids s =
    by-test (is_read file cells s)
    (λ t. rw t (subst (λ (u : Linked). Makes s.table (merge_steps (ElfFile.rows_of file) (all_in s work ids)) u.table) (sym (next-read file cells work ids s t)) (merge-makes (ElfFile.rows_of file) (all_in s work ids))))
    (λ t. rw t (subst (λ (u : Linked). Makes s.table [] u.table) (sym (next-unread file cells work ids s t)) (makes_none s.table)))

pub call-makes : (k : Call) (s : Linked) → (Removes k s → ⊥) → Makes s.table (call_steps k s) (call_next k s).table
call-makes (intern x) s q = direct-makes (History.intern x) s.table q
call-makes (reads k) s q = makes_none s.table
call-makes (add conversion u) s q = direct-makes (History.add conversion u) s.table q
call-makes (add_list conversion adds ids) s q = list-makes conversion adds ids s
call-makes (remove id) s q = direct-makes (History.remove id) s.table q
call-makes (add_group o work n) s q = group-makes o s.table work n
call-makes (merge o work ids) s q = merge-makes o (all_in s work ids)
call-makes (merge_file file cells work ids) s q = file-makes file cells work ids s
call-makes (load o marks) s q = load-makes o (library_in s marks)
call-makes (collect marks entry work) s q =
    subst (λ (t : Linked). Makes s.table [] t.table) (sym (drops-nothing marks entry work s q)) (makes_none s.table)
call-makes (plain_collect marks entry work) s q =
    subst (λ (t : Linked). Makes s.table [] t.table) (sym (plain-drops-nothing marks entry work s q)) (makes_none s.table)

pub call-log : (k : Call) (s : Linked) → (Removes k s → ⊥) → call_notes k s ≡ log_steps (call_steps k s) s.table
call-log (intern x) s q = direct-log (History.intern x) s.table q
call-log (reads k) s q = refl
call-log (add conversion u) s q = direct-log (History.add conversion u) s.table q
call-log (add_list conversion adds ids) s q = list-log (list_adds conversion adds ids s) s.table (list-quiet conversion adds ids s)
call-log (remove id) s q = refl
call-log (add_group o work n) s q = group-log o s.table work n
call-log (merge o work ids) s q = refl
call-log (merge_file file cells work ids) s q = refl
call-log (load o marks) s q = refl
call-log (collect marks entry work) s q = refl
call-log (plain_collect marks entry work) s q = refl

pub call-leads : (k : Call) (s : Linked) → Leads s.table (call_steps k s) (call_next k s).table
call-leads (intern x) s = made (call-makes (intern x) s (λ (e : ⊥). e))
call-leads (reads k) s = made (makes_none s.table)
call-leads (add conversion u) s = made (call-makes (add conversion u) s (λ (e : ⊥). e))
call-leads (add_list conversion adds ids) s = made (list-makes conversion adds ids s)
call-leads (remove id) s =
    let x : Rows = rows_of s.table.symbols s.table.sections in
    cleared (remove_of s.table.link x id).rows refl
    (ap (with_rows s.table (remove_of s.table.link x id).rows) (remove-link s.table.link x id))
call-leads (add_group o work n) s = made (group-makes o s.table work n)
call-leads (merge o work ids) s = made (merge-makes o (all_in s work ids))
call-leads (merge_file file cells work ids) s = made (file-makes file cells work ids s)
call-leads (load o marks) s = made (load-makes o (library_in s marks))
call-leads (collect marks entry work) s =
    let r : Collection.Left = run_of s.table.link (lists_in s marks) s.table.symbols s.table.sections entry work in
    cleared (rows_of r.symbols r.sections) refl
    (ap (with_rows s.table (rows_of r.symbols r.sections)) (run_past s.table.link s.table.symbols s.table.sections (lists_in s marks) entry work).link)
call-leads (plain_collect marks entry work) s =
    let r : Collection.Left = call_left (plain_collect marks entry work) s in
    cleared (rows_of r.symbols r.sections) refl (ap (with_rows s.table (rows_of r.symbols r.sections)) (plain-link marks entry work s))
