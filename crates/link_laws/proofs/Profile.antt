-- No call changes a link's profile: it is made of steps, or leaves the counts. And what the gABI profile keeps: no add of a library is hidden.
-- Assumes nothing.
use Rattle.std.specs.Prelude.{◌≡◌, refl, true, List, [], ◌∷◌, eqb}
use Rattle.std.proofs.Common.{sym, ap, ◌∙◌, subst}
use Rattle.byte_slices.specs.Proof.Ways.{pick}
use Rattle.section_groups.specs.AddGroup.{loaded_in}
use Rattle.symbol_laws.specs.History as History
use Rattle.symbol_laws.specs.History.{State}
use Rattle.merge_laws.specs.Steps.{Step}
use Rattle.merge_laws.proofs.Profile.{makes-profile}
use Rattle.merge_laws.specs.Calls.{Linked, all_in}
use Rattle.merge_laws.specs.Origin.{AllShown, LogShown}
use Rattle.merge_laws.proofs.Origin.{log-both, log-shown, group-shown, merge-shown}
use Rattle.load_laws.proofs.Origin.{load-shown}
use Rattle.link_laws.specs.Calls.{Call, intern, add, remove, add_group, merge, merge_file, load, collect, plain_collect, library_in, call_next, call_notes, run_calls, log_calls, RemovesNothing, is_read, reads, add_list, list_adds}
use Rattle.elf_laws.specs.Object as ElfFile
use Rattle.link_laws.specs.Growth.{Turn, turn_next, turn_notes, grow, run_turns, log_turns, Quiet}
use Rattle.link_laws.specs.CallSteps.{call_steps}
use Rattle.link_laws.proofs.CallSteps.{Leads, made, cleared, head_number}
use Rattle.link_laws.proofs.CallStepsLemmas.{call-log, call-leads, direct-shown, calls-shown-direct}

leads-profile : (s t : State) (ks : List Step) → Leads s ks t → t.link.gabi ≡ s.link.gabi
leads-profile s t ks (made m) = makes-profile s t ks m
leads-profile s t ks (cleared x e q) = ap (λ (t : State). t.link.gabi) q

pub call-profile : (k : Call) (s : Linked) → (call_next k s).table.link.gabi ≡ s.table.link.gabi
call-profile k s = leads-profile s.table (call_next k s).table (call_steps k s) (call-leads k s)

pub calls-profile : (ks : List Call) (s : Linked) → (run_calls ks s).table.link.gabi ≡ s.table.link.gabi
calls-profile [] s = refl
calls-profile (k ∷ ks) s = calls-profile ks (call_next k s) ∙ call-profile k s

-- where lists grow between the calls
pub turns-profile : (ts : List Turn) (s : Linked) → (run_turns ts s).table.link.gabi ≡ s.table.link.gabi
turns-profile [] s = refl
turns-profile (t ∷ ts) s = turns-profile ts (turn_next t s) ∙ call-profile t.call (grow t.growth s)

-- ---- origin

call-shown : (k : Call) (s : Linked) → s.table.link.gabi ≡ true → AllShown (call_steps k s)
call-shown (intern x) s g = direct-shown (History.intern x) s.table
call-shown (reads k) s g = tt
call-shown (add conversion u) s g = direct-shown (History.add conversion u) s.table
call-shown (add_list conversion adds ids) s g = calls-shown-direct (list_adds conversion adds ids s) s.table
call-shown (remove id) s g = tt
call-shown (add_group o work n) s g = pick AllShown (eqb (head_number o s.table work n) 0) _ _ (λ a. group-shown (loaded_in o) _ n) (λ a. tt)
call-shown (merge o work ids) s g = merge-shown o (all_in s work ids)
call-shown (merge_file file cells work ids) s g = pick AllShown (is_read file cells s) _ _ (λ a. merge-shown (ElfFile.rows_of file) (all_in s work ids)) (λ a. tt)
call-shown (load o marks) s g = load-shown o (library_in s marks) g
call-shown (collect marks entry work) s g = tt
call-shown (plain_collect marks entry work) s g = tt

pub calls-shown : (ks : List Call) (s : Linked) → RemovesNothing ks s → s.table.link.gabi ≡ true → LogShown (log_calls ks s)
calls-shown [] s q g = tt
calls-shown (k ∷ ks) s q g =
    log-both (call_notes k s) (log_calls ks (call_next k s))
    (subst LogShown (sym (call-log k s q.0)) (log-shown (call_steps k s) s.table (call-shown k s g)))
    (calls-shown ks (call_next k s) q.1 (call-profile k s ∙ g))

pub turns-shown : (ts : List Turn) (s : Linked) → Quiet ts s → s.table.link.gabi ≡ true → LogShown (log_turns ts s)
turns-shown [] s q g = tt
turns-shown (t ∷ ts) s q g =
    log-both (turn_notes t s) (log_turns ts (turn_next t s))
    (subst LogShown (sym (call-log t.call (grow t.growth s) q.0)) (log-shown (call_steps t.call (grow t.growth s)) (grow t.growth s).table (call-shown t.call (grow t.growth s) g)))
    (turns-shown ts (turn_next t s) q.2 (call-profile t.call (grow t.growth s) ∙ g))
