-- "Rows past the count are never written": by any call.
-- Assumes nothing.
use Rattle.symbol_laws.specs.Below.{Below}
use Rattle.merge_laws.specs.Past.{TablePast}
use Rattle.merge_laws.proofs.Past.{makes-past}
use Rattle.merge_laws.specs.Calls.{Linked}
use Rattle.link_laws.specs.Calls.{Call, intern, add, remove, add_group, merge, merge_file, load, collect, plain_collect, lists_in, call_next, Removes, reads, add_list}
use Rattle.link_laws.proofs.PlainCalls.{Compared, alike, many, compared, many-drops}
use Rattle.std.proofs.Common.{sym, subst}
use Rattle.link_laws.specs.CallSteps.{call_steps}
use Rattle.link_laws.proofs.CallStepsLemmas.{call-makes}
use Rattle.link_laws.proofs.CollectPast.{collect-past, remove-past}

module _ (s : Linked) (b : Below s.table) where
  abbrev Past : Call → Type 0
  Past k = TablePast s.table (call_next k s).table

  quiet-past : (k : Call) → (Removes k s → ⊥) → Past k
  quiet-past k q = makes-past s.table (call_next k s).table (call_steps k s) b (call-makes k s q)

  pub call-past : (k : Call) → Past k
  call-past (intern x) = quiet-past (intern x) (λ (e : ⊥). e)
  call-past (reads k) = quiet-past (reads k) (λ (e : ⊥). e)
  call-past (add conversion u) = quiet-past (add conversion u) (λ (e : ⊥). e)
  call-past (add_list conversion adds ids) = quiet-past (add_list conversion adds ids) (λ (e : ⊥). e)
  call-past (remove id) = remove-past s.table id
  call-past (add_group o work n) = quiet-past (add_group o work n) (λ (e : ⊥). e)
  call-past (merge o work ids) = quiet-past (merge o work ids) (λ (e : ⊥). e)
  call-past (merge_file file cells work ids) = quiet-past (merge_file file cells work ids) (λ (e : ⊥). e)
  call-past (load o marks) = quiet-past (load o marks) (λ (e : ⊥). e)
  call-past (collect marks entry work) = collect-past s.table (lists_in s marks) entry work
  call-past (plain_collect marks entry work) = go (compared marks entry work s)
    where
      go : Compared marks entry work s → Past (plain_collect marks entry work)
      go (alike r t a) = subst (λ (x : Linked). TablePast s.table x.table) (sym t) (collect-past s.table (lists_in s marks) entry work)
      go (many m u v e) = quiet-past (plain_collect marks entry work) (λ d. many-drops marks entry work s e d)
