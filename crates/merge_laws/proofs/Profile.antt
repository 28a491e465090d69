-- No step of a merge changes a link's profile, and so no call.
-- Assumes nothing.
use Rattle.std.specs.Prelude.{◌≡◌, refl, List, [], ◌∷◌}
use Rattle.std.proofs.Common.{sym, ap, ◌∙◌}
use Rattle.symbol_laws.specs.History.{State}
use Rattle.symbol_laws.proofs.Profile as Profile
use Rattle.merge_laws.specs.Steps.{Step, part, mark, others, step_next, run_steps, Makes}
use Rattle.merge_laws.specs.MergeSteps.{merge_steps}
use Rattle.merge_laws.proofs.Whole.{merge-makes}
use Rattle.merge_laws.specs.Calls.{Linked, all_in, Call, direct, merge, call_next, run_calls}

step-profile : (k : Step) (s : State) → (step_next k s).link.gabi ≡ s.link.gabi
step-profile (part p) s = Profile.parts-profile (p ∷ []) s
step-profile (mark n) s = refl
step-profile (others x l) s = refl

pub steps-profile : (ks : List Step) (s : State) → (run_steps ks s).link.gabi ≡ s.link.gabi
steps-profile [] s = refl
steps-profile (k ∷ ks) s = steps-profile ks (step_next k s) ∙ step-profile k s

-- what steps lead to has the profile that they started from
pub makes-profile : (s t : State) (ks : List Step) → Makes s ks t → t.link.gabi ≡ s.link.gabi
makes-profile s t ks m = ap (λ (t : State). t.link.gabi) (sym m.leads) ∙ steps-profile ks s

call-profile : (k : Call) (s : Linked) → (call_next k s).table.link.gabi ≡ s.table.link.gabi
call-profile (direct k) s = Profile.call-profile k s.table
call-profile (merge o work ids) s = makes-profile _ _ (merge_steps o (all_in s work ids)) (merge-makes o (all_in s work ids))

pub calls-profile : (ks : List Call) (s : Linked) → (run_calls ks s).table.link.gabi ≡ s.table.link.gabi
calls-profile [] s = refl
calls-profile (k ∷ ks) s = calls-profile ks (call_next k s) ∙ call-profile k s
