-- Theorems over specs/Steps.antt.
-- Assumes nothing.
use Rattle.std.specs.Prelude.{refl, List, [], ◌∷◌, ◌++◌}
use Rattle.std.proofs.Common.{sym, ap, ◌∙◌, subst}
use Rattle.symbol_laws.specs.History.{State}
use Rattle.symbol_laws.proofs.History.{run-append}
use Rattle.merge_laws.specs.Steps.{AllGo, Makes, Step, run_steps, step_next, step_notes}

pub makes_none : (s : State) → Makes s [] s
makes_none s = record { leads = refl; accepted = tt }

go-append : (ks ls : List Step) (s : State) → AllGo ks s → AllGo ls (run_steps ks s) → AllGo (ks ++ ls) s
go-append [] ls s a b = b
go-append (k ∷ ks) ls s a b = (a.0, go-append ks ls (step_next k s) a.1 b)

pub makes_both : (s t u : State) (ks ls : List Step) → Makes s ks t → Makes t ls u → Makes s (ks ++ ls) u
makes_both s t u ks ls a b =
    record {
      leads = run-append step_next step_notes ks ls s ∙ ap (run_steps ls) a.leads ∙ b.leads;
      accepted = go-append ks ls s a.accepted (subst (AllGo ls) (sym a.leads) b.accepted);
    }
