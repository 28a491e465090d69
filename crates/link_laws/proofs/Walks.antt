-- Laws of the definitions of Walks.antt.
-- Assumes nothing.
use Rattle.std.specs.Prelude.{◌≡◌, refl, List, [], ◌∷◌}
use Rattle.std.proofs.Common.{sym, ap, ◌∙◌}
use Rattle.archive_index.specs.Archives.{Archives}
use Rattle.archive_laws.specs.Runs.{Run, step_run, history}
use Rattle.symbol_laws.proofs.History.{run-append}
use Rattle.merge_laws.specs.Calls.{Linked}
use Rattle.link_laws.specs.Calls.{Call, archive_next, view_in, call_next, call_notes, run_calls}
use Rattle.link_laws.specs.Walks.{next_in, with_walk, walk_after, tables_at, joined}

-- ---- it is the walk over those tables

pub next-is : (archives : Archives) (r : Run) (s : Linked) → next_in archives r s ≡ step_run archives (view_in s.table) r
unfolding step_run
next-is archives r s = refl

pub walk_is : (archives : Archives) (kss : List (List Call)) (r : Run) (s : Linked) → walk_after archives kss r s ≡ history archives (tables_at kss s) r
unfolding history
walk_is archives [] r s = refl
walk_is archives (ks ∷ kss) r s =
    walk_is archives kss (next_in archives r (run_calls ks s)) (run_calls ks s)
    ∙ ap (history archives (tables_at kss (run_calls ks s))) (next-is archives r (run_calls ks s))

pub walk-aside : (archives : Archives) (kss : List (List Call)) (r : Run) (s : Linked) → run_calls (with_walk archives kss r s) s ≡ run_calls (joined kss) s
walk-aside archives [] r s = refl
walk-aside archives (ks ∷ kss) r s =
    let t : Linked = run_calls ks s in
    run-append call_next call_notes ks (archive_next archives r.cells r.walk ∷ with_walk archives kss (next_in archives r t) t) s
    ∙ walk-aside archives kss (next_in archives r t) t
    ∙ sym (run-append call_next call_notes ks (joined kss) s)
