-- A load keeps the counts within their bounds: no lookup after it is refused with 1.
-- Assumes nothing.
use Rattle.std.specs.Prelude.{◌≤◌, length}
use Rattle.std.proofs.Common.{arith, subst}
use Rattle.link.specs.Bounds.{not_lent}
use Rattle.shared_objects.specs.Load.{All, Input, load_of}
use Rattle.symbol_laws.specs.Within.{Within}
use Rattle.merge_laws.specs.Lookups.{CountedIn}
use Rattle.merge_laws.proofs.Lookups.{steps-counted, counted, within}
use Rattle.load_laws.specs.LoadSteps.{load_steps}
use Rattle.load_laws.specs.Whole.{table_in}
use Rattle.load_laws.proofs.Whole.{load-makes}
use Rattle.load_laws.proofs.Lists.{load-listed}

pub load-within : (o : Input) (a : All) → Within a.link a.names → a.link.lists ≤ length a.lists → length a.lists ≤ not_lent
    → Within (load_of o a).cells.link (load_of o a).cells.names
load-within o a w h n =
    let steps = load-makes o a in
    let left = (load-listed o a n).lists in
    let i = left.inside h in
    within (load_of o a).cells.link (load_of o a).cells.names
    (subst CountedIn steps.leads (steps-counted (load_steps o a) (table_in a) steps.accepted (counted a.link a.names w)))
    (omega (arith, left.long))
