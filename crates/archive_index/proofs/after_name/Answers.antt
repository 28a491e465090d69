use Rattle.std.proofs.Common.{refl, arith}
use Rattle.archive_index.specs.Proof.Ways.{after-fits, after-found, after-cut}
use Rattle.archive_index.proofs.after_name.Goals as goal

pub returns-in_err-name : goal.returns-in_err-name
returns-in_err-name c = rw c.from_residual.ensures (after-cut _ _ _ _ c.in_err-name.ensures.ended_meets _ refl refl)

pub overflow_add-result : goal.overflow_add-result
overflow_add-result c = let h = after-fits _ _ _ _ c.in_ok-name.ensures.ended_meets refl in omega arith

pub overflow_add-result-2 : goal.overflow_add-result-2
overflow_add-result-2 c = let h = after-fits _ _ _ _ c.in_ok-name.ensures.ended_meets refl in omega arith

pub returns : goal.returns
returns c = after-found _ _ _ _ c.in_ok-name.ensures.ended_meets _ refl refl
