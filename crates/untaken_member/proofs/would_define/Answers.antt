use Rattle.std.proofs.lemmas.Result.{err_from_is_err_and}
use Rattle.untaken_member.specs.Proof.Ways.{would-judged, would-short, would-tell}
use Rattle.untaken_member.proofs.would_define.Goals as goal

pub returns-in_err-judge : goal.returns-in_err-judge
returns-in_err-judge c =
    let p = err_from_is_err_and c.from_residual.result c.from_residual.ensures.1 in
    rw (p.1, p.2) (would-judged _ _ _ _ _ _ _ (c.in_err-judge.ensures {u = tt}))

pub returns-then-told-symbol_count : goal.returns-then-told-symbol_count
returns-then-told-symbol_count c =
    would-short _ _ _ _ _ _ _ (c.in_ok-judge.ensures {u = tt}) _ c.loaded-member.ensures _ (rw c.symbol_count.ensures at c.if-told-symbol_count.true) c.new.ensures

pub returns : goal.returns
returns c =
    would-tell _ _ _ _ _ _ _ (c.in_ok-judge.ensures {u = tt}) _ c.loaded-member.ensures _ _ (rw c.symbol_count.ensures at c.if-told-symbol_count.false) c.tell.ensures
