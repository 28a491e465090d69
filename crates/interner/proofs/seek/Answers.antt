use Rattle.std.proofs.Common.{arith, ◌+◌, ◌-◌}
use Rattle.std.proofs.Math.Nat.{sub-zero}
use Rattle.interner.specs.Proof.Ways.{seek-start, chase-out, chase-end, chase-hit, chase-on}
use Rattle.interner.proofs.seek.Goals as goal

pub loop-init : goal.loop-init
loop-init c count = rw sub-zero (seek-start _ _ count _ _ _ _ c.get-at.ensures c.name_rows-rows.ensures)

pub returns-then-at-eq0 : goal.returns-then-at-eq0
returns-then-at-eq0 c count = chase-end _ _ count _ _ _ _ (c.loop.invariant count) (c.name_rows-rows.result - (c.loop.counter + 1)) (omega arith) c.if-at-eq0.true

pub returns-then-same_bytes : goal.returns-then-same_bytes
returns-then-same_bytes c count =
    chase-hit _ _ count _ _ _ _ (c.loop.invariant count) (c.name_rows-rows.result - (c.loop.counter + 1)) (omega arith) _ _
    c.if-at-eq0.false c.name_of.ensures.result_value c.same_bytes.ensures c.if-same_bytes.true

pub loop-preserved : goal.loop-preserved
loop-preserved c count =
    chase-on _ _ count _ _ _ _ (c.loop.invariant count) (c.name_rows-rows.result - (c.loop.counter + 1)) (omega arith) _ _
    c.if-at-eq0.false c.name_of.ensures.result_value c.same_bytes.ensures _ c.if-same_bytes.false c.row_get-at.ensures

pub returns : goal.returns
returns c count = chase-out _ _ count _ _ _ _ (c.loop.invariant count) (omega arith)
