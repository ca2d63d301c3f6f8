-- The invariant says which fields are met so far; one law each for the start, an element, a fault and the end.
use Rattle.std.proofs.Common.{sym, ◌<◌, arith}
use Rattle.grammar.specs.Laws.Walk.{walking_start, walking_end, walking_bad, walking_more, order_small}
use Rattle.wire.specs.Laws.Within.{read_is}
use Rattle.grammar.proofs.walk.Goals as goal

pub loop-cursor-init : goal.loop-cursor-init
loop-cursor-init c = walking_start _ _

pub returns-in_default : goal.returns-in_default
returns-in_default c = walking_bad c.loop-cursor.invariant c.loop-cursor-test.true (sym c.in_default.ensures)

pub offset_bounds-places-order : goal.offset_bounds-places-order
offset_bounds-places-order c =
    let h : c.judge-v.result.order < 11 = rw c.judge-v.ensures (order_small _ _ _ _ _) in
    omega arith

pub bounds-places-order : goal.bounds-places-order
bounds-places-order c = let e = c.judge-v.ensures in rw e (order_small _ _ _ _ _)

pub loop-cursor-smaller : goal.loop-cursor-smaller
loop-cursor-smaller c =
    let n = read_is _ _ _ _ (sym c.in-Some.ensures) in
    omega (arith, n.early, n.value, n.inside)

pub loop-cursor-preserved : goal.loop-cursor-preserved
loop-cursor-preserved c =
    walking_more c.loop-cursor.invariant _ _ _
    (sym c.in-Some.ensures) c.judge-v.ensures

pub returns : goal.returns
returns c = walking_end c.loop-cursor.invariant c.loop-cursor-test.false
