-- By the guard, and then by the two checks.
use Rattle.on_interest.specs.Laws.Checks.{check_stops, check_zero, check_scope, check_none}
use Rattle.on_interest.proofs.check.Goals as goal

pub returns-in_err-guard : goal.returns-in_err-guard
returns-in_err-guard c n e = check_stops _ _ _ _ c.guard.ensures _ _ c.in_err-guard.was c.from_residual.ensures.1

pub returns-then-is_zero : goal.returns-then-is_zero
returns-then-is_zero c n e = check_zero _ _ _ _ c.guard.ensures _ c.in_ok-guard.was _ c.is_zero.ensures c.if-is_zero.true

pub returns-then-is_out_of_scope : goal.returns-then-is_out_of_scope
returns-then-is_out_of_scope c n e =
    check_scope _ _ _ _ c.guard.ensures _ c.in_ok-guard.was _ c.is_zero.ensures c.if-is_zero.false _ (c.is_out_of_scope.ensures n e)
    c.if-is_out_of_scope.true

pub returns : goal.returns
returns c n e =
    check_none _ _ _ _ c.guard.ensures _ c.in_ok-guard.was _ c.is_zero.ensures c.if-is_zero.false _ (c.is_out_of_scope.ensures n e)
    c.if-is_out_of_scope.false
