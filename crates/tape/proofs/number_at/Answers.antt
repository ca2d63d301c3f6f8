-- One law each for a turn and for the ways to end.
use native.Mathlib.Omega.{arith}
use mathlib.Core.Path.{sym, ◌∙◌}
use Rattle.tape.specs.Laws.Number.{unit_small, passing_none, passing_more, turn_fits, number_cut, number_long, number_last}
use Rattle.tape.proofs.number_at.Goals as goal

pub loop-i-init : goal.loop-i-init
loop-i-init c = passing_none _ _

pub returns-then-b-lt128 : goal.returns-then-b-lt128
returns-then-b-lt128 c = c.last_group.ensures ∙ sym (number_last c.loop-i.invariant c.loop-i-test.true c.if-b-lt128.true)

pub returns-then-unit : goal.returns-then-unit
returns-then-unit c = sym (number_long c.loop-i.invariant c.loop-i-test.true c.if-b-lt128.false c.if-unit.true)

pub overflow_mul-v : goal.overflow_mul-v
overflow_mul-v c = omega (arith, turn_fits c.loop-i.invariant (omega (arith, c.type_inv.s c.loop-i.i)) c.if-unit.false)

pub overflow_add-v : goal.overflow_add-v
overflow_add-v c = omega (arith, turn_fits c.loop-i.invariant (omega (arith, c.type_inv.s c.loop-i.i)) c.if-unit.false)

pub overflow_mul-unit : goal.overflow_mul-unit
overflow_mul-unit c = omega (arith, unit_small c.loop-i.invariant.passed c.if-unit.false)

pub loop-i-preserved : goal.loop-i-preserved
loop-i-preserved c =
    passing_more c.loop-i.invariant c.loop-i-test.true c.if-b-lt128.false (omega (arith, c.type_inv.s c.loop-i.i)) c.if-unit.false

pub returns : goal.returns
returns c = sym (number_cut c.loop-i.invariant c.loop-i-test.false)
