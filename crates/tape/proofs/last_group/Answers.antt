-- One law for each outcome.
use native.Mathlib.Omega.{arith}
use mathlib.Core.Path.{sym}
use Rattle.tape.specs.Laws.Number.{group_fits, closed_alone, closed_zero, closed_is, closed_tenth, closed_large}
use Rattle.tape.proofs.last_group.Goals as goal

pub returns-then-unit-eq1 : goal.returns-then-unit-eq1
returns-then-unit-eq1 c = sym (closed_alone _ _ _ _ c.requires.passed.low c.if-unit-eq1.true c.requires.is_last)

pub returns-then-b-eq0 : goal.returns-then-b-eq0
returns-then-b-eq0 c = sym (closed_zero _ _ _ _ c.requires.passed.low c.if-unit-eq1.false c.if-b-eq0.true)

pub returns-then-b-gt1 : goal.returns-then-b-gt1
returns-then-b-gt1 c = sym (closed_large _ _ _ _ c.if-unit-eq-TENTH.true (omega arith))

pub returns-then-unit-eq-TENTH : goal.returns-then-unit-eq-TENTH
returns-then-unit-eq-TENTH c = sym (closed_tenth _ _ _ _ c.requires.passed.low c.if-b-eq0.false c.if-unit-eq-TENTH.true (omega arith))

pub overflow_mul-result : goal.overflow_mul-result
overflow_mul-result c = omega (arith, group_fits c.requires.passed c.if-unit-eq-TENTH.false _ c.requires.is_last)

pub overflow_add-result-2 : goal.overflow_add-result-2
overflow_add-result-2 c = omega (arith, group_fits c.requires.passed c.if-unit-eq-TENTH.false _ c.requires.is_last)

pub returns : goal.returns
returns c = sym (closed_is _ _ _ _ c.if-b-eq0.false (group_fits c.requires.passed c.if-unit-eq-TENTH.false _ c.requires.is_last))
