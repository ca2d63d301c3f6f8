-- `width` meets its contract. The loop's invariant: the digits counted and those of what is left are those of the number, and one. The
-- measure is what is left.
use native.Mathlib.Omega.{arith}
use borrow.Author.Rules.{rules}
use Rattle.lines.specs.Laws.Decimal.{counting_first, counting_more, counting_few, counting_all}
use Rattle.lines.proofs.width.Goals as goal

pub loop-m-init : goal.loop-m-init
loop-m-init c = counting_first _ (search rules)

pub overflow_add-w : goal.overflow_add-w
overflow_add-w c = omega (arith, counting_few _ _ _ c.loop-m.invariant)

pub loop-m-preserved : goal.loop-m-preserved
loop-m-preserved c = counting_more _ _ _ c.loop-m.invariant (omega arith)

pub returns : goal.returns
returns c = counting_all _ _ _ c.loop-m.invariant (omega arith)
