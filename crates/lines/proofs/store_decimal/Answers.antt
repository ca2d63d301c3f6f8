-- A turn stores the last of the digits left.
use Rattle.lines.specs.Laws.Put.{filling_none, filling_more, filling_all}
use Rattle.lines.proofs.store_decimal.Goals as goal

pub loop-i-init : goal.loop-i-init
loop-i-init c = filling_none _ _ _ _ c.width-w.ensures.0

pub loop-i-preserved : goal.loop-i-preserved
loop-i-preserved c = filling_more _ _ _ _ _ _ c.loop-i.invariant c.loop-i-test.true

pub returns : goal.returns
returns c = filling_all _ _ _ _ _ _ _ c.loop-i.invariant c.loop-i-test.false c.width-w.ensures.0
