-- The callee's number, or 0.
use mathlib.Core.Path.{refl}
use Rattle.laws.specs.Pick.{pick}
use Rattle.tapes.specs.Places.Event.{may_at}
use Rattle.tapes.proofs.may_at.Goals as goal

pub returns-then-has : goal.returns-then-has
unfolding may_at pick
returns-then-has c = rw c.if-has.true c.number_at.ensures

pub returns-else-has : goal.returns-else-has
unfolding may_at pick
returns-else-has c = rw c.if-has.false refl
