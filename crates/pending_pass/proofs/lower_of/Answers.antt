-- The lower of two, where there are two.
use Rattle.laws.specs.Pick.{pick}
use Rattle.pending_pass.specs.Places.Lowering.{lower_word}
use Rattle.pending_pass.proofs.lower_of.Goals as goal

pub returns-then-had : goal.returns-then-had
unfolding lower_word pick
returns-then-had c = rw c.if-had.true c.min.ensures

pub returns-else-had : goal.returns-else-had
unfolding lower_word pick
returns-else-had c = rw c.if-had.false
