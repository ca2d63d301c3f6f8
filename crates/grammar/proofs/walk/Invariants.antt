-- The invariant says which fields are met so far; one law each for the start, an element, a fault and the end.
use Rattle.std.proofs.Common.{◌-◌, length}
use Rattle.grammar.specs.Laws.Walk.{Walking}
use Rattle.grammar.proofs.walk.Given as goal

abbrev pub invariant-loop-cursor : goal.invariant-loop-cursor
invariant-loop-cursor l = Walking l.parent l.s l.cursor.at l.said l.last l.places

abbrev pub decreases-loop-cursor : goal.decreases-loop-cursor
decreases-loop-cursor l = length l.s - l.cursor.at
