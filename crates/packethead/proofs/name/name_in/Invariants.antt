-- The first Name from the place on is the first of all: that is the invariant, and each arm of a turn is one law.
use Rattle.std.proofs.Common.{◌-◌, length}
use Rattle.packethead.specs.Laws.Find.{Finding}
use Rattle.packethead.proofs.name.name_in.Given as goal

abbrev pub invariant-loop-cursor : goal.invariant-loop-cursor
invariant-loop-cursor l = Finding l.v l.cursor.at

abbrev pub decreases-loop-cursor : goal.decreases-loop-cursor
decreases-loop-cursor l = length l.v - l.cursor.at
