-- Each group stands ahead of the one before it.
use Rattle.std.proofs.Common.{length, ◌-◌}
use Rattle.groundout.proofs.groups.Given as goal

abbrev pub decreases-loop-at : goal.decreases-loop-at
decreases-loop-at g l = length l.s - l.at
