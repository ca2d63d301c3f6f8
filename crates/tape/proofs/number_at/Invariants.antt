-- The invariant says that the groups passed stand in front of those at i.
use Rattle.tape.specs.Laws.Number.{Passing}
use Rattle.tape.proofs.number_at.Given as goal

abbrev pub invariant-loop-i : goal.invariant-loop-i
invariant-loop-i l = Passing l.s l.at l.i l.v l.unit
