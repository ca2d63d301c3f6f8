-- With the i digits that are left stored too, the buffer is as it is to be.
use Rattle.lines.specs.Laws.Put.{Filling}
use Rattle.lines.proofs.store_decimal.Given as goal

abbrev pub invariant-loop-i : goal.invariant-loop-i
invariant-loop-i l = Filling l.initial.out l.at l.n l.out l.i l.m
