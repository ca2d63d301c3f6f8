-- `width` meets its contract. The loop's invariant: the digits counted and those of what is left are those of the number, and one. The
-- measure is what is left.
use Rattle.lines.specs.Laws.Decimal.{Counting}
use Rattle.lines.proofs.width.Given as goal

abbrev pub invariant-loop-m : goal.invariant-loop-m
invariant-loop-m l = Counting l.n l.w l.m

abbrev pub decreases-loop-m : goal.decreases-loop-m
decreases-loop-m l = l.m
