-- The word and the numbers passed are stored.
use Rattle.lines.specs.Laws.Put.{Storing}
use Rattle.lines.proofs.store_line.Given as goal

abbrev pub invariant-loop-n : goal.invariant-loop-n
invariant-loop-n l = Storing l.fn.out l.at l.word l.numbers l.out l.end l.n-index
