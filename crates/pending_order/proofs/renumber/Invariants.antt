-- The loop's invariant: the rows that are left are to be numbered from `next` on.
use Rattle.sizes.specs.Sizes.{most_entries}
use Rattle.pending_order.specs.Laws.Walk.{Numbering}
use Rattle.pending_order.proofs.renumber.Given as goal

abbrev pub invariant-loop-row : goal.invariant-loop-row
invariant-loop-row l = Numbering most_entries l.initial.numbers l.used l.numbers l.left l.next l.row

abbrev pub decreases-loop-row : goal.decreases-loop-row
decreases-loop-row l = l.left
