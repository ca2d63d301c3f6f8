-- The loop's invariant: of the rows that are not left, the best was opened first.
use mathlib.Core.Bool.{true}
use Rattle.sizes.specs.Sizes.{most_entries}
use Rattle.pending_order.specs.Places.Gives.{lowest_row}
use Rattle.pending_order.specs.Laws.Walk.{Passed}
use Rattle.pending_order.proofs.least.Given as goal

abbrev pub invariant-loop-row : goal.invariant-loop-row
invariant-loop-row l =
    let left = l.row-iterator.left in
    Passed most_entries l.numbers (λ _. true) l.mask left l.best (lowest_row left)
