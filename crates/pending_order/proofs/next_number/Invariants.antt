-- The loop's invariant: the number above all is above the largest so far and those that are left.
use Prim.Native.Nat.{◌<◌}
use Rattle.sizes.specs.Sizes.{most_entries}
use Rattle.pending_order.specs.Places.Gives.{lowest_row}
use Rattle.pending_order.specs.Laws.Walk.{Largest}
use Rattle.pending_order.specs.Places.Rows.{above_of}
use Rattle.pending_order.proofs.next_number.Given as goal

abbrev pub invariant-loop-row : goal.invariant-loop-row
invariant-loop-row l =
    let left = l.row-iterator.left in
    Largest most_entries l.numbers l.used left l.most (lowest_row left) × (0 < above_of most_entries l.numbers l.used)
