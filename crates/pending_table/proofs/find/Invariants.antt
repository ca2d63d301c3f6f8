-- The loop's invariant: of the rows that are not left, the best is the first opened that is known.
use Prim.Native.Nat.{ℕ}
use mathlib.Core.List.{List}
use Rattle.sizes.specs.Sizes.{most_faces, most_entries}
use Rattle.records.specs.Entry.{is_known}
use Rattle.pending_order.specs.Places.Gives.{lowest_row}
use Rattle.pending_order.specs.Laws.Walk.{Passed}
use Rattle.pending_table.specs.Places.View.{row_at}
use Rattle.pending_table.proofs.find.Given as goal

abbrev pub invariant-loop-row : goal.invariant-loop-row
invariant-loop-row l =
    let left = l.row-iterator.left in
    (r : List (List (List ℕ)))
    → Passed most_entries l.numbers (λ i. is_known l.name l.prefix l.fresh (row_at most_faces l.names l.heads r i)) l.used left
    l.best (lowest_row left)
