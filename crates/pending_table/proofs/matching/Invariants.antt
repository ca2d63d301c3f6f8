-- The loop's invariant: of the rows that are not left those stay that match.
use Prim.Native.Nat.{ℕ}
use mathlib.Core.List.{List}
use Rattle.sizes.specs.Sizes.{most_faces, most_entries}
use Rattle.records.specs.Entry.{matches}
use Rattle.pending_order.specs.Places.Gives.{lowest_row}
use Rattle.pending_order.specs.Laws.Choose.{Choosing}
use Rattle.pending_table.specs.Places.View.{row_at}
use Rattle.pending_table.proofs.matching.Given as goal

abbrev pub invariant-loop-row : goal.invariant-loop-row
invariant-loop-row l =
    let left = l.row-iterator.left in
    (r : List (List (List ℕ)))
    → Choosing most_entries (λ i. matches l.name (row_at most_faces l.names l.heads r i)) l.used left l.rows (lowest_row left)
