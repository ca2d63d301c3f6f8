-- The loop's invariant: what was counted, and the entries of the rows that are left, are all, whatever names, records and numbers are.
use Rattle.std.specs.Prelude.{ℕ, List}
use Rattle.sizes.specs.Sizes.{most_faces}
use Rattle.pending_order.specs.Places.Gives.{lowest_row}
use Rattle.pending_table.specs.Laws.Room.{Counting}
use Rattle.pending_table.proofs.use_by_class.Given as goal

abbrev pub invariant-loop-row : goal.invariant-loop-row
invariant-loop-row l =
    let left = l.row-iterator.left in
    (n : List (List ℕ)) (r : List (List (List ℕ))) (k : List ℕ)
    → Counting most_faces n l.heads r k (record { used = l.used }) l.uses left (lowest_row left)
