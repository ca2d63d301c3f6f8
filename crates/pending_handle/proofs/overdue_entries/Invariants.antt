-- The loop's invariant: of the rows that are not left those stay that ageing concerns.
use Rattle.sizes.specs.Sizes.{most_faces, most_entries}
use Rattle.pending_order.specs.Places.Gives.{lowest_row}
use Rattle.pending_order.specs.Laws.Choose.{Choosing}
use Rattle.pending_table.specs.Places.View.{row_at}
use Rattle.pending_table.specs.Places.Parts.{seen}
use Rattle.pending_handle.specs.Operations.{is_due}
use Rattle.pending_handle.proofs.overdue_entries.Given as goal

abbrev pub invariant-loop-row : goal.invariant-loop-row
invariant-loop-row l =
    let p = seen l.t in
    let left = l.row-iterator.left in
    Choosing most_entries (λ i. is_due l.time (row_at most_faces p.names p.heads p.recs i)) p.used left l.rows (lowest_row left)
