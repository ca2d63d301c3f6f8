-- The loop's invariant: the rows that are left are to be numbered from `next` on.
use native.Mathlib.Omega.{arith}
use Rattle.sizes.specs.Sizes.{most_entries}
use Rattle.pending_order.specs.Laws.Table.{rows_here}
use Rattle.pending_order.specs.Laws.Walk.{numbering_start, numbering_turn, numbering_end, removed_less}
use Rattle.pending_order.proofs.renumber.Goals as goal

pub loop-row-init : goal.loop-row-init
loop-row-init c = numbering_start most_entries _ _ _ c.least-row.ensures

pub loop-row-smaller : goal.loop-row-smaller
loop-row-smaller c =
    let l = c.loop-row in
    rw c.remove-left.ensures
    (removed_less l.row l.left (rows_here most_entries _ l.left l.row l.invariant.at (omega arith)))

pub loop-row-preserved : goal.loop-row-preserved
loop-row-preserved c =
    let l = c.loop-row in
    rw c.remove-left.ensures
    (numbering_turn most_entries _ _ _ l.left l.next l.row l.invariant (omega arith) _
    (rw c.remove-left.ensures at c.least-row-in-loop-row.ensures))

pub returns : goal.returns
returns c =
    let l = c.loop-row in
    numbering_end most_entries _ _ _ l.left l.next l.row l.invariant (omega arith)
