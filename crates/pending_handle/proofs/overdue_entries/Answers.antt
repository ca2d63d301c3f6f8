-- The loop's invariant: of the rows that are not left those stay that ageing concerns.
use Prim.Native.Nat.{ℕ}
use mathlib.Core.Bool.{Bool}
use mathlib.Core.Path.{◌∙◌}
use mathlib.Core.List.{[]}
use lib.ListN.{get_or}
use Rattle.laws.specs.Laws.Digits.{lowest}
use Rattle.sizes.specs.Sizes.{most_faces, most_entries}
use Rattle.pending_order.specs.Laws.Choose.{choosing_start, choosing_turn, choosing_end}
use Rattle.pending_table.specs.Places.View.{state, row_at, marks_where}
use Rattle.pending_table.specs.Places.Parts.{seen}
use Rattle.pending_handle.specs.Operations.{is_due}
use Rattle.pending_handle.proofs.overdue_entries.Goals as goal

pub loop-row-init : goal.loop-row-init
loop-row-init c =
    rw (c.into_iter-row-iterator.ensures.into_iter_gives, c.of-row-items.ensures)
    (choosing_start most_entries _ _ _ (lowest most_entries _))

pub loop-row-preserved : goal.loop-row-preserved
unfolding row_at
loop-row-preserved c =
    let p = seen c.args.t in
    let l = c.loop-row in
    let q : (ℕ → Bool) = (λ i. is_due c.args.time (row_at most_faces p.names p.heads p.recs i)) in
    let g = c.in-Some.ensures.steps in
    let row = c.in-Some.row in
    rw g.2
    (choosing_turn most_entries q p.used l.row-iterator.left l.rows row _ _ (rw (← g.1) at l.invariant) g.0 (lowest most_entries _)
    (c.kept-rows.ensures ∙ rw (c.is_due.ensures (get_or p.names row []))))

pub returns : goal.returns
returns c =
    let p = seen c.args.t in
    let l = c.loop-row in
    let q : (ℕ → Bool) = (λ i. is_due c.args.time (row_at most_faces p.names p.heads p.recs i)) in
    marks_where most_faces p.names p.heads p.recs p.numbers (state p) _ (is_due c.args.time)
    (choosing_end most_entries q p.used l.row-iterator.left l.rows _ l.invariant c.in-None.ensures.steps.0)
