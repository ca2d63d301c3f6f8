-- The loop's invariant: of the rows that are not left those stay that match.
use Prim.Native.Nat.{ℕ}
use mathlib.Core.Bool.{Bool}
use mathlib.Core.Path.{◌∙◌}
use mathlib.Core.List.{[]}
use lib.ListN.{get_or}
use Rattle.laws.specs.Laws.Digits.{lowest}
use Rattle.sizes.specs.Sizes.{most_faces, most_entries}
use Rattle.records.specs.Entry.{matches}
use Rattle.pending_order.specs.Laws.Choose.{choosing_start, choosing_turn, choosing_end}
use Rattle.pending_table.specs.Places.View.{row_at, marks_where}
use Rattle.pending_table.proofs.matching.Goals as goal

pub loop-row-init : goal.loop-row-init
loop-row-init c =
    rw (c.into_iter-row-iterator.ensures.into_iter_gives, c.of-row-items.ensures)
    (λ r. choosing_start most_entries _ _ _ (lowest most_entries _))

pub loop-row-preserved : goal.loop-row-preserved
unfolding row_at
loop-row-preserved c =
    let a = c.args in
    let l = c.loop-row in
    let g = c.in-Some.ensures.steps in
    let row = c.in-Some.row in
    λ r.
    let q : (ℕ → Bool) = (λ i. matches a.name.now (row_at most_faces a.names.now a.heads.now r i)) in
    rw g.2
    (choosing_turn most_entries q a.used l.row-iterator.left l.rows row _ _ (rw (← g.1) at (l.invariant r)) g.0 (lowest most_entries _)
    (c.kept-rows.ensures ∙ rw (c.is_match.ensures (get_or r row []))))

pub returns : goal.returns
returns c =
    let a = c.args in
    let l = c.loop-row in
    λ r k.
    let q : (ℕ → Bool) = (λ i. matches a.name.now (row_at most_faces a.names.now a.heads.now r i)) in
    marks_where most_faces a.names.now a.heads.now r k (record { used = a.used }) _ (matches a.name.now)
    (choosing_end most_entries q a.used l.row-iterator.left l.rows _ (l.invariant r) c.in-None.ensures.steps.0)
