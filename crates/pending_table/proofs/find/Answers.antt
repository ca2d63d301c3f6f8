-- The loop's invariant: of the rows that are not left, the best is the first opened that is known.
use Prim.Native.Nat.{ℕ}
use mathlib.Core.Bool.{Bool}
use mathlib.Core.Path.{sym, ◌∙◌}
use Rattle.laws.specs.Laws.Digits.{lowest}
use Rattle.sizes.specs.Sizes.{most_faces, most_entries}
use Rattle.records.specs.Entry.{is_known}
use Rattle.pending_order.specs.Laws.Walk.{passed_start, passed_yes, passed_no, passed_end}
use Rattle.pending_table.specs.Places.View.{row_at, view_finds}
use Rattle.pending_table.proofs.find.Goals as goal

pub loop-row-init : goal.loop-row-init
loop-row-init c =
    λ r.
    rw (c.into_iter-row-iterator.ensures.into_iter_gives, c.of-row-items.ensures)
    (passed_start most_entries _ _ _ _ (lowest most_entries _))

pub loop-row-preserved-then-is_known : goal.loop-row-preserved-then-is_known
unfolding row_at
loop-row-preserved-then-is_known c =
    let a = c.args in
    λ r.
    let l = c.loop-row in
    let g = c.in-Some.ensures.steps in
    let q : (ℕ → Bool) = (λ i. is_known a.name.now a.prefix a.fresh (row_at most_faces a.names.now a.heads.now r i)) in
    rw (g.2, c.better_row-best.ensures)
    (passed_yes most_entries a.numbers.now q a.used l.row-iterator.left l.best c.in-Some.row _ (rw (← g.1) at (l.invariant r)) g.0
    (lowest most_entries _) (sym (c.is_known.ensures _) ∙ c.if-is_known.true))

pub loop-row-preserved : goal.loop-row-preserved
unfolding row_at
loop-row-preserved c =
    let a = c.args in
    λ r.
    let l = c.loop-row in
    let g = c.in-Some.ensures.steps in
    let q : (ℕ → Bool) = (λ i. is_known a.name.now a.prefix a.fresh (row_at most_faces a.names.now a.heads.now r i)) in
    rw g.2
    (passed_no most_entries a.numbers.now q a.used l.row-iterator.left l.best c.in-Some.row _ (rw (← g.1) at (l.invariant r)) g.0
    (lowest most_entries _) (sym (c.is_known.ensures _) ∙ c.if-is_known.false))

pub returns : goal.returns
returns c =
    let a = c.args in
    λ r.
    let l = c.loop-row in
    let q : (ℕ → Bool) = (λ i. is_known a.name.now a.prefix a.fresh (row_at most_faces a.names.now a.heads.now r i)) in
    view_finds most_faces a.names.now a.heads.now r a.numbers.now (record { used = a.used }) (is_known a.name.now a.prefix a.fresh) _
    (passed_end most_entries a.numbers.now q a.used l.row-iterator.left l.best _ (l.invariant r) c.in-None.ensures.steps.0)
