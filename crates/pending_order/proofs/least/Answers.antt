-- The loop's invariant: of the rows that are not left, the best was opened first.
use mathlib.Core.Path.{refl, ◌∙◌}
use mathlib.Core.Bool.{true}
use Rattle.laws.specs.Laws.Digits.{lowest}
use Rattle.sizes.specs.Sizes.{most_entries}
use Rattle.pending_order.specs.Laws.Table.{first_of_all}
use Rattle.pending_order.specs.Laws.Walk.{passed_start, passed_yes, passed_end}
use Rattle.pending_order.proofs.least.Goals as goal

pub loop-row-init : goal.loop-row-init
loop-row-init c =
    rw (c.into_iter-row-iterator.ensures.into_iter_gives, c.of-row-items.ensures)
    (passed_start most_entries _ _ _ _ (lowest most_entries _))

pub loop-row-preserved : goal.loop-row-preserved
loop-row-preserved c =
    let l = c.loop-row in
    let w = c.in-Some.ensures.steps in
    rw (w.2, c.better_row-best.ensures)
    (passed_yes most_entries _ _ _ l.row-iterator.left l.best c.in-Some.row _ (rw (← w.1) at l.invariant) w.0 (lowest most_entries _) refl)

pub returns : goal.returns
returns c =
    let a = c.args in
    let l = c.loop-row in
    passed_end most_entries a.numbers.now (λ _. true) a.mask l.row-iterator.left l.best _ l.invariant c.in-None.ensures.steps.0
    ∙ first_of_all most_entries a.numbers.now a.mask
