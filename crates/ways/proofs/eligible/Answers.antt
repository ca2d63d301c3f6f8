-- By whether it may leave on local faces alone.
use Rattle.sizes.specs.Sizes.{most_faces}
use Rattle.ways.specs.Laws.Eligible.{eligible_local, eligible_all}
use Rattle.ways.proofs.eligible.Goals as goal

pub returns-then-stays_local : goal.returns-then-stays_local
returns-then-stays_local c =
    λ n a x y z w.
    eligible_local most_faces n a _ _ _ _ _ x y z w _ _ c.others-set.ensures
    c.stays_local.ensures _ _ c.if-stays_local.true c.all_local.ensures
    c.common.ensures

pub returns-else-stays_local : goal.returns-else-stays_local
returns-else-stays_local c =
    λ n a x y z w.
    eligible_all most_faces n a _ _ _ _ _ x y z w _ _ c.others-set.ensures c.stays_local.ensures c.if-stays_local.false
