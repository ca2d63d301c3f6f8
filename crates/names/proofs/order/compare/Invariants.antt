-- The components that are left of both decide.
use Rattle.std.proofs.Common.{◌≡◌, ◌-◌, length}
use Rattle.names.specs.Order.{canonical, canonical_order}
use Rattle.names.specs.Laws.Order.{components_from}
use Rattle.names.proofs.order.compare.Given as goal

abbrev pub invariant-loop-x : goal.invariant-loop-x
invariant-loop-x l = canonical (components_from l.a l.i.at) (components_from l.b l.j.at) ≡ canonical_order l.a l.b

abbrev pub decreases-loop-x : goal.decreases-loop-x
decreases-loop-x l = length l.a - l.i.at
