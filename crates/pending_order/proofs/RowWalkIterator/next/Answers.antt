-- The lowest row is given, and a smaller set is left.
use native.Mathlib.Omega.{arith}
use Rattle.std.proofs.Common.{rules, ◌<◌}
use Rattle.laws.specs.Laws.Digits.{lowest}
use Rattle.sizes.specs.Sizes.{most_entries}
use Rattle.pending_order.specs.Laws.Walk.{digit_less}
use Rattle.pending_order.proofs.RowWalkIterator.next.Goals as goal

pub returns-clause-goes : goal.returns-clause-goes
returns-clause-goes c =
    let left = c.args.self.now.left in
    let l : c.remove-self.result < left =
    rw c.remove-self.ensures (digit_less most_entries left _ (lowest most_entries left) (omega arith)) in
    record { keeps = search rules; on = λ i. search (rules, l); rests = search rules }
