-- Types, then lengths, then bytes decide.
use Rattle.std.proofs.Common.{◌≡◌, take, drop, rules}
use Rattle.std.specs.Ordering.{MatchOrdering}
use Rattle.std.specs.declared.cmp.Ordering.{Ordering}
use Rattle.names.specs.Order.{lexical}
use Rattle.names.specs.Laws.Order.{components_then}
use Rattle.names.proofs.order.compare_components.Goals as goal

pub returns : goal.returns
returns c =
    let s = c.args in
    let r = c.then_with.result in
    let h : MatchOrdering c.then.result (r ≡ Ordering.Less) (r ≡ lexical (take s.x.len (drop s.x.at s.a.now)) (take s.y.len (drop s.y.at s.b.now))) (r ≡ Ordering.Greater) = search rules in
    components_then _ _ _ _ c.requires.0 c.requires.1 _ (rw (c.then.ensures, c.cmp.ensures, c.cmp-2.ensures) at h)
