-- By whether there is a HopLimit.
use borrow.Author.Rules.{rules}
use Rattle.ways.specs.Laws.Hop.{spent_said}
use Rattle.ways.proofs.is_spent.Goals as goal

pub returns : goal.returns
returns c = spent_said _ c.args.hop (search rules)
