-- By whether there is a HopLimit.
use borrow.Author.Rules.{rules}
use Rattle.ways.specs.Laws.Hop.{zero_said}
use Rattle.ways.proofs.is_zero.Goals as goal

pub returns : goal.returns
returns c = zero_said _ c.args.hop (search rules)
