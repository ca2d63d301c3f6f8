-- The byte is replaced where there is one.
use Rattle.laws.specs.Pick.{pick}
use borrow.Author.Tests.{lt-ltb, le-ltb}
use Rattle.writing.proofs.lower.Goals as goal

pub returns-then-hop-len : goal.returns-then-hop-len
unfolding pick
returns-then-hop-len c = rw (lt-ltb c.args.hop.at c.args.len c.if-hop-len.true, c.saturating_sub.ensures)

pub returns-else-hop-len : goal.returns-else-hop-len
unfolding pick
returns-else-hop-len c = rw (le-ltb c.args.hop.at c.args.len c.if-hop-len.false)
