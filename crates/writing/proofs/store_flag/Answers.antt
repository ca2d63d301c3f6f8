-- `store_flag` meets its contract: a flag that is set is a head that announces no value.
use Rattle.writing.specs.Laws.Stored.{head_alone, stored_none}
use Rattle.writing.specs.Written.{flag}
use Rattle.laws.specs.Pick.{pick}
use Rattle.writing.proofs.store_flag.Goals as goal

pub store_head-requires : goal.store_head-requires
unfolding flag pick
store_head-requires c = rw (head_alone c.args.typ) (rw c.if-on.true at c.requires)

pub returns-then-on : goal.returns-then-on
unfolding flag pick
returns-then-on c = rw (c.if-on.true, ← head_alone c.args.typ) c.store_head.ensures

pub returns-else-on : goal.returns-else-on
unfolding flag pick
returns-else-on c = rw c.if-on.false (stored_none _ _)
