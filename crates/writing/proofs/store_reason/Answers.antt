-- `store_reason` meets its contract: a NackReason that is not left out is an element of one byte.
use Rattle.writing.specs.Laws.Stored.{stored_none}
use Rattle.writing.specs.Written.{reason_bytes}
use Rattle.laws.specs.Pick.{pick}
use borrow.Author.Tests.{eq-eqb, ne_eqb}
use Rattle.writing.proofs.store_reason.Goals as goal

pub returns-then-reason-eq0 : goal.returns-then-reason-eq0
unfolding reason_bytes pick
returns-then-reason-eq0 c = rw (eq-eqb c.args.reason 0 c.if-reason-eq0.true) (stored_none _ _)

pub store_element-requires : goal.store_element-requires
unfolding reason_bytes pick
store_element-requires c = rw (ne_eqb c.args.reason 0 c.if-reason-eq0.false) at c.requires

pub returns-else-reason-eq0 : goal.returns-else-reason-eq0
unfolding reason_bytes pick
returns-else-reason-eq0 c = rw (ne_eqb c.args.reason 0 c.if-reason-eq0.false) c.store_element.ensures
