-- The first of the rows that are used and chosen.
use Rattle.pending_table.specs.Places.View.{marks_next}
use Rattle.pending_table.proofs.next.Goals as goal

pub returns : goal.returns
returns c = λ n hs r. marks_next c.args.numbers.now (record { used = c.args.used }) c.args.c _ c.least.ensures
