-- One row is no longer chosen.
use Rattle.pending_table.specs.Places.View.{state, marks_rest}
use Rattle.pending_table.proofs.rest.Goals as goal

pub returns : goal.returns
returns c = λ p. marks_rest p.numbers (state p) c.args.c c.args.h _ c.remove.ensures
