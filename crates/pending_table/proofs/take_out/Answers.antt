-- One row is no longer used.
use Rattle.sizes.specs.Sizes.{most_faces}
use Rattle.pending_table.specs.Places.View.{view_taken}
use Rattle.pending_table.proofs.take_out.Goals as goal

pub returns : goal.returns
returns c = λ n hs r k. view_taken most_faces n hs r k (record { used = c.args.used.now }) c.args.h _ c.remove.ensures
