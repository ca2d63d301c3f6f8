-- A table of no used rows has no entries.
use Rattle.sizes.specs.Sizes.{most_faces}
use Rattle.pending_table.specs.Places.View.{view_empty}
use Rattle.pending_table.proofs.none.Goals as goal

pub returns : goal.returns
returns c = λ n hs r k. view_empty most_faces n hs r k
