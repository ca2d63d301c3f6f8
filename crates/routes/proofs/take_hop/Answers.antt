-- The row's set loses the face; a number that is no face takes none out.
use Rattle.sizes.specs.Sizes.{most_faces}
use Rattle.routes.specs.Laws.Hop.{row_take}
use Rattle.routes.proofs.take_hop.Goals as goal

pub returns : goal.returns
returns c = λ name costs. rw c.remove-row.ensures (row_take most_faces c.args.face name c.args.row.now costs)
