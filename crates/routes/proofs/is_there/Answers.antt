-- A handle stands for a route where its place is before the last.
use Rattle.sizes.specs.Sizes.{most_faces}
use Rattle.routes.specs.Places.View.{is_found}
use Rattle.routes.proofs.is_there.Goals as goal

pub returns : goal.returns
returns c = λ t e. rw (c.cut.ensures, ← e) (is_found most_faces t c.args.route)
