-- The set of one face, or of none.
use Rattle.sizes.specs.Sizes.{most_faces}
use Rattle.pending_pass.specs.Laws.Faces.{met_one, met_none}
use Rattle.pending_pass.proofs.self_met.Goals as goal

pub returns-then-adhoc : goal.returns-then-adhoc
returns-then-adhoc c = λ g y. rw c.if-adhoc.true (met_none most_faces _ g)

pub returns-else-adhoc : goal.returns-else-adhoc
returns-else-adhoc c = λ g y. rw (c.add.ensures, c.if-adhoc.false) (met_one most_faces _ g y)
