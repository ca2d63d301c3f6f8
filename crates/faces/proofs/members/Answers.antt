-- The remainder has the digits of the faces and no others.
use mathlib.Core.Path.{sym}
use Rattle.sizes.specs.Sizes.{most_faces}
use Rattle.faces.specs.Laws.Set.{where_mod}
use Rattle.faces.proofs.members.Goals as goal

pub returns : goal.returns
returns c = sym (where_mod most_faces c.args.set)
