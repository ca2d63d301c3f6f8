-- The set of the open faces loses the face.
use mathlib.Core.Path.{refl}
use Rattle.faces.specs.Laws.View.{with_closed}
use Rattle.faces.proofs.Faces.with_closed.Goals as goal

pub returns : goal.returns
returns c = with_closed _ _ c.args.self _ c.remove.ensures refl refl refl
