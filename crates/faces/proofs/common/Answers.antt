-- The faces of the machine's `and` are those that are in both sets.
use mathlib.Core.Path.{◌∙◌}
use Rattle.sizes.specs.Sizes.{most_faces}
use Rattle.faces.specs.Laws.Set.{where_ext, has_and}
use Rattle.faces.proofs.common.Goals as goal

pub returns : goal.returns
returns c = c.members.ensures ∙ where_ext most_faces _ _ (λ f _. has_and most_faces c.args.a c.args.b f)
