-- The faces that are open and local are those of both sets.
use mathlib.Core.Path.{sym, ◌∙◌}
use Rattle.sizes.specs.Sizes.{most_faces}
use Rattle.faces.specs.Laws.Set.{where_ext}
use Rattle.faces.specs.Laws.View.{local_is}
use Rattle.faces.proofs.Faces.all_local.Goals as goal

pub returns : goal.returns
returns c = c.common.ensures ∙ where_ext most_faces _ _ (λ f _. sym (local_is most_faces f c.args.self))
