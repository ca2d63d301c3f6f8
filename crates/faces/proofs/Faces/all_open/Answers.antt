-- The open faces are those of their set.
use mathlib.Core.Path.{sym, ◌∙◌}
use Rattle.sizes.specs.Sizes.{most_faces}
use Rattle.faces.specs.Laws.Set.{where_ext}
use Rattle.faces.specs.Laws.View.{open_is}
use Rattle.faces.proofs.Faces.all_open.Goals as goal

pub returns : goal.returns
returns c = c.members.ensures ∙ where_ext most_faces _ _ (λ f _. sym (open_is most_faces f c.args.self))
