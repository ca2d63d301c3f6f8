-- The faces of a set that the other has not.
use Rattle.std.proofs.Common.{◌∙◌, arith}
use Rattle.sizes.specs.Sizes.{most_faces}
use Rattle.faces.specs.Laws.Set.{where_ext, has_less, and_not_is}
use Rattle.faces.proofs.less.Goals as goal

pub returns : goal.returns
returns c =
    let a = c.args in
    c.members.ensures
    ∙ where_ext most_faces _ _ (λ f _. rw (and_not_is a.a a.b (omega arith) (omega arith)) (has_less most_faces a.a a.b f))
