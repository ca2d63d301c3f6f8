-- The faces that are open and ad hoc are those of both sets that are not point-to-point.
use mathlib.Core.Path.{sym, ◌∙◌}
use Prim.Native.Nat.{ℕ}
use mathlib.Core.Bool.{Bool, ◌&&◌}
use Rattle.sizes.specs.Sizes.{most_faces}
use Rattle.faces.specs.Set.{has_face}
use Rattle.faces.specs.Laws.Set.{where_ext, where_has}
use Rattle.faces.specs.Laws.View.{adhoc_is, but_is}
use Rattle.faces.proofs.Faces.all_ad_hoc.Goals as goal

pub returns : goal.returns
returns c =
    let a = c.args.self in
    let both : (ℕ → Bool) = (λ g. has_face most_faces a.open g && has_face most_faces a.adhoc g) in
    c.less.ensures
    ∙ where_ext most_faces _ _
    (λ f e.
    rw (c.common.ensures, where_has most_faces f both e)
    (but_is (has_face most_faces a.open f) (has_face most_faces a.adhoc f) (has_face most_faces a.peer f)
    ∙ sym (adhoc_is most_faces f a)))
