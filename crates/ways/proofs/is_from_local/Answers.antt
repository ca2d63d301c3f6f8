-- By the set of the faces that ask and are local.
use Rattle.sizes.specs.Sizes.{most_faces}
use Rattle.pending_table.specs.Places.View.{view_wide}
use Rattle.ways.specs.Laws.Local.{local_held}
use Rattle.ways.proofs.is_from_local.Goals as goal

pub returns : goal.returns
returns c =
    λ n x.
    local_held most_faces n _ _ _ _ _ x (λ e y. (view_wide most_faces _ _ _ _ _ _ e y).0) c.asking_faces.ensures
    c.all_local.ensures c.common.ensures
