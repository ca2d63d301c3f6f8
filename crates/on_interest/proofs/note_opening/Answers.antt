-- By whether the face has a request.
use Rattle.sizes.specs.Sizes.{most_faces}
use Rattle.pending_table.specs.Places.View.{view_wide}
use Rattle.on_interest.specs.Laws.Noted.{noted_not, noted_opened}
use Rattle.on_interest.proofs.note_opening.Goals as goal

pub returns-then-has : goal.returns-then-has
returns-then-has c t e at w =
    noted_not e _ _ _ _ _ t _ _ (view_wide most_faces _ _ _ _ _ _ e at).0 at c.asking_faces.ensures _ c.has.ensures c.if-has.true

pub returns-else-has : goal.returns-else-has
returns-else-has c t e at w =
    noted_opened e _ _ _ _ _ t _ _ (view_wide most_faces _ _ _ _ _ _ e at).0 at c.asking_faces.ensures _ _ _ _ c.has.ensures
    c.if-has.false w c.note_fate.ensures
