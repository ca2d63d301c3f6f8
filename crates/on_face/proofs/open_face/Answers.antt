-- Refused where it begins, or on from the aged node by what the command makes of it.
use mathlib.Core.Path.{refl}
use Rattle.event.specs.Places.Begins.{began}
use Rattle.event.specs.Laws.Comes.{comes_is, step_refused, step_on}
use Rattle.on_face.specs.Laws.Comes.{comes_faces}
use Rattle.on_face.specs.Laws.Faces.{open_bad}
use Rattle.on_face.proofs.open_face.Goals as goal

pub returns-in-Err : goal.returns-in-Err
unfolding began
returns-in-Err c =
    λ r s.
    comes_is _ _ _ _ _ _ _ c.quiet.ensures
    (step_refused _ _ _ _ _ _ _ _ _ _ (open_bad _ _ _ _ _ c.is_no_face-bad.ensures) (c.in-Err.ensures.begun _ r s) c.in-Err.ensures.refused)

pub returns-in-Ok : goal.returns-in-Ok
unfolding began
returns-in-Ok c =
    λ r s.
    step_on _ _ _ _ _ _ _ _ _ _ (open_bad _ _ _ _ _ c.is_no_face-bad.ensures)
    (c.in-Ok.ensures.begun _ r s) _ _ _ refl
    (λ _. comes_faces _ _ _ _ _ _ _ _ _ c.opening-then.ensures (rw c.err.ensures.value at c.unwrap_or.ensures)
    c.quiet-in-Ok.ensures)
