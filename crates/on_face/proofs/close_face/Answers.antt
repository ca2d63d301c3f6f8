-- Refused where it begins, or on from the aged node by what the command makes of it.
use mathlib.Core.Path.{refl}
use Rattle.event.specs.Memory.{node_of}
use Rattle.event.specs.Places.Begins.{began}
use Rattle.event.specs.Laws.Comes.{comes_is, step_refused, step_on}
use Rattle.event.specs.Laws.Rows.{begun_closing}
use Rattle.on_face.specs.Laws.Closing.{comes_closed}
use Rattle.on_face.specs.Laws.Faces.{close_bad}
use Rattle.routes.specs.Lent.{dropping_now}
use Rattle.on_face.proofs.close_face.Goals.{in-Err, in-Ok}
use Rattle.on_face.proofs.close_face.Goals as goal

pub returns : goal.returns
unfolding began node_of
returns c =
    let a = c.args in
    let known = dropping_now a.known in
    λ s.
    elim c.match-begins.branch [
      | in-Err w ↦
          rw (w.faces-is, w.routes-is, w.nonces-is, w.rows-is, w.heads-is, w.used-is, w.result-is)
          (comes_is _ _ _ _ _ _ _ w.quiet.ensures
          (step_refused _ _ _ _ _ _ _ _ _ _ (close_bad _ _ _ c.is_not_open-bad.ensures) (w.in-Err.ensures.begun _ _ s)
          w.in-Err.ensures.refused))
      | in-Ok w ↦
          rw (w.faces-is, w.routes-is, w.nonces-is, w.rows-is, w.heads-is, w.used-is, w.result-is)
          (step_on _ _ _ _ _ _ _ _ _ _ (close_bad _ _ _ c.is_not_open-bad.ensures)
          (w.in-Ok.ensures.begun a.faces.now known s) _ _ _ refl
          (λ _. comes_closed _ _ _ _ _ _ _ _ _ _ _ _ _ _
          w.with_closed.ensures
          (w.drop_face.ensures _ _ _)
          w.close_face-noted.ensures
          (begun_closing _ _ _ _ _ (w.in-Ok.ensures.begun a.faces.now known s) refl _) w.quiet-in-Ok.ensures))
    ]
