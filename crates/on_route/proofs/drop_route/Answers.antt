-- Refused where it begins, or on from the aged node by what the command makes of it.
use mathlib.Core.Path.{refl}
use Rattle.event.specs.Places.Begins.{began}
use Rattle.event.specs.Laws.Comes.{comes_is, step_refused, step_on}
use Rattle.on_route.specs.Laws.Comes.{comes_routes}
use Rattle.on_route.specs.Laws.Faces.{drop_bad}
use Rattle.on_route.proofs.drop_route.Goals as goal

pub returns-in-Err : goal.returns-in-Err
unfolding began
returns-in-Err c =
    λ f s.
    comes_is _ _ _ _ _ _ _ c.quiet.ensures
    (step_refused _ _ _ _ _ _ _ _ _ _ (drop_bad _ _) (c.in-Err.ensures.begun f _ s) c.in-Err.ensures.refused)

pub returns-in-Ok : goal.returns-in-Ok
unfolding began
returns-in-Ok c =
    λ f s.
    step_on _ _ _ _ _ _ _ _ _ _ (drop_bad _ _)
    (c.in-Ok.ensures.begun f _ s) _ _ _ refl
    (λ _. comes_routes _ _ _ _ _ _ _ _ _ c.dropping-then.ensures (rw c.err.ensures.value at c.unwrap_or.ensures)
    c.quiet-in-Ok.ensures)
