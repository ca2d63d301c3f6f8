-- Refused where it begins, or on from the aged node by what the command makes of it.
use mathlib.Core.Path.{refl}
use Rattle.event.specs.Memory.{node_of}
use Rattle.event.specs.Places.Begins.{began}
use Rattle.event.specs.Laws.Comes.{comes_is, step_refused, step_on}
use Rattle.on_route.specs.Laws.Comes.{comes_routes}
use Rattle.on_route.specs.Laws.Faces.{hop_bad}
use Rattle.on_route.proofs.drop_hop.Goals as goal

pub returns-in-Err : goal.returns-in-Err
unfolding began node_of
returns-in-Err c =
    λ s.
    comes_is _ _ _ _ _ _ _ c.quiet.ensures
    (step_refused _ _ _ _ _ _ _ _ _ _ (hop_bad _ _ _ c.is_not_open-bad.ensures _) (c.in-Err.ensures.begun _ _ s)
    c.in-Err.ensures.refused)

pub returns-in-Ok : goal.returns-in-Ok
unfolding began node_of
returns-in-Ok c =
    λ s.
    step_on _ _ _ _ _ _ _ _ _ _ (hop_bad _ _ _ c.is_not_open-bad.ensures _)
    (c.in-Ok.ensures.begun _ _ s) _ _ _ refl
    (λ _. comes_routes _ _ _ _ _ _ _ _ _ c.dropping_hop-then.ensures (rw c.err.ensures.value at c.unwrap_or.ensures)
    c.quiet-in-Ok.ensures)
