-- By whether there is a route, and then a hop without an out-record.
use Rattle.sizes.specs.Sizes.{most_faces}
use Rattle.faces.specs.Found.{face_in}
use Rattle.pending_table.specs.Places.View.{view_wide}
use Rattle.ways.specs.Laws.Next.{chosen_not, chosen_first, chosen_last}
use Rattle.ways.proofs.choose.Goals as goal

pub returns-in_err-route : goal.returns-in_err-route
unfolding face_in
returns-in_err-route c = λ p y. rw c.from_residual.ensures (chosen_not most_faces p _ y _ _ _ c.in_err-route.ensures)

pub returns-in-Some : goal.returns-in-Some
unfolding face_in
returns-in-Some c =
    λ p y.
    chosen_first most_faces p _ y _ _ _ _ c.in_ok-route.ensures.0 _ _ c.unsent-unsent.ensures c.in-Some.ensures

pub returns-in-None : goal.returns-in-None
unfolding face_in
returns-in-None c =
    λ p y.
    chosen_last most_faces p _ y _ _ _ _ c.in_ok-route.ensures.0 _ c.unsent-unsent.ensures c.in-None.ensures _ _ _
    (λ e z. (view_wide most_faces _ _ _ _ _ _ e z).1) c.hops_of-hops.ensures c.common.ensures c.earliest.ensures
