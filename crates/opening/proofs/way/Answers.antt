-- By whether there is a route, and then an eligible hop of it.
use Rattle.faces.specs.Found.{face_in}
use Rattle.opening.specs.Laws.Routed.{way_absent, way_hop, way_class}
use Rattle.routes.specs.Places.Parts.{known_routes}
use Rattle.opening.proofs.way.Goals as goal

pub returns-in_err-best : goal.returns-in_err-best
returns-in_err-best c = λ q e. rw c.from_residual.ensures (way_absent (known_routes c.args.known) c.args.name.now q c.in_err-best.ensures)

pub returns-in_err-to : goal.returns-in_err-to
unfolding face_in
returns-in_err-to c =
    λ q e.
    rw c.from_residual-in_err-to.ensures
    (way_hop (known_routes c.args.known) c.args.name.now q _ c.in_ok-best.ensures.0 _ e _ (rw c.in_err-to.was at c.cheapest.ensures))

pub returns : goal.returns
unfolding face_in
returns c =
    λ q e.
    let t = known_routes c.args.known in
    let is = c.in_ok-best.ensures.0 in
    (way_hop t c.args.name.now q _ is _ e _ (rw c.in_ok-to.was at c.cheapest.ensures), way_class t c.args.name.now q _ is _ c.class_of.ensures)
