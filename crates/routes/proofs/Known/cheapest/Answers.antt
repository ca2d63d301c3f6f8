-- The cheapest hop is that of the row; past the last route there is none.
use native.Mathlib.Omega.{arith}
use Rattle.sizes.specs.Sizes.{most_faces}
use Rattle.records.specs.Slots.{given}
use Rattle.faces.specs.Found.{face_in}
use Rattle.routes.specs.Places.View.{route_at, place_is, view_place, view_none}
use Rattle.routes.specs.Places.Parts.{known_routes}
use Rattle.routes.specs.Laws.Hop.{row_cheapest}
use Rattle.routes.proofs.Known.cheapest.Goals as goal

pub returns-then-i-cut : goal.returns-then-i-cut
unfolding given route_at
returns-then-i-cut c =
    let a = c.args in
    let t = known_routes a.self in
    rw (
      place_is t a.route,
      view_place most_faces t a.route.at (omega (arith, c.cut.ensures)),
      row_cheapest most_faces a.set _ _ _,
      ← c.common.ensures,
    ) c.least.ensures

pub returns-else-i-cut : goal.returns-else-i-cut
unfolding given face_in
returns-else-i-cut c =
    let a = c.args in
    let t = known_routes a.self in
    rw (place_is t a.route, view_none most_faces t a.route.at (omega (arith, c.cut.ensures)))
