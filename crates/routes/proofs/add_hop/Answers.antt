-- One row and its costs are changed; a place past the last, or a number that is no face, changes nothing.
use native.Mathlib.Omega.{arith}
use mathlib.Core.Path.{sym}
use mathlib.Core.Option.{some}
use Rattle.std.proofs.Common.{rules, length, ◌≡◌}
use Rattle.sizes.specs.Sizes.{most_faces, most_routes}
use Rattle.laws.specs.Laws.Tab.{on_at_out}
use Rattle.records.specs.Route.{with_hop}
use Rattle.records.specs.Laws.Face.{face_no}
use Rattle.routes.specs.Laws.Hop.{past_hop}
use Rattle.routes.specs.Places.View.{route_at, place_is, view_length, view_put, view_kept}
use Rattle.routes.specs.Places.Parts.{table}
use Rattle.routes.proofs.add_hop.Goals as goal
use Rattle.routes.proofs.add_hop.Goals.{else-i-cut-via-then-i-cut+then-face-gt0+else-face-le-FACES}
use Rattle.routes.proofs.add_hop.Goals.{else-i-cut-via-then-i-cut+else-face-gt0, else-i-cut-via-else-i-cut}

pub returns-then-face-le-FACES : goal.returns-then-face-le-FACES
unfolding route_at
returns-then-face-le-FACES c =
    let a = c.args in
    let m : length a.rows.now ≡ most_routes = search rules in
    let n : length a.costs.now ≡ most_routes = search rules in
    λ p.
    let t = table p a.rows.now a.costs.now a.count in
    rw (place_is t a.route) (view_put most_faces t a.route.at _ _ (with_hop a.face (some a.cost)) (omega arith) (omega arith)
    (c.put_hop.ensures _))

pub returns-else-i-cut : goal.returns-else-i-cut
returns-else-i-cut c =
    let a = c.args in
    λ p.
    let t = table p a.rows.now a.costs.now a.count in
    let x = some a.cost in
    elim c.else-i-cut.branch [
      | else-i-cut-via-then-i-cut+then-face-gt0+else-face-le-FACES w ↦
          view_kept most_faces t _ (with_hop a.face x) (past_hop most_faces a.face t x _ ((face_no most_faces a.face).1 (λ h. omega arith)))
      | else-i-cut-via-then-i-cut+else-face-gt0 w ↦
          view_kept most_faces t _ (with_hop a.face x) (past_hop most_faces a.face t x _ ((face_no most_faces a.face).1 (λ h. omega arith)))
      | else-i-cut-via-else-i-cut w ↦
          rw (place_is t a.route) (sym (on_at_out _ _ _ (omega (arith, c.cut.ensures, view_length most_faces t))))
    ]
