-- One row is changed; a place past the last changes nothing.
use native.Mathlib.Omega.{arith}
use mathlib.Core.Path.{sym}
use mathlib.Core.Option.{none}
use Rattle.std.proofs.Common.{rules, length, ◌≡◌}
use Rattle.sizes.specs.Sizes.{most_faces, most_routes}
use Rattle.laws.specs.Laws.Tab.{on_at_out}
use Rattle.records.specs.Route.{with_hop}
use Rattle.routes.specs.Places.View.{route_at, place_is, view_length, view_on}
use Rattle.routes.specs.Places.Parts.{table}
use Rattle.routes.proofs.drop_hop.Goals as goal

pub returns-then-route-cut : goal.returns-then-route-cut
unfolding route_at
returns-then-route-cut c =
    let a = c.args in
    let m : length a.rows.now ≡ most_routes = search rules in
    λ p q.
    let t = table p a.rows.now q a.count in
    rw (place_is t a.route) (view_on most_faces t a.route.at _ (with_hop a.face none) (omega arith) (c.take_hop.ensures _ _))

pub returns-else-route-cut : goal.returns-else-route-cut
returns-else-route-cut c =
    let a = c.args in
    λ p q.
    let t = table p a.rows.now q a.count in
    rw (place_is t a.route) (sym (on_at_out _ _ _ (omega (arith, c.cut.ensures, view_length most_faces t))))
