-- The row that a handle stands for, and what an answer about it says of the route.
-- Assumes nothing.
use native.Mathlib.Omega.{arith}
use denote.Ref.{Bor}
use mathlib.Core.Path.{◌∙◌}
use mathlib.Core.Option.{Option, none, some}
use Rattle.std.proofs.Common.{ℕ, min, ◌≡◌, ◌≤◌, ◌<◌, List, [], length, take, get_or, MatchOption, None, Some}
use Rattle.std.proofs.lemmas.List.{get_or-take, length-take}
use Rattle.std.specs.declared.option.Option as code
use Rattle.std.specs.Slice.{IsItemAt}
use Rattle.sizes.specs.Sizes.{most_faces, most_routes}
use Rattle.records.specs.Route.{Route}
use Rattle.routes.specs.declared.Row.{Row}
use Rattle.routes.specs.declared.Routes.{Routes}
use Rattle.routes.specs.declared.Handle.{Handle}
use Rattle.routes.specs.Places.View.{route_row, route_at, no_row, place_is, found, view_place, view_none}

-- the route of a row that the table lends at a handle's place, and none where it lends none
pub row_found : (t : Routes) (h : Handle) (o : code.Option (Bor Row))
    → min t.count.count most_routes ≤ length t.rows → IsItemAt (take (min t.count.count most_routes) t.rows) h.at o
    → MatchOption o (found t h ≡ none)
    (λ r. found t h ≡ some (route_row most_faces (get_or t.prefixes h.at []) r.now (get_or t.costs h.at [])))
unfolding route_at
row_found t h None l i =
    rw place_is (view_none most_faces t h.at (omega (arith, i.3, length-take (min t.count.count most_routes) t.rows)))
row_found t h (Some r) l i =
    let m = min t.count.count most_routes in
    let b : h.at < m = omega (arith, i.3.0, length-take m t.rows) in
    let e : r.now ≡ get_or t.rows h.at no_row = i.3.1 no_row ∙ get_or-take m t.rows h.at no_row b in
    rw (place_is, e) (view_place most_faces t h.at b)

-- what an answer says of each row it says of the route that was found
pub answer_found : {B : Type 0} (f : Option Route → B) (g : Row → B) (name costs : List ℕ) (o : code.Option (Bor Row)) (x : Option Route)
    (v : B)
    → ((r : Row) → g r ≡ f (some (route_row most_faces name r costs)))
    → MatchOption o (x ≡ none) (λ r. x ≡ some (route_row most_faces name r.now costs))
    → MatchOption o (v ≡ f none) (λ r. v ≡ g r.now)
    → v ≡ f x
answer_found f g name costs None x v e h k = rw h k
answer_found f g name costs (Some r) x v e h k = rw h (k ∙ e r.now)
