-- What each operation makes of the routes, and what it answers.
-- Assumes nothing.
use Rattle.std.specs.Prelude.{ℕ, suc, ◌≡◌, Bool, true, ◌&&◌, ◌||◌, not, List, [], ◌∷◌, ◌++◌, length, ltb, leb}
use Rattle.std.proofs.Math.Option.{Option, none, some}
use Rattle.sizes.specs.Sizes.{most_name, most_routes}
use Rattle.laws.specs.Pick.{pick}
use Rattle.laws.specs.Lists.{on_at}
use Rattle.names.specs.Name.{prefix_of}
use Rattle.faces.specs.Set.{faces_where}
use Rattle.records.specs.Class.{Class, class_number}
use Rattle.records.specs.Slots.{slot, is_some}
use Rattle.records.specs.Route.{Route, route_of, with_class, new_route, longest}

-- whether a prefix is known
unfoldable pub is_route : List ℕ → List Route → Bool
is_route p rs = ltb (route_of p rs) (length rs)

-- whether a new prefix fits: a row's length, and the number of routes
unfoldable pub has_room : List ℕ → List Route → Bool
has_room p rs = leb (length p) most_name && ltb (length rs) most_routes

-- the routes with a prefix set to a class, where it is known or fits
unfoldable pub with_route : ℕ → List ℕ → Class → List Route → List Route
with_route n p c rs =
    pick (is_route p rs) (on_at (route_of p rs) (with_class c) rs) (pick (has_room p rs) (rs ++ (new_route n p c ∷ [])) rs)

-- what setting a route comes to: whether it is known or fits, and the routes then
pub record Sets (n : ℕ) (r : Bool) (after : List Route) (p : List ℕ) (c : Class) (before : List Route) : Type 0 where
  pub said : r ≡ (is_route p before || has_room p before)
  pub left : after ≡ with_route n p c before

-- whether nothing that was found after a route is longer
unfoldable pub is_longest : Route → Option Route → Bool
is_longest r none = true
is_longest r (some q) = not (ltb (length r.name) (length q.name))

-- the place of the longest matching route, or the number of routes; `longest_place` says that the route there is that of the rules
unfoldable pub longest_at : List ℕ → List Route → ℕ
longest_at name [] = 0
longest_at name (r ∷ rs) = pick (prefix_of r.name name && is_longest r (longest name rs)) 0 (suc (longest_at name rs))

-- the class word of a route
unfoldable pub class_word : Route → ℕ
class_word r = class_number r.cls

-- the set of the faces that are next hops
unfoldable pub hops_of : ℕ → Route → ℕ
hops_of n r = faces_where n (λ f. is_some (slot f r.hops))
