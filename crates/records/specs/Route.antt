-- Document 01, "Faces and routes": routes.
-- Assumes nothing.
use Rattle.std.specs.Prelude.{ℕ, Bool, List, [], ◌∷◌, length, ltb}
use Rattle.std.proofs.Math.Option.{Option, none, some}
use Rattle.laws.specs.Pick.{pick}
use Rattle.laws.specs.Lists.{index_of}
use Rattle.names.specs.Name.{same_bytes, prefix_of}
use Rattle.records.specs.Class.{Class}
use Rattle.records.specs.Slots.{given, at_place, no_slots, slot, set_slot, least_face}

-- a route: its prefix, its class, and the cost of the next hop on each face, if there is one
pub record Route : Type 0 where
  pub name : List ℕ
  pub cls : Class
  pub hops : List (Option ℕ)

-- the place of a prefix among the routes, or their number
unfoldable pub route_of : List ℕ → List Route → ℕ
route_of p rs = index_of (λ r. same_bytes p r.name) rs

-- "Setting a route gives a prefix (empty allowed) and class; for a known prefix the hops stay."
unfoldable pub with_class : Class → Route → Route
with_class c r = record { name = r.name; cls = c; hops = r.hops }

-- a route without hops, for n faces
unfoldable pub new_route : ℕ → List ℕ → Class → Route
new_route n p c = record { name = p; cls = c; hops = no_slots n }

-- a route with the cost of a hop set, or the hop dropped
unfoldable pub with_hop : ℕ → Option ℕ → Route → Route
with_hop f x r = record { name = r.name; cls = r.cls; hops = set_slot f x r.hops }

-- the hop of a face in the route at a place
unfoldable pub hop_at : ℕ → ℕ → List Route → Option ℕ
hop_at f i rs = given none (λ r. slot f r.hops) (at_place i rs)

-- the longer of a route and what was found after it
unfoldable pub longer : Route → Option Route → Option Route
longer r none = some r
longer r (some q) = pick (ltb (length r.name) (length q.name)) (some q) (some r)

-- "the longest matching route" for a name
unfoldable pub longest : List ℕ → List Route → Option Route
longest name [] = none
longest name (r ∷ rs) = pick (prefix_of r.name name) (longer r (longest name rs)) (longest name rs)

-- "the cheapest eligible hop, ties to the lower face": of the hops of a route, the cheapest that p holds of
unfoldable pub cheapest_of : (ℕ → Bool) → Route → Option ℕ
cheapest_of p r = least_face (λ c. c) p r.hops
