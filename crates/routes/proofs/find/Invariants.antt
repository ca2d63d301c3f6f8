-- The loop's invariant: a prefix is found among all routes where it is found from place i on.
use mathlib.Core.Path.{◌≡◌}
use Prim.Native.Nat.{ℕ, ◌-◌, min}
use mathlib.Core.Bool.{Bool}
use mathlib.Core.List.{List}
use Rattle.sizes.specs.Sizes.{most_faces, most_routes}
use Rattle.laws.specs.Places.Loop.{first}
use Rattle.names.specs.Name.{same_bytes}
use Rattle.routes.specs.declared.Row.{Row}
use Rattle.routes.specs.declared.Count.{Count}
use Rattle.routes.specs.Places.View.{route_at}
use Rattle.routes.specs.Places.Parts.{table}
use Rattle.routes.proofs.find.Given as goal

-- whether the route at a place has a prefix
abbrev Has : List ℕ → List (List ℕ) → List Row → Count → List (List ℕ) → ℕ → Bool
Has prefix p r n c k = same_bytes prefix (route_at most_faces (table p r c n) k).name

abbrev pub invariant-loop-i : goal.invariant-loop-i
invariant-loop-i l =
    (c : List (List ℕ)) → first (Has l.prefix l.prefixes l.rows l.fn.count c) 0 (min l.fn.count.count most_routes)
    ≡ first (Has l.prefix l.prefixes l.rows l.fn.count c) l.i (min l.fn.count.count most_routes - l.i)
