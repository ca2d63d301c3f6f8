-- The loop's invariant: best and most are what a search of the routes from place i on finds.
use Rattle.std.specs.Prelude.{min, MatchOption, ◌<◌}
use Rattle.sizes.specs.Sizes.{most_routes}
use Rattle.routes.specs.Places.View.{view}
use Rattle.routes.specs.Places.Parts.{known_routes}
use Rattle.routes.specs.Places.Longest.{place_or}
use Rattle.routes.specs.Laws.Longest.{Best}
use Rattle.routes.proofs.Known.longest.Given as goal

abbrev pub invariant-loop-i : goal.invariant-loop-i
invariant-loop-i l =
    Best l.name (view (known_routes l.self)) l.i (place_or (min l.self.count.count most_routes) l.best) l.most
    × MatchOption l.best (Unit {0}) (λ h. h.at < min l.self.count.count most_routes)
