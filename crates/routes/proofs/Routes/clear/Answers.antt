-- No routes counted are none.
use mathlib.Core.Path.{refl}
use Rattle.sizes.specs.Sizes.{most_faces}
use Rattle.routes.specs.Places.View.{view_empty, count_empty}
use Rattle.routes.proofs.Routes.clear.Goals as goal

pub returns-clause-no_routes : goal.returns-clause-no_routes
returns-clause-no_routes c = view_empty most_faces _ refl

pub returns-clause-counted : goal.returns-clause-counted
returns-clause-counted c = count_empty _ refl

pub returns-clause-rows : goal.returns-clause-rows
returns-clause-rows c = record { prefixes = refl; rows = refl; costs = refl }
