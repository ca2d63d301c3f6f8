-- No routes counted are none.
use mathlib.Core.Path.{ap}
use Rattle.sizes.specs.Sizes.{most_faces}
use Rattle.routes.specs.declared.Count.{Count}
use Rattle.routes.specs.Places.View.{view_empty, count_empty}
use Rattle.routes.proofs.Count.none.Goals as goal

pub returns : goal.returns
returns c = record {
  no_routes = λ t e. view_empty most_faces t (ap (λ (n : Count). n.count) e);
  counted = λ t e. count_empty t (ap (λ (n : Count). n.count) e);
}
