-- The least that the walk finds is the least of the set.
use borrow.Author.Rules.{rules}
use borrow.Author.Tests.{tests}
use lib.ListN.{get_or}
use Rattle.sizes.specs.Sizes.{most_faces}
use Rattle.faces.specs.Laws.Picked.{walk_least}
use Rattle.routes.specs.Places.Hop.{least_of}
use Rattle.routes.proofs.least.Goals as goal

pub returns : goal.returns
unfolding least_of
returns c =
    let costs = c.args.costs.now in
    rw (← c.of.ensures)
    (walk_least (λ i. get_or costs i 0) (λ h. h.what) _ _ (λ x k h e. search (rules, tests)) most_faces c.of.result _ c.min_by_key.ensures.ran)
