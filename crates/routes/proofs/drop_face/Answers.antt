-- The loop's invariant: the rows before the index mean the routes with the hops of a face dropped, the others are as they were.
use native.Mathlib.Omega.{arith}
use mathlib.Core.Path.{refl, ◌∙◌}
use mathlib.Core.Option.{none}
use borrow.Author.Count.{below_more}
use Rattle.std.proofs.Common.{ℕ, rules, length, ◌≡◌, ◌≢◌, get_or, set}
use lib.ListN.{length-set}
use lib.Seq.{get_or-set_same, get_or-set_other}
use Rattle.sizes.specs.Sizes.{most_faces, most_routes}
use Rattle.records.specs.Route.{with_hop}
use Rattle.routes.specs.Places.View.{route_at, no_row, view_all}
use Rattle.routes.specs.Places.Parts.{table}
use Rattle.routes.proofs.drop_face.Goals as goal

pub loop-row-init : goal.loop-row-init
loop-row-init c = record { long = refl; done = λ k h. absurd (omega arith); left = λ k h. refl }

pub loop-row-preserved : goal.loop-row-preserved
loop-row-preserved c =
    let l = c.loop-row in
    let rows = l.row-items in
    let i = l.row-index in
    let new = c.take_hop.new.row in
    let n : length c.args.rows.now ≡ most_routes = search rules in
    let m = l.invariant.long in
    let other : ((k : ℕ) → k ≢ i → get_or (set rows i new) k no_row ≡ get_or rows k no_row) =
    λ k d. get_or-set_other rows i k new no_row d in
    record {
      long = length-set rows i new ∙ m;
      done = below_more _ i (λ k h name costs. rw (other k (λ q. omega arith)) (l.invariant.done k h name costs))
          (λ name costs. rw (get_or-set_same rows i new no_row (omega arith), ← (l.invariant.left i (omega arith)))
          (c.take_hop.ensures name costs));
      left = λ k h. other k (λ q. omega arith) ∙ l.invariant.left k (omega arith);
    }

pub returns : goal.returns
unfolding route_at
returns c =
    let rows = c.args.rows.now in
    let all : length rows ≡ most_routes = search rules in
    λ p q n. view_all most_faces (table p rows q n) _ (with_hop c.args.face none) refl
    (λ k h. c.loop-row.invariant.done k (omega arith) _ _)
