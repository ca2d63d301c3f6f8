-- The loop's invariant: the rows before the index mean the routes with the hops of a face dropped, the others are as they were.
use mathlib.Core.Path.{◌≡◌}
use Prim.Native.Nat.{ℕ, ◌≤◌, ◌<◌}
use mathlib.Core.List.{List}
use mathlib.Core.Option.{none}
use lib.ListN.{get_or, length}
use Rattle.sizes.specs.Sizes.{most_faces}
use Rattle.records.specs.Route.{with_hop}
use Rattle.routes.specs.Places.View.{route_row, no_row}
use Rattle.routes.proofs.drop_face.Given as goal

abbrev pub invariant-loop-row : goal.invariant-loop-row
invariant-loop-row l = record {
  long : length l.row-items ≡ length l.fn.rows;
  done : (k : ℕ) → k < l.row-index → (name costs : List ℕ)
      → route_row most_faces name (get_or l.row-items k no_row) costs
      ≡ with_hop l.face none (route_row most_faces name (get_or l.fn.rows k no_row) costs);
  left : (k : ℕ) → l.row-index ≤ k → get_or l.row-items k no_row ≡ get_or l.fn.rows k no_row;
}
