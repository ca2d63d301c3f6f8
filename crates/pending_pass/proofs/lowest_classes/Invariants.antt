-- The loop's invariant is `LowestTo`, with the handle at the first mark: one law for the start, one for a turn, one for the end.
use mathlib.Core.Path.{◌≡◌}
use Rattle.sizes.specs.Sizes.{most_faces}
use Rattle.pending_table.specs.Places.View.{view, place_of, marks_of}
use Rattle.pending_table.specs.Places.Parts.{seen}
use Rattle.pending_pass.specs.Places.Lowering.{LowestTo}
use Rattle.pending_pass.specs.Laws.Pass.{first_mark, mark_count}
use Rattle.pending_pass.proofs.lowest_classes.Given as goal

abbrev pub invariant-loop-left : goal.invariant-loop-left
invariant-loop-left l =
    (place_of (seen l.t) l.h ≡ first_mark (marks_of (seen l.t) l.left))
    × LowestTo most_faces (marks_of (seen l.t) l.initial.left) (view (seen l.t)) (marks_of (seen l.t) l.left) l.had l.classes

abbrev pub decreases-loop-left : goal.decreases-loop-left
decreases-loop-left l = mark_count (marks_of (seen l.t) l.left)
