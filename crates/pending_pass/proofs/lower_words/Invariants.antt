-- A walk over the set's faces, the lowest first: one law for the start, one for a turn, one for the end.
use Rattle.sizes.specs.Sizes.{most_faces}
use Rattle.pending_pass.specs.Places.Lowering.{LowersTo}
use Rattle.pending_pass.proofs.lower_words.Given as goal

abbrev pub invariant-loop-face : goal.invariant-loop-face
invariant-loop-face l = LowersTo most_faces l.set l.class l.had l.initial.classes l.face-iterator.left l.have l.classes
