-- A walk over the set's faces, the lowest first: one law for the start, one for a turn, one for the end.
use Rattle.sizes.specs.Sizes.{most_faces}
use Rattle.sending.specs.Places.Copies.{owed, Owes}
use Rattle.sending.proofs.note_copies.Given as goal

abbrev pub invariant-loop-face : goal.invariant-loop-face
invariant-loop-face l =
    Owes l.len l.initial.sends (owed most_faces l.set l.classes) (owed most_faces l.face-iterator.left l.classes) l.count l.sends
