-- A walk over the set's faces, the lowest first: one law for the start, one for a turn, one for the end.
use native.Mathlib.Omega.{arith}
use Rattle.faces.specs.Laws.Gives.{starts}
use Rattle.sending.specs.Laws.Copies.{owes_start, owes_row, owes_turn, owes_end}
use Rattle.sending.proofs.note_copies.Goals as goal

pub loop-face-init : goal.loop-face-init
loop-face-init c = rw (starts c.into_iter-face-iterator.ensures.into_iter_gives c.of-face-items.ensures) (owes_start _ _ _ _ _)

pub note-requires : goal.note-requires
note-requires c = let s = c.in-Some.ensures.steps in owes_row _ _ _ _ _ s.walk c.loop-face.invariant s.within

pub overflow_add-count : goal.overflow_add-count
overflow_add-count c =
    let s = c.in-Some.ensures.steps in omega (arith, owes_row _ _ _ _ _ s.walk c.loop-face.invariant s.within)

pub loop-face-preserved : goal.loop-face-preserved
loop-face-preserved c =
    let s = c.in-Some.ensures.steps in owes_turn _ _ _ _ _ s.walk c.loop-face.invariant s.within s.rest c.note.ensures

pub returns : goal.returns
returns c = let s = c.in-None.ensures.steps in owes_end _ _ _ _ _ s.walk c.loop-face.invariant s.past
