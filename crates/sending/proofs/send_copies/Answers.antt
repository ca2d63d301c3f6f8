-- By case: the set has no face, there is no room, or the Data is written and the rows of its copies are noted.
use native.Mathlib.Omega.{arith}
use Rattle.wire.specs.Laws.Write.{answer_next, answer_full}
use Rattle.faces.specs.Laws.Walk.{walks}
use Rattle.sending.specs.Laws.One.{packs_full}
use Rattle.sending.specs.Laws.Copies.{copies_none, copies_sent}
use Rattle.sending.proofs.send_copies.Goals as goal

pub returns-then-lowest-gt-FACES : goal.returns-then-lowest-gt-FACES
returns-then-lowest-gt-FACES c = copies_none _ _ _ _ _ (walks (omega arith) c.lowest.ensures) (omega arith) _ _

pub returns-in-None : goal.returns-in-None
returns-in-None c = packs_full _ _ _ _ _ (answer_full _ _ _ _ c.write_data.ensures c.in-None.is)

pub returns-in-Some : goal.returns-in-Some
returns-in-Some c =
    copies_sent _ _ _ _ _
    (walks (omega arith) c.lowest.ensures)
    (omega arith) _ _ _ _ _ _
    (answer_next _ _ _ _ c.write_data.ensures
    c.in-Some.is)
    c.note_copies.ensures
