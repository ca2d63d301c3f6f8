-- By case: there is no room, or the packet is written and its row stored.
use Rattle.wire.specs.Laws.Write.{answer_next, answer_full}
use Rattle.rules.specs.Outcome.{dat}
use Rattle.sending.specs.Laws.One.{packs_full, packs_stored}
use Rattle.sending.proofs.send_data.Goals as goal

pub returns-in_default : goal.returns-in_default
returns-in_default c = packs_full _ _ _ _ _ (answer_full _ _ _ _ c.write_data.ensures c.in_default.is)

pub returns : goal.returns
returns c =
    packs_stored _ dat _ _ _ _ _ _ _
    (answer_next _ _ _ _ c.write_data.ensures
    c.in-Some.is)
    c.note.ensures
