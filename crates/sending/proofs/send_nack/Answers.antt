-- One Nack put on an empty sheet.
use Rattle.sending.specs.Laws.One.{packs_put}
use Rattle.sending.proofs.send_nack.Goals as goal

pub returns : goal.returns
returns c = packs_put _ _ _ _ _ _ _ c.put_nack.ensures
