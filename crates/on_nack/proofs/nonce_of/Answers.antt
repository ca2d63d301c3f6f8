-- By case: there is no request, or it is told.
use Rattle.on_nack.specs.Laws.Nacks.{nonce_is, nonce_none}
use Rattle.on_nack.proofs.nonce_of.Goals as goal

pub returns-in-None : goal.returns-in-None
returns-in-None c = nonce_none _ _ _ c.request_of.ensures c.in-None.is

pub returns-in-Some : goal.returns-in-Some
returns-in-Some c = nonce_is _ _ _ c.request_of.ensures _ c.in-Some.is
