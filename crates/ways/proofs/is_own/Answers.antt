-- A face that is not point-to-point has no own nonce.
use Rattle.std.proofs.Common.{◌∙◌}
use Rattle.ways.specs.Laws.Loops.{own_other}
use Rattle.ways.proofs.is_own.Goals as goal

pub returns-else-is_peer : goal.returns-else-is_peer
returns-else-is_peer c = c.if-is_peer.false ∙ own_other _ _ _ _ _ c.is_peer.ensures c.if-is_peer.false
