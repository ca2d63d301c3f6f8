-- By whether the face is point-to-point.
use mathlib.Core.Path.{sym, ◌∙◌}
use Rattle.sending.specs.Laws.Refusal.{class_said, refuses_none, refuses_one}
use Rattle.sending.proofs.refuse.Goals as goal

pub returns-then-is_peer : goal.returns-then-is_peer
returns-then-is_peer c =
    refuses_one _ _ _ _ _ _ _ _ _ _ _ _ _ _
    (sym c.is_peer.ensures
    ∙ c.if-is_peer.true)
    c.class_for-class.ensures
    (class_said _ _) c.send_nack.ensures

pub returns-else-is_peer : goal.returns-else-is_peer
returns-else-is_peer c = refuses_none _ _ _ _ _ _ _ _ _ _ (sym c.is_peer.ensures ∙ c.if-is_peer.false)
