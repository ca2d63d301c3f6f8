-- Refused where it begins; else what is read.
use mathlib.Core.Path.{refl}
use Rattle.event.specs.Memory.{node_of}
use Rattle.event.specs.Places.Begins.{began}
use Rattle.event.specs.Laws.Comes.{comes_is, step_refused, step_on}
use Rattle.forwarder.specs.Laws.Packet.{packet_bad, packet_comes}
use Rattle.forwarder.proofs.packet.Goals as goal

pub returns-in-Err : goal.returns-in-Err
unfolding began node_of
returns-in-Err c =
    comes_is _ _ _ _ _ _ _ c.quiet.ensures
    (step_refused _ _ _ _ _ _ _ _ _ _ (packet_bad _ _ _ _ c.is_not_open-bad.ensures) (c.in-Err.ensures.begun _ _ _)
    c.in-Err.ensures.refused)

pub returns-in-Ok : goal.returns-in-Ok
unfolding began node_of
returns-in-Ok c =
    step_on _ _ _ _ _ _ _ _ _ _ (packet_bad _ _ _ _ c.is_not_open-bad.ensures) (c.in-Ok.ensures.begun _ _ _) _ _ _ refl
    (λ _. packet_comes _ _ _ _ _ _ _ (c.in-Ok.ensures.begun _ _ _) refl _ _ _ c.read.ensures)
