-- By the header, and what stands in it.
use native.Mathlib.Nat.{add-sub_cancel_left}
use mathlib.Core.Path.{refl}
use Rattle.event.specs.Memory.{node_of}
use Rattle.coming.specs.Laws.Goes.{goes_is}
use Rattle.forwarder.specs.Laws.Packet.{read_refused, read_found, read_comes}
use Rattle.forwarder.proofs.read.Goals as goal

pub overflow_add-bare : goal.overflow_add-bare
overflow_add-bare c = record { fits = (read_found _ _ c.read_header.ensures _ c.in-Ok.is).word }

pub slice_bounds-bare-end : goal.slice_bounds-bare-end
slice_bounds-bare-end c = (read_found c.args.bytes.now _ c.read_header.ensures _ c.in-Ok.is).inside

pub returns-in-Err : goal.returns-in-Err
unfolding node_of
returns-in-Err c =
    goes_is _ _ _ _ _ _ _ c.quiet.ensures
    (read_refused _ _ c.read_header.ensures _ c.in-Err.is _ _ _ _ _ _ refl refl refl)

pub returns-in-Ok : goal.returns-in-Ok
unfolding node_of
returns-in-Ok c =
    read_comes _ _ c.read_header.ensures _ c.in-Ok.is _ _ _ _ _ _ _ _
    (rw add-sub_cancel_left at c.arrive.ensures)
