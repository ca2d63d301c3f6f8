-- What is seen of the answer of a tape's reader: the event that it tells of.
-- Assumes nothing.
use Rattle.std.specs.Prelude.{ℕ, List, take, drop, None, Option, Some}
use Rattle.rules.specs.Node.{What, packet, clock, open_face, close_face, set_route, drop_route, add_hop, drop_hop}
use Rattle.tapes.specs.declared.Kind.{Kind}
use Rattle.tapes.specs.declared.Kind.TheVariants.{Packet, Clock, OpenFace, CloseFace, SetRoute, DropRoute, AddHop, DropHop}
use Rattle.tapes.specs.declared.Taken.{Taken}
use Rattle.tapes.specs.Tape.{Reading, unreadable, event}

-- what happens by a kind, its face, its first and second number after that, and its bytes
unfoldable pub what_of : Kind → ℕ → ℕ → ℕ → List ℕ → What
what_of Packet face first second p = packet face p
what_of Clock face first second p = clock
what_of OpenFace face first second p = open_face face first second
what_of CloseFace face first second p = close_face face
what_of SetRoute face first second p = set_route first p
what_of DropRoute face first second p = drop_route p
what_of AddHop face first second p = add_hop face first p
what_of DropHop face first second p = drop_hop face p

-- an event that was read from a tape
unfoldable pub seen : List ℕ → Option Taken → Reading
seen s None = unreadable
seen s (Some e) =
    event e.time (what_of e.kind e.face e.first e.second (take e.len (drop e.from s))) (drop e.next s)
