-- What came in with an event. Every statement about packets reaches them through this one definition: a packet that several events carry
-- in pieces (document 02, request 2) then comes in by it too, from what the node holds of it, and no statement moves.
-- Assumes nothing.
use Rattle.std.specs.Prelude.{ℕ, ◌≡◌, List}
use Rattle.std.proofs.Math.Option.{Option, none, some}
use Rattle.packethead.specs.Header.{Came, header_read}
use Rattle.packets.specs.Meaning.{Heard, came_means}
use Rattle.records.specs.Slots.{given, Held}
use Rattle.rules.specs.Node.{Node, What, packet, clock, open_face, close_face, set_route, drop_route, add_hop, drop_hop}

-- what came in: the face, and what the header leaves of the packet: its refusal; or the Nack's reason or none, the header's mark, and the
-- bare packet. The node is the one that it reaches, after ageing
unfoldable pub came_in : Node → What → Option (Held Came)
came_in n (packet f l) = some (record { face = f; what = header_read l })
came_in n clock = none
came_in n (open_face f scope link) = none
came_in n (close_face f) = none
came_in n (set_route c p) = none
came_in n (drop_route p) = none
came_in n (add_hop f cost p) = none
came_in n (drop_hop f p) = none

-- its face and what it means
unfoldable pub heard_in : Node → What → Option (Held Heard)
heard_in n w = given none (λ (h : Held Came). some (record { face = h.face; what = came_means h.what })) (came_in n w)

-- a packet came in on face f, and it means h
pub record Hears (n : Node) (w : What) (f : ℕ) (h : Heard) : Type 0 where
  pub came : Came
  pub comes : came_in n w ≡ some (record { face = f; what = came })
  pub means : came_means came ≡ h
