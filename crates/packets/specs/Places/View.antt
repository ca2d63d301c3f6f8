-- What is seen of the reader's answer in the bytes of the packet: the bytes at a name's place, and the byte at a HopLimit's place.
-- Assumes nothing.
use Rattle.std.specs.declared.option.Option as code
use Rattle.std.specs.Prelude.{ℕ, ◌-◌, ◌%◌, List, get_or, set, Some, None, Result, Ok, Err}
use Rattle.std.proofs.Math.Option.{Option, none, some}
use Rattle.answers.specs.declared.Answer.{Answer}
use Rattle.packets.specs.declared.bare.HopLimit.{HopLimit}
use Rattle.packets.specs.declared.bare.Interest.{Interest}
use Rattle.packets.specs.declared.bare.Packet.{Packet}
use Rattle.packethead.specs.Places.Header.{part_at}
use Rattle.packets.specs.Meaning.{Ask, Heard, refused, asks, brings, nacks}

-- the byte at the HopLimit's place, or none
unfoldable pub hop_seen : List ℕ → code.Option HopLimit → Option ℕ
hop_seen l None = none
hop_seen l (Some h) = some (get_or l h.at 0)

-- an Interest, with the bytes at its name's place
unfoldable pub ask_seen : List ℕ → Interest → Ask
ask_seen l i = record {
  name = part_at l i.name;
  can_be_prefix = i.can_be_prefix;
  must_be_fresh = i.must_be_fresh;
  nonce = i.nonce;
  lifetime = i.lifetime;
  hop = hop_seen l i.hop;
}

-- an Interest as it leaves, its HopLimit, if it has one, one lower
unfoldable pub lowered : List ℕ → code.Option HopLimit → List ℕ
lowered l None = l
lowered l (Some h) = set l h.at ((h.limit - 1) % 256)

-- a packet
unfoldable pub seen : List ℕ → Result Packet Answer → Heard
unfolding hop_seen ask_seen lowered
seen l (Err a) = refused a
seen l (Ok (Packet.Interest i)) = asks (ask_seen l i) (lowered l i.hop)
seen l (Ok (Packet.Data d)) = brings (record { name = part_at l d.name; freshness = d.freshness }) l
seen l (Ok (Packet.Nack n i)) = nacks n (ask_seen l i)
