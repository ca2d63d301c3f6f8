-- What the reader of a bare packet answers: its elements with their places.
-- Assumes nothing.
use Rattle.std.specs.Prelude.{ℕ, ◌-◌, ◌+◌, ◌^◌, ◌<◌, Bool, ◌||◌, List, length, get_or, ltb, ◌≡◌, None, Option, Some, Result, Ok, Err}
use Rattle.laws.specs.Pick.{pick}
use Rattle.wire.specs.Verdict.{is_malformed, is_unsupported}
use Rattle.names.specs.declared.component.Counted.{Counted}
use Rattle.names.specs.Name.{counted}
use Rattle.answers.specs.declared.Answer.{Answer}
use Rattle.grammar.specs.declared.Place.{Place}
use Rattle.grammar.specs.Types as types
use Rattle.grammar.specs.Orders as order
use Rattle.sizes.specs.Sizes.{most_components, most_name, most_lifetime, usual_lifetime, most_freshness}
use Rattle.grammar.specs.Walk.{Field, absent, here, Fields, walked}
use Rattle.grammar.specs.Places.Walk.{place_in, found_in}
use Rattle.packets.specs.declared.bare.HopLimit.{HopLimit}
use Rattle.packets.specs.declared.bare.Interest.{Interest}
use Rattle.packets.specs.declared.bare.Packet.{Packet}
use Rattle.packethead.specs.Header.{val, bytes_in, present, whole_number}
use Rattle.packethead.specs.Places.Header.{part_at, bytes_at}
use Rattle.packets.specs.Bare.{Reading, refused, asks, brings, nacks, interest_read, data_value, capped, lifetime_of, freshness_of}
use Rattle.grammar.specs.declared.Found.{Found}

-- the HopLimit and its place in a packet of n bytes
unfoldable pub hop_in : ℕ → Field → Option HopLimit
hop_in n absent = None
hop_in n (here v k) = Some (record { limit = whole_number v; at = n - k - length v })

-- an Interest with its places in a packet of n bytes
unfoldable pub interest_in : ℕ → Fields → Interest
interest_in n f = record {
  name = place_in n (val f order.name);
  can_be_prefix = present (val f order.can_be_prefix);
  must_be_fresh = present (val f order.must_be_fresh);
  nonce = whole_number (bytes_in (val f order.nonce));
  lifetime = lifetime_of (val f order.lifetime);
  hop = hop_in n (val f order.hop_limit);
}

-- a packet with its places in n bytes
unfoldable pub packet_in : ℕ → Reading → Result Packet Answer
unfolding place_in capped lifetime_of freshness_of hop_in interest_in
packet_in n (refused a) = Err a
packet_in n (asks f) = Ok (Packet.Interest (interest_in n f))
packet_in n (brings f g) =
    Ok (Packet.Data (record { name = place_in n (val f order.name); freshness = freshness_of (val g order.freshness) }))
packet_in n (nacks r f) = Ok (Packet.Nack r (interest_in n f))

-- a place in a part that stands at base, as a place in the whole
unfoldable pub moved_by : ℕ → Place → Place
moved_by base p = record { at = base + p.at; len = p.len }

-- the lifetime at a place of v
unfoldable pub lifetime_at : List ℕ → Option Place → ℕ
lifetime_at v None = usual_lifetime
lifetime_at v (Some p) = capped most_lifetime (whole_number (part_at v p))

-- the freshness at a place of m
unfoldable pub freshness_at : List ℕ → Option Place → ℕ
freshness_at m p = capped most_freshness (whole_number (bytes_at m p))

-- the HopLimit at a place of v, which stands at base
unfoldable pub hop_at : ℕ → List ℕ → Option Place → Option HopLimit
hop_at base v None = None
hop_at base v (Some p) = Some (record { limit = whole_number (part_at v p); at = base + p.at })

-- where there is a place in a part that stands at base, it fits a word in the whole
abbrev pub HopFits : ℕ → Option Place → Type 0
HopFits base None = Unit {0}
HopFits base (Some p) = base + p.at < 2 ^ 64

-- an Interest, or the Nack that brought it
unfoldable pub nacked_packet : Option ℕ → Interest → Packet
nacked_packet None i = Packet.Interest i
nacked_packet (Some n) i = Packet.Nack n i

-- what the Name of a parent p says, whose value is v
abbrev pub name_says : ℕ → List ℕ → Counted
name_says p v = counted (bytes_in (val (walked p v) order.name))

-- what a name of n bytes refuses, by what it says: 5; 6, which may have been met already; and a size above the limits
unfoldable pub name_checked : ℕ → Counted → Bool → Result (Unit {0}) Answer
name_checked n c unsupported =
    pick (is_malformed c.said) (Err Answer.Malformed)
    (pick (unsupported || is_unsupported c.said) (Err Answer.Unsupported)
    (pick (ltb most_name n || ltb most_components c.count) (Err Answer.TooLong) (Ok tt)))

-- an Interest
abbrev pub interest_from : Option ℕ → Bool → ℕ → List ℕ → Result Packet Answer
interest_from k m base v = packet_in (base + length v) (interest_read k m (walked types.interest v))

-- a Data
abbrev pub data_from : Bool → ℕ → List ℕ → Result Packet Answer
data_from m base v = packet_in (base + length v) (data_value m v)

-- f is what the walk over v, the value of a parent p, found, its Name at a place; and the places of v, which stands at base, fit a word
pub record IsFound (p : ℕ) (v : List ℕ) (base : ℕ) (f : Found) (name : Place) : Type 0 where
  pub found : f ≡ found_in (length v) (walked p v)
  pub named : get_or f.places order.name None ≡ Some name
  pub fits : base + length v < 2 ^ 64
