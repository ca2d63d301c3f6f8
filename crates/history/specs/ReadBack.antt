-- "What it writes, it reads back to the same meaning": what each send of an event means when it is read.
-- Assumes nothing.
use Rattle.std.specs.Prelude.{ℕ, ◌≡◌, Bool, List}
use Rattle.wire.specs.Bytes.{Bytes}
use Rattle.packets.specs.Meaning.{Ask, Offer, asks, brings, nacks, heard}
use Rattle.writing.specs.Written.{nack_bytes}
use Rattle.writing.specs.Back.{lower, Asks, request}
use Rattle.records.specs.Stored.{Stored}
use Rattle.rules.specs.Node.{What, packet, clock, open_face, close_face, set_route, drop_route, add_hop, drop_hop}
use Rattle.rules.specs.Outcome.{Kind, interest, dat, nack, Send}
use Rattle.history.specs.Lists.{Some}
use Rattle.history.specs.Moments.{Moment, now, Arrives}

-- a moment brought the Data that is stored: its bytes, its name, its freshness, and the time of storing
pub record BroughtBy (d : Stored) (m : Moment) : Type 0 where
  pub from : ℕ
  pub offer : Offer
  pub came : Arrives m from (brings offer d.bytes)
  pub name : d.name ≡ offer.name
  pub freshness : d.freshness ≡ offer.freshness
  pub time : d.time ≡ now m

-- the packet of an event, if it is one, is bytes
abbrev pub OfBytes : What → Type 0
OfBytes (packet f l) = Bytes l
OfBytes clock = Unit {0}
OfBytes (open_face f scope link) = Unit {0}
OfBytes (close_face f) = Unit {0}
OfBytes (set_route c p) = Unit {0}
OfBytes (drop_route p) = Unit {0}
OfBytes (add_hop f cost p) = Unit {0}
OfBytes (drop_hop f p) = Unit {0}

-- an Interest means what the Interest that came meant, with a HopLimit one lower
pub record AsksOn (m : Moment) (s : Send) : Type 0 where
  pub from : ℕ
  pub ask : Ask
  pub came : Arrives m from (asks ask s.bytes)
  pub means : Asks s.bytes (lower ask)

-- a Data means what a Data meant that came in at one of the moments
pub record BringsOn (ms : List Moment) (s : Send) : Type 0 where
  pub offer : Offer
  pub came : Some (λ m. (f : ℕ) × Arrives m f (brings offer s.bytes)) ms
  pub means : heard s.bytes ≡ brings offer s.bytes

-- a Nack was written of a reason, a name, flags and a nonce, and means a Nack, with that reason, of an Interest with that name, those flags
-- and that nonce
pub record NacksBack (s : Send) : Type 0 where
  pub reason : ℕ
  pub name : List ℕ
  pub can_be_prefix : Bool
  pub must_be_fresh : Bool
  pub nonce : ℕ
  pub same : s.bytes ≡ nack_bytes reason name can_be_prefix must_be_fresh nonce
  pub means : heard s.bytes ≡ nacks reason (request name can_be_prefix must_be_fresh nonce)

-- what a send means, by its kind; ms are the moments up to this one, m is this one
abbrev pub ReadsBack : List Moment → Moment → Send → Kind → Type 0
ReadsBack ms m s interest = AsksOn m s
ReadsBack ms m s dat = BringsOn ms s
ReadsBack ms m s nack = NacksBack s
