-- What a packet means: what the rules are told of it.
-- Assumes nothing.
use Rattle.std.specs.declared.option.Option as code
use Rattle.std.specs.Prelude.{ℕ, ◌-◌, ◌%◌, Bool, List, length, set}
use Rattle.std.proofs.Math.Option.{Option, none, some}
use Rattle.wire.specs.Number.{number, is_whole}
use Rattle.wire.specs.Element.{element, elements}
use Rattle.names.specs.Name.{counted}
use Rattle.grammar.specs.Orders as order
use Rattle.grammar.specs.Table.{critical, skipped_lp, fits, other}
use Rattle.answers.specs.declared.Answer.{Answer}
use Rattle.grammar.specs.Walk.{Field, absent, here, Fields, walked}
use Rattle.packethead.specs.Header.{val, bytes_in, present, whole_number, Came, header_read}
use Rattle.packethead.specs.Header as header
use Rattle.packets.specs.Bare.{Reading, capped, lifetime_of, freshness_of, bare_read}
use Rattle.packets.specs.Bare as bare

-- an Interest: name, flags, nonce, lifetime as it counts, HopLimit or none
pub record Ask : Type 0 where
  pub name : List ℕ
  pub can_be_prefix : Bool
  pub must_be_fresh : Bool
  pub nonce : ℕ
  pub lifetime : ℕ
  pub hop : Option ℕ

-- a Data: name, and freshness as it counts
pub record Offer : Type 0 where
  pub name : List ℕ
  pub freshness : ℕ

-- all that the rules are told of a packet: its refusal; an Interest, and its bytes as it leaves; a Data, and its bytes as it leaves; or a
-- Nack's reason, and the Interest in it
pub data Heard : Type 0 where
  refused : Answer → Heard
  asks : Ask → List ℕ → Heard
  brings : Offer → List ℕ → Heard
  nacks : ℕ → Ask → Heard

-- the HopLimit, or none
unfoldable pub hop_of : Field → Option ℕ
hop_of absent = none
hop_of (here v k) = some (whole_number v)

-- what an Interest's elements mean
unfoldable pub ask_of : Fields → Ask
ask_of f = record {
  name = bytes_in (val f order.name);
  can_be_prefix = present (val f order.can_be_prefix);
  must_be_fresh = present (val f order.must_be_fresh);
  nonce = whole_number (bytes_in (val f order.nonce));
  lifetime = lifetime_of (val f order.lifetime);
  hop = hop_of (val f order.hop_limit);
}

-- what a Data's elements, and those of its MetaInfo, mean
unfoldable pub offer_of : Fields → Fields → Offer
offer_of f g = record { name = bytes_in (val f order.name); freshness = freshness_of (val g order.freshness) }

-- "The Interest leaves as it came without its Lp header, HopLimit one lower": the Interest l, whose HopLimit x is one byte; 0 stays 0
unfoldable pub leaving : List ℕ → Field → List ℕ
leaving l absent = l
leaving l (here v k) = set l (length l - k - length v) ((whole_number v - 1) % 256)

-- what the bare packet l means, by its elements; "Data leaves without its Lp header."
unfoldable pub meant : List ℕ → Reading → Heard
meant l (bare.refused a) = refused a
meant l (bare.asks f) = asks (ask_of f) (leaving l (val f order.hop_limit))
meant l (bare.brings f g) = brings (offer_of f g) l
meant l (bare.nacks r f) = nacks r (ask_of f)

-- what a bare packet means, with the Nack that it came with and whether its header has an element that is 6
unfoldable pub heard_bare : code.Option ℕ → Bool → List ℕ → Heard
unfolding number element elements is_whole critical skipped_lp fits other walked counted hop_of ask_of offer_of lifetime_of freshness_of leaving
    meant bare_read capped
heard_bare k m l = meant l (bare_read k m l)

-- what came means, by its header
unfoldable pub came_means : Came → Heard
came_means (header.refused a) = refused a
came_means (header.bare b) = heard_bare b.nack b.marked b.bytes

-- what a packet means, as it came
unfoldable pub heard : List ℕ → Heard
unfolding heard_bare came_means header_read
heard l = came_means (header_read l)
