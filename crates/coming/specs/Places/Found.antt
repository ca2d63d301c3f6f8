-- What came in, by what the readers found: the Interest and the Data that the rules are told of.
-- Assumes nothing.
use Rattle.std.specs.declared.option.Option as code
use Rattle.std.specs.Prelude.{ℕ, min, List, Some, None}
use Rattle.std.proofs.Math.Option.{Option, none, some}
use Rattle.sizes.specs.Sizes.{most_lifetime, most_freshness}
use Rattle.packethead.specs.Name.{name_of}
use Rattle.packets.specs.Meaning.{Ask, Offer}
use Rattle.packets.specs.declared.bare.HopLimit.{HopLimit}
use Rattle.packets.specs.declared.bare.Interest.{Interest}
use Rattle.packets.specs.declared.bare.Data.{Data}
use Rattle.packets.specs.Places.View.{lowered}
use Rattle.rules.specs.Interest.{Arrival}

-- the HopLimit that was found, or none
unfoldable pub limit_of : code.Option HopLimit → Option ℕ
limit_of None = none
limit_of (Some h) = some h.limit

-- an Interest as it was found in a bare packet, of a name: a lifetime above 60,000 counts as that
abbrev pub ask_named : List ℕ → Interest → Ask
ask_named name i = record {
  name = name;
  can_be_prefix = i.can_be_prefix;
  must_be_fresh = i.must_be_fresh;
  nonce = i.nonce;
  lifetime = min i.lifetime most_lifetime;
  hop = limit_of i.hop;
}

-- the same of the name that the name finder gives
unfoldable pub ask_found : List ℕ → Interest → Ask
ask_found bare i = ask_named (name_of bare) i

-- an Interest of a name on the face where it came, with its bytes as it leaves
unfoldable pub arrival_named : ℕ → List ℕ → List ℕ → Interest → Arrival
arrival_named f name bare i = record { face = f; ask = ask_named name i; bytes = lowered bare i.hop }

-- the same of the name that the name finder gives
unfoldable pub arrival_found : ℕ → List ℕ → Interest → Arrival
arrival_found f bare i = record { face = f; ask = ask_found bare i; bytes = lowered bare i.hop }

-- a Data as it was found in a bare packet; a freshness above 86,400,000 counts as that
unfoldable pub offer_found : List ℕ → Data → Offer
offer_found bare d = record { name = name_of bare; freshness = min d.freshness most_freshness }
