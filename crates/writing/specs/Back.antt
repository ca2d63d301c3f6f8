-- What a packet that leaves is read back as.
-- Assumes nothing.
use Rattle.std.specs.Prelude.{ℕ, ◌-◌, ◌≡◌, Bool, List}
use Rattle.std.proofs.Math.Option.{Option, none, some}
use Rattle.sizes.specs.Sizes.{usual_lifetime}
use Rattle.packets.specs.Meaning.{Ask, asks, heard}

-- a HopLimit one lower; none stays none
abbrev pub lower_hop : Option ℕ → Option ℕ
lower_hop none = none
lower_hop (some n) = some (n - 1)

-- an Interest with a HopLimit one lower
abbrev pub lower : Ask → Ask
lower a = record {
  name = a.name;
  can_be_prefix = a.can_be_prefix;
  must_be_fresh = a.must_be_fresh;
  nonce = a.nonce;
  lifetime = a.lifetime;
  hop = lower_hop a.hop;
}

-- bytes ask i, and leave as some bytes
pub record Asks (l : List ℕ) (i : Ask) : Type 0 where
  pub bytes : List ℕ
  pub means : heard l ≡ asks i bytes

-- what the Interest in a Nack means
abbrev pub request : List ℕ → Bool → Bool → ℕ → Ask
request name p m nonce = record { name = name; can_be_prefix = p; must_be_fresh = m; nonce = nonce; lifetime = usual_lifetime; hop = none }
