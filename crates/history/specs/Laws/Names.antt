-- The names that are read: an Interest's is one that an Interest may have, and a Data's has 255 bytes at most; and the size of what leaves.
-- Assumes nothing.
use Rattle.std.specs.Prelude.{ℕ, ◌≤◌, length}
use Rattle.packets.specs.Well.{Well}
use Rattle.packets.specs.Laws.Heard.{asks_well, asks_short, brings_name_short, brings_short}
use Rattle.rules.specs.Node.{Node, What}
use Rattle.incoming.specs.Laws.Incoming.{hears_bytes}
use Rattle.sizes.specs.Sizes.{most_name, most_packet}
use Rattle.history.specs.Laws.Becomes.{HoldsInterest, HoldsData, asked, brought}

module _ {n : Node} {w : What} {f : ℕ} where
  -- the name of an Interest
  pub interest_name : (q : HoldsInterest n w f) → Well (asked q).name
  interest_name q = let x = hears_bytes n f _ w q.comes in asks_well x.0 x.2

  -- the name of a Data
  pub data_name : (q : HoldsData n w f) → length (brought q).name ≤ most_name
  data_name q = let x = hears_bytes n f _ w q.comes in brings_name_short x.0 x.2

  -- an Interest as it leaves
  pub interest_size : (q : HoldsInterest n w f) → length q.bytes ≤ most_packet
  interest_size q = let x = hears_bytes n f _ w q.comes in asks_short x.0 x.2

  -- a Data as it leaves
  pub data_size : (q : HoldsData n w f) → length q.bytes ≤ most_packet
  data_size q = let x = hears_bytes n f _ w q.comes in brings_short x.0 x.2
