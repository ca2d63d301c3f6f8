-- What a part of the code past the guard may rely on.
-- Assumes nothing.
use Rattle.std.specs.Prelude.{ℕ, ◌≤◌, ◌≡◌, List, length}
use Rattle.sizes.specs.Sizes.{most_time, most_packet, most_name, least_buffer}
use Rattle.packethead.specs.Name.{name_of}

-- the last time, the buffer's length, the packet's and the name's are within their sizes, and the name is the packet's
pub record Guarded (time room : ℕ) (bare name : List ℕ) : Type 0 where
  pub timely : time ≤ most_time
  pub roomy : least_buffer ≤ room
  pub small : length bare ≤ most_packet
  pub short : length name ≤ most_name
  pub own : name ≡ name_of bare
