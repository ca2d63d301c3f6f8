-- What a part of the code past the guard may rely on.
-- Assumes nothing.
use Rattle.std.specs.Prelude.{ℕ, ◌≤◌}
use Rattle.sizes.specs.Sizes.{most_time, most_packet, most_name, least_buffer}

-- the last time, the buffer's length, the packet's and the name's are within their sizes
pub record Sized (time room packet name : ℕ) : Type 0 where
  pub timely : time ≤ most_time
  pub roomy : least_buffer ≤ room
  pub small : packet ≤ most_packet
  pub short : name ≤ most_name
