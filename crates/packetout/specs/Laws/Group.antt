-- Where a group's packet stands: ahead of the group's place, and within the input.
-- Assumes nothing.
use Rattle.std.specs.Prelude.{ℕ, ◌≤◌, ◌<◌, ◌≡◌, Option, Some}
use Rattle.packetout.specs.Places.Group.{GroupIn}

-- where a packet stands that was found
pub group_in : (n at : ℕ) (r : Option (ℕ × ℕ)) (a b : ℕ) → GroupIn n at r → r ≡ Some (a, b) → (at < a) × (a ≤ b) × (b ≤ n)
group_in n at r a b h e = rw e at h
