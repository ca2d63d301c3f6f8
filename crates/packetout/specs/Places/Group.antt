-- Where a group's packet stands: ahead of the group's place, and within the input.
-- Assumes nothing.
use Rattle.std.specs.Prelude.{ℕ, ◌≤◌, ◌<◌, Option, None, Some}

-- a packet stands after its group's place and within n bytes
abbrev pub GroupIn : ℕ → ℕ → Option (ℕ × ℕ) → Type 0
GroupIn n at None = Unit {0}
GroupIn n at (Some (a, b)) = (at < a) × (a ≤ b) × (b ≤ n)
