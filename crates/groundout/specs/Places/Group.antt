-- Where the parts of a group stand: each ahead of the one before it, and within the input.
-- Assumes nothing.
use Rattle.std.specs.Prelude.{ℕ, ◌≤◌, ◌<◌, None, Option, Some}

-- a field stands after its place and within n bytes
abbrev pub FieldIn : ℕ → ℕ → Option (ℕ × ℕ) → Type 0
FieldIn n at None = Unit {0}
FieldIn n at (Some (a, b)) = (at < a) × (a ≤ b) × (b ≤ n)

-- the next group stands after this one and within n bytes
abbrev pub Ahead : ℕ → ℕ → Option ℕ → Type 0
Ahead n at None = Unit {0}
Ahead n at (Some k) = (at < k) × (k ≤ n)
