-- Where the parts of a group stand: each ahead of the one before it, and within the input.
-- Assumes nothing.
use Rattle.std.specs.Prelude.{ℕ, ◌≤◌, ◌<◌, ◌≡◌, Option, Some}
use Rattle.groundout.specs.Places.Group.{FieldIn, Ahead}

-- where a field stands that was found
pub field_in : (n at : ℕ) (r : Option (ℕ × ℕ)) (a b : ℕ) → FieldIn n at r → r ≡ Some (a, b) → (at < a) × (a ≤ b) × (b ≤ n)
field_in n at r a b h e = rw e at h

-- where the next group stands that was found
pub ahead : (n at : ℕ) (r : Option ℕ) (k : ℕ) → Ahead n at r → r ≡ Some k → (at < k) × (k ≤ n)
ahead n at r k h e = rw e at h
