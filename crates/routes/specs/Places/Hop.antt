-- The hops of a route: set, dropped, asked for, and the cheapest of them.
-- Assumes nothing.
use Rattle.std.specs.Prelude.{ℕ}
use Rattle.std.proofs.Math.Option.{Option}
use Rattle.faces.specs.Slots.{slots_of}
use Rattle.records.specs.Slots.{Held, held, least_by}

-- the least that is kept for the faces of a set
unfoldable pub least_of : ℕ → (ℕ → ℕ) → ℕ → Option (Held ℕ)
least_of n g s = least_by (λ h. h.what) (held (slots_of n s g))
