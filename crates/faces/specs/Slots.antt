-- What is kept for each face of a set: its slots, for any number n of faces.
-- Assumes nothing.
use Rattle.std.specs.Prelude.{ℕ, List}
use Rattle.std.proofs.Math.Option.{Option, none, some}
use Rattle.laws.specs.Pick.{pick}
use Rattle.laws.specs.Digits.{member}
use Rattle.laws.specs.Places.Tab.{tab}

-- a slot for each of n faces: what g has for their digits, for those in a set
unfoldable pub slots_of : {A : Type 0} → ℕ → ℕ → (ℕ → A) → List (Option A)
slots_of n s g = tab (λ i. pick (member i s) (some (g i)) none) 0 n
