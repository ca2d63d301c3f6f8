-- Four shapes of loop, each a function of the place i and of the number m of places left: its turns, its end and what it means.
-- Assumes nothing.
use Rattle.std.specs.Prelude.{ℕ, suc, zero, Bool}
use Rattle.laws.specs.Pick.{pick}

-- the first of m places from i on where p holds, else the place past them
unfoldable pub first : (ℕ → Bool) → ℕ → ℕ → ℕ
first p i zero = i
first p i (suc m) = pick (p i) i (first p (suc i) m)

-- the state s after m turns of f, at the places from i on
unfoldable pub turns : {S : Type 0} → (ℕ → S → S) → ℕ → ℕ → S → S
turns f i zero s = s
turns f i (suc m) s = turns f (suc i) m (f i s)
