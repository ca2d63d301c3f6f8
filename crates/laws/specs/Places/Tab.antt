-- Lists made from places, which is what a view of a table is: an element changed, taken out, put at the end or looked for.
-- Assumes nothing.
use Rattle.std.specs.Prelude.{ℕ, suc, zero, List, [], ◌∷◌}

module _ {A : Type 0} where
  -- the list of what g gives at each of m places from i on
  unfoldable pub tab : (ℕ → A) → ℕ → ℕ → List A
  tab g i zero = []
  tab g i (suc m) = g i ∷ tab g (suc i) m
