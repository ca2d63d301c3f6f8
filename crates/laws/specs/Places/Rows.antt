-- A table as a list of rows: a row changed in place, and a row written over the one before it.
-- Assumes nothing.
use Rattle.std.specs.Prelude.{ℕ, ◌-◌, List, get_or, set}

module _ {A : Type 0} (d : A) where
  -- the table with row i changed by g; d is what is read where there is no row
  unfoldable pub at : ℕ → (A → A) → List A → List A
  at i g t = set t i (g (get_or t i d))

  -- the table with row k written over the row before it
  unfoldable pub down : ℕ → List A → List A
  down k t = set t (k - 1) (get_or t k d)
