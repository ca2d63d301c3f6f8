-- A column of a table from which an element was taken out.
-- Assumes nothing.
use Rattle.std.specs.Prelude.{ℕ, ◌+◌, ◌<◌, ◌≤◌, ◌≡◌, List, get_or}

-- of n, those after place i stand one place down, those before it as they were
pub record Moved {A : Type 0} (z : A) (i n : ℕ) (old new : List A) : Type 0 where
  pub before : (k : ℕ) → k < i → get_or new k z ≡ get_or old k z
  pub after : (k : ℕ) → i ≤ k → k + 1 < n → get_or new k z ≡ get_or old (k + 1) z
