-- The names that an Interest may have.
-- Assumes nothing.
use Rattle.std.specs.Prelude.{ℕ, ◌≤◌, ◌≡◌, List, length}
use Rattle.sizes.specs.Sizes.{most_components, most_name}
use Rattle.wire.specs.declared.verdict.Verdict.{Verdict}
use Rattle.names.specs.Name.{counted}

-- a name that an Interest may have: one component to 16, in 255 bytes
pub record Well (name : List ℕ) : Type 0 where
  pub fine : (counted name).said ≡ Verdict.Fine
  pub some : 1 ≤ (counted name).count
  pub few : (counted name).count ≤ most_components
  pub short : length name ≤ most_name
