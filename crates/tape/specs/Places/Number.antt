-- The laws by which the reader of a number meets its definition: the groups passed so far, and one law for each outcome.
-- Assumes nothing.
use Rattle.std.specs.Prelude.{ℕ, ◌+◌, ◌*◌, ◌^◌, ◌≤◌, ◌<◌, ◌≡◌, ◌&&◌, ◌||◌, ltb, leb, eqb, None, Option, Some}
use Rattle.laws.specs.Pick.{pick}

-- v is the number of the groups passed, which are at most nine, and unit the place value of the next group
pub record Passed (v unit : ℕ) : Type 0 where
  pub count : ℕ
  pub few : count ≤ 9
  pub power : unit ≡ 128 ^ count
  pub low : v < unit

-- the number that the group b ends, after groups of the number v, where the place value of b is unit
unfoldable pub closed : ℕ → ℕ → ℕ → ℕ → Option (ℕ × ℕ)
closed v unit b next =
    pick ((eqb unit 1 || leb unit (v + b * unit)) && ltb (v + b * unit) (2 ^ 64)) (Some ((v + b * unit), next)) None
