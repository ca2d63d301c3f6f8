-- What a walk found, by the places of its fields.
-- Assumes nothing.
use Rattle.std.specs.Prelude.{ℕ, ◌-◌, map, length, Option, None, Some}
use Rattle.grammar.specs.declared.Place.{Place}
use Rattle.grammar.specs.declared.Found.{Found}
use Rattle.grammar.specs.Walk.{Field, absent, here, Fields}

-- where a value stands in a parent of n bytes: at 0 where there is none
unfoldable pub place_in : ℕ → Field → Place
place_in n absent = record { at = 0; len = 0 }
place_in n (here v k) = record { at = n - k - length v; len = length v }

-- the place of a value, or none where there is no value
unfoldable pub spot_in : ℕ → Field → Option Place
spot_in n absent = None
spot_in n (here v k) = Some (place_in n (here v k))

-- the places of what was said
unfoldable pub found_in : ℕ → Fields → Found
found_in n f = record { said = f.said; last = f.last; places = map (spot_in n) f.vals }
