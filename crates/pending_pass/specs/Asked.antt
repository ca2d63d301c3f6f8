-- How many requests some entries have.
-- Assumes nothing.
use Rattle.std.specs.Prelude.{ℕ, ◌+◌, List, [], ◌∷◌, length}
use Rattle.records.specs.Slots.{held}
use Rattle.records.specs.Entry.{Entry}

-- how many requests there are
unfoldable pub asked : List Entry → ℕ
asked [] = 0
asked (e ∷ es) = length (held e.requests) + asked es
