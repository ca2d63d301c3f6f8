-- A search for the longest matching route, from the last route down.
-- Assumes nothing.
use Rattle.std.specs.Prelude.{ℕ, length, Some, None}
use Rattle.std.specs.declared.option.Option as code
use Rattle.std.proofs.Math.Option.{Option}
use Rattle.records.specs.Slots.{given}
use Rattle.records.specs.Route.{Route}
use Rattle.routes.specs.declared.Handle.{Handle}

-- the length of the prefix that was found, 0 where none was
unfoldable pub reach : Option Route → ℕ
reach o = given 0 (λ r. length r.name) o

-- the place that was found, or the number of the routes
unfoldable pub place_or : ℕ → code.Option Handle → ℕ
place_or n None = n
place_or n (Some h) = h.at
