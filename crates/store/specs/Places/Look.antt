-- A lookup by places: what a row says of it, and the best of the Data from a place on.
-- Assumes nothing.
use Rattle.std.specs.Prelude.{ℕ, ◌+◌, Bool, ◌&&◌, ◌||◌, not, List, drop, ltb}
use Rattle.std.proofs.Math.Option.{Option, none, some}
use Rattle.std.specs.declared.option.Option as code
use Rattle.names.specs.Name.{same_bytes, prefix_of}
use Rattle.records.specs.Stored.{Stored, Hit, lookup_from}
use Rattle.store.specs.declared.Row.{Row}
use Rattle.store.specs.declared.Store.{Store}
use Rattle.store.specs.Places.View.{stored_at, view}

-- the Data at a place, and the place
unfoldable pub hit : Store → ℕ → Hit
hit s i = record { place = i; what = stored_at s i }

-- what a place means, if there is one
unfoldable pub hit_at : Store → code.Option ℕ → Option Hit
hit_at s code.Option.None = none
hit_at s (code.Option.Some i) = some (hit s i)

-- whether a name is the one asked for or, where a prefix will do, extends it
unfoldable pub answers : List ℕ → Bool → List ℕ → Bool
answers name p other = same_bytes name other || (p && prefix_of name other)

-- whether a row's time and freshness let a lookup take its Data
unfoldable pub in_time : ℕ → Bool → Row → Bool
in_time now m row = not m || ltb now (row.time + row.freshness)

-- what a lookup takes of the Data from a place on
unfoldable pub best_from : (Stored → Bool) → Store → ℕ → Option Hit
best_from p s i = lookup_from p i (drop i (view s))
