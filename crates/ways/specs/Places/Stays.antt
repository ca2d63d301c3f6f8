-- Whether an Interest may leave on local faces alone, by what is found of it.
-- Assumes nothing.
use Rattle.std.specs.Prelude.{ℕ, Bool, ◌&&◌, ◌||◌, not, List}
use Rattle.std.proofs.Math.Option.{Option}
use Rattle.names.specs.Name.{under_localhost, under_localhop}
use Rattle.rules.specs.Interest.{spent}

-- "local if HopLimit is present and is 0 after lowering; local for /localhost; local for /localhop unless a live request .. is from a local
-- face"
unfoldable pub stays_local : Option ℕ → List ℕ → Bool → Bool
stays_local hop name l = spent hop || under_localhost name || (under_localhop name && not l)
