-- The store that its parts make, where a function is lent them apart.
-- Assumes nothing.
use Rattle.std.specs.Prelude.{ℕ, List}
use Rattle.store.specs.declared.Row.{Row}
use Rattle.store.specs.declared.Store.{Store}

-- the store of these packets, rows and count
abbrev pub table : List (List ℕ) → List Row → ℕ → Store
table p r n = record { packets = p; rows = r; count = n }
