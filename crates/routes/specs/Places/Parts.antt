-- The routes that their parts make, where a function is lent them apart.
-- Assumes nothing.
use Rattle.std.specs.Prelude.{ℕ, List}
use Rattle.routes.specs.declared.Row.{Row}
use Rattle.routes.specs.declared.Count.{Count}
use Rattle.routes.specs.declared.Routes.{Routes}
use Rattle.routes.specs.declared.Known.{Known}

-- the routes of these prefixes, rows, costs and count
abbrev pub table : List (List ℕ) → List Row → List (List ℕ) → Count → Routes
table p r c n = record { prefixes = p; rows = r; costs = c; count = n }

-- routes that are lent to be read
abbrev pub known_routes : Known → Routes
known_routes t = table t.prefixes.now t.rows.now t.costs.now t.count
