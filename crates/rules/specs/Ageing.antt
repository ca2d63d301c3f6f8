-- Document 01, "Ageing".
-- Assumes nothing.
use Rattle.std.specs.Prelude.{ℕ, List}
use Rattle.records.specs.Slots.{each}
use Rattle.records.specs.Happening.{Happening}
use Rattle.records.specs.Ageing.{expiries, aged_pending, aged_lines_by}
use Rattle.rules.specs.Node.{Node, print_of, with_time, with_pending, burying}

-- "Every other answer first moves the last time and ages the tables"
unfoldable pub aged : ℕ → Node → Node
aged now n = burying (with_pending (with_time n now) (aged_pending now n.pending)) (aged_lines_by print_of now n.pending)

-- the requests that expire, in ageing's order
unfoldable pub ageing : ℕ → Node → List Happening
ageing now n = each (expiries now) n.pending
