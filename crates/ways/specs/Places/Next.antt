-- The hop in a route that a further Interest of an entry takes, as the code asks for it: of an entry or none, in a route or none.
-- Assumes nothing.
use Rattle.std.specs.Prelude.{ℕ, Bool}
use Rattle.std.proofs.Math.Option.{Option, none}
use Rattle.records.specs.Slots.{given}
use Rattle.records.specs.Route.{Route}
use Rattle.records.specs.Entry.{Entry}
use Rattle.rules.specs.Interest.{next_hop}

-- the next hop among the faces that p holds of; of no entry there is none
unfoldable pub next_of : (ℕ → Bool) → Option Route → Option Entry → Option ℕ
next_of p r o = given none (λ e. given none (next_hop p e) r) o
