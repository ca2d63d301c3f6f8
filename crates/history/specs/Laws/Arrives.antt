-- What came in, of the cases of an event.
-- Assumes nothing.
use Rattle.std.specs.Prelude.{ℕ, ◌≡◌}
use Rattle.std.proofs.Common.{sym}
use Rattle.packets.specs.Meaning.{asks, brings, nacks}
use Rattle.rules.specs.Node.{Node, What, Event}
use Rattle.rules.specs.Ageing.{aged}
use Rattle.rules.specs.Outcome.{Outcome}
use Rattle.history.specs.Moments.{Arrives}
use Rattle.history.specs.Laws.Becomes.{HoldsInterest, HoldsData, HoldsNack}

module _ (e : Event) (n : Node) (o : Outcome) (f : ℕ) {w : What} (came : e.what ≡ w) where
  -- an Interest arrives
  pub interest_arrives : (q : HoldsInterest (aged e.time n) w f)
      → Arrives (record { event = e; before = n; outcome = o }) f (asks q.ask q.bytes)
  interest_arrives q = rw came q.comes

  -- a Data arrives
  pub data_arrives : (q : HoldsData (aged e.time n) w f)
      → Arrives (record { event = e; before = n; outcome = o }) f (brings q.offer q.bytes)
  data_arrives q = rw came q.comes

  -- a Nack arrives
  pub nack_arrives : (q : HoldsNack (aged e.time n) w f)
      → Arrives (record { event = e; before = n; outcome = o }) f (nacks q.reason q.ask)
  nack_arrives q = rw came q.comes
