-- The loop goes from the last Data to the first. Its invariant: `best` is what a lookup takes of the Data from place i on.
use Rattle.std.proofs.Common.{◌≡◌, ◌<◌, IfSome}
use Rattle.records.specs.Stored.{serves}
use Rattle.sizes.specs.Sizes.{most_stored}
use Rattle.store.specs.Places.Look.{hit_at, best_from}
use Rattle.store.proofs.Store.look.Given as goal

abbrev pub invariant-loop-i : goal.invariant-loop-i
invariant-loop-i l =
    IfSome l.best (λ b. b < most_stored) × (best_from (serves l.time l.name l.prefix l.fresh) l.self l.i ≡ hit_at l.self l.best)
