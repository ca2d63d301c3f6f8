-- Document 01, "Interest": whether an Interest loops, and the hop that a further one takes, by the entry that a handle stands for or by
-- none.
-- Assumes nothing.
use Rattle.std.specs.Prelude.{ℕ, Bool, ◌||◌}
use Rattle.std.proofs.Math.Option.{Option, none}
use Rattle.names.specs.Fingerprint.{fingerprint}
use Rattle.records.specs.Slots.{holds, given}
use Rattle.records.specs.Entry.{Entry}
use Rattle.records.specs.Line.{is_dead}
use Rattle.rules.specs.Node.{Node}
use Rattle.rules.specs.Interest.{Arrival, entry_loops, resends}

-- "LOOP: a live fingerprint equals this one; or the entry has the nonce ..", of an entry or none, with fingerprints from a starting value
unfoldable pub loops_by : ℕ → ℕ → Node → Arrival → Option Entry → Bool
loops_by start now n a o = is_dead now (fingerprint start a.ask.name a.ask.nonce) n.dead || holds (entry_loops n a) o

-- the hop that a further Interest of an entry takes, if any; of no entry there is none
unfoldable pub resends_by : ℕ → Node → Arrival → Option Entry → Option ℕ
resends_by now n a o = given none (resends now n a) o
