-- The name of the Data that the packet and the row there mean.
use Rattle.std.proofs.Common.{rules}
use Rattle.store.specs.Places.View.{stored_at}
use Rattle.store.proofs.Store.name_at.Goals as goal

pub returns : goal.returns
unfolding stored_at
returns c = search rules
