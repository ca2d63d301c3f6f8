-- What clearing leaves of a memory byte for byte, beside what its node says: also rows and bytes that mean no part of the node.
-- Assumes nothing.
use denote.Triple.Both.{Both}
use Rattle.routes.specs.Places.Stays as routes
use Rattle.pending_table.specs.Places.Stays as pending
use Rattle.store.specs.Places.Stays as store
use Rattle.dead.specs.Places.Stays as dead
use Rattle.event.specs.declared.Memory.{Memory}

-- clearing leaves every row where it stands
pub record RowsStay (m : Both Memory Memory) : Type 0 where
  pub routes : routes.RowsStay m.entry.routes m.exit.routes
  pub pending : pending.RowsStay m.entry.pending m.exit.pending
  pub store : store.RowsStay m.entry.store m.exit.store
  pub dead : dead.LinesStay m.entry.dead m.exit.dead
