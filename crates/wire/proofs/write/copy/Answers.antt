-- A copy into a part is a run of stores.
use Rattle.std.proofs.Common.{arith}
use Rattle.wire.specs.Laws.Write.{part_stored}
use Rattle.wire.proofs.write.copy.Goals as goal

pub returns : goal.returns
returns c = part_stored _ _ _ _ _ c.requires (omega arith) c.copy_from_slice.ensures.after
