-- A copy into a part is a run of stores.
use Rattle.std.proofs.Common.{refl, arith}
use Rattle.wire.specs.Laws.Write.{part_stored}
use Rattle.lines.proofs.store_word.Goals as goal

pub returns : goal.returns
returns c =
    record { same = part_stored _ _ _ _ _ c.requires (omega arith) c.copy_from_slice.ensures.after; past = refl }
