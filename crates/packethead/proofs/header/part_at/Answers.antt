-- The place lies within s at the last return, and not at the other.
use Rattle.std.proofs.Common.{sym, arith}
use Rattle.std.proofs.Math.Nat.{add-sub_cancel_left}
use Rattle.packethead.specs.Laws.Part.{part_is, part_none}
use Rattle.packethead.proofs.header.part_at.Goals as goal
use Rattle.packethead.proofs.header.part_at.Goals.{then-s-at-via-then-s-at, then-s-at-via-else-s-at+then-s-at-2}

pub returns-then-s-at : goal.returns-then-s-at
returns-then-s-at c =
    sym (part_none _ _ (elim c.then-s-at.branch [
      | then-s-at-via-then-s-at w ↦ omega arith
      | then-s-at-via-else-s-at+then-s-at-2 w ↦ omega arith
    ]))

pub returns : goal.returns
returns c = rw add-sub_cancel_left (sym (part_is _ _ (omega arith)))
