-- The space is stored, and then the digits.
use Rattle.std.proofs.Common.{arith, length-set}
use Rattle.lines.specs.Lines.{spaced}
use Rattle.lines.specs.Laws.Put.{stored_spaced}
use Rattle.lines.proofs.store_spaced.Goals as goal

pub bounds-out-at : goal.bounds-out-at
unfolding spaced
bounds-out-at c = omega arith

pub store_decimal-requires : goal.store_decimal-requires
unfolding spaced
store_decimal-requires c = simp length-set (omega arith)

pub returns : goal.returns
returns c = stored_spaced _ _ _ _ _ c.store_decimal.ensures
