-- The trailing zeros of the complement are the lowest row that is not used.
use native.Mathlib.Omega.{arith}
use Rattle.sizes.specs.Sizes.{most_entries}
use Rattle.pending_order.specs.Laws.Free.{free_lowest}
use Rattle.pending_order.proofs.free.Goals as goal

pub returns : goal.returns
returns c = free_lowest most_entries c.args.used (omega arith)
