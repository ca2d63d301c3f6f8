-- What the shape of a node says of its size.
-- Assumes nothing.
use Rattle.std.specs.Prelude.{ℕ, ◌≤◌, length}
use Rattle.std.proofs.Common.{arith}
use Rattle.sizes.specs.Sizes.{most_entries}
use Rattle.rules.specs.Node.{Node}
use Rattle.records.specs.Laws.Use.{entries_most}
use Rattle.history.specs.Shape.{Shaped}

-- "pending entries 64": the room rule keeps them so few
pub few_entries : {faces : ℕ} {n : Node} → Shaped faces n → length n.pending ≤ most_entries
few_entries {faces} {n} s = omega (arith, s.pending.room, entries_most n.pending)
