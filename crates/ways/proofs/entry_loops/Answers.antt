-- By whether the entry counts.
use Rattle.std.proofs.Common.{ap, ◌∙◌, not}
use Rattle.ways.specs.Laws.Loops.{entry_own, entry_other}
use Rattle.ways.proofs.entry_loops.Goals as goal

pub returns-then-not-is_own : goal.returns-then-not-is_own
returns-then-not-is_own c =
    λ n a x y z.
    entry_other n a _ _ _ _ x y z _ c.is_own.ensures _ c.if-not-is_own.true c.has_nonce.ensures

pub returns-else-not-is_own : goal.returns-else-not-is_own
returns-else-not-is_own c =
    λ n a x y z.
    ap not c.if-not-is_own.false ∙ entry_own n a _ _ _ _ x y z _ c.is_own.ensures c.if-not-is_own.false
