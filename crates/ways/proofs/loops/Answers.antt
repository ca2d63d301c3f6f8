-- By the dead nonce list, and then by the entry.
use Rattle.std.proofs.Common.{◌∙◌}
use Rattle.ways.specs.Laws.Loops.{loops_dead, loops_entry}
use Rattle.ways.proofs.loops.Goals as goal

pub returns-then-is_dead : goal.returns-then-is_dead
returns-then-is_dead c =
    λ n a x d y w z.
    c.if-is_dead.true
    ∙ loops_dead _ _ n a _ _ _ _ d w z c.fingerprint_from-print.ensures _ c.is_dead.ensures _ c.if-is_dead.true

pub returns-else-is_dead : goal.returns-else-is_dead
returns-else-is_dead c =
    λ n a x d y w z.
    loops_entry _ _ n a _ _ _ _ d w z c.fingerprint_from-print.ensures _ c.is_dead.ensures _ _
    c.if-is_dead.false (c.entry_loops.ensures n a x y z)
