-- The clock only begins.
use Rattle.event.specs.Laws.Begun.{clock_begins}
use Rattle.event.specs.Laws.Comes.{comes_by, comes_is}
use Rattle.event.specs.Places.Begins.{began}
use Rattle.event.proofs.clock.Goals as goal

pub returns-in-Ok : goal.returns-in-Ok
unfolding began
returns-in-Ok c =
    λ f r s.
    comes_by _ _ _ _ _ _ _ (clock_begins _ _ _ _ _) (comes_is _ _ _ _ _ _ _ c.quiet.ensures (c.in-Ok.ensures.begun f r s))

pub returns-in-Err : goal.returns-in-Err
unfolding began
returns-in-Err c =
    λ f r s.
    comes_by _ _ _ _ _ _ _ (clock_begins _ _ _ _ _) (comes_is _ _ _ _ _ _ _ c.quiet-in-Err.ensures (c.in-Err.ensures.begun f r s))
