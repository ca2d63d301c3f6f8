-- The loop's invariant: of the requests of the faces passed those that are over are known.
use Rattle.faces.specs.Laws.Gives.{starts}
use Rattle.pending_records.specs.Laws.Over.{overs_start, overs_turn, overs_end}
use Rattle.pending_records.proofs.over_in.Goals as goal

pub loop-f-init : goal.loop-f-init
loop-f-init c = rw (starts c.into_iter-f-iterator.ensures.into_iter_gives c.of-f-items.ensures) overs_start

pub loop-f-preserved : goal.loop-f-preserved
loop-f-preserved c =
    let s = c.in-Some.ensures.steps in overs_turn s.walk c.loop-f.invariant s.within s.rest c.with_over-over.ensures

pub returns : goal.returns
returns c = let s = c.in-None.ensures.steps in overs_end s.walk c.loop-f.invariant s.past
