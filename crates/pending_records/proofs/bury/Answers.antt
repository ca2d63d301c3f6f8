-- The loop's invariant: the lines of all out-records join the list at the start where those of the out-records that are left join the list
-- as it is.
use mathlib.Core.Path.{refl, sym, ◌∙◌}
use Rattle.sizes.specs.Sizes.{most_faces, most_dead}
use Rattle.names.specs.Fingerprint.{fingerprint}
use Rattle.faces.specs.Laws.Gives.{starts}
use Rattle.pending_records.specs.Laws.Line.{lines_turn, lines_end, view_lines}
use Rattle.pending_records.proofs.bury.Goals as goal

pub loop-f-init : goal.loop-f-init
loop-f-init c = rw (starts c.into_iter-f-iterator.ensures.into_iter_gives c.of-f-items.ensures) refl

pub loop-f-preserved : goal.loop-f-preserved
loop-f-preserved c =
    let s = c.in-Some.ensures.steps in
    let a = c.args in
    let line = rw c.fingerprint_from-print.ensures at c.join.ensures.joins in
    c.loop-f.invariant ∙ lines_turn s.walk a.recs.now most_dead a.time (fingerprint a.start _) _ s.within s.rest line

pub returns : goal.returns
returns c =
    let s = c.in-None.ensures.steps in
    let a = c.args in
    sym (rw (
      view_lines most_faces a.name.now a.head.now a.recs.now (fingerprint a.start) a.time,
      sym c.part-own.ensures,
    ) (c.loop-f.invariant ∙ lines_end s.walk a.recs.now most_dead a.time (fingerprint a.start _) _ s.past))
