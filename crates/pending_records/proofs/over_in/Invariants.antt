-- The loop's invariant: of the requests of the faces passed those that are over are known.
use Rattle.sizes.specs.Sizes.{most_faces}
use Rattle.pending_records.specs.Laws.Over.{Overs}
use Rattle.pending_records.proofs.over_in.Given as goal

abbrev pub invariant-loop-f : goal.invariant-loop-f
invariant-loop-f l = Overs most_faces l.time l.recs l.set l.f-iterator.left l.over
