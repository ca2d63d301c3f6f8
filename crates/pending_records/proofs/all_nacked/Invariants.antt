-- The loop's invariant: the reason that goes on is the smaller of the one so far and of those that are left, where all of these are Nacked.
use mathlib.Core.Path.{◌≡◌}
use lib.ListN.{get_or}
use Rattle.sizes.specs.Sizes.{most_faces}
use Rattle.pending_records.specs.Places.Walk.{sent_in, nacks_from}
use Rattle.pending_records.proofs.all_nacked.Given as goal

abbrev pub invariant-loop-f : goal.invariant-loop-f
invariant-loop-f l =
    nacks_from 0 (sent_in most_faces (get_or l.head 5 0) l.recs) ≡ nacks_from l.reason (sent_in most_faces l.f-iterator.left l.recs)
