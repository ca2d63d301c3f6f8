-- The loop's invariant: the lines of all out-records join the list at the start where those of the out-records that are left join the list
-- as it is.
use mathlib.Core.Path.{◌≡◌}
use lib.ListN.{get_or}
use Rattle.sizes.specs.Sizes.{most_faces, most_dead}
use Rattle.names.specs.Fingerprint.{fingerprint}
use Rattle.records.specs.Line.{joined_all}
use Rattle.dead.specs.Places.View as dead
use Rattle.pending_records.specs.Places.Walk.{sent_in, lines_of}
use Rattle.pending_records.proofs.bury.Given as goal

abbrev pub invariant-loop-f : goal.invariant-loop-f
invariant-loop-f l =
    joined_all most_dead (dead.view l.initial.nonces)
    (lines_of (fingerprint l.start l.own) l.time (sent_in most_faces (get_or l.head 5 0) l.recs))
    ≡ joined_all most_dead (dead.view l.nonces) (lines_of (fingerprint l.start l.own) l.time (sent_in most_faces l.f-iterator.left l.recs))
