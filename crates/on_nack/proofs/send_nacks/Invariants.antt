-- A walk over the set's faces, the lowest first: one law for the start, one for a turn, one for the end.
use mathlib.Core.Path.{◌≡◌}
use lib.ListN.{length}
use Rattle.pending_table.specs.Places.View.{entry_at}
use Rattle.pending_table.specs.Places.Parts.{seen}
use Rattle.sending.specs.Laws.Packing.{Sending}
use Rattle.on_nack.specs.Places.Nacks.{nacks_on}
use Rattle.on_nack.proofs.send_nacks.Given as goal

abbrev pub invariant-loop-face : goal.invariant-loop-face
invariant-loop-face l =
    let o = entry_at (seen l.t) l.h in
    Sending l.initial.sends l.initial.out (nacks_on o l.set l.reason l.name l.prefix l.fresh l.class)
    (nacks_on o l.face-iterator.left l.reason l.name l.prefix l.fresh l.class)
    (record { count = l.sent.count; at = l.sent.at; rows = l.sends; buffer = l.out })
    × (length l.out ≡ length l.initial.out)
