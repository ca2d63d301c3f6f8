-- The return is one law over what the calls before it ensure.
use Rattle.sizes.specs.Sizes.{most_faces}
use Rattle.names.specs.Fingerprint.{fingerprint}
use Rattle.happenings.specs.Noted.{fate_in}
use Rattle.pending_table.specs.Places.View.{view_wide}
use Rattle.pending_pass.specs.Laws.Turn.{turn_closed}
use Rattle.pending_pass.proofs.close_turn.Goals as goal

pub returns : goal.returns
unfolding fate_in
returns c =
    let a = c.args in
    let n = a.t.names.now in
    let k = a.t.numbers.now in
    λ e p.
    turn_closed most_faces (fingerprint a.start) a.time _ _ _ _ _ _ a.made _ e p (view_wide most_faces _ _ _ _ _ _ e p).0 _ _ _ _ _
    c.leave_if_idle.ensures.leaves
    a.face c.bury_face.ensures (c.note_face-noted.ensures a.time) _ (c.end_sent.ensures n k)
    (rw c.add.ensures at (c.end_requests.ensures n k))
