-- The return is one law over what the calls before it ensure.
use Rattle.sizes.specs.Sizes.{most_faces}
use Rattle.happenings.specs.Noted.{fate_in}
use Rattle.pending_table.specs.Places.View.{view_wide, view_said}
use Rattle.pending_pass.specs.Lent.{marked_table}
use Rattle.event.specs.declared.Memory.{Memory}
use Rattle.event.specs.Memory.{node_of}
use Rattle.on_nack.specs.Laws.Turns.{turn_ends, facts_class}
use Rattle.on_nack.proofs.end_by_nack.Goals as goal

pub returns : goal.returns
unfolding fate_in node_of
returns c =
    let a = c.args in
    λ r s.
    let m : Memory = record { time = a.time; faces = a.faces; routes = r; pending = marked_table a.p; store = s; dead = a.nonces.now } in
    λ e p known least.
    turn_ends (node_of m) a.made _ e p (view_wide most_faces _ _ _ _ _ _ e p).0 (view_said most_faces _ _ _ _ _ _ e p)
    a.reason a.name.now a.prefix a.fresh least known _ _ _ _ c.asking_faces-asking.ensures c.all_peer-all.ensures
    c.common-peers.ensures (facts_class _ _ _ e (c.facts_of-class.ensures _ _ _) p) _ _ _ c.send_nacks-sent.ensures _
    (c.note_requests-noted.ensures a.time) _ _ (c.end_requests.ensures _ _) _ _ _
    c.leave_if_idle.ensures.leaves
