-- By case: an out-record is still open, or all are Nacked and the requests end by Nack.
use Rattle.sizes.specs.Sizes.{most_faces}
use Rattle.records.specs.Entry.{with_nack}
use Rattle.pending_handle.specs.Laws.Reason.{view_reason}
use Rattle.pending_pass.specs.Lent.{marked_table}
use Rattle.event.specs.declared.Memory.{Memory}
use Rattle.event.specs.Memory.{node_of}
use Rattle.on_nack.specs.Laws.Turns.{marked_there, turn_open, turn_nacked, least_is, known_marked, reason_byte}
use Rattle.on_nack.proofs.mark.Goals.{in-None, in-Some}
use Rattle.on_nack.proofs.mark.Goals as goal

pub returns : goal.returns
unfolding node_of
returns c =
    let a = c.args in
    λ r s.
    let m : Memory = record { time = a.time; faces = a.faces; routes = r; pending = marked_table a.p; store = s; dead = a.nonces.now } in
    λ e p known.
    let told = c.all_nacked.ensures in
    elim c.match-all_nacked.branch [
      | in-None w ↦
          rw (w.nonces-is, w.sends-is, w.out-is, w.rows-is, w.heads-is, w.recs-is, w.used-is, w.result-is)
          (turn_open (node_of m) a.made _ _ e p a.face a.reason (c.mark_nacked.ensures _ _) _ told w.in-None.is _ _ w.quiet.ensures)
      | in-Some w ↦
          let there = marked_there (node_of m) a.made _ _ e p a.face a.reason (c.mark_nacked.ensures _ _) _ told in
          let least = least_is (node_of m) a.made _ _ e p a.face a.reason (c.mark_nacked.ensures _ _) _ told _ w.in-Some.is in
          rw (w.nonces-is, w.sends-is, w.out-is, w.rows-is, w.heads-is, w.recs-is, w.used-is, w.result-is)
          (turn_nacked (node_of m) a.made _ _ e p a.face a.reason (c.mark_nacked.ensures _ _) _ told _ w.in-Some.is _ _ _ _
          (w.end_by_nack.ensures r s (with_nack a.face a.reason e) there
          (known_marked a.name.now a.prefix a.fresh a.face a.reason e known)
          (reason_byte _ _ least (view_reason most_faces _ _ _ _ _ _ _ there))))
    ]
