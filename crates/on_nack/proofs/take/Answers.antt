-- By case: out of scope, not on a point-to-point face, without such an out-record, or the out-record is marked.
use mathlib.Core.Path.{refl}
use Rattle.pending_pass.specs.Lent.{marked_table}
use Rattle.event.specs.declared.Memory.{Memory}
use Rattle.event.specs.Memory.{node_of}
use Rattle.on_nack.specs.Laws.Goes.{nack_scope, nack_other, nack_stale, nack_marked}
use Rattle.on_nack.proofs.take.Goals.{then-sent_nonce, else-sent_nonce}
use Rattle.on_nack.proofs.take.Goals as goal

pub returns-then-is_out_of_scope : goal.returns-then-is_out_of_scope
unfolding node_of
returns-then-is_out_of_scope c =
    let a = c.args in
    λ r s.
    let m : Memory = record { time = a.time; faces = a.faces; routes = r; pending = marked_table a.p; store = s; dead = a.nonces.now } in
    let n = node_of m in
    λ q named prefix fresh own.
    nack_scope n a.made _ _ a.face a.reason q _ named _ (c.is_out_of_scope.ensures n refl) c.if-is_out_of_scope.true c.quiet.ensures

pub returns-then-not-is_peer : goal.returns-then-not-is_peer
unfolding node_of
returns-then-not-is_peer c =
    let a = c.args in
    λ r s.
    let m : Memory = record { time = a.time; faces = a.faces; routes = r; pending = marked_table a.p; store = s; dead = a.nonces.now } in
    let n = node_of m in
    λ q named prefix fresh own.
    nack_other n a.made _ _ a.face a.reason q _ named _ (c.is_out_of_scope.ensures n refl) _ c.is_peer.ensures
    c.if-is_out_of_scope.false c.if-not-is_peer.true c.quiet-then-not-is_peer.ensures

pub returns : goal.returns
unfolding node_of
returns c =
    let a = c.args in
    λ r s.
    let m : Memory = record { time = a.time; faces = a.faces; routes = r; pending = marked_table a.p; store = s; dead = a.nonces.now } in
    let n = node_of m in
    λ q named prefix fresh own.
    elim c.if-sent_nonce.branch [
      | then-sent_nonce w ↦
          rw (w.nonces-is, w.sends-is, w.out-is, w.rows-is, w.heads-is, w.recs-is, w.used-is, w.result-is)
          (nack_marked n a.made _ _ a.face a.reason q _ named _ (c.is_out_of_scope.ensures n refl) _ c.is_peer.ensures
          c.if-is_out_of_scope.false c.if-not-is_peer.false _ _ _ prefix fresh own _ (c.find-h.ensures a.p.recs.now).at _
          c.sent_nonce.ensures w.if-sent_nonce.true _ _ (w.mark.ensures r s))
      | else-sent_nonce w ↦
          rw (w.nonces-is, w.sends-is, w.out-is, w.rows-is, w.heads-is, w.recs-is, w.used-is, w.result-is)
          (nack_stale n a.made _ _ a.face a.reason q _ named _ (c.is_out_of_scope.ensures n refl) _ c.is_peer.ensures
          c.if-is_out_of_scope.false c.if-not-is_peer.false _ _ _ prefix fresh own _ (c.find-h.ensures a.p.recs.now).at _
          c.sent_nonce.ensures w.if-sent_nonce.false w.quiet-else-sent_nonce.ensures)
    ]
