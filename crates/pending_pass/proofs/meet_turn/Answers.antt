-- The return is one law over what the calls before it ensure.
use Rattle.sizes.specs.Sizes.{most_faces}
use Rattle.names.specs.Fingerprint.{fingerprint}
use Rattle.happenings.specs.Noted.{fate_in}
use Rattle.pending_table.specs.Places.View.{view_wide}
use Rattle.pending_pass.specs.Laws.Turn.{turn_met}
use Rattle.pending_pass.proofs.meet_turn.Goals as goal

pub returns : goal.returns
unfolding fate_in
returns c =
    let a = c.args in
    let t = a.t in
    let out = c.take_out.ensures t.names.now t.heads.now t.recs.now t.numbers.now in
    λ e p.
    turn_met most_faces (fingerprint a.start) a.time _ _ _ _ _ _ a.made _ e p (view_wide most_faces _ _ _ _ _ _ e p).0 _
    c.asking_faces-asked.ensures a.face a.adhoc _ c.self_met-met.ensures (c.note_by_face-noted.ensures a.time) _ c.bury.ensures
    _ out.left _ out.chosen
