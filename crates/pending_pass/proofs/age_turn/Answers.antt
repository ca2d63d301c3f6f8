-- The return is one law over what the calls before it ensure.
use mathlib.Core.Path.{refl}
use Rattle.sizes.specs.Sizes.{most_faces}
use Rattle.names.specs.Fingerprint.{fingerprint}
use Rattle.happenings.specs.Noted.{fate_in}
use Rattle.pending_table.specs.Places.View.{view_wide}
use Rattle.pending_pass.specs.Laws.Turn.{turn_aged}
use Rattle.pending_pass.proofs.age_turn.Goals as goal

pub returns : goal.returns
unfolding fate_in
returns c =
    let a = c.args in
    λ e p.
    turn_aged most_faces (fingerprint a.start) a.time _ _ _ _ _ _ a.made _ e p (view_wide most_faces _ _ _ _ _ _ e p).0 _ _ _ _ _
    c.leave_if_idle.ensures.leaves
    _ c.overdue-over.ensures (c.note_requests-noted.ensures a.time) (c.age.ensures.aged a.t.names.now a.t.numbers.now) refl
