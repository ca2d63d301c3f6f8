-- The loop's invariant is `Noting`: the rows of the faces that are left are still to be noted.
use mathlib.Core.Path.{◌≡◌, refl, sym, ◌∙◌, ap}
use Rattle.sizes.specs.Sizes.{most_faces}
use Rattle.laws.specs.Pick.{pick}
use Rattle.laws.specs.Laws.Pick.{pick_yes, pick_no}
use Rattle.faces.specs.Set.{has_face}
use Rattle.faces.specs.Laws.Gives.{starts}
use Rattle.records.specs.Rows.{fate_number}
use Rattle.happenings.specs.declared.Fate as told
use Rattle.happenings.specs.Noted.{most_rows, fate_in}
use Rattle.pending_records.specs.Laws.Note.{noting_more, noting_end, view_noted_by}
use Rattle.pending_records.proofs.note_by_face.Goals as goal
use Rattle.pending_records.proofs.note_by_face.Goals.{then-has, else-has}

pub loop-f-preserved : goal.loop-f-preserved
loop-f-preserved c =
    let s = c.in-Some.ensures.steps in
    let l = c.loop-f in
    let a = c.args in
    let told_number = λ (x : told.Fate). fate_number (fate_in x) in
    let fate : told_number c.if-has.told ≡ pick (has_face most_faces a.special c.in-Some.f) (told_number a.own) (told_number a.fate) =
    elim c.if-has.branch [
      | then-has w ↦ ap told_number w.told-is ∙ sym (pick_yes _ _ _ (sym c.has.ensures ∙ w.if-has.true))
      | else-has w ↦ ap told_number w.told-is ∙ sym (pick_no _ _ _ (sym c.has.ensures ∙ w.if-has.false))
    ] in
    noting_more most_rows most_faces _ _ _ _ _ _ l.rows _ l.next _ l.invariant s.walk _ _ _ s.within (rw fate at c.note_fate-next.ensures) s.rest

pub returns : goal.returns
returns c =
    let s = c.in-None.ensures.steps in
    let l = c.loop-f in
    let a = c.args in
    let set = starts c.into_iter-f-iterator.ensures.into_iter_gives c.of-f-items.ensures ∙ c.common.ensures in
    λ nm t. rw (view_noted_by most_faces nm a.head.now a.recs.now t a.special a.own a.fate refl refl a.set _ set)
    (noting_end most_rows most_faces _ _ _ _ _ _ l.rows _ l.next _ l.invariant s.walk s.past)
