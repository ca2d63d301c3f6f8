-- A face of the set has its request noted; no other number has one.
use mathlib.Core.Path.{sym, ◌∙◌}
use Rattle.sizes.specs.Sizes.{most_faces}
use Rattle.happenings.specs.Noted.{most_rows}
use Rattle.happenings.specs.Laws.Noted.{notes_none}
use Rattle.pending_records.specs.Laws.Note.{view_noted_one, view_noted_none}
use Rattle.pending_records.proofs.note_face.Goals as goal

pub returns-then-has : goal.returns-then-has
returns-then-has c =
    λ nm now. rw (view_noted_one most_faces nm _ _ now _ _ (sym c.has.ensures ∙ c.if-has.true)) c.note_fate.ensures

pub returns-else-has : goal.returns-else-has
returns-else-has c =
    λ nm now. rw (view_noted_none most_faces nm _ _ now _ _ (sym c.has.ensures ∙ c.if-has.false)) (notes_none most_rows _ _)
