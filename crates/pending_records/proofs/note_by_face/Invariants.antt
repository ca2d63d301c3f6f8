-- The loop's invariant is `Noting`: the rows of the faces that are left are still to be noted.
use lib.ListN.{get_or}
use Rattle.sizes.specs.Sizes.{most_faces}
use Rattle.laws.specs.Pick.{pick}
use Rattle.faces.specs.Set.{has_face}
use Rattle.records.specs.Rows.{fate_number}
use Rattle.happenings.specs.Noted.{most_rows, fate_in}
use Rattle.pending_records.specs.Laws.Note.{Noting}
use Rattle.pending_records.proofs.note_by_face.Given as goal

abbrev pub invariant-loop-f : goal.invariant-loop-f
invariant-loop-f l =
    Noting most_rows most_faces (get_or l.head 3 0) (λ g. pick (has_face most_faces l.special g) (fate_number (fate_in l.own))
    (fate_number (fate_in l.fate))) l.recs l.initial.rows l.at l.initial.f-iterator.left l.rows l.f-iterator.left l.next
