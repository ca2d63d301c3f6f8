-- The rows of the entry that the row means are noted.
use Rattle.records.specs.Slots.{given}
use Rattle.pending_table.specs.Laws.Parts.{seen_entry}
use Rattle.pending_handle.proofs.note_by_face.Goals as goal

pub returns-in-Some : goal.returns-in-Some
unfolding given
returns-in-Some c = λ t. rw (seen_entry c.args.t c.args.h c.row_of.ensures.row c.in-Some.is) (c.note_by_face.ensures _ t)
