-- Where both fates are one, all requests have it.
use Rattle.sizes.specs.Sizes.{most_faces}
use Rattle.pending_records.specs.Laws.Note.{view_noted_same}
use Rattle.pending_records.proofs.note_requests.Goals as goal

pub returns : goal.returns
returns c =
    let a = c.args in
    λ nm t. rw (← view_noted_same most_faces nm a.head.now a.recs.now t a.fate 0 a.set) (c.note_by_face.ensures nm t)
