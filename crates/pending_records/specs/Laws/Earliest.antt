-- The earliest out-record is the least of those of a set of faces.
-- Assumes nothing.
use Rattle.std.specs.Prelude.{ℕ, ◌≡◌, ◌&&◌, List, get_or}
use Rattle.std.proofs.Math.Option.{none, some}
use Rattle.records.specs.Slots.{given, least_by, least_face}
use Rattle.records.specs.Entry.{earliest_of}
use Rattle.faces.specs.Set.{has_face, faces_where}
use Rattle.pending_entry.specs.Places.View.{sent_at, view_for, view_sent}
use Rattle.pending_records.specs.Places.Walk.{sent_in, time_of}
use Rattle.pending_records.specs.Laws.Held.{held_common}

-- the face of a set with the earliest out-record of an entry
pub view_earliest : (n : ℕ) (name head : List ℕ) (recs : List (List ℕ)) (set x : ℕ)
    → x ≡ faces_where n (λ f. has_face n (get_or head 5 0) f && has_face n set f)
    → earliest_of (has_face n set) (view_for n name head recs)
    ≡ given none (λ h. some h.face) (least_by time_of (sent_in n x recs))
unfolding earliest_of least_face
view_earliest n name head recs set x e = rw (view_sent n name head recs, held_common n (get_or head 5 0) set x (sent_at recs) e)
