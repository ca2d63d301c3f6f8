-- One outcome for each input of each public function: any two that its contract admits are equal, or have the same entries, lines or rows
-- at exit.
-- Assumes nothing.
use Prim.Native.Nat.{ℕ}
use mathlib.Core.List.{List}
use mathlib.Core.Path.{◌≡◌, sym, ◌∙◌}
use contract.Lifetimes.{Lfts}
use denote.Triple.Clauses.{AtExit}
use borrow.Fn.Kinds.{Dens, ended_of, res_t}
use Rattle.faces.specs.Laws.Found.{face_one}
use Rattle.dead.specs.Places.View as dead
use Rattle.happenings.specs.Noted.{most_rows}
use Rattle.happenings.specs.Laws.Noted.{notes_one}
use Rattle.pending_entry.specs.Laws.Change.{asked_same}
use Rattle.pending_records.specs.Laws.Nacks.{nacks_same}
use Rattle.pending_table.specs.Places.View.{view, marks_of, Stands}
use Rattle.pending_table.specs.Places.Parts.{table, seen}
use Rattle.pending_table.specs.Laws.Same.{stands_parts}
use Rattle.pending_handle.proofs.renew.Kinds as renew-kinds
use Rattle.pending_handle.proofs.renew.Reads as renew-reads
use Rattle.pending_handle.proofs.end_requests.Kinds as end-requests-kinds
use Rattle.pending_handle.proofs.end_requests.Reads as end-requests-reads
use Rattle.pending_handle.proofs.send.Kinds as send-kinds
use Rattle.pending_handle.proofs.send.Reads as send-reads
use Rattle.pending_handle.proofs.end_sent.Kinds as end-sent-kinds
use Rattle.pending_handle.proofs.end_sent.Reads as end-sent-reads
use Rattle.pending_handle.proofs.mark_nacked.Kinds as mark-nacked-kinds
use Rattle.pending_handle.proofs.mark_nacked.Reads as mark-nacked-reads
use Rattle.pending_handle.proofs.age.Kinds as age-kinds
use Rattle.pending_handle.proofs.age.Reads as age-reads
use Rattle.pending_handle.proofs.asking_faces.Kinds as asking-faces-kinds
use Rattle.pending_handle.proofs.asking_faces.Reads as asking-faces-reads
use Rattle.pending_handle.proofs.sent_faces.Kinds as sent-faces-kinds
use Rattle.pending_handle.proofs.sent_faces.Reads as sent-faces-reads
use Rattle.pending_handle.proofs.unsent.Kinds as unsent-kinds
use Rattle.pending_handle.proofs.unsent.Reads as unsent-reads
use Rattle.pending_handle.proofs.is_idle.Kinds as is-idle-kinds
use Rattle.pending_handle.proofs.is_idle.Reads as is-idle-reads
use Rattle.pending_handle.proofs.own_nonce.Kinds as own-nonce-kinds
use Rattle.pending_handle.proofs.own_nonce.Reads as own-nonce-reads
use Rattle.pending_handle.proofs.sent_nonce.Kinds as sent-nonce-kinds
use Rattle.pending_handle.proofs.sent_nonce.Reads as sent-nonce-reads
use Rattle.pending_handle.proofs.request_of.Kinds as request-of-kinds
use Rattle.pending_handle.proofs.request_of.Reads as request-of-reads
use Rattle.pending_handle.proofs.overdue.Kinds as overdue-kinds
use Rattle.pending_handle.proofs.overdue.Reads as overdue-reads
use Rattle.pending_handle.proofs.has_nonce.Kinds as has-nonce-kinds
use Rattle.pending_handle.proofs.has_nonce.Reads as has-nonce-reads
use Rattle.pending_handle.proofs.is_suppressed.Kinds as is-suppressed-kinds
use Rattle.pending_handle.proofs.is_suppressed.Reads as is-suppressed-reads
use Rattle.pending_handle.proofs.earliest.Kinds as earliest-kinds
use Rattle.pending_handle.proofs.earliest.Reads as earliest-reads
use Rattle.pending_handle.proofs.all_nacked.Kinds as all-nacked-kinds
use Rattle.pending_handle.proofs.all_nacked.Reads as all-nacked-reads
use Rattle.pending_handle.proofs.bury.Kinds as bury-kinds
use Rattle.pending_handle.proofs.bury.Reads as bury-reads
use Rattle.pending_handle.proofs.bury_face.Kinds as bury-face-kinds
use Rattle.pending_handle.proofs.bury_face.Reads as bury-face-reads
use Rattle.pending_handle.proofs.note_requests.Kinds as note-requests-kinds
use Rattle.pending_handle.proofs.note_requests.Reads as note-requests-reads
use Rattle.pending_handle.proofs.note_by_face.Kinds as note-by-face-kinds
use Rattle.pending_handle.proofs.note_by_face.Reads as note-by-face-reads
use Rattle.pending_handle.proofs.note_face.Kinds as note-face-kinds
use Rattle.pending_handle.proofs.note_face.Reads as note-face-reads
use Rattle.pending_handle.proofs.overdue_entries.Kinds as overdue-entries-kinds
use Rattle.pending_handle.proofs.overdue_entries.Reads as overdue-entries-reads

-- two outcomes have the same entries, where they stood: "open this face's request, or renew it with the new nonce and expiry"
pub renew_one : (κs : Lfts 2) (a : Dens κs renew-kinds.ps) (x y : (res_t renew-kinds.r κs).Denot)
    (s t : AtExit (ended_of 2 renew-kinds.ps renew-kinds.r) κs) (n : List (List ℕ)) (k : List ℕ)
    → renew-reads.Post κs a x s → renew-reads.Post κs a y t
    → (view (table n s.0.now s.1.0.now k a.1.1.0) ≡ view (table n t.0.now t.1.0.now k a.1.1.0))
    × Stands (table n s.0.now s.1.0.now k a.1.1.0) (table n t.0.now t.1.0.now k a.1.1.0)
renew_one κs a x y s t n k p q = (p n k ∙ sym (q n k), stands_parts n n _ _ _ _ k _)

-- two outcomes have the same entries, where they stood: Ends the requests of the faces of a set, all at once
pub end_requests_one : (κs : Lfts 2) (a : Dens κs end-requests-kinds.ps) (x y : (res_t end-requests-kinds.r κs).Denot)
    (s t : AtExit (ended_of 2 end-requests-kinds.ps end-requests-kinds.r) κs) (n : List (List ℕ)) (k : List ℕ)
    → end-requests-reads.Post κs a x s → end-requests-reads.Post κs a y t
    → (view (table n s.0.now a.1.0.now k a.1.1.0) ≡ view (table n t.0.now a.1.0.now k a.1.1.0))
    × Stands (table n s.0.now a.1.0.now k a.1.1.0) (table n t.0.now a.1.0.now k a.1.1.0)
end_requests_one κs a x y s t n k p q = (p n k ∙ sym (q n k), stands_parts n n _ _ _ _ k _)

-- two outcomes have the same entries, where they stood: "A send sets the out-record anew, its Nack reason cleared."
pub send_one : (κs : Lfts 2) (a : Dens κs send-kinds.ps) (x y : (res_t send-kinds.r κs).Denot)
    (s t : AtExit (ended_of 2 send-kinds.ps send-kinds.r) κs) (n : List (List ℕ)) (k : List ℕ)
    → send-reads.Post κs a x s → send-reads.Post κs a y t
    → (view (table n s.0.now s.1.0.now k a.1.1.0) ≡ view (table n t.0.now t.1.0.now k a.1.1.0))
    × Stands (table n s.0.now s.1.0.now k a.1.1.0) (table n t.0.now t.1.0.now k a.1.1.0)
send_one κs a x y s t n k p q = (p n k ∙ sym (q n k), stands_parts n n _ _ _ _ k _)

-- two outcomes have the same entries, where they stood: Takes a face's out-record out
pub end_sent_one : (κs : Lfts 2) (a : Dens κs end-sent-kinds.ps) (x y : (res_t end-sent-kinds.r κs).Denot)
    (s t : AtExit (ended_of 2 end-sent-kinds.ps end-sent-kinds.r) κs) (n : List (List ℕ)) (k : List ℕ)
    → end-sent-reads.Post κs a x s → end-sent-reads.Post κs a y t
    → (view (table n s.0.now a.1.0.now k a.1.1.0) ≡ view (table n t.0.now a.1.0.now k a.1.1.0))
    × Stands (table n s.0.now a.1.0.now k a.1.1.0) (table n t.0.now a.1.0.now k a.1.1.0)
end_sent_one κs a x y s t n k p q = (p n k ∙ sym (q n k), stands_parts n n _ _ _ _ k _)

-- two outcomes have the same entries, where they stood: "Reasons other than 50, 100, 150 become 0, still Nacked.": marks an out-record
pub mark_nacked_one : (κs : Lfts 2) (a : Dens κs mark-nacked-kinds.ps) (x y : (res_t mark-nacked-kinds.r κs).Denot)
    (s t : AtExit (ended_of 2 mark-nacked-kinds.ps mark-nacked-kinds.r) κs) (n : List (List ℕ)) (k : List ℕ)
    → mark-nacked-reads.Post κs a x s → mark-nacked-reads.Post κs a y t
    → (view (table n a.0.now s.1.0.now k a.1.1.0) ≡ view (table n a.0.now t.1.0.now k a.1.1.0))
    × Stands (table n a.0.now s.1.0.now k a.1.1.0) (table n a.0.now t.1.0.now k a.1.1.0)
mark_nacked_one κs a x y s t n k p q = (p n k ∙ sym (q n k), stands_parts n n _ _ _ _ k _)

-- two outcomes are the same: Ends the requests that are over; the set of their faces
pub age_one : (κs : Lfts 2) (a : Dens κs age-kinds.ps) (x y : (res_t age-kinds.r κs).Denot)
    (s t : AtExit (ended_of 2 age-kinds.ps age-kinds.r) κs) (n : List (List ℕ)) (k : List ℕ)
    → age-reads.Post κs a x s → age-reads.Post κs a y t
    → (x ≡ y) × (view (table n s.0.now a.1.0.now k a.1.1.0) ≡ view (table n t.0.now a.1.0.now k a.1.1.0))
    × Stands (table n s.0.now a.1.0.now k a.1.1.0) (table n t.0.now a.1.0.now k a.1.1.0)
age_one κs a x y s t n k p q = (p.1 n k ∙ sym (q.1 n k), p.0 n k ∙ sym (q.0 n k), stands_parts n n _ _ _ _ k _)

-- two outcomes are the same: The faces with a request
pub asking_faces_one : (κs : Lfts 1) (a : Dens κs asking-faces-kinds.ps) (x y : (res_t asking-faces-kinds.r κs).Denot)
    (s t : AtExit (ended_of 1 asking-faces-kinds.ps asking-faces-kinds.r) κs)
    → asking-faces-reads.Post κs a x s → asking-faces-reads.Post κs a y t → x ≡ y
asking_faces_one κs a x y s t p q = p ∙ sym q

-- two outcomes are the same: The faces with an out-record
pub sent_faces_one : (κs : Lfts 1) (a : Dens κs sent-faces-kinds.ps) (x y : (res_t sent-faces-kinds.r κs).Denot)
    (s t : AtExit (ended_of 1 sent-faces-kinds.ps sent-faces-kinds.r) κs)
    → sent-faces-reads.Post κs a x s → sent-faces-reads.Post κs a y t → x ≡ y
sent_faces_one κs a x y s t p q = p ∙ sym q

-- two outcomes are the same: "without an out-record": those faces of a set
pub unsent_one : (κs : Lfts 1) (a : Dens κs unsent-kinds.ps) (x y : (res_t unsent-kinds.r κs).Denot)
    (s t : AtExit (ended_of 1 unsent-kinds.ps unsent-kinds.r) κs)
    → unsent-reads.Post κs a x s → unsent-reads.Post κs a y t → x ≡ y
unsent_one κs a x y s t p q = p ∙ sym q

-- two outcomes are the same: Whether the entry has no requests; a handle of no entry has none
pub is_idle_one : (κs : Lfts 1) (a : Dens κs is-idle-kinds.ps) (x y : (res_t is-idle-kinds.r κs).Denot)
    (s t : AtExit (ended_of 1 is-idle-kinds.ps is-idle-kinds.r) κs)
    → is-idle-reads.Post κs a x s → is-idle-reads.Post κs a y t → x ≡ y
is_idle_one κs a x y s t p q = p ∙ sym q

-- two outcomes are the same: "its own in-record has this nonce"
pub own_nonce_one : (κs : Lfts 1) (a : Dens κs own-nonce-kinds.ps) (x y : (res_t own-nonce-kinds.r κs).Denot)
    (s t : AtExit (ended_of 1 own-nonce-kinds.ps own-nonce-kinds.r) κs)
    → own-nonce-reads.Post κs a x s → own-nonce-reads.Post κs a y t → x ≡ y
own_nonce_one κs a x y s t p q = p ∙ sym q

-- two outcomes are the same: Whether a face has an "out-record with this nonce"
pub sent_nonce_one : (κs : Lfts 1) (a : Dens κs sent-nonce-kinds.ps) (x y : (res_t sent-nonce-kinds.r κs).Denot)
    (s t : AtExit (ended_of 1 sent-nonce-kinds.ps sent-nonce-kinds.r) κs)
    → sent-nonce-reads.Post κs a x s → sent-nonce-reads.Post κs a y t → x ≡ y
sent_nonce_one κs a x y s t p q = p ∙ sym q

-- two outcomes are the same: A face's request, if it has one
pub request_of_one : (κs : Lfts 1) (a : Dens κs request-of-kinds.ps) (x y : (res_t request-of-kinds.r κs).Denot)
    (s t : AtExit (ended_of 1 request-of-kinds.ps request-of-kinds.r) κs)
    → request-of-reads.Post κs a x s → request-of-reads.Post κs a y t → x ≡ y
request_of_one κs a x y s t p q = asked_same x y (p ∙ sym q)

-- two outcomes are the same: The faces whose requests are over
pub overdue_one : (κs : Lfts 1) (a : Dens κs overdue-kinds.ps) (x y : (res_t overdue-kinds.r κs).Denot)
    (s t : AtExit (ended_of 1 overdue-kinds.ps overdue-kinds.r) κs)
    → overdue-reads.Post κs a x s → overdue-reads.Post κs a y t → x ≡ y
overdue_one κs a x y s t p q = p ∙ sym q

-- two outcomes are the same: Whether a nonce stands in some in-record or out-record
pub has_nonce_one : (κs : Lfts 1) (a : Dens κs has-nonce-kinds.ps) (x y : (res_t has-nonce-kinds.r κs).Denot)
    (s t : AtExit (ended_of 1 has-nonce-kinds.ps has-nonce-kinds.r) κs)
    → has-nonce-reads.Post κs a x s → has-nonce-reads.Post κs a y t → x ≡ y
has_nonce_one κs a x y s t p q = p ∙ sym q

-- two outcomes are the same: "If the newest out-record was sent under 100 ms ago, send nothing."
pub is_suppressed_one : (κs : Lfts 1) (a : Dens κs is-suppressed-kinds.ps) (x y : (res_t is-suppressed-kinds.r κs).Denot)
    (s t : AtExit (ended_of 1 is-suppressed-kinds.ps is-suppressed-kinds.r) κs)
    → is-suppressed-reads.Post κs a x s → is-suppressed-reads.Post κs a y t → x ≡ y
is_suppressed_one κs a x y s t p q = p ∙ sym q

-- two outcomes are the same: Of the faces of a set that "with the earliest one, ties to the lower face", if there is one
pub earliest_one : (κs : Lfts 1) (a : Dens κs earliest-kinds.ps) (x y : (res_t earliest-kinds.r κs).Denot)
    (s t : AtExit (ended_of 1 earliest-kinds.ps earliest-kinds.r) κs)
    → earliest-reads.Post κs a x s → earliest-reads.Post κs a y t → x ≡ y
earliest_one κs a x y s t p q = face_one x y (p ∙ sym q)

-- two outcomes are the same: Whether all out-records are Nacked, and then "the smallest nonzero reason, or 0"
pub all_nacked_one : (κs : Lfts 1) (a : Dens κs all-nacked-kinds.ps) (x y : (res_t all-nacked-kinds.r κs).Denot)
    (s t : AtExit (ended_of 1 all-nacked-kinds.ps all-nacked-kinds.r) κs)
    → all-nacked-reads.Post κs a x s → all-nacked-reads.Post κs a y t → x ≡ y
all_nacked_one κs a x y s t p q = nacks_same x y (p ∙ sym q)

-- two outcomes have the same lines: "the fingerprint of its name with each out-record's nonce, by face, joins the dead nonce list with
-- the time now"
pub bury_one : (κs : Lfts 2) (a : Dens κs bury-kinds.ps) (x y : (res_t bury-kinds.r κs).Denot)
    (s t : AtExit (ended_of 2 bury-kinds.ps bury-kinds.r) κs)
    → bury-reads.Post κs a x s → bury-reads.Post κs a y t → dead.view s.1.1.0.now ≡ dead.view t.1.1.0.now
bury_one κs a x y s t p q = p ∙ sym q

-- two outcomes have the same lines: "the face's out-record goes, its fingerprint joining the dead list": the line of that one
pub bury_face_one : (κs : Lfts 2) (a : Dens κs bury-face-kinds.ps) (x y : (res_t bury-face-kinds.r κs).Denot)
    (s t : AtExit (ended_of 2 bury-face-kinds.ps bury-face-kinds.r) κs)
    → bury-face-reads.Post κs a x s → bury-face-reads.Post κs a y t → dead.view s.1.1.0.now ≡ dead.view t.1.1.0.now
bury_face_one κs a x y s t p q = p ∙ sym q

-- two outcomes are the same: Notes a row for each request on the faces of a set, by face, with one fate
pub note_requests_one : (κs : Lfts 2) (a : Dens κs note-requests-kinds.ps) (x y : (res_t note-requests-kinds.r κs).Denot)
    (s t : AtExit (ended_of 2 note-requests-kinds.ps note-requests-kinds.r) κs)
    → note-requests-reads.Post κs a x s → note-requests-reads.Post κs a y t → (x ≡ y)
    × (s.1.1.0.now ≡ t.1.1.0.now)
note_requests_one κs a x y s t p q = notes_one most_rows (p 0) (q 0)

-- two outcomes are the same: The same with one fate for the faces of `special`, and another for the others
pub note_by_face_one : (κs : Lfts 2) (a : Dens κs note-by-face-kinds.ps) (x y : (res_t note-by-face-kinds.r κs).Denot)
    (s t : AtExit (ended_of 2 note-by-face-kinds.ps note-by-face-kinds.r) κs)
    → note-by-face-reads.Post κs a x s → note-by-face-reads.Post κs a y t → (x ≡ y)
    × (s.1.1.0.now ≡ t.1.1.0.now)
note_by_face_one κs a x y s t p q = notes_one most_rows (p 0) (q 0)

-- two outcomes are the same: Notes a row for a face's request, if it has one
pub note_face_one : (κs : Lfts 2) (a : Dens κs note-face-kinds.ps) (x y : (res_t note-face-kinds.r κs).Denot)
    (s t : AtExit (ended_of 2 note-face-kinds.ps note-face-kinds.r) κs)
    → note-face-reads.Post κs a x s → note-face-reads.Post κs a y t → (x ≡ y)
    × (s.1.1.0.now ≡ t.1.1.0.now)
note_face_one κs a x y s t p q = notes_one most_rows (p 0) (q 0)

-- two choices of the entries that ageing concerns have the same marks
pub overdue_entries_one : (κs : Lfts 1) (a : Dens κs overdue-entries-kinds.ps) (x y : (res_t overdue-entries-kinds.r κs).Denot)
    (s t : AtExit (ended_of 1 overdue-entries-kinds.ps overdue-entries-kinds.r) κs)
    → overdue-entries-reads.Post κs a x s → overdue-entries-reads.Post κs a y t → marks_of (seen a.0) x ≡ marks_of (seen a.0) y
overdue_entries_one κs a x y s t p q = p ∙ sym q
