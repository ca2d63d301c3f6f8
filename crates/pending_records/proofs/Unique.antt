-- One outcome for each input of each function that walks over the records: any two that its contract admits are equal, or have equal views
-- for every name, the same lines or the same rows.
-- Assumes nothing.
use Prim.Native.Nat.{ℕ}
use mathlib.Core.Path.{◌≡◌, sym, ◌∙◌}
use mathlib.Core.List.{List, []}
use contract.Lifetimes.{Lfts}
use denote.Triple.Clauses.{AtExit}
use borrow.Fn.Kinds.{Dens, ended_of, res_t}
use Rattle.faces.specs.Laws.Found.{face_one}
use Rattle.dead.specs.Places.View as dead
use Rattle.happenings.specs.Noted.{most_rows}
use Rattle.happenings.specs.Laws.Noted.{notes_one}
use Rattle.pending_entry.specs.Places.View.{view}
use Rattle.pending_records.specs.Laws.Nacks.{nacks_same}
use Rattle.pending_records.proofs.overdue.Kinds as overdue-kinds
use Rattle.pending_records.proofs.overdue.Reads as overdue-reads
use Rattle.pending_records.proofs.age.Kinds as age-kinds
use Rattle.pending_records.proofs.age.Reads as age-reads
use Rattle.pending_records.proofs.has_nonce.Kinds as has-nonce-kinds
use Rattle.pending_records.proofs.has_nonce.Reads as has-nonce-reads
use Rattle.pending_records.proofs.is_suppressed.Kinds as is-suppressed-kinds
use Rattle.pending_records.proofs.is_suppressed.Reads as is-suppressed-reads
use Rattle.pending_records.proofs.earliest.Kinds as earliest-kinds
use Rattle.pending_records.proofs.earliest.Reads as earliest-reads
use Rattle.pending_records.proofs.all_nacked.Kinds as all-nacked-kinds
use Rattle.pending_records.proofs.all_nacked.Reads as all-nacked-reads
use Rattle.pending_records.proofs.bury.Kinds as bury-kinds
use Rattle.pending_records.proofs.bury.Reads as bury-reads
use Rattle.pending_records.proofs.bury_face.Kinds as bury-face-kinds
use Rattle.pending_records.proofs.bury_face.Reads as bury-face-reads
use Rattle.pending_records.proofs.note_requests.Kinds as note-requests-kinds
use Rattle.pending_records.proofs.note_requests.Reads as note-requests-reads
use Rattle.pending_records.proofs.note_by_face.Kinds as note-by-face-kinds
use Rattle.pending_records.proofs.note_by_face.Reads as note-by-face-reads
use Rattle.pending_records.proofs.note_face.Kinds as note-face-kinds
use Rattle.pending_records.proofs.note_face.Reads as note-face-reads

-- the faces whose requests are over
pub overdue_one : (κs : Lfts 2) (a : Dens κs overdue-kinds.ps) (x y : (res_t overdue-kinds.r κs).Denot)
    (s t : AtExit (ended_of 2 overdue-kinds.ps overdue-kinds.r) κs)
    → overdue-reads.Post κs a x s → overdue-reads.Post κs a y t → x ≡ y
overdue_one κs a x y s t p q = p [] ∙ sym (q [])

-- two outcomes of ageing have equal views, and tell the same faces
pub age_one : (κs : Lfts 2) (a : Dens κs age-kinds.ps) (x y : (res_t age-kinds.r κs).Denot)
    (s t : AtExit (ended_of 2 age-kinds.ps age-kinds.r) κs)
    → age-reads.Post κs a x s → age-reads.Post κs a y t
    → ((nm : List ℕ) → view nm s.0.now s.1.0.now ≡ view nm t.0.now t.1.0.now) × (x ≡ y)
age_one κs a x y s t p q = ((λ nm. p.0 nm ∙ sym (q.0 nm)), p.1 [] ∙ sym (q.1 []))

-- whether a nonce stands in some record
pub has_nonce_one : (κs : Lfts 2) (a : Dens κs has-nonce-kinds.ps) (x y : (res_t has-nonce-kinds.r κs).Denot)
    (s t : AtExit (ended_of 2 has-nonce-kinds.ps has-nonce-kinds.r) κs)
    → has-nonce-reads.Post κs a x s → has-nonce-reads.Post κs a y t → x ≡ y
has_nonce_one κs a x y s t p q = p [] ∙ sym (q [])

-- whether the newest out-record is recent
pub is_suppressed_one : (κs : Lfts 2) (a : Dens κs is-suppressed-kinds.ps) (x y : (res_t is-suppressed-kinds.r κs).Denot)
    (s t : AtExit (ended_of 2 is-suppressed-kinds.ps is-suppressed-kinds.r) κs)
    → is-suppressed-reads.Post κs a x s → is-suppressed-reads.Post κs a y t → x ≡ y
is_suppressed_one κs a x y s t p q = p [] ∙ sym (q [])

-- the face of a set with the earliest out-record
pub earliest_one : (κs : Lfts 2) (a : Dens κs earliest-kinds.ps) (x y : (res_t earliest-kinds.r κs).Denot)
    (s t : AtExit (ended_of 2 earliest-kinds.ps earliest-kinds.r) κs)
    → earliest-reads.Post κs a x s → earliest-reads.Post κs a y t → x ≡ y
earliest_one κs a x y s t p q = face_one x y (p [] ∙ sym (q []))

-- whether all out-records are Nacked, and the reason
pub all_nacked_one : (κs : Lfts 2) (a : Dens κs all-nacked-kinds.ps) (x y : (res_t all-nacked-kinds.r κs).Denot)
    (s t : AtExit (ended_of 2 all-nacked-kinds.ps all-nacked-kinds.r) κs)
    → all-nacked-reads.Post κs a x s → all-nacked-reads.Post κs a y t → x ≡ y
all_nacked_one κs a x y s t p q = nacks_same x y (p [] ∙ sym (q []))

-- two outcomes of an entry that leaves have the same lines
pub bury_one : (κs : Lfts 4) (a : Dens κs bury-kinds.ps) (x y : (res_t bury-kinds.r κs).Denot)
    (s t : AtExit (ended_of 4 bury-kinds.ps bury-kinds.r) κs)
    → bury-reads.Post κs a x s → bury-reads.Post κs a y t → dead.view s.1.1.1.0.now ≡ dead.view t.1.1.1.0.now
bury_one κs a x y s t p q = p ∙ sym q

-- two outcomes of a face's out-record that goes have the same lines
pub bury_face_one : (κs : Lfts 4) (a : Dens κs bury-face-kinds.ps) (x y : (res_t bury-face-kinds.r κs).Denot)
    (s t : AtExit (ended_of 4 bury-face-kinds.ps bury-face-kinds.r) κs)
    → bury-face-reads.Post κs a x s → bury-face-reads.Post κs a y t → dead.view s.1.1.1.0.now ≡ dead.view t.1.1.1.0.now
bury_face_one κs a x y s t p q = p ∙ sym q

-- requests noted
pub note_requests_one : (κs : Lfts 3) (a : Dens κs note-requests-kinds.ps) (x y : (res_t note-requests-kinds.r κs).Denot)
    (s t : AtExit (ended_of 3 note-requests-kinds.ps note-requests-kinds.r) κs)
    → note-requests-reads.Post κs a x s → note-requests-reads.Post κs a y t → (x ≡ y) × (s.1.1.0.now ≡ t.1.1.0.now)
note_requests_one κs a x y s t p q = notes_one most_rows (p [] 0) (q [] 0)

-- requests noted, with two fates
pub note_by_face_one : (κs : Lfts 3) (a : Dens κs note-by-face-kinds.ps) (x y : (res_t note-by-face-kinds.r κs).Denot)
    (s t : AtExit (ended_of 3 note-by-face-kinds.ps note-by-face-kinds.r) κs)
    → note-by-face-reads.Post κs a x s → note-by-face-reads.Post κs a y t → (x ≡ y) × (s.1.1.0.now ≡ t.1.1.0.now)
note_by_face_one κs a x y s t p q = notes_one most_rows (p [] 0) (q [] 0)

-- a face's request noted
pub note_face_one : (κs : Lfts 3) (a : Dens κs note-face-kinds.ps) (x y : (res_t note-face-kinds.r κs).Denot)
    (s t : AtExit (ended_of 3 note-face-kinds.ps note-face-kinds.r) κs)
    → note-face-reads.Post κs a x s → note-face-reads.Post κs a y t → (x ≡ y) × (s.1.1.0.now ≡ t.1.1.0.now)
note_face_one κs a x y s t p q = notes_one most_rows (p [] 0) (q [] 0)
