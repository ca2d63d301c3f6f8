-- Two memories with the same entries give the same answers and the same entries, whatever rows and numbers they have.
-- Assumes nothing.
use Prim.Native.Nat.{ℕ}
use mathlib.Core.Path.{◌≡◌, refl, sym, ap, ◌∙◌}
use mathlib.Core.Bool.{true, false}
use mathlib.Core.List.{List, [], map}
use mathlib.Core.Option.{Option, none}
use contract.Lifetimes.{Lfts}
use denote.Triple.Clauses.{AtExit}
use borrow.Fn.Kinds.{Dens, ended_of, res_t}
use Rattle.faces.specs.Laws.Found.{face_one}
use Rattle.sizes.specs.Sizes.{most_faces}
use Rattle.faces.specs.Set.{has_face}
use Rattle.records.specs.Slots.{slot}
use Rattle.records.specs.Entry.{Request, Entry, asking, ending, sending, not_sent, with_nack, aged_entry, has_nonce, own_nonce, sent_nonce}
use Rattle.records.specs.Entry.{is_suppressed, earliest_of}
use Rattle.pending_entry.specs.Operations.{unsent_of}
use Rattle.pending_entry.specs.Laws.Change.{asked_same}
use Rattle.pending_records.specs.Operations.{overdue_faces, noted, noted_by, fate_by, noted_one}
use Rattle.records.specs.Closing.{own_line_by}
use Rattle.pending_records.specs.Laws.Nacks.{nacks_same}
use Rattle.pending_table.specs.Places.View.{view, place_of, marks_of}
use Rattle.pending_table.specs.Places.Parts.{table, seen}
use Rattle.pending_table.specs.Laws.Same.{ap2}
use Rattle.names.specs.Fingerprint.{fingerprint}
use Rattle.sizes.specs.Sizes.{most_dead}
use Rattle.records.specs.Line.{joined_all}
use Rattle.records.specs.Ageing.{buried_by}
use Rattle.dead.specs.Places.View as dead
use Rattle.happenings.specs.declared.Fate.{Fate}
use Rattle.happenings.specs.Noted.{most_rows, fate_in}
use Rattle.pending_handle.specs.Operations.{is_due}
use Rattle.pending_handle.specs.Laws.Same.{said_alike, changed_alike, noted_alike, ap3, ap4}
use Rattle.pending_handle.proofs.renew.Kinds as renew-kinds
use Rattle.pending_handle.proofs.renew.Reads as renew-reads
use Rattle.pending_handle.proofs.end_requests.Kinds as end-requests-kinds
use Rattle.pending_handle.proofs.end_requests.Reads as end-requests-reads
use Rattle.pending_handle.proofs.send.Kinds as send-kinds
use Rattle.pending_handle.proofs.send.Reads as send-reads
use Rattle.pending_handle.proofs.end_sent.Kinds as end-sent-kinds
use Rattle.pending_handle.proofs.end_sent.Reads as end-sent-reads
use Rattle.pending_handle.proofs.mark_nacked.Kinds as mark-nacked-kinds
use Rattle.pending_handle.proofs.mark_nacked.Reads as mark-nacked-reads
use Rattle.pending_handle.proofs.age.Kinds as age-kinds
use Rattle.pending_handle.proofs.age.Reads as age-reads
use Rattle.pending_handle.proofs.asking_faces.Kinds as asking-faces-kinds
use Rattle.pending_handle.proofs.asking_faces.Reads as asking-faces-reads
use Rattle.pending_handle.proofs.sent_faces.Kinds as sent-faces-kinds
use Rattle.pending_handle.proofs.sent_faces.Reads as sent-faces-reads
use Rattle.pending_handle.proofs.unsent.Kinds as unsent-kinds
use Rattle.pending_handle.proofs.unsent.Reads as unsent-reads
use Rattle.pending_handle.proofs.is_idle.Kinds as is-idle-kinds
use Rattle.pending_handle.proofs.is_idle.Reads as is-idle-reads
use Rattle.pending_handle.proofs.own_nonce.Kinds as own-nonce-kinds
use Rattle.pending_handle.proofs.own_nonce.Reads as own-nonce-reads
use Rattle.pending_handle.proofs.sent_nonce.Kinds as sent-nonce-kinds
use Rattle.pending_handle.proofs.sent_nonce.Reads as sent-nonce-reads
use Rattle.pending_handle.proofs.request_of.Kinds as request-of-kinds
use Rattle.pending_handle.proofs.request_of.Reads as request-of-reads
use Rattle.pending_handle.proofs.overdue.Kinds as overdue-kinds
use Rattle.pending_handle.proofs.overdue.Reads as overdue-reads
use Rattle.pending_handle.proofs.has_nonce.Kinds as has-nonce-kinds
use Rattle.pending_handle.proofs.has_nonce.Reads as has-nonce-reads
use Rattle.pending_handle.proofs.is_suppressed.Kinds as is-suppressed-kinds
use Rattle.pending_handle.proofs.is_suppressed.Reads as is-suppressed-reads
use Rattle.pending_handle.proofs.earliest.Kinds as earliest-kinds
use Rattle.pending_handle.proofs.earliest.Reads as earliest-reads
use Rattle.pending_handle.proofs.all_nacked.Kinds as all-nacked-kinds
use Rattle.pending_handle.proofs.all_nacked.Reads as all-nacked-reads
use Rattle.pending_handle.proofs.bury.Kinds as bury-kinds
use Rattle.pending_handle.proofs.bury.Reads as bury-reads
use Rattle.pending_handle.proofs.bury_face.Kinds as bury-face-kinds
use Rattle.pending_handle.proofs.bury_face.Reads as bury-face-reads
use Rattle.pending_handle.proofs.note_requests.Kinds as note-requests-kinds
use Rattle.pending_handle.proofs.note_requests.Reads as note-requests-reads
use Rattle.pending_handle.proofs.note_by_face.Kinds as note-by-face-kinds
use Rattle.pending_handle.proofs.note_by_face.Reads as note-by-face-reads
use Rattle.pending_handle.proofs.note_face.Kinds as note-face-kinds
use Rattle.pending_handle.proofs.note_face.Reads as note-face-reads
use Rattle.pending_handle.proofs.overdue_entries.Kinds as overdue-entries-kinds
use Rattle.pending_handle.proofs.overdue_entries.Reads as overdue-entries-reads

-- "open this face's request, or renew it with the new nonce and expiry"
pub renew_same : (κs : Lfts 2) (a b : Dens κs renew-kinds.ps) (x y : (res_t renew-kinds.r κs).Denot)
    (s t : AtExit (ended_of 2 renew-kinds.ps renew-kinds.r) κs) (n m : List (List ℕ)) (k l : List ℕ)
    → (view (table n a.0.now a.1.0.now k a.1.1.0) ≡ view (table m b.0.now b.1.0.now l b.1.1.0))
    → (place_of (table n a.0.now a.1.0.now k a.1.1.0) a.1.1.1.0 ≡ place_of (table m b.0.now b.1.0.now l b.1.1.0) b.1.1.1.0)
    → (a.1.1.1.1.0 ≡ b.1.1.1.1.0) → (a.1.1.1.1.1.0 ≡ b.1.1.1.1.1.0) → (a.1.1.1.1.1.1.0 ≡ b.1.1.1.1.1.1.0)
    → renew-reads.Post κs a x s → renew-reads.Post κs b y t
    → (view (table n s.0.now s.1.0.now k a.1.1.0) ≡ view (table m t.0.now t.1.0.now l b.1.1.0))
    × (place_of (table n s.0.now s.1.0.now k a.1.1.0) a.1.1.1.0 ≡ place_of (table m t.0.now t.1.0.now l b.1.1.0) b.1.1.1.0)
renew_same κs a b x y s t n m k l e h e1 e2 e3 p q =
    (p n k ∙ changed_alike (ap3 (λ (f n x : ℕ). asking f (record { nonce = n; expiry = x })) e1 e2 e3) h e ∙ sym (q m l), h)

-- Ends the requests of the faces of a set, all at once
pub end_requests_same : (κs : Lfts 2) (a b : Dens κs end-requests-kinds.ps) (x y : (res_t end-requests-kinds.r κs).Denot)
    (s t : AtExit (ended_of 2 end-requests-kinds.ps end-requests-kinds.r) κs) (n m : List (List ℕ)) (k l : List ℕ)
    → (view (table n a.0.now a.1.0.now k a.1.1.0) ≡ view (table m b.0.now b.1.0.now l b.1.1.0))
    → (place_of (table n a.0.now a.1.0.now k a.1.1.0) a.1.1.1.0 ≡ place_of (table m b.0.now b.1.0.now l b.1.1.0) b.1.1.1.0)
    → (a.1.1.1.1.0 ≡ b.1.1.1.1.0)
    → end-requests-reads.Post κs a x s → end-requests-reads.Post κs b y t
    → (view (table n s.0.now a.1.0.now k a.1.1.0) ≡ view (table m t.0.now b.1.0.now l b.1.1.0))
    × (place_of (table n s.0.now a.1.0.now k a.1.1.0) a.1.1.1.0 ≡ place_of (table m t.0.now b.1.0.now l b.1.1.0) b.1.1.1.0)
end_requests_same κs a b x y s t n m k l e h e1 p q =
    (p n k ∙ changed_alike (ap (λ (k : ℕ). ending (has_face most_faces k)) e1) h e ∙ sym (q m l), h)

-- "A send sets the out-record anew, its Nack reason cleared."
pub send_same : (κs : Lfts 2) (a b : Dens κs send-kinds.ps) (x y : (res_t send-kinds.r κs).Denot)
    (s t : AtExit (ended_of 2 send-kinds.ps send-kinds.r) κs) (n m : List (List ℕ)) (k l : List ℕ)
    → (view (table n a.0.now a.1.0.now k a.1.1.0) ≡ view (table m b.0.now b.1.0.now l b.1.1.0))
    → (place_of (table n a.0.now a.1.0.now k a.1.1.0) a.1.1.1.0 ≡ place_of (table m b.0.now b.1.0.now l b.1.1.0) b.1.1.1.0)
    → (a.1.1.1.1.0 ≡ b.1.1.1.1.0) → (a.1.1.1.1.1.0 ≡ b.1.1.1.1.1.0) → (a.1.1.1.1.1.1.0 ≡ b.1.1.1.1.1.1.0)
    → send-reads.Post κs a x s → send-reads.Post κs b y t
    → (view (table n s.0.now s.1.0.now k a.1.1.0) ≡ view (table m t.0.now t.1.0.now l b.1.1.0))
    × (place_of (table n s.0.now s.1.0.now k a.1.1.0) a.1.1.1.0 ≡ place_of (table m t.0.now t.1.0.now l b.1.1.0) b.1.1.1.0)
send_same κs a b x y s t n m k l e h e1 e2 e3 p q =
    (p n k ∙ changed_alike (ap3 (λ (f n x : ℕ). sending f (record { nonce = n; time = x; nacked = none })) e1 e2 e3) h e ∙ sym (q m l), h)

-- Takes a face's out-record out
pub end_sent_same : (κs : Lfts 2) (a b : Dens κs end-sent-kinds.ps) (x y : (res_t end-sent-kinds.r κs).Denot)
    (s t : AtExit (ended_of 2 end-sent-kinds.ps end-sent-kinds.r) κs) (n m : List (List ℕ)) (k l : List ℕ)
    → (view (table n a.0.now a.1.0.now k a.1.1.0) ≡ view (table m b.0.now b.1.0.now l b.1.1.0))
    → (place_of (table n a.0.now a.1.0.now k a.1.1.0) a.1.1.1.0 ≡ place_of (table m b.0.now b.1.0.now l b.1.1.0) b.1.1.1.0)
    → (a.1.1.1.1.0 ≡ b.1.1.1.1.0)
    → end-sent-reads.Post κs a x s → end-sent-reads.Post κs b y t
    → (view (table n s.0.now a.1.0.now k a.1.1.0) ≡ view (table m t.0.now b.1.0.now l b.1.1.0))
    × (place_of (table n s.0.now a.1.0.now k a.1.1.0) a.1.1.1.0 ≡ place_of (table m t.0.now b.1.0.now l b.1.1.0) b.1.1.1.0)
end_sent_same κs a b x y s t n m k l e h e1 p q =
    (p n k ∙ changed_alike (ap not_sent e1) h e ∙ sym (q m l), h)

-- "Reasons other than 50, 100, 150 become 0, still Nacked.": marks a face's out-record
pub mark_nacked_same : (κs : Lfts 2) (a b : Dens κs mark-nacked-kinds.ps) (x y : (res_t mark-nacked-kinds.r κs).Denot)
    (s t : AtExit (ended_of 2 mark-nacked-kinds.ps mark-nacked-kinds.r) κs) (n m : List (List ℕ)) (k l : List ℕ)
    → (view (table n a.0.now a.1.0.now k a.1.1.0) ≡ view (table m b.0.now b.1.0.now l b.1.1.0))
    → (place_of (table n a.0.now a.1.0.now k a.1.1.0) a.1.1.1.0 ≡ place_of (table m b.0.now b.1.0.now l b.1.1.0) b.1.1.1.0)
    → (a.1.1.1.1.0 ≡ b.1.1.1.1.0) → (a.1.1.1.1.1.0 ≡ b.1.1.1.1.1.0)
    → mark-nacked-reads.Post κs a x s → mark-nacked-reads.Post κs b y t
    → (view (table n a.0.now s.1.0.now k a.1.1.0) ≡ view (table m b.0.now t.1.0.now l b.1.1.0))
    × (place_of (table n a.0.now s.1.0.now k a.1.1.0) a.1.1.1.0 ≡ place_of (table m b.0.now t.1.0.now l b.1.1.0) b.1.1.1.0)
mark_nacked_same κs a b x y s t n m k l e h e1 e2 p q =
    (p n k ∙ changed_alike (ap2 with_nack e1 e2) h e ∙ sym (q m l), h)

-- Ends the requests that are over; the set of their faces
pub age_same : (κs : Lfts 2) (a b : Dens κs age-kinds.ps) (x y : (res_t age-kinds.r κs).Denot)
    (s t : AtExit (ended_of 2 age-kinds.ps age-kinds.r) κs) (n m : List (List ℕ)) (k l : List ℕ)
    → (view (table n a.0.now a.1.0.now k a.1.1.0) ≡ view (table m b.0.now b.1.0.now l b.1.1.0))
    → (place_of (table n a.0.now a.1.0.now k a.1.1.0) a.1.1.1.0 ≡ place_of (table m b.0.now b.1.0.now l b.1.1.0) b.1.1.1.0)
    → (a.1.1.1.1.0 ≡ b.1.1.1.1.0)
    → age-reads.Post κs a x s → age-reads.Post κs b y t
    → (x ≡ y) × (view (table n s.0.now a.1.0.now k a.1.1.0) ≡ view (table m t.0.now b.1.0.now l b.1.1.0))
    × (place_of (table n s.0.now a.1.0.now k a.1.1.0) a.1.1.1.0 ≡ place_of (table m t.0.now b.1.0.now l b.1.1.0) b.1.1.1.0)
age_same κs a b x y s t n m k l e h e1 p q = (
  p.1 n k ∙ said_alike 0 (ap (overdue_faces most_faces) e1) h e ∙ sym (q.1 m l),
  p.0 n k ∙ changed_alike (ap aged_entry e1) h e ∙ sym (q.0 m l),
  h,
)

-- The faces with a request
pub asking_faces_same : (κs : Lfts 1) (a b : Dens κs asking-faces-kinds.ps) (x y : (res_t asking-faces-kinds.r κs).Denot)
    (s t : AtExit (ended_of 1 asking-faces-kinds.ps asking-faces-kinds.r) κs)
    → (view (seen a.0) ≡ view (seen b.0)) → (place_of (seen a.0) a.1.0 ≡ place_of (seen b.0) b.1.0)
    → asking-faces-reads.Post κs a x s → asking-faces-reads.Post κs b y t → x ≡ y
asking_faces_same κs a b x y s t e h p q =
    p ∙ said_alike 0 refl h e ∙ sym q

-- The faces with an out-record
pub sent_faces_same : (κs : Lfts 1) (a b : Dens κs sent-faces-kinds.ps) (x y : (res_t sent-faces-kinds.r κs).Denot)
    (s t : AtExit (ended_of 1 sent-faces-kinds.ps sent-faces-kinds.r) κs)
    → (view (seen a.0) ≡ view (seen b.0)) → (place_of (seen a.0) a.1.0 ≡ place_of (seen b.0) b.1.0)
    → sent-faces-reads.Post κs a x s → sent-faces-reads.Post κs b y t → x ≡ y
sent_faces_same κs a b x y s t e h p q =
    p ∙ said_alike 0 refl h e ∙ sym q

-- "without an out-record": those faces of a set
pub unsent_same : (κs : Lfts 1) (a b : Dens κs unsent-kinds.ps) (x y : (res_t unsent-kinds.r κs).Denot)
    (s t : AtExit (ended_of 1 unsent-kinds.ps unsent-kinds.r) κs)
    → (view (seen a.0) ≡ view (seen b.0)) → (place_of (seen a.0) a.1.0 ≡ place_of (seen b.0) b.1.0) → (a.1.1.0 ≡ b.1.1.0)
    → unsent-reads.Post κs a x s → unsent-reads.Post κs b y t → x ≡ y
unsent_same κs a b x y s t e h e1 p q =
    p ∙ said_alike 0 (ap (unsent_of most_faces) e1) h e ∙ sym q

-- Whether the entry has no requests; a handle of no entry has none
pub is_idle_same : (κs : Lfts 1) (a b : Dens κs is-idle-kinds.ps) (x y : (res_t is-idle-kinds.r κs).Denot)
    (s t : AtExit (ended_of 1 is-idle-kinds.ps is-idle-kinds.r) κs)
    → (view (seen a.0) ≡ view (seen b.0)) → (place_of (seen a.0) a.1.0 ≡ place_of (seen b.0) b.1.0)
    → is-idle-reads.Post κs a x s → is-idle-reads.Post κs b y t → x ≡ y
is_idle_same κs a b x y s t e h p q =
    p ∙ said_alike true refl h e ∙ sym q

-- "its own in-record has this nonce"
pub own_nonce_same : (κs : Lfts 1) (a b : Dens κs own-nonce-kinds.ps) (x y : (res_t own-nonce-kinds.r κs).Denot)
    (s t : AtExit (ended_of 1 own-nonce-kinds.ps own-nonce-kinds.r) κs)
    → (view (seen a.0) ≡ view (seen b.0)) → (place_of (seen a.0) a.1.0 ≡ place_of (seen b.0) b.1.0) → (a.1.1.0 ≡ b.1.1.0) →
    (a.1.1.1.0 ≡ b.1.1.1.0)
    → own-nonce-reads.Post κs a x s → own-nonce-reads.Post κs b y t → x ≡ y
own_nonce_same κs a b x y s t e h e1 e2 p q =
    p ∙ said_alike false (ap2 own_nonce e1 e2) h e ∙ sym q

-- Whether a face has an "out-record with this nonce"
pub sent_nonce_same : (κs : Lfts 1) (a b : Dens κs sent-nonce-kinds.ps) (x y : (res_t sent-nonce-kinds.r κs).Denot)
    (s t : AtExit (ended_of 1 sent-nonce-kinds.ps sent-nonce-kinds.r) κs)
    → (view (seen a.0) ≡ view (seen b.0)) → (place_of (seen a.0) a.1.0 ≡ place_of (seen b.0) b.1.0) → (a.1.1.0 ≡ b.1.1.0) →
    (a.1.1.1.0 ≡ b.1.1.1.0)
    → sent-nonce-reads.Post κs a x s → sent-nonce-reads.Post κs b y t → x ≡ y
sent_nonce_same κs a b x y s t e h e1 e2 p q =
    p ∙ said_alike false (ap2 sent_nonce e1 e2) h e ∙ sym q

-- A face's request, if it has one
pub request_of_same : (κs : Lfts 1) (a b : Dens κs request-of-kinds.ps) (x y : (res_t request-of-kinds.r κs).Denot)
    (s t : AtExit (ended_of 1 request-of-kinds.ps request-of-kinds.r) κs)
    → (view (seen a.0) ≡ view (seen b.0)) → (place_of (seen a.0) a.1.0 ≡ place_of (seen b.0) b.1.0) → (a.1.1.0 ≡ b.1.1.0)
    → request-of-reads.Post κs a x s → request-of-reads.Post κs b y t → x ≡ y
request_of_same κs a b x y s t e h e1 p q =
    asked_same x y (p ∙ said_alike none (ap {B = Entry → Option Request} (λ f e. slot f e.requests) e1) h e ∙ sym q)

-- The faces whose requests are over
pub overdue_same : (κs : Lfts 1) (a b : Dens κs overdue-kinds.ps) (x y : (res_t overdue-kinds.r κs).Denot)
    (s t : AtExit (ended_of 1 overdue-kinds.ps overdue-kinds.r) κs)
    → (view (seen a.0) ≡ view (seen b.0)) → (place_of (seen a.0) a.1.0 ≡ place_of (seen b.0) b.1.0) → (a.1.1.0 ≡ b.1.1.0)
    → overdue-reads.Post κs a x s → overdue-reads.Post κs b y t → x ≡ y
overdue_same κs a b x y s t e h e1 p q =
    p ∙ said_alike 0 (ap (overdue_faces most_faces) e1) h e ∙ sym q

-- Whether a nonce stands in some in-record or out-record
pub has_nonce_same : (κs : Lfts 1) (a b : Dens κs has-nonce-kinds.ps) (x y : (res_t has-nonce-kinds.r κs).Denot)
    (s t : AtExit (ended_of 1 has-nonce-kinds.ps has-nonce-kinds.r) κs)
    → (view (seen a.0) ≡ view (seen b.0)) → (place_of (seen a.0) a.1.0 ≡ place_of (seen b.0) b.1.0) → (a.1.1.0 ≡ b.1.1.0)
    → has-nonce-reads.Post κs a x s → has-nonce-reads.Post κs b y t → x ≡ y
has_nonce_same κs a b x y s t e h e1 p q =
    p ∙ said_alike false (ap has_nonce e1) h e ∙ sym q

-- "If the newest out-record was sent under 100 ms ago, send nothing."
pub is_suppressed_same : (κs : Lfts 1) (a b : Dens κs is-suppressed-kinds.ps) (x y : (res_t is-suppressed-kinds.r κs).Denot)
    (s t : AtExit (ended_of 1 is-suppressed-kinds.ps is-suppressed-kinds.r) κs)
    → (view (seen a.0) ≡ view (seen b.0)) → (place_of (seen a.0) a.1.0 ≡ place_of (seen b.0) b.1.0) → (a.1.1.0 ≡ b.1.1.0)
    → is-suppressed-reads.Post κs a x s → is-suppressed-reads.Post κs b y t → x ≡ y
is_suppressed_same κs a b x y s t e h e1 p q =
    p ∙ said_alike false (ap is_suppressed e1) h e ∙ sym q

-- Of the faces of a set that "with the earliest one, ties to the lower face", if there is one
pub earliest_same : (κs : Lfts 1) (a b : Dens κs earliest-kinds.ps) (x y : (res_t earliest-kinds.r κs).Denot)
    (s t : AtExit (ended_of 1 earliest-kinds.ps earliest-kinds.r) κs)
    → (view (seen a.0) ≡ view (seen b.0)) → (place_of (seen a.0) a.1.0 ≡ place_of (seen b.0) b.1.0) → (a.1.1.0 ≡ b.1.1.0)
    → earliest-reads.Post κs a x s → earliest-reads.Post κs b y t → x ≡ y
earliest_same κs a b x y s t e h e1 p q =
    face_one x y (p ∙ said_alike none (ap {B = Entry → Option ℕ} (λ k. earliest_of (has_face most_faces k)) e1) h e ∙ sym q)

-- Whether all out-records are Nacked, and then "the smallest nonzero reason, or 0"
pub all_nacked_same : (κs : Lfts 1) (a b : Dens κs all-nacked-kinds.ps) (x y : (res_t all-nacked-kinds.r κs).Denot)
    (s t : AtExit (ended_of 1 all-nacked-kinds.ps all-nacked-kinds.r) κs)
    → (view (seen a.0) ≡ view (seen b.0)) → (place_of (seen a.0) a.1.0 ≡ place_of (seen b.0) b.1.0)
    → all-nacked-reads.Post κs a x s → all-nacked-reads.Post κs b y t → x ≡ y
all_nacked_same κs a b x y s t e h p q =
    nacks_same x y (p ∙ said_alike none refl h e ∙ sym q)

-- the lines of an entry join
pub bury_same : (κs : Lfts 2) (a b : Dens κs bury-kinds.ps) (x y : (res_t bury-kinds.r κs).Denot)
    (s t : AtExit (ended_of 2 bury-kinds.ps bury-kinds.r) κs)
    → (view (seen a.0) ≡ view (seen b.0)) → (place_of (seen a.0) a.1.0 ≡ place_of (seen b.0) b.1.0)
    → (dead.view a.1.1.0.now ≡ dead.view b.1.1.0.now) → (a.1.1.1.0 ≡ b.1.1.1.0) → (a.1.1.1.1.0 ≡ b.1.1.1.1.0)
    → bury-reads.Post κs a x s → bury-reads.Post κs b y t → dead.view s.1.1.0.now ≡ dead.view t.1.1.0.now
bury_same κs a b x y s t e h l e1 e2 p q =
    p ∙ ap2 (joined_all most_dead) l (said_alike [] (ap2 (λ (k : ℕ). buried_by (fingerprint k)) e1 e2) h e) ∙ sym q

-- the line of a face joins
pub bury_face_same : (κs : Lfts 2) (a b : Dens κs bury-face-kinds.ps) (x y : (res_t bury-face-kinds.r κs).Denot)
    (s t : AtExit (ended_of 2 bury-face-kinds.ps bury-face-kinds.r) κs)
    → (view (seen a.0) ≡ view (seen b.0)) → (place_of (seen a.0) a.1.0 ≡ place_of (seen b.0) b.1.0)
    → (dead.view a.1.1.0.now ≡ dead.view b.1.1.0.now) → (a.1.1.1.0 ≡ b.1.1.1.0) → (a.1.1.1.1.0 ≡ b.1.1.1.1.0)
    → (a.1.1.1.1.1.0 ≡ b.1.1.1.1.1.0)
    → bury-face-reads.Post κs a x s → bury-face-reads.Post κs b y t → dead.view s.1.1.0.now ≡ dead.view t.1.1.0.now
bury_face_same κs a b x y s t e h l e1 e2 e3 p q =
    p ∙ ap2 (joined_all most_dead) l (said_alike [] (ap3 (λ (k : ℕ). own_line_by (fingerprint k)) e1 e2 e3) h e) ∙ sym q

-- requests noted, with one fate
pub note_requests_same : (κs : Lfts 2) (a b : Dens κs note-requests-kinds.ps) (x y : (res_t note-requests-kinds.r κs).Denot)
    (s t : AtExit (ended_of 2 note-requests-kinds.ps note-requests-kinds.r) κs)
    → (view (seen a.0) ≡ view (seen b.0)) → (place_of (seen a.0) a.1.0 ≡ place_of (seen b.0) b.1.0) → (b.1.1.0.now ≡ a.1.1.0.now)
    → (b.1.1.1.0 ≡ a.1.1.1.0) → (a.1.1.1.1.0 ≡ b.1.1.1.1.0) → (a.1.1.1.1.1.0 ≡ b.1.1.1.1.1.0)
    → note-requests-reads.Post κs a x s → note-requests-reads.Post κs b y t → (x ≡ y)
    × (s.1.1.0.now ≡ t.1.1.0.now)
note_requests_same κs a b x y s t e h l m e1 e2 p q =
    noted_alike most_rows l m (sym (said_alike [] (ap2 (λ (k : ℕ) (x : Fate). noted (fate_in x) 0 (has_face most_faces k)) e1 e2) h e))
    (p 0) (q 0)

-- requests noted, with two fates
pub note_by_face_same : (κs : Lfts 2) (a b : Dens κs note-by-face-kinds.ps) (x y : (res_t note-by-face-kinds.r κs).Denot)
    (s t : AtExit (ended_of 2 note-by-face-kinds.ps note-by-face-kinds.r) κs)
    → (view (seen a.0) ≡ view (seen b.0)) → (place_of (seen a.0) a.1.0 ≡ place_of (seen b.0) b.1.0) → (b.1.1.0.now ≡ a.1.1.0.now)
    → (b.1.1.1.0 ≡ a.1.1.1.0) → (a.1.1.1.1.0 ≡ b.1.1.1.1.0) → (a.1.1.1.1.1.0 ≡ b.1.1.1.1.1.0) → (a.1.1.1.1.1.1.0 ≡ b.1.1.1.1.1.1.0)
    → (a.1.1.1.1.1.1.1.0 ≡ b.1.1.1.1.1.1.1.0)
    → note-by-face-reads.Post κs a x s → note-by-face-reads.Post κs b y t → (x ≡ y)
    × (s.1.1.0.now ≡ t.1.1.0.now)
note_by_face_same κs a b x y s t e h l m e1 e2 e3 e4 p q =
    noted_alike most_rows l m
    (sym (said_alike [] (ap4 (λ (k g : ℕ) (x z : Fate). noted_by (fate_by most_faces g x z) 0 (has_face most_faces k)) e1 e2 e3 e4) h e))
    (p 0) (q 0)

-- a request noted
pub note_face_same : (κs : Lfts 2) (a b : Dens κs note-face-kinds.ps) (x y : (res_t note-face-kinds.r κs).Denot)
    (s t : AtExit (ended_of 2 note-face-kinds.ps note-face-kinds.r) κs)
    → (view (seen a.0) ≡ view (seen b.0)) → (place_of (seen a.0) a.1.0 ≡ place_of (seen b.0) b.1.0) → (b.1.1.0.now ≡ a.1.1.0.now)
    → (b.1.1.1.0 ≡ a.1.1.1.0) → (a.1.1.1.1.0 ≡ b.1.1.1.1.0) → (a.1.1.1.1.1.0 ≡ b.1.1.1.1.1.0)
    → note-face-reads.Post κs a x s → note-face-reads.Post κs b y t → (x ≡ y)
    × (s.1.1.0.now ≡ t.1.1.0.now)
note_face_same κs a b x y s t e h l m e1 e2 p q =
    noted_alike most_rows l m (sym (said_alike [] (ap2 (λ (k : ℕ) (x : Fate). noted_one (fate_in x) 0 k) e1 e2) h e)) (p 0) (q 0)

-- the entries that ageing concerns
pub overdue_entries_same : (κs : Lfts 1) (a b : Dens κs overdue-entries-kinds.ps) (x y : (res_t overdue-entries-kinds.r κs).Denot)
    (s t : AtExit (ended_of 1 overdue-entries-kinds.ps overdue-entries-kinds.r) κs)
    → (view (seen a.0) ≡ view (seen b.0)) → (a.1.0 ≡ b.1.0)
    → overdue-entries-reads.Post κs a x s → overdue-entries-reads.Post κs b y t → marks_of (seen a.0) x ≡ marks_of (seen b.0) y
overdue_entries_same κs a b x y s t e e1 p q =
    p ∙ ap2 (λ (k : ℕ). map (is_due k)) e1 e ∙ sym q
