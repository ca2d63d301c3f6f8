-- One outcome for each input of each function that changes an entry or tells of one: any two that its contract admits are equal, or have
-- equal views for every name.
-- Assumes nothing.
use Prim.Native.Nat.{ℕ}
use mathlib.Core.Path.{◌≡◌, sym, ◌∙◌}
use mathlib.Core.List.{List, []}
use contract.Lifetimes.{Lfts}
use denote.Triple.Clauses.{AtExit}
use borrow.Fn.Kinds.{Dens, ended_of, res_t}
use Rattle.pending_entry.specs.Places.View.{view}
use Rattle.pending_entry.specs.Laws.Change.{asked_same}
use Rattle.pending_entry.proofs.bare.Kinds as bare-kinds
use Rattle.pending_entry.proofs.bare.Reads as bare-reads
use Rattle.pending_entry.proofs.renew.Kinds as renew-kinds
use Rattle.pending_entry.proofs.renew.Reads as renew-reads
use Rattle.pending_entry.proofs.end_requests.Kinds as end-requests-kinds
use Rattle.pending_entry.proofs.end_requests.Reads as end-requests-reads
use Rattle.pending_entry.proofs.send.Kinds as send-kinds
use Rattle.pending_entry.proofs.send.Reads as send-reads
use Rattle.pending_entry.proofs.end_sent.Kinds as end-sent-kinds
use Rattle.pending_entry.proofs.end_sent.Reads as end-sent-reads
use Rattle.pending_entry.proofs.reason_of.Kinds as reason-of-kinds
use Rattle.pending_entry.proofs.reason_of.Reads as reason-of-reads
use Rattle.pending_entry.proofs.mark_nacked.Kinds as mark-nacked-kinds
use Rattle.pending_entry.proofs.mark_nacked.Reads as mark-nacked-reads
use Rattle.pending_entry.proofs.asking_faces.Kinds as asking-faces-kinds
use Rattle.pending_entry.proofs.asking_faces.Reads as asking-faces-reads
use Rattle.pending_entry.proofs.sent_faces.Kinds as sent-faces-kinds
use Rattle.pending_entry.proofs.sent_faces.Reads as sent-faces-reads
use Rattle.pending_entry.proofs.unsent.Kinds as unsent-kinds
use Rattle.pending_entry.proofs.unsent.Reads as unsent-reads
use Rattle.pending_entry.proofs.is_idle.Kinds as is-idle-kinds
use Rattle.pending_entry.proofs.is_idle.Reads as is-idle-reads
use Rattle.pending_entry.proofs.own_nonce.Kinds as own-nonce-kinds
use Rattle.pending_entry.proofs.own_nonce.Reads as own-nonce-reads
use Rattle.pending_entry.proofs.sent_nonce.Kinds as sent-nonce-kinds
use Rattle.pending_entry.proofs.sent_nonce.Reads as sent-nonce-reads
use Rattle.pending_entry.proofs.request_of.Kinds as request-of-kinds
use Rattle.pending_entry.proofs.request_of.Reads as request-of-reads

-- two heads without records have equal views, for any name and records
pub bare_one : (κs : Lfts 0) (a : Dens κs bare-kinds.ps) (x y : (res_t bare-kinds.r κs).Denot)
    (s t : AtExit (ended_of 0 bare-kinds.ps bare-kinds.r) κs)
    → bare-reads.Post κs a x s → bare-reads.Post κs a y t
    → (nm : List ℕ) (recs : List (List ℕ)) → view nm x recs ≡ view nm y recs
bare_one κs a x y s t p q = λ nm recs. p nm recs ∙ sym (q nm recs)

-- two outcomes of a request opened or renewed have equal views
pub renew_one : (κs : Lfts 2) (a : Dens κs renew-kinds.ps) (x y : (res_t renew-kinds.r κs).Denot)
    (s t : AtExit (ended_of 2 renew-kinds.ps renew-kinds.r) κs)
    → renew-reads.Post κs a x s → renew-reads.Post κs a y t
    → (nm : List ℕ) → view nm s.0.now s.1.0.now ≡ view nm t.0.now t.1.0.now
renew_one κs a x y s t p q = λ nm. p nm ∙ sym (q nm)

-- two outcomes of requests ended have equal views
pub end_requests_one : (κs : Lfts 2) (a : Dens κs end-requests-kinds.ps) (x y : (res_t end-requests-kinds.r κs).Denot)
    (s t : AtExit (ended_of 2 end-requests-kinds.ps end-requests-kinds.r) κs)
    → end-requests-reads.Post κs a x s → end-requests-reads.Post κs a y t
    → (nm : List ℕ) → view nm s.0.now s.1.0.now ≡ view nm t.0.now t.1.0.now
end_requests_one κs a x y s t p q = λ nm. p nm ∙ sym (q nm)

-- two outcomes of a send have equal views
pub send_one : (κs : Lfts 2) (a : Dens κs send-kinds.ps) (x y : (res_t send-kinds.r κs).Denot)
    (s t : AtExit (ended_of 2 send-kinds.ps send-kinds.r) κs)
    → send-reads.Post κs a x s → send-reads.Post κs a y t
    → (nm : List ℕ) → view nm s.0.now s.1.0.now ≡ view nm t.0.now t.1.0.now
send_one κs a x y s t p q = λ nm. p nm ∙ sym (q nm)

-- two outcomes of an out-record taken out have equal views
pub end_sent_one : (κs : Lfts 2) (a : Dens κs end-sent-kinds.ps) (x y : (res_t end-sent-kinds.r κs).Denot)
    (s t : AtExit (ended_of 2 end-sent-kinds.ps end-sent-kinds.r) κs)
    → end-sent-reads.Post κs a x s → end-sent-reads.Post κs a y t
    → (nm : List ℕ) → view nm s.0.now s.1.0.now ≡ view nm t.0.now t.1.0.now
end_sent_one κs a x y s t p q = λ nm. p nm ∙ sym (q nm)

-- the reason that a number becomes
pub reason_of_one : (κs : Lfts 0) (a : Dens κs reason-of-kinds.ps) (x y : (res_t reason-of-kinds.r κs).Denot)
    (s t : AtExit (ended_of 0 reason-of-kinds.ps reason-of-kinds.r) κs)
    → reason-of-reads.Post κs a x s → reason-of-reads.Post κs a y t
    → x ≡ y
reason_of_one κs a x y s t p q = p ∙ sym q

-- two outcomes of a Nack marked have equal views
pub mark_nacked_one : (κs : Lfts 2) (a : Dens κs mark-nacked-kinds.ps) (x y : (res_t mark-nacked-kinds.r κs).Denot)
    (s t : AtExit (ended_of 2 mark-nacked-kinds.ps mark-nacked-kinds.r) κs)
    → mark-nacked-reads.Post κs a x s → mark-nacked-reads.Post κs a y t
    → (nm : List ℕ) → view nm s.0.now s.1.0.now ≡ view nm t.0.now t.1.0.now
mark_nacked_one κs a x y s t p q = λ nm. p nm ∙ sym (q nm)

-- the faces with a request
pub asking_faces_one : (κs : Lfts 2) (a : Dens κs asking-faces-kinds.ps) (x y : (res_t asking-faces-kinds.r κs).Denot)
    (s t : AtExit (ended_of 2 asking-faces-kinds.ps asking-faces-kinds.r) κs)
    → asking-faces-reads.Post κs a x s → asking-faces-reads.Post κs a y t
    → x ≡ y
asking_faces_one κs a x y s t p q = p [] ∙ sym (q [])

-- the faces with an out-record
pub sent_faces_one : (κs : Lfts 2) (a : Dens κs sent-faces-kinds.ps) (x y : (res_t sent-faces-kinds.r κs).Denot)
    (s t : AtExit (ended_of 2 sent-faces-kinds.ps sent-faces-kinds.r) κs)
    → sent-faces-reads.Post κs a x s → sent-faces-reads.Post κs a y t
    → x ≡ y
sent_faces_one κs a x y s t p q = p [] ∙ sym (q [])

-- the faces of a set without an out-record
pub unsent_one : (κs : Lfts 2) (a : Dens κs unsent-kinds.ps) (x y : (res_t unsent-kinds.r κs).Denot)
    (s t : AtExit (ended_of 2 unsent-kinds.ps unsent-kinds.r) κs)
    → unsent-reads.Post κs a x s → unsent-reads.Post κs a y t
    → x ≡ y
unsent_one κs a x y s t p q = p [] ∙ sym (q [])

-- whether there are no requests
pub is_idle_one : (κs : Lfts 2) (a : Dens κs is-idle-kinds.ps) (x y : (res_t is-idle-kinds.r κs).Denot)
    (s t : AtExit (ended_of 2 is-idle-kinds.ps is-idle-kinds.r) κs)
    → is-idle-reads.Post κs a x s → is-idle-reads.Post κs a y t
    → x ≡ y
is_idle_one κs a x y s t p q = p [] ∙ sym (q [])

-- whether a face's own request has a nonce
pub own_nonce_one : (κs : Lfts 2) (a : Dens κs own-nonce-kinds.ps) (x y : (res_t own-nonce-kinds.r κs).Denot)
    (s t : AtExit (ended_of 2 own-nonce-kinds.ps own-nonce-kinds.r) κs)
    → own-nonce-reads.Post κs a x s → own-nonce-reads.Post κs a y t
    → x ≡ y
own_nonce_one κs a x y s t p q = p [] ∙ sym (q [])

-- whether a face has an out-record with a nonce
pub sent_nonce_one : (κs : Lfts 2) (a : Dens κs sent-nonce-kinds.ps) (x y : (res_t sent-nonce-kinds.r κs).Denot)
    (s t : AtExit (ended_of 2 sent-nonce-kinds.ps sent-nonce-kinds.r) κs)
    → sent-nonce-reads.Post κs a x s → sent-nonce-reads.Post κs a y t
    → x ≡ y
sent_nonce_one κs a x y s t p q = p [] ∙ sym (q [])

-- a face's request
pub request_of_one : (κs : Lfts 2) (a : Dens κs request-of-kinds.ps) (x y : (res_t request-of-kinds.r κs).Denot)
    (s t : AtExit (ended_of 2 request-of-kinds.ps request-of-kinds.r) κs)
    → request-of-reads.Post κs a x s → request-of-reads.Post κs a y t
    → x ≡ y
request_of_one κs a x y s t p q = asked_same x y (p [] ∙ sym (q []))
