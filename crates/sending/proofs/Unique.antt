-- One outcome for each input of each public function: any two that its contract admits are equal, and leave the same rows and the same
-- buffer.
-- Assumes nothing.
use mathlib.Core.Path.{◌≡◌, sym, ◌∙◌}
use contract.Lifetimes.{Lfts}
use denote.Triple.Clauses.{AtExit}
use borrow.Fn.Kinds.{Dens, ended_of, res_t}
use Rattle.sending.specs.Laws.Same.{packs_same, sheet_same}
use Rattle.sending.proofs.put_nack.Kinds as put-nack-kinds
use Rattle.sending.proofs.put_nack.Reads as put-nack-reads
use Rattle.sending.proofs.send_nack.Kinds as send-nack-kinds
use Rattle.sending.proofs.send_nack.Reads as send-nack-reads
use Rattle.sending.proofs.send_interest.Kinds as send-interest-kinds
use Rattle.sending.proofs.send_interest.Reads as send-interest-reads
use Rattle.sending.proofs.send_data.Kinds as send-data-kinds
use Rattle.sending.proofs.send_data.Reads as send-data-reads
use Rattle.sending.proofs.send_copies.Kinds as send-copies-kinds
use Rattle.sending.proofs.send_copies.Reads as send-copies-reads
use Rattle.sending.proofs.class_for.Kinds as class-for-kinds
use Rattle.sending.proofs.class_for.Reads as class-for-reads
use Rattle.sending.proofs.refuse.Kinds as refuse-kinds
use Rattle.sending.proofs.refuse.Reads as refuse-reads

-- two outcomes of a Nack more
pub put_nack_one : (κs : Lfts 3) (a : Dens κs put-nack-kinds.ps) (x y : (res_t put-nack-kinds.r κs).Denot)
    (s t : AtExit (ended_of 3 put-nack-kinds.ps put-nack-kinds.r) κs)
    → put-nack-reads.Post κs a x s → put-nack-reads.Post κs a y t
    → (x ≡ y) × (s.0.now ≡ t.0.now) × (s.1.0.now ≡ t.1.0.now)
put_nack_one κs a x y s t p q = sheet_same p q

-- two outcomes of the one Nack
pub send_nack_one : (κs : Lfts 3) (a : Dens κs send-nack-kinds.ps) (x y : (res_t send-nack-kinds.r κs).Denot)
    (s t : AtExit (ended_of 3 send-nack-kinds.ps send-nack-kinds.r) κs)
    → send-nack-reads.Post κs a x s → send-nack-reads.Post κs a y t
    → (x ≡ y) × (s.0.now ≡ t.0.now) × (s.1.0.now ≡ t.1.0.now)
send_nack_one κs a x y s t p q = packs_same p q

-- two outcomes of the one Interest
pub send_interest_one : (κs : Lfts 3) (a : Dens κs send-interest-kinds.ps) (x y : (res_t send-interest-kinds.r κs).Denot)
    (s t : AtExit (ended_of 3 send-interest-kinds.ps send-interest-kinds.r) κs)
    → send-interest-reads.Post κs a x s → send-interest-reads.Post κs a y t
    → (x ≡ y) × (s.0.now ≡ t.0.now) × (s.1.0.now ≡ t.1.0.now)
send_interest_one κs a x y s t p q = packs_same p q

-- two outcomes of the one Data
pub send_data_one : (κs : Lfts 3) (a : Dens κs send-data-kinds.ps) (x y : (res_t send-data-kinds.r κs).Denot)
    (s t : AtExit (ended_of 3 send-data-kinds.ps send-data-kinds.r) κs)
    → send-data-reads.Post κs a x s → send-data-reads.Post κs a y t
    → (x ≡ y) × (s.0.now ≡ t.0.now) × (s.1.0.now ≡ t.1.0.now)
send_data_one κs a x y s t p q = packs_same p q

-- two outcomes of a Data's copies
pub send_copies_one : (κs : Lfts 4) (a : Dens κs send-copies-kinds.ps) (x y : (res_t send-copies-kinds.r κs).Denot)
    (s t : AtExit (ended_of 4 send-copies-kinds.ps send-copies-kinds.r) κs)
    → send-copies-reads.Post κs a x s → send-copies-reads.Post κs a y t
    → (x ≡ y) × (s.0.now ≡ t.0.now) × (s.1.0.now ≡ t.1.0.now)
send_copies_one κs a x y s t p q = packs_same p q

-- two class words for a name
pub class_for_one : (κs : Lfts 2) (a : Dens κs class-for-kinds.ps) (x y : (res_t class-for-kinds.r κs).Denot)
    (s t : AtExit (ended_of 2 class-for-kinds.ps class-for-kinds.r) κs)
    → class-for-reads.Post κs a x s → class-for-reads.Post κs a y t → x ≡ y
class_for_one κs a x y s t p q = p ∙ sym q

-- two outcomes of a refusal
pub refuse_one : (κs : Lfts 4) (a : Dens κs refuse-kinds.ps) (x y : (res_t refuse-kinds.r κs).Denot)
    (s t : AtExit (ended_of 4 refuse-kinds.ps refuse-kinds.r) κs)
    → refuse-reads.Post κs a x s → refuse-reads.Post κs a y t
    → (x ≡ y) × (s.1.1.0.now ≡ t.1.1.0.now)
    × (s.1.1.1.0.now ≡ t.1.1.1.0.now)
refuse_one κs a x y s t p q = packs_same p q
