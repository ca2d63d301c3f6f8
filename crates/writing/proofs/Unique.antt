-- One outcome for each input of a writer: any two that its contract admits are equal in the answer and in the buffer at exit.
-- Assumes nothing.
use mathlib.Core.Path.{◌≡◌}
use contract.Lifetimes.{Lfts}
use denote.Triple.Clauses.{AtExit}
use borrow.Fn.Kinds.{Dens, ended_of, res_t}
use Rattle.wire.proofs.UniqueWrite.{one_outcome}
use Rattle.writing.proofs.write_nack.Kinds as nack-kinds
use Rattle.writing.proofs.write_nack.Reads as nack-reads
use Rattle.writing.proofs.write_interest.Kinds as interest-kinds
use Rattle.writing.proofs.write_interest.Reads as interest-reads
use Rattle.writing.proofs.write_data.Kinds as data-kinds
use Rattle.writing.proofs.write_data.Reads as data_Reads

-- `write_nack` has one outcome
pub write_nack_one : (κs : Lfts 2) (a : Dens κs nack-kinds.ps) (x y : (res_t nack-kinds.r κs).Denot)
    (s t : AtExit (ended_of 2 nack-kinds.ps nack-kinds.r) κs)
    → nack-reads.Post κs a x s → nack-reads.Post κs a y t → (x ≡ y) × (s.0.now ≡ t.0.now)
write_nack_one κs a x y s t p q = one_outcome p q

-- `write_interest` has one outcome
pub write_interest_one : (κs : Lfts 2) (a : Dens κs interest-kinds.ps) (x y : (res_t interest-kinds.r κs).Denot)
    (s t : AtExit (ended_of 2 interest-kinds.ps interest-kinds.r) κs)
    → interest-reads.Post κs a x s → interest-reads.Post κs a y t → (x ≡ y) × (s.0.now ≡ t.0.now)
write_interest_one κs a x y s t p q = one_outcome p q

-- `write_data` has one outcome
pub write_data_one : (κs : Lfts 2) (a : Dens κs data-kinds.ps) (x y : (res_t data-kinds.r κs).Denot)
    (s t : AtExit (ended_of 2 data-kinds.ps data-kinds.r) κs)
    → data_Reads.Post κs a x s → data_Reads.Post κs a y t → (x ≡ y) × (s.0.now ≡ t.0.now)
write_data_one κs a x y s t p q = one_outcome p q
