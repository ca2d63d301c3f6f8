-- One outcome for each input of a writer: any two that its contract admits are equal in the answer and in the buffer at exit.
-- Assumes nothing.
use Rattle.std.specs.Prelude.{Option}
use mathlib.Core.Path.{◌≡◌, sym, ◌∙◌, ap}
use mathlib.Core.List.{List}
use Prim.Native.Nat.{ℕ}
use contract.Lifetimes.{Lfts}
use denote.Triple.Clauses.{AtExit}
use borrow.Fn.Kinds.{Dens, ended_of, res_t}
use Rattle.wire.specs.Places.Write.{Outcome, outcome}
use Rattle.wire.proofs.write.fits.Kinds as fits-kinds
use Rattle.wire.proofs.write.fits.Reads as fits-reads
use Rattle.wire.proofs.write.put_number.Kinds as number-kinds
use Rattle.wire.proofs.write.put_number.Reads as number-reads
use Rattle.wire.proofs.write.put_head.Kinds as head-kinds
use Rattle.wire.proofs.write.put_head.Reads as head-reads
use Rattle.wire.proofs.write.put_bytes.Kinds as bytes-kinds
use Rattle.wire.proofs.write.put_bytes.Reads as bytes-reads

-- two answers with their buffers that are the same outcome
pub one_outcome : {x y : Option ℕ} {b c : List ℕ} {o : Outcome} → outcome x b ≡ o → outcome y c ≡ o → (x ≡ y) × (b ≡ c)
one_outcome p q = (ap (λ (o : Outcome). o.next) (p ∙ sym q), ap (λ (o : Outcome). o.buffer) (p ∙ sym q))

-- `fits` has one result
pub fits_one : (κs : Lfts 0) (a : Dens κs fits-kinds.ps) (x y : (res_t fits-kinds.r κs).Denot)
    (s t : AtExit (ended_of 0 fits-kinds.ps fits-kinds.r) κs)
    → fits-reads.Post κs a x s → fits-reads.Post κs a y t → x ≡ y
fits_one κs a x y s t p q = p ∙ sym q

-- `put_number` has one outcome
pub put_number_one : (κs : Lfts 1) (a : Dens κs number-kinds.ps) (x y : (res_t number-kinds.r κs).Denot)
    (s t : AtExit (ended_of 1 number-kinds.ps number-kinds.r) κs)
    → number-reads.Post κs a x s → number-reads.Post κs a y t → (x ≡ y) × (s.0.now ≡ t.0.now)
put_number_one κs a x y s t p q = one_outcome p q

-- `put_head` has one outcome
pub put_head_one : (κs : Lfts 1) (a : Dens κs head-kinds.ps) (x y : (res_t head-kinds.r κs).Denot)
    (s t : AtExit (ended_of 1 head-kinds.ps head-kinds.r) κs)
    → head-reads.Post κs a x s → head-reads.Post κs a y t → (x ≡ y) × (s.0.now ≡ t.0.now)
put_head_one κs a x y s t p q = one_outcome p q

-- `put_bytes` has one outcome
pub put_bytes_one : (κs : Lfts 2) (a : Dens κs bytes-kinds.ps) (x y : (res_t bytes-kinds.r κs).Denot)
    (s t : AtExit (ended_of 2 bytes-kinds.ps bytes-kinds.r) κs)
    → bytes-reads.Post κs a x s → bytes-reads.Post κs a y t → (x ≡ y) × (s.0.now ≡ t.0.now)
put_bytes_one κs a x y s t p q = one_outcome p q
