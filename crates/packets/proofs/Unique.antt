-- The reader of a bare packet has one result for each input: any two results that its contract admits are equal.
-- Assumes nothing.
use mathlib.Core.Path.{◌≡◌, sym, ◌∙◌}
use contract.Lifetimes.{Lfts}
use denote.Triple.Clauses.{AtExit}
use borrow.Fn.Kinds.{Dens, ended_of, res_t}
use Rattle.packets.proofs.bare.read_bare.Kinds as read-bare-kinds
use Rattle.packets.proofs.bare.read_bare.Reads as read-bare-reads

-- the bytes of a bare packet, the Nack that it came with and what its header says have one answer
pub read_bare_one : (κs : Lfts 1) (a : Dens κs read-bare-kinds.ps) (x y : (res_t read-bare-kinds.r κs).Denot)
    (s t : AtExit (ended_of 1 read-bare-kinds.ps read-bare-kinds.r) κs)
    → read-bare-reads.Post κs a x s → read-bare-reads.Post κs a y t → x ≡ y
read_bare_one κs a x y s t p q = p ∙ sym q
