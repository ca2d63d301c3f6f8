-- One result for each input of the reader of a number: any two that its contract admits are equal.
-- Assumes nothing.
use mathlib.Core.Path.{◌≡◌, sym, ◌∙◌}
use contract.Lifetimes.{Lfts}
use denote.Triple.Clauses.{AtExit}
use borrow.Fn.Kinds.{Dens, ended_of, res_t}
use Rattle.tape.proofs.number_at.Kinds as kinds
use Rattle.tape.proofs.number_at.Reads as reads

-- the number at a place of a slice
pub number_at_one : (κs : Lfts 1) (a : Dens κs kinds.ps) (x y : (res_t kinds.r κs).Denot) (s t : AtExit (ended_of 1 kinds.ps kinds.r) κs)
    → reads.Post κs a x s → reads.Post κs a y t → x ≡ y
number_at_one κs a x y s t p q = p ∙ sym q
