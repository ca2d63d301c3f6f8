-- One result for each input of each public function: any two that its contract admits are equal.
-- Assumes nothing.
use mathlib.Core.Path.{◌≡◌, sym, ◌∙◌}
use contract.Lifetimes.{Lfts}
use denote.Triple.Clauses.{AtExit}
use borrow.Fn.Kinds.{Dens, ended_of, res_t}
use Rattle.answers.proofs.U64FromAnswer.from.Kinds as kinds
use Rattle.answers.proofs.U64FromAnswer.from.Reads as reads

-- the number of an answer
pub number_one : (κs : Lfts 0) (a : Dens κs kinds.ps) (x y : (res_t kinds.r κs).Denot) (s t : AtExit (ended_of 0 kinds.ps kinds.r) κs)
    → reads.Post κs a x s → reads.Post κs a y t → x ≡ y
number_one κs a x y s t p q = p ∙ sym q
