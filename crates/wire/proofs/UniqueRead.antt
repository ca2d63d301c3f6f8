-- One result for each input of each public function: any two that its contract admits are equal.
-- Assumes nothing.
use mathlib.Core.Path.{◌≡◌, sym, ◌∙◌}
use contract.Lifetimes.{Lfts}
use denote.Triple.Clauses.{AtExit}
use borrow.Fn.Kinds.{Dens, ended_of, res_t}
use Rattle.wire.proofs.read.width_of.Kinds as width-of-kinds
use Rattle.wire.proofs.read.width_of.Reads as width-of-reads
use Rattle.wire.proofs.read.whole_number.Kinds as whole-number-kinds
use Rattle.wire.proofs.read.whole_number.Reads as whole-number-reads
use Rattle.wire.proofs.read.Cursor.any_number.Kinds as any-number-kinds
use Rattle.wire.proofs.read.Cursor.any_number.Reads as any-number-reads
use Rattle.wire.proofs.read.Cursor.number.Kinds as number-kinds
use Rattle.wire.proofs.read.Cursor.number.Reads as number-reads
use Rattle.wire.proofs.read.Cursor.element.Kinds as element-kinds
use Rattle.wire.proofs.read.Cursor.element.Reads as element-reads

-- how many bytes the shortest form takes
pub width_of_one : (κs : Lfts 0) (a : Dens κs width-of-kinds.ps) (x y : (res_t width-of-kinds.r κs).Denot) (s t : AtExit (ended_of 0 width-of-kinds.ps width-of-kinds.r) κs)
    → width-of-reads.Post κs a x s → width-of-reads.Post κs a y t → x ≡ y
width_of_one κs a x y s t p q = p ∙ sym q

-- a whole number that fills an element
pub whole_number_one : (κs : Lfts 1) (a : Dens κs whole-number-kinds.ps) (x y : (res_t whole-number-kinds.r κs).Denot) (s t : AtExit (ended_of 1 whole-number-kinds.ps whole-number-kinds.r) κs)
    → whole-number-reads.Post κs a x s → whole-number-reads.Post κs a y t → x ≡ y
whole_number_one κs a x y s t p q = p ∙ sym q

-- a number in any form
pub any_number_one : (κs : Lfts 1) (a : Dens κs any-number-kinds.ps) (x y : (res_t any-number-kinds.r κs).Denot) (s t : AtExit (ended_of 1 any-number-kinds.ps any-number-kinds.r) κs)
    → any-number-reads.Post κs a x s → any-number-reads.Post κs a y t → x ≡ y
any_number_one κs a x y s t p q = p ∙ sym q

-- a number in its shortest form
pub number_one : (κs : Lfts 1) (a : Dens κs number-kinds.ps) (x y : (res_t number-kinds.r κs).Denot) (s t : AtExit (ended_of 1 number-kinds.ps number-kinds.r) κs)
    → number-reads.Post κs a x s → number-reads.Post κs a y t → x ≡ y
number_one κs a x y s t p q = p ∙ sym q

-- an element
pub element_one : (κs : Lfts 1) (a : Dens κs element-kinds.ps) (x y : (res_t element-kinds.r κs).Denot) (s t : AtExit (ended_of 1 element-kinds.ps element-kinds.r) κs)
    → element-reads.Post κs a x s → element-reads.Post κs a y t → x ≡ y
element_one κs a x y s t p q = p ∙ sym q
