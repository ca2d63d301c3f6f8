-- One outcome for each input of each public function: any two that its contract admits are equal.
-- Assumes nothing.
use mathlib.Core.Path.{◌≡◌, sym, ◌∙◌}
use contract.Lifetimes.{Lfts}
use denote.Triple.Clauses.{AtExit}
use borrow.Fn.Kinds.{Dens, ended_of, res_t}
use Rattle.rows.proofs.part.Kinds as part-kinds
use Rattle.rows.proofs.part.Reads as part-reads
use Rattle.rows.proofs.clamped.Kinds as clamped-kinds
use Rattle.rows.proofs.clamped.Reads as clamped-reads

-- two parts of a row have the same bytes
pub part_one : (κs : Lfts 1) (a : Dens κs part-kinds.ps) (x y : (res_t part-kinds.r κs).Denot)
    (s t : AtExit (ended_of 1 part-kinds.ps part-kinds.r) κs)
    → part-reads.Post κs a x s → part-reads.Post κs a y t → x.now ≡ y.now
part_one κs a x y s t p q = p ∙ sym q

-- two counts are the same
pub clamped_one : (κs : Lfts 0) (a : Dens κs clamped-kinds.ps) (x y : (res_t clamped-kinds.r κs).Denot)
    (s t : AtExit (ended_of 0 clamped-kinds.ps clamped-kinds.r) κs)
    → clamped-reads.Post κs a x s → clamped-reads.Post κs a y t → x ≡ y
clamped_one κs a x y s t p q = p ∙ sym q
