-- Each public function has one result for each input: any two results that its contract admits are equal.
-- Assumes nothing.
use mathlib.Core.Path.{◌≡◌, sym, ◌∙◌}
use contract.Lifetimes.{Lfts}
use denote.Triple.Clauses.{AtExit}
use borrow.Fn.Kinds.{Dens, ended_of, res_t}
use Rattle.grammar.proofs.row_of.Kinds as row-kinds
use Rattle.grammar.proofs.row_of.Reads as row_reads
use Rattle.grammar.proofs.judge.Kinds as judge-kinds
use Rattle.grammar.proofs.judge.Reads as judge-reads
use Rattle.grammar.proofs.walk.Kinds as walk-kinds
use Rattle.grammar.proofs.walk.Reads as walk-reads

-- a type in a parent has one row
pub row_of_one : (κs : Lfts 0) (a : Dens κs row-kinds.ps) (x y : (res_t row-kinds.r κs).Denot) (s t : AtExit (ended_of 0 row-kinds.ps row-kinds.r) κs)
    → row_reads.Post κs a x s → row_reads.Post κs a y t → x ≡ y
row_of_one κs a x y s t p q = p ∙ sym q

-- one more element has one result
pub judge_one : (κs : Lfts 0) (a : Dens κs judge-kinds.ps) (x y : (res_t judge-kinds.r κs).Denot) (s t : AtExit (ended_of 0 judge-kinds.ps judge-kinds.r) κs)
    → judge-reads.Post κs a x s → judge-reads.Post κs a y t → x ≡ y
judge_one κs a x y s t p q = p ∙ sym q

-- the bytes of a parent have one outcome of the walk
pub walk_one : (κs : Lfts 1) (a : Dens κs walk-kinds.ps) (x y : (res_t walk-kinds.r κs).Denot) (s t : AtExit (ended_of 1 walk-kinds.ps walk-kinds.r) κs)
    → walk-reads.Post κs a x s → walk-reads.Post κs a y t → x ≡ y
walk_one κs a x y s t p q = p ∙ sym q
