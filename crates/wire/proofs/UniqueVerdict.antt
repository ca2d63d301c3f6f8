-- One result for each verdict: any two that a contract admits are equal.
-- Assumes nothing.
use mathlib.Core.Path.{◌≡◌, sym, ◌∙◌}
use contract.Lifetimes.{Lfts}
use denote.Triple.Clauses.{AtExit}
use borrow.Fn.Kinds.{Dens, ended_of, res_t}
use Rattle.wire.proofs.verdict.Verdict.is_malformed.Kinds as malformed-kinds
use Rattle.wire.proofs.verdict.Verdict.is_malformed.Reads as malformed-reads
use Rattle.wire.proofs.verdict.Verdict.is_unsupported.Kinds as unsupported-kinds
use Rattle.wire.proofs.verdict.Verdict.is_unsupported.Reads as unsupported-reads

-- whether it is malformed
pub is_malformed_one : (κs : Lfts 0) (a : Dens κs malformed-kinds.ps) (x y : (res_t malformed-kinds.r κs).Denot) (s t : AtExit (ended_of 0 malformed-kinds.ps malformed-kinds.r) κs)
    → malformed-reads.Post κs a x s → malformed-reads.Post κs a y t → x ≡ y
is_malformed_one κs a x y s t p q = p ∙ sym q

-- whether it is unsupported
pub is_unsupported_one : (κs : Lfts 0) (a : Dens κs unsupported-kinds.ps) (x y : (res_t unsupported-kinds.r κs).Denot) (s t : AtExit (ended_of 0 unsupported-kinds.ps unsupported-kinds.r) κs)
    → unsupported-reads.Post κs a x s → unsupported-reads.Post κs a y t → x ≡ y
is_unsupported_one κs a x y s t p q = p ∙ sym q
