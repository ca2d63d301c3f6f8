-- One result for each input of the functions of the fingerprint: any two that the contract admits are equal.
-- Assumes nothing.
use Rattle.std.proofs.Common.{◌≡◌, sym, ◌∙◌}
use contract.Lifetimes.{Lfts}
use denote.Triple.Clauses.{AtExit}
use borrow.Fn.Kinds.{Dens, ended_of, res_t}
use Rattle.names.proofs.fingerprint.wrapping_mul.Kinds as wrapping-mul-kinds
use Rattle.names.proofs.fingerprint.wrapping_mul.Reads as wrapping-mul
use Rattle.names.proofs.fingerprint.fnv_from.Kinds as fnv-from-kinds
use Rattle.names.proofs.fingerprint.fnv_from.Reads as fnv-from
use Rattle.names.proofs.fingerprint.fingerprint_from.Kinds as fingerprint-from-kinds
use Rattle.names.proofs.fingerprint.fingerprint_from.Reads as fingerprint-from

-- a product
pub wrapping_mul_one : (κs : Lfts 0) (a : Dens κs wrapping-mul-kinds.ps) (x y : (res_t wrapping-mul-kinds.r κs).Denot)
    (s t : AtExit (ended_of 0 wrapping-mul-kinds.ps wrapping-mul-kinds.r) κs)
    → wrapping-mul.Post κs a x s → wrapping-mul.Post κs a y t → x ≡ y
wrapping_mul_one κs a x y s t p q = p ∙ sym q

-- FNV-1a
pub fnv_from_one : (κs : Lfts 1) (a : Dens κs fnv-from-kinds.ps) (x y : (res_t fnv-from-kinds.r κs).Denot)
    (s t : AtExit (ended_of 1 fnv-from-kinds.ps fnv-from-kinds.r) κs)
    → fnv-from.Post κs a x s → fnv-from.Post κs a y t → x ≡ y
fnv_from_one κs a x y s t p q = p ∙ sym q

-- a fingerprint
pub fingerprint_from_one : (κs : Lfts 1) (a : Dens κs fingerprint-from-kinds.ps) (x y : (res_t fingerprint-from-kinds.r κs).Denot)
    (s t : AtExit (ended_of 1 fingerprint-from-kinds.ps fingerprint-from-kinds.r) κs)
    → fingerprint-from.Post κs a x s → fingerprint-from.Post κs a y t → x ≡ y
fingerprint_from_one κs a x y s t p q = p ∙ sym q
