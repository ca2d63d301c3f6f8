-- One result for each input of the functions of `order`: the contract of each admits no other.
-- Assumes nothing.
use Rattle.std.proofs.Common.{◌≡◌, sym, ◌∙◌}
use contract.Lifetimes.{Lfts}
use denote.Triple.Clauses.{AtExit}
use borrow.Fn.Kinds.{Dens, ended_of, res_t}
use Rattle.names.proofs.order.same.Kinds as same-kinds
use Rattle.names.proofs.order.same.Reads as same_Reads
use Rattle.names.proofs.order.is_prefix.Kinds as is-prefix-kinds
use Rattle.names.proofs.order.is_prefix.Reads as is-prefix-reads
use Rattle.names.proofs.order.compare_bytes.Kinds as compare-bytes-kinds
use Rattle.names.proofs.order.compare_bytes.Reads as compare-bytes-reads
use Rattle.names.proofs.order.compare.Kinds as compare-kinds
use Rattle.names.proofs.order.compare.Reads as compare-reads

-- one answer of `same`
pub same_one : (κs : Lfts 2) (a : Dens κs same-kinds.ps) (x y : (res_t same-kinds.r κs).Denot) (s t : AtExit (ended_of 2 same-kinds.ps same-kinds.r) κs)
    → same_Reads.Post κs a x s → same_Reads.Post κs a y t → x ≡ y
same_one κs a x y s t p q = p ∙ sym q

-- one answer of `is_prefix`
pub is_prefix_one : (κs : Lfts 2) (a : Dens κs is-prefix-kinds.ps) (x y : (res_t is-prefix-kinds.r κs).Denot) (s t : AtExit (ended_of 2 is-prefix-kinds.ps is-prefix-kinds.r) κs)
    → is-prefix-reads.Post κs a x s → is-prefix-reads.Post κs a y t → x ≡ y
is_prefix_one κs a x y s t p q = p ∙ sym q

-- one answer of `compare_bytes`
pub compare_bytes_one : (κs : Lfts 2) (a : Dens κs compare-bytes-kinds.ps) (x y : (res_t compare-bytes-kinds.r κs).Denot) (s t : AtExit (ended_of 2 compare-bytes-kinds.ps compare-bytes-kinds.r) κs)
    → compare-bytes-reads.Post κs a x s → compare-bytes-reads.Post κs a y t → x ≡ y
compare_bytes_one κs a x y s t p q = p ∙ sym q

-- one answer of `compare`
pub compare_one : (κs : Lfts 2) (a : Dens κs compare-kinds.ps) (x y : (res_t compare-kinds.r κs).Denot) (s t : AtExit (ended_of 2 compare-kinds.ps compare-kinds.r) κs)
    → compare-reads.Post κs a x s → compare-reads.Post κs a y t → x ≡ y
compare_one κs a x y s t p q = p ∙ sym q
