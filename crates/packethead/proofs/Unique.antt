-- One result for each input of the functions of the header and the name finder: any two that a contract admits are equal; parts of a
-- slice have the same bytes.
-- Assumes nothing.
use mathlib.Core.Path.{◌≡◌, sym, ◌∙◌}
use contract.Lifetimes.{Lfts}
use denote.Triple.Clauses.{AtExit}
use borrow.Fn.Kinds.{Dens, ended_of, res_t}
use Rattle.packethead.proofs.header.part_at.Kinds as part-at-kinds
use Rattle.packethead.proofs.header.part_at.Reads as part-at-reads
use Rattle.packethead.proofs.header.bytes_at.Kinds as bytes-at-kinds
use Rattle.packethead.proofs.header.bytes_at.Reads as bytes-at-reads
use Rattle.packethead.proofs.header.whole_of.Kinds as whole-of-kinds
use Rattle.packethead.proofs.header.whole_of.Reads as whole-of-reads
use Rattle.packethead.proofs.header.read_header.Kinds as read-header-kinds
use Rattle.packethead.proofs.header.read_header.Reads as read-header-reads
use Rattle.packethead.proofs.name.find_name.Kinds as find-name-kinds
use Rattle.packethead.proofs.name.find_name.Reads as find-name-reads

-- the bytes at a place
pub part_at_one : (κs : Lfts 1) (a : Dens κs part-at-kinds.ps) (x y : (res_t part-at-kinds.r κs).Denot) (s t : AtExit (ended_of 1 part-at-kinds.ps part-at-kinds.r) κs)
    → part-at-reads.Post κs a x s → part-at-reads.Post κs a y t → x.now ≡ y.now
part_at_one κs a x y s t p q = p ∙ sym q

-- the bytes of an element that was looked for
pub bytes_at_one : (κs : Lfts 1) (a : Dens κs bytes-at-kinds.ps) (x y : (res_t bytes-at-kinds.r κs).Denot) (s t : AtExit (ended_of 1 bytes-at-kinds.ps bytes-at-kinds.r) κs)
    → bytes-at-reads.Post κs a x s → bytes-at-reads.Post κs a y t → x.now ≡ y.now
bytes_at_one κs a x y s t p q = p ∙ sym q

-- the whole number that fills an element
pub whole_of_one : (κs : Lfts 1) (a : Dens κs whole-of-kinds.ps) (x y : (res_t whole-of-kinds.r κs).Denot) (s t : AtExit (ended_of 1 whole-of-kinds.ps whole-of-kinds.r) κs)
    → whole-of-reads.Post κs a x s → whole-of-reads.Post κs a y t → x ≡ y
whole_of_one κs a x y s t p q = p ∙ sym q

-- the header of a packet as it came
pub read_header_one : (κs : Lfts 1) (a : Dens κs read-header-kinds.ps) (x y : (res_t read-header-kinds.r κs).Denot) (s t : AtExit (ended_of 1 read-header-kinds.ps read-header-kinds.r) κs)
    → read-header-reads.Post κs a x s → read-header-reads.Post κs a y t → x ≡ y
read_header_one κs a x y s t p q = p ∙ sym q

-- the Name of a bare packet
pub find_name_one : (κs : Lfts 1) (a : Dens κs find-name-kinds.ps) (x y : (res_t find-name-kinds.r κs).Denot) (s t : AtExit (ended_of 1 find-name-kinds.ps find-name-kinds.r) κs)
    → find-name-reads.Post κs a x s → find-name-reads.Post κs a y t → x.now ≡ y.now
find_name_one κs a x y s t p q = p ∙ sym q
