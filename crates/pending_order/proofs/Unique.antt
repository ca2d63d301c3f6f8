-- One outcome for each input of each public function: any two that its contract admits are equal, or have the rows in the same order at
-- exit.
-- Assumes nothing.
use mathlib.Core.Path.{◌≡◌, sym, ap, ◌∙◌}
use contract.Lifetimes.{Lfts}
use denote.Triple.Clauses.{AtExit}
use borrow.Fn.Kinds.{Dens, ended_of, res_t}
use Rattle.sizes.specs.Sizes.{most_entries}
use Rattle.pending_order.specs.Order.{rows_of}
use Rattle.pending_order.specs.Places.Gives.{gives_one}
use Rattle.pending_order.specs.Laws.Free.{opens_one}
use Rattle.pending_order.proofs.has.Kinds as has-kinds
use Rattle.pending_order.proofs.has.Reads as has-reads
use Rattle.pending_order.proofs.remove.Kinds as remove-kinds
use Rattle.pending_order.proofs.remove.Reads as remove-reads
use Rattle.pending_order.proofs.RowWalk.of.Kinds as of-kinds
use Rattle.pending_order.proofs.RowWalk.of.Reads as of-reads
use Rattle.pending_order.proofs.RowWalkIterator.next.Kinds as next-kinds
use Rattle.pending_order.proofs.RowWalkIterator.next.Reads as next-reads
use Rattle.pending_order.proofs.kept.Kinds as kept-kinds
use Rattle.pending_order.proofs.kept.Reads as kept-reads
use Rattle.pending_order.proofs.better_row.Kinds as better-row-kinds
use Rattle.pending_order.proofs.better_row.Reads as better-row-reads
use Rattle.pending_order.proofs.least.Kinds as least-kinds
use Rattle.pending_order.proofs.least.Reads as least-reads
use Rattle.pending_order.proofs.larger.Kinds as larger-kinds
use Rattle.pending_order.proofs.larger.Reads as larger-reads
use Rattle.pending_order.proofs.next_number.Kinds as next-number-kinds
use Rattle.pending_order.proofs.next_number.Reads as next-number-reads
use Rattle.pending_order.proofs.renumber.Kinds as renumber-kinds
use Rattle.pending_order.proofs.renumber.Reads as renumber-reads
use Rattle.pending_order.proofs.free.Kinds as free-kinds
use Rattle.pending_order.proofs.free.Reads as free-reads
use Rattle.pending_order.proofs.open_row.Kinds as open-row-kinds
use Rattle.pending_order.proofs.open_row.Reads as open-row-reads

-- two answers whether a set has a row are the same
pub has_one : (κs : Lfts 0) (a : Dens κs has-kinds.ps) (x y : (res_t has-kinds.r κs).Denot)
    (s t : AtExit (ended_of 0 has-kinds.ps has-kinds.r) κs)
    → has-reads.Post κs a x s → has-reads.Post κs a y t → x ≡ y
has_one κs a x y s t p q = p ∙ sym q

-- two sets without a row are the same
pub remove_one : (κs : Lfts 0) (a : Dens κs remove-kinds.ps) (x y : (res_t remove-kinds.r κs).Denot)
    (s t : AtExit (ended_of 0 remove-kinds.ps remove-kinds.r) κs)
    → remove-reads.Post κs a x s → remove-reads.Post κs a y t → x ≡ y
remove_one κs a x y s t p q = p ∙ sym q

-- two walks over the rows of a set are the same
pub of_one : (κs : Lfts 0) (a : Dens κs of-kinds.ps) (x y : (res_t of-kinds.r κs).Denot)
    (s t : AtExit (ended_of 0 of-kinds.ps of-kinds.r) κs)
    → of-reads.Post κs a x s → of-reads.Post κs a y t → x ≡ y
of_one κs a x y s t p q = ap (λ l. record { left = l }) (p ∙ sym q)

-- two next rows of a walk are the same, and leave the same rows
pub next_one : (κs : Lfts 1) (a : Dens κs next-kinds.ps) (x y : (res_t next-kinds.r κs).Denot)
    (s t : AtExit (ended_of 1 next-kinds.ps next-kinds.r) κs)
    → next-reads.Post κs a x s → next-reads.Post κs a y t → (x ≡ y) × (s.0.now.left ≡ t.0.now.left)
next_one κs a x y s t p q = gives_one a.0.now x y p.0 q.0

-- two sets with or without a row are the same
pub kept_one : (κs : Lfts 0) (a : Dens κs kept-kinds.ps) (x y : (res_t kept-kinds.r κs).Denot)
    (s t : AtExit (ended_of 0 kept-kinds.ps kept-kinds.r) κs)
    → kept-reads.Post κs a x s → kept-reads.Post κs a y t → x ≡ y
kept_one κs a x y s t p q = p ∙ sym q

-- two answers which row was opened first are the same
pub better_row_one : (κs : Lfts 1) (a : Dens κs better-row-kinds.ps) (x y : (res_t better-row-kinds.r κs).Denot)
    (s t : AtExit (ended_of 1 better-row-kinds.ps better-row-kinds.r) κs)
    → better-row-reads.Post κs a x s → better-row-reads.Post κs a y t → x ≡ y
better_row_one κs a x y s t p q = p ∙ sym q

-- two answers which row of a mask was opened first are the same
pub least_one : (κs : Lfts 1) (a : Dens κs least-kinds.ps) (x y : (res_t least-kinds.r κs).Denot)
    (s t : AtExit (ended_of 1 least-kinds.ps least-kinds.r) κs)
    → least-reads.Post κs a x s → least-reads.Post κs a y t → x ≡ y
least_one κs a x y s t p q = p ∙ sym q

-- two answers which number is larger are the same
pub larger_one : (κs : Lfts 0) (a : Dens κs larger-kinds.ps) (x y : (res_t larger-kinds.r κs).Denot)
    (s t : AtExit (ended_of 0 larger-kinds.ps larger-kinds.r) κs)
    → larger-reads.Post κs a x s → larger-reads.Post κs a y t → x ≡ y
larger_one κs a x y s t p q = p ∙ sym q

-- two next numbers are the same
pub next_number_one : (κs : Lfts 1) (a : Dens κs next-number-kinds.ps) (x y : (res_t next-number-kinds.r κs).Denot)
    (s t : AtExit (ended_of 1 next-number-kinds.ps next-number-kinds.r) κs)
    → next-number-reads.Post κs a x s → next-number-reads.Post κs a y t → x ≡ y
next_number_one κs a x y s t p q = p ∙ sym q

-- two ways to number the rows anew are the same
pub renumber_one : (κs : Lfts 1) (a : Dens κs renumber-kinds.ps) (x y : (res_t renumber-kinds.r κs).Denot)
    (s t : AtExit (ended_of 1 renumber-kinds.ps renumber-kinds.r) κs)
    → renumber-reads.Post κs a x s → renumber-reads.Post κs a y t → s.0.now ≡ t.0.now
renumber_one κs a x y s t p q = p ∙ sym q

-- two answers which row is free are the same
pub free_one : (κs : Lfts 0) (a : Dens κs free-kinds.ps) (x y : (res_t free-kinds.r κs).Denot)
    (s t : AtExit (ended_of 0 free-kinds.ps free-kinds.r) κs)
    → free-reads.Post κs a x s → free-reads.Post κs a y t → x ≡ y
free_one κs a x y s t p q = p ∙ sym q

-- two rows opened are the same, and so is the order; the numbers of the rows are free
pub open_row_one : (κs : Lfts 1) (a : Dens κs open-row-kinds.ps) (x y : (res_t open-row-kinds.r κs).Denot)
    (s t : AtExit (ended_of 1 open-row-kinds.ps open-row-kinds.r) κs)
    → open-row-reads.Post κs a x s → open-row-reads.Post κs a y t → (x.row ≡ y.row) × (x.used ≡ y.used)
    × (rows_of most_entries s.0.now x.used ≡ rows_of most_entries t.0.now y.used)
open_row_one κs a x y s t p q = opens_one most_entries _ _ _ _ _ _ _ _ p q
