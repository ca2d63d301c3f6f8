-- One answer for each input: any two that a contract admits are equal.
-- Assumes nothing.
use mathlib.Core.Path.{◌≡◌, refl, sym, ◌∙◌}
use contract.Lifetimes.{Lfts}
use denote.Triple.Clauses.{AtExit}
use borrow.Fn.Kinds.{Dens, ended_of, res_t}
use mathlib.Core.List.{[]}
use Rattle.faces.specs.Places.View.{view}
use Rattle.rules.specs.Node.{Node}
use Rattle.coming.proofs.guard.Kinds as guard-kinds
use Rattle.coming.proofs.guard.Reads as guard-reads
use Rattle.coming.proofs.is_out_of_scope.Kinds as scope-kinds
use Rattle.coming.proofs.is_out_of_scope.Reads as scope-reads

-- two answers of the guard
pub guard_one : (κs : Lfts 0) (a : Dens κs guard-kinds.ps) (x y : (res_t guard-kinds.r κs).Denot)
    (s t : AtExit (ended_of 0 guard-kinds.ps guard-kinds.r) κs)
    → guard-reads.Post κs a x s → guard-reads.Post κs a y t → x ≡ y
guard_one κs a x y s t p q = p ∙ sym q

-- two answers about the scope
pub is_out_of_scope_one : (κs : Lfts 1) (a : Dens κs scope-kinds.ps) (x y : (res_t scope-kinds.r κs).Denot)
    (s t : AtExit (ended_of 1 scope-kinds.ps scope-kinds.r) κs)
    → scope-reads.Post κs a x s → scope-reads.Post κs a y t → x ≡ y
is_out_of_scope_one κs a x y s t p q =
    let n : Node = record { time = 0; faces = view a.0; routes = []; pending = []; store = []; dead = [] } in
    p n refl ∙ sym (q n refl)
