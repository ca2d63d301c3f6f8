-- One result for each input of the functions over components: any two that the contract admits are equal.
-- Assumes nothing.
use Rattle.std.proofs.Common.{◌≡◌, sym, ◌∙◌}
use contract.Lifetimes.{Lfts}
use denote.Triple.Clauses.{AtExit}
use borrow.Fn.Kinds.{Dens, ended_of, res_t}
use Rattle.names.proofs.component.count_components.Kinds as count-components-kinds
use Rattle.names.proofs.component.count_components.Reads as count-components
use Rattle.names.proofs.component.first_is.Kinds as first-is-kinds
use Rattle.names.proofs.component.first_is.Reads as first_is_lem
use Rattle.names.proofs.component.under_localhost.Kinds as under-localhost-kinds
use Rattle.names.proofs.component.under_localhost.Reads as under-localhost
use Rattle.names.proofs.component.under_localhop.Kinds as under-localhop-kinds
use Rattle.names.proofs.component.under_localhop.Reads as under-localhop

-- what a name's bytes say
pub count_components_one : (κs : Lfts 1) (a : Dens κs count-components-kinds.ps) (x y : (res_t count-components-kinds.r κs).Denot)
    (s t : AtExit (ended_of 1 count-components-kinds.ps count-components-kinds.r) κs)
    → count-components.Post κs a x s → count-components.Post κs a y t → x ≡ y
count_components_one κs a x y s t p q = p ∙ sym q

-- whether the first component is the word
pub first_is_one : (κs : Lfts 2) (a : Dens κs first-is-kinds.ps) (x y : (res_t first-is-kinds.r κs).Denot)
    (s t : AtExit (ended_of 2 first-is-kinds.ps first-is-kinds.r) κs)
    → first_is_lem.Post κs a x s → first_is_lem.Post κs a y t → x ≡ y
first_is_one κs a x y s t p q = p ∙ sym q

-- whether a name stands under /localhost
pub under_localhost_one : (κs : Lfts 1) (a : Dens κs under-localhost-kinds.ps) (x y : (res_t under-localhost-kinds.r κs).Denot)
    (s t : AtExit (ended_of 1 under-localhost-kinds.ps under-localhost-kinds.r) κs)
    → under-localhost.Post κs a x s → under-localhost.Post κs a y t → x ≡ y
under_localhost_one κs a x y s t p q = p ∙ sym q

-- whether a name stands under /localhop
pub under_localhop_one : (κs : Lfts 1) (a : Dens κs under-localhop-kinds.ps) (x y : (res_t under-localhop-kinds.r κs).Denot)
    (s t : AtExit (ended_of 1 under-localhop-kinds.ps under-localhop-kinds.r) κs)
    → under-localhop.Post κs a x s → under-localhop.Post κs a y t → x ≡ y
under_localhop_one κs a x y s t p q = p ∙ sym q
