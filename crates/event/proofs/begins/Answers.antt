-- By the checks: a refusal leaves all as it was; past them ageing is what its contract says.
use mathlib.Core.Path.{refl, sym, ◌∙◌}
use Rattle.event.specs.Laws.Allowed.{allowed_refuses, allowed_zero, allowed_passes}
use Rattle.event.specs.Laws.Begins.{begins_refused, begins_aged}
use Rattle.event.proofs.begins.Goals as goal

pub returns-in_err-check-clause-begun : goal.returns-in_err-check-clause-begun
returns-in_err-check-clause-begun c f r s =
    let e = sym c.check.ensures ∙ c.in_err-check.was in
    begins_refused _ _ _ _ _ _ refl (allowed_refuses _ _ e) (allowed_passes c.from_residual.result _ _ c.from_residual.ensures.1 e)

pub returns-in_err-check-clause-refused : goal.returns-in_err-check-clause-refused
returns-in_err-check-clause-refused c =
    let e = sym c.check.ensures ∙ c.in_err-check.was in
    rw (allowed_passes c.from_residual.result _ _ c.from_residual.ensures.1 e) (allowed_refuses _ _ e)

pub returns-clause-begun : goal.returns-clause-begun
returns-clause-begun c f r s =
    begins_aged _ _ _ _ _ _ _ _ _ _ _ _ refl (allowed_zero _ _ (sym c.check.ensures ∙ c.in_ok-check.was)) refl c.age.ensures

pub returns-in_err-check-clause-kept : goal.returns-in_err-check-clause-kept
returns-in_err-check-clause-kept c =
    rw (allowed_passes c.from_residual.result _ _ c.from_residual.ensures.1 (sym c.check.ensures ∙ c.in_err-check.was)) (refl, refl, refl)
