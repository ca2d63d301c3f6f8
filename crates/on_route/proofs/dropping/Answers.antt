-- One law for each arm.
use mathlib.Core.Path.{sym, ◌∙◌}
use Rattle.event.specs.Places.Begins.{answer_of}
use Rattle.on_route.specs.Laws.Routes.{drop_refused, drop_none, drop_done, sought_none, sought_some, error_passed}
use Rattle.on_route.proofs.dropping.Goals as goal

pub returns-in_err-check : goal.returns-in_err-check
returns-in_err-check c =
    drop_refused _ _ c.from_residual.result _ c.from_residual.ensures.1 (sym c.check.ensures ∙ c.in_err-check.was)

pub returns-in_err-route : goal.returns-in_err-route
returns-in_err-route c =
    let (none, is) = sought_none _ _ _ _ _ (c.find.ensures _) (sym c.in_err-route.was ∙ c.ok_or.ensures.value) in
    rw (error_passed _ _ c.from_residual-in_err-route.ensures.1, is) (drop_none _ _ _ (sym c.check.ensures ∙ c.in_ok-check.was) none)

pub returns : goal.returns
unfolding answer_of
returns c =
    let (is, there) = sought_some _ _ _ _ _ (c.find.ensures _) (sym c.in_ok-route.was ∙ c.ok_or.ensures.value) in
    drop_done _ _ _ (sym c.check.ensures ∙ c.in_ok-check.was) _ is there _ c.remove.ensures.gone
