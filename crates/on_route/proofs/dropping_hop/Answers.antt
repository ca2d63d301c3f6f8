-- One law for each arm.
use mathlib.Core.Path.{sym, ◌∙◌}
use Rattle.event.specs.Places.Begins.{answer_of}
use Rattle.on_route.specs.Laws.Routes.{hop_refused, hop_unknown, sought_none, sought_some, error_passed, hop_none, hop_done}
use Rattle.on_route.proofs.dropping_hop.Goals as goal

pub returns-in_err-check : goal.returns-in_err-check
returns-in_err-check c =
    hop_refused _ _ c.from_residual.result _ c.from_residual.ensures.1 (sym c.check.ensures ∙ c.in_err-check.was) _

pub returns-in_err-route : goal.returns-in_err-route
returns-in_err-route c =
    let (none, is) = sought_none _ _ _ _ _ (c.find.ensures _) (sym c.in_err-route.was ∙ c.ok_or.ensures.value) in
    rw (error_passed _ _ c.from_residual-in_err-route.ensures.1, is)
    (hop_unknown _ _ _ (sym c.check.ensures ∙ c.in_ok-check.was) none _)

pub returns-then-not-has_hop : goal.returns-then-not-has_hop
unfolding answer_of
returns-then-not-has_hop c =
    let (is, there) = sought_some _ _ _ _ _ (c.find.ensures _) (sym c.in_ok-route.was ∙ c.ok_or.ensures.value) in
    hop_none _ _ _ (sym c.check.ensures ∙ c.in_ok-check.was) _ is there _ _ (c.has_hop.ensures _ _) c.if-not-has_hop.true

pub returns : goal.returns
unfolding answer_of
returns c =
    let (is, there) = sought_some _ _ _ _ _ (c.find.ensures _) (sym c.in_ok-route.was ∙ c.ok_or.ensures.value) in
    hop_done _ _ _ (sym c.check.ensures ∙ c.in_ok-check.was) _ is there
    _ _ (c.has_hop.ensures _ _) c.if-not-has_hop.false _ (c.drop_hop.ensures _ _)
