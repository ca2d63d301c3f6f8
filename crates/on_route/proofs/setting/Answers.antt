-- One law for each arm.
use mathlib.Core.Path.{sym, ◌∙◌}
use Rattle.event.specs.Places.Begins.{answer_of}
use Rattle.on_route.specs.Laws.Routes.{set_refused, set_unclassed, set_done, set_full}
use Rattle.on_route.proofs.setting.Goals as goal
use Rattle.on_route.proofs.setting.Goals.{then-set, else-set}

pub returns-in_err-check : goal.returns-in_err-check
returns-in_err-check c =
    set_refused _ _ c.from_residual.result _ c.from_residual.ensures.1 (sym c.check.ensures ∙ c.in_err-check.was) _

pub returns-then-not-is_class : goal.returns-then-not-is_class
unfolding answer_of
returns-then-not-is_class c =
    set_unclassed _ _ _ (sym c.check.ensures ∙ c.in_ok-check.was) _ _ c.is_class.ensures c.if-not-is_class.true

pub returns : goal.returns
unfolding answer_of
returns c = elim c.if-set.branch [
  | then-set w ↦ rw w.result-is
      (set_done _ _ _ (sym c.check.ensures ∙ c.in_ok-check.was) _ _
      c.is_class.ensures c.if-not-is_class.false _ _ (c.set.ensures.sets _) w.if-set.true)
  | else-set w ↦ rw w.result-is
      (set_full _ _ _ (sym c.check.ensures ∙ c.in_ok-check.was) _ _
      c.is_class.ensures c.if-not-is_class.false _ _ (c.set.ensures.sets _) w.if-set.false)
]
