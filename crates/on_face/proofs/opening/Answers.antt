-- One law for each arm.
use mathlib.Core.Path.{sym, ◌∙◌}
use Rattle.event.specs.Places.Begins.{answer_of}
use Rattle.on_face.specs.Laws.Faces.{opens_taken, opens_scope, opens_link, opens_done}
use Rattle.on_face.proofs.opening.Goals as goal

pub returns-then-is_open : goal.returns-then-is_open
unfolding answer_of
returns-then-is_open c = opens_taken _ _ _ _ _ c.is_open.ensures c.if-is_open.true

pub returns-then-scope-gt1 : goal.returns-then-scope-gt1
unfolding answer_of
returns-then-scope-gt1 c = opens_scope _ _ _ _ _ c.is_open.ensures c.if-is_open.false c.if-scope-gt1.true

pub returns-in_err-kind : goal.returns-in_err-kind
returns-in_err-kind c =
    opens_link _ _ _ _ _ c.is_open.ensures c.if-is_open.false c.if-scope-gt1.false _
    c.link_of.ensures _ (sym c.ok_or.ensures.value ∙ c.in_err-kind.was)
    _ c.from_residual.ensures.1

pub returns : goal.returns
unfolding answer_of
returns c =
    opens_done _ _ _ _ _ c.is_open.ensures c.if-is_open.false c.if-scope-gt1.false _
    c.link_of.ensures _ (sym c.ok_or.ensures.value ∙ c.in_ok-kind.was)
    _ c.with_open.ensures
