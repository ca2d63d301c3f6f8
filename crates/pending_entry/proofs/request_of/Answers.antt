-- A face of the set has its in-record; no other number has one.
use mathlib.Core.Path.{sym, ◌∙◌}
use Rattle.sizes.specs.Sizes.{most_faces}
use Rattle.laws.specs.Laws.Pick.{pick_yes, pick_no}
use Rattle.pending_entry.specs.Places.View.{request_at}
use Rattle.pending_entry.specs.Operations.{request_in}
use Rattle.pending_entry.specs.Laws.Change.{view_request}
use Rattle.pending_entry.proofs.request_of.Goals as goal

pub returns-then-has : goal.returns-then-has
unfolding request_in request_at
returns-then-has c =
    λ nm. sym (view_request most_faces nm _ _ _ ∙ pick_yes _ _ _ (sym c.has.ensures ∙ c.if-has.true))

pub returns-else-has : goal.returns-else-has
unfolding request_in
returns-else-has c = λ nm. sym (view_request most_faces nm _ _ _ ∙ pick_no _ _ _ (sym c.has.ensures ∙ c.if-has.false))
