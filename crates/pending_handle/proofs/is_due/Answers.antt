-- Without requests, or by the faces whose requests are over.
use mathlib.Core.Path.{sym, ◌∙◌}
use Rattle.sizes.specs.Sizes.{most_faces}
use Rattle.pending_handle.specs.Laws.Due.{due_idle, due_over}
use Rattle.pending_handle.proofs.is_due.Goals as goal

pub returns-then-is_idle : goal.returns-then-is_idle
returns-then-is_idle c =
    λ nm. c.if-is_idle.true ∙ sym (due_idle most_faces _ nm _ _ (sym (c.is_idle.ensures nm) ∙ c.if-is_idle.true))

pub returns-else-is_idle : goal.returns-else-is_idle
returns-else-is_idle c =
    λ nm. rw (c.overdue.ensures nm)
    (sym (due_over most_faces _ nm _ _ (sym (c.is_idle.ensures nm) ∙ c.if-is_idle.false)))
