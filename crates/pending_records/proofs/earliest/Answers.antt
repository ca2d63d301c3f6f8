-- The least time that the walk finds is that of the earliest out-record.
use borrow.Author.Rules.{rules}
use borrow.Author.Tests.{tests}
use mathlib.Core.Path.{sym, ◌∙◌}
use Rattle.sizes.specs.Sizes.{most_faces}
use Rattle.faces.specs.Laws.Picked.{walk_least}
use Rattle.pending_entry.specs.Places.View.{sent_at}
use Rattle.pending_records.specs.Places.Walk.{time_of}
use Rattle.pending_records.specs.Laws.Earliest.{view_earliest}
use Rattle.pending_records.proofs.earliest.Goals as goal

pub returns : goal.returns
unfolding sent_at
returns c =
    let a = c.args in
    let recs = a.recs.now in
    λ nm.
    walk_least (sent_at recs) time_of _ _ (λ x k h e. search (rules, tests)) most_faces c.of.result _ c.min_by_key.ensures.ran
    ∙ sym (view_earliest most_faces nm a.head.now recs a.set _ (c.of.ensures ∙ c.common.ensures))
