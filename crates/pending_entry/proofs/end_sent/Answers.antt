-- The face is taken out of those with an out-record.
use borrow.Author.Rules.{rules}
use mathlib.Core.Path.{◌≡◌}
use Rattle.std.proofs.Math.ListN.{length}
use Rattle.sizes.specs.Sizes.{most_faces}
use Rattle.pending_entry.specs.Laws.Write.{sent_written}
use Rattle.pending_entry.specs.Laws.Change.{view_not_sent}
use Rattle.pending_entry.proofs.end_sent.Goals as goal

pub returns : goal.returns
returns c =
    let a = c.args in
    let six : length a.head.now ≡ 6 = search rules in
    λ nm. rw (sent_written a.head.now six c.remove.result, c.remove.ensures) (view_not_sent most_faces nm _ _ _)
