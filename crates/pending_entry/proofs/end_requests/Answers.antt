-- The faces of the set are taken out of those with a request.
use borrow.Author.Rules.{rules}
use mathlib.Core.Path.{◌≡◌}
use Rattle.std.proofs.Math.ListN.{length}
use Rattle.sizes.specs.Sizes.{most_faces}
use Rattle.pending_entry.specs.Laws.Write.{asking_written}
use Rattle.pending_entry.specs.Laws.Change.{view_ending}
use Rattle.pending_entry.proofs.end_requests.Goals as goal

pub returns : goal.returns
returns c =
    let a = c.args in
    let six : length a.head.now ≡ 6 = search rules in
    λ nm. rw (asking_written a.head.now six c.less.result) (view_ending most_faces nm _ _ _ _ c.less.ensures)
