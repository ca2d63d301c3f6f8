-- The newest time of the out-records, if there is one, is recent or not.
use borrow.Author.Rules.{rules}
use Rattle.sizes.specs.Sizes.{most_faces}
use Rattle.pending_records.specs.Laws.Newest.{view_recent}
use Rattle.pending_records.proofs.is_suppressed.Goals as goal

pub returns : goal.returns
returns c =
    let a = c.args in
    λ nm. view_recent most_faces nm a.head.now a.recs.now a.time c.newest_time.result _ c.newest_time.ensures (search rules)
