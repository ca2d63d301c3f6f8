-- The set without the faces whose requests are over has the requests that live.
use borrow.Author.Rules.{rules}
use mathlib.Core.Path.{◌≡◌, sym, ◌∙◌}
use Rattle.std.proofs.Math.ListN.{length}
use Rattle.sizes.specs.Sizes.{most_faces}
use Rattle.pending_entry.specs.Laws.Write.{asking_written}
use Rattle.pending_records.specs.Laws.Over.{view_overdue, view_aged}
use Rattle.pending_records.proofs.age.Goals as goal

pub returns : goal.returns
returns c =
    let a = c.args in
    let over = c.over_in-over.ensures in
    let six : length a.head.now ≡ 6 = search rules in
    record {
      aged = λ nm. rw (asking_written a.head.now six c.less.result)
          (view_aged most_faces nm a.head.now a.recs.now a.time _ _ over c.less.ensures);
      overdue = λ nm. over ∙ sym (view_overdue most_faces nm a.head.now a.recs.now a.time);
    }
