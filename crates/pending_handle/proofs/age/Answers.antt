-- What the row says is said of the entry, whatever its name.
use Rattle.pending_table.specs.Laws.Parts.{part_tells}
use Rattle.pending_handle.proofs.age.Goals as goal

pub returns-in-Some-clause-overdue : goal.returns-in-Some-clause-overdue
returns-in-Some-clause-overdue c =
    let a = c.args in
    λ n k. part_tells n a.heads.now a.recs.now k a.used a.h c.row_of.ensures.row c.in-Some.is _ _ c.age.ensures.overdue
