-- The row of the handle, where it is used, is one of the table's.
use native.Mathlib.Omega.{arith}
use mathlib.Core.Path.{◌∙◌}
use mathlib.Core.List.{[]}
use Rattle.sizes.specs.Sizes.{most_faces}
use Rattle.pending_table.specs.Places.View.{row_used, row_fits}
use Rattle.pending_table.proofs.row_of.Goals as goal

pub returns : goal.returns
returns c =
    let row = c.then_some.ensures
    ∙ rw c.has.ensures (row_used most_faces [] [] [] [] (record { used = c.args.used }) c.args.h (omega arith)) in
    record { row = row; within = rw row (row_fits most_faces [] [] [] [] (record { used = c.args.used }) c.args.h) }
