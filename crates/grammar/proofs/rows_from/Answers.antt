-- The first row of a parent is one of the table's.
use Rattle.std.proofs.Common.{arith}
use Rattle.grammar.specs.Table.{table}
use Rattle.grammar.specs.Laws.Table.{start_small, rows_left}
use Rattle.grammar.proofs.rows_from.Goals as goal

pub offset_bounds-first_row : goal.offset_bounds-first_row
offset_bounds-first_row c = omega (arith, start_small c.args.parent)

pub slice_bounds-result-count : goal.slice_bounds-result-count
slice_bounds-result-count c = omega (arith, start_small c.args.parent)

pub slice_bounds-result-start : goal.slice_bounds-result-start
slice_bounds-result-start c = omega (arith, start_small c.args.parent)

pub returns : goal.returns
unfolding table
returns c = rw c.first_row.ensures (rows_left _)
