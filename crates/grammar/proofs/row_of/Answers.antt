-- The first row that is sought from the parent's first on is the one that the whole look-up finds.
use Rattle.std.proofs.Common.{◌∙◌}
use Rattle.grammar.specs.Laws.Table.{look_up}
use Rattle.grammar.proofs.row_of.Goals as goal

pub returns : goal.returns
returns c = rw c.rows_from.ensures at c.find_row.ensures ∙ look_up c.args.parent c.args.typ
