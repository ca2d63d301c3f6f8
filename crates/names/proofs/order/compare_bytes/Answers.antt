-- The library's order of slices is the definition's.
use Rattle.std.proofs.Common.{◌∙◌}
use Rattle.names.specs.Laws.Order.{lexical_is}
use Rattle.names.proofs.order.compare_bytes.Goals as goal

pub returns : goal.returns
returns c = c.cmp.ensures ∙ lexical_is _ _
