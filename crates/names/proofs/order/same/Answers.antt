-- The library's comparison of slices is the definition's.
use Rattle.std.proofs.Common.{◌∙◌}
use Rattle.names.specs.Laws.Same.{same_is}
use Rattle.names.proofs.order.same.Goals as goal

pub returns : goal.returns
returns c = c.eq.ensures ∙ same_is _ _
