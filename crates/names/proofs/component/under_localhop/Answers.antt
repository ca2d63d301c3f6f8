-- The word of the comparison is the definition's list of bytes.
use Rattle.names.specs.Name.{under_localhop}
use Rattle.names.proofs.component.under_localhop.Goals as goal

pub returns : goal.returns
unfolding under_localhop
returns c = c.first_is.ensures
