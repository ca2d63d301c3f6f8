-- The word of the comparison is the definition's list of bytes.
use Rattle.names.specs.Name.{under_localhost}
use Rattle.names.proofs.component.under_localhost.Goals as goal

pub returns : goal.returns
unfolding under_localhost
returns c = c.first_is.ensures
