-- What the row says is said of the entry, whatever its name.
use Rattle.pending_table.specs.Laws.Parts.{seen_tells}
use Rattle.pending_handle.proofs.has_nonce.Goals as goal

pub returns-in-Some : goal.returns-in-Some
returns-in-Some c = seen_tells c.args.t c.args.h c.row_of.ensures.row c.in-Some.is _ _ c.has_nonce.ensures
