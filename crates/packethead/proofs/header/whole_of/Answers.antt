-- The number is the one that is read, or 0 where none is.
use Rattle.packethead.specs.Laws.Part.{whole_or}
use Rattle.packethead.proofs.header.whole_of.Goals as goal

pub returns : goal.returns
returns c = rw (c.unwrap_or.ensures, c.whole_number.ensures) (whole_or _)
