-- The line for a tape that is too long is one of words and no number.
use Rattle.lines.specs.Laws.Lines.{long_parts}
use Rattle.lines.proofs.put_too_long.Goals as goal

pub returns : goal.returns
returns c = rw long_parts c.put_line.ensures
