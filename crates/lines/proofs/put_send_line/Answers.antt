-- A send's line is one of a word and numbers.
use Rattle.lines.specs.Lines.{mark}
use Rattle.lines.specs.Laws.Lines.{send_parts}
use Rattle.lines.proofs.put_send_line.Goals as goal

pub returns : goal.returns
unfolding mark
returns c = rw send_parts c.put_line.ensures
