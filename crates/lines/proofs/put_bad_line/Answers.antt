-- The line of an unreadable event is one of a word and numbers.
use Rattle.lines.specs.Lines.{bad_word}
use Rattle.lines.specs.Laws.Lines.{bad_parts}
use Rattle.lines.proofs.put_bad_line.Goals as goal

pub returns : goal.returns
unfolding bad_word
returns c = rw bad_parts c.put_line.ensures
