-- The last line is one of a word and numbers.
use Rattle.lines.specs.Lines.{total_word}
use Rattle.lines.specs.Laws.Lines.{total_parts}
use Rattle.lines.proofs.put_total_line.Goals as goal

pub returns : goal.returns
unfolding total_word
returns c = rw total_parts c.put_line.ensures
