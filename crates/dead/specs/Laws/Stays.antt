-- What stays of the lines where nothing is done, and where one thing is done after another.
-- Assumes nothing.
use Rattle.std.proofs.Math.Path.{refl}
use Rattle.std.proofs.Common.{◌∙◌}
use Rattle.dead.specs.declared.Dead.{Dead}
use Rattle.dead.specs.Places.Stays.{LinesStay}

-- the lines of a ring stay where nothing is done
pub lines_stayed : (d : Dead) → LinesStay d d
lines_stayed d = record { lines = refl }

-- they stay where two things are done that each leave them
pub lines_then : (d e f : Dead) → LinesStay d e → LinesStay e f → LinesStay d f
lines_then d e f a b = record { lines = b.lines ∙ a.lines }
