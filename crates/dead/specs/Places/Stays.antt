-- What an operation leaves as it was of a ring's memory: its lines, wherever the oldest one stands and however many count.
-- Assumes nothing.
use Rattle.std.specs.Prelude.{◌≡◌}
use Rattle.dead.specs.declared.Dead.{Dead}

-- the lines stay where they stood
pub record LinesStay (d e : Dead) : Type 0 where
  pub lines : e.lines ≡ d.lines
