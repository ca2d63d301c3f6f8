-- What a part of the code for an Interest answers.
-- Assumes nothing.
use Rattle.std.specs.Prelude.{ℕ}
use Rattle.answers.specs.declared.Answer.{Answer}
use Rattle.event.specs.declared.Came.{Came}

-- what the code answers
abbrev pub came : Answer → ℕ → ℕ → Came
came a sent made = record { answer = a; sent = sent; made = made }
