-- How long a Nack may be.
-- Assumes nothing.
use Rattle.std.specs.Prelude.{ℕ}

-- of a Nack: "At worst it has 290 bytes."
abbrev pub most_nack : ℕ
most_nack = 290
