-- A tape from a place on, as a walk over its events has it.
-- Assumes nothing.
use Rattle.std.specs.Prelude.{ℕ, ◌-◌, List, length, take, drop}
use Rattle.tapes.specs.declared.Taken.{Taken}
use Rattle.tapes.specs.Tape.{Given, Tape, at_most}
use Rattle.tapes.specs.Seen.{what_of}

-- what a tape has from a place on: its events there, and the offset of an unreadable one, counted from the tape's start
unfoldable pub rest_at : List ℕ → ℕ → Tape
rest_at s at = at_most (length s - at) (length s) (drop at s)

-- the event that was read from a tape
abbrev pub given_of : List ℕ → Taken → Given
given_of s e =
    record { time = e.time; what = what_of e.kind e.face e.first e.second (take e.len (drop e.from s)) }
