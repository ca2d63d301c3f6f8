-- The bytes counted and those of the numbers left are those of the line.
use Rattle.std.proofs.Common.{◌≡◌, ◌+◌, ◌*◌, ◌≤◌, length, drop}
use Rattle.lines.specs.Places.Put.{all_spaced, line_of}
use Rattle.lines.proofs.line_len.Given as goal

abbrev pub invariant-loop-n : goal.invariant-loop-n
invariant-loop-n l =
    (l.len + length (all_spaced (drop l.n-index l.numbers)) ≡ length (line_of l.word l.numbers))
    × (l.len ≤ length l.word + 21 * l.n-index + 1)
