-- The number so far is that of the bytes so far.
use Rattle.std.proofs.Common.{◌≡◌, take}
use Rattle.wire.specs.Number.{big}
use Rattle.wire.proofs.read.big_of.Given as goal

abbrev pub invariant-loop-b : goal.invariant-loop-b
invariant-loop-b l = l.n ≡ big 0 (take l.b-index l.bytes)
