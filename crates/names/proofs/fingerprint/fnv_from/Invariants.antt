-- Over what is left, from here on, FNV-1a is the answer.
use Rattle.std.proofs.Common.{◌≡◌, drop}
use Rattle.names.specs.Fingerprint.{fnv}
use Rattle.names.proofs.fingerprint.fnv_from.Given as goal

abbrev pub invariant-loop-b : goal.invariant-loop-b
invariant-loop-b l = fnv l.h (drop l.b-index l.s) ≡ fnv l.start l.s
