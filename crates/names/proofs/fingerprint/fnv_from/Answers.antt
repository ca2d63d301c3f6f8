-- Over what is left, from here on, FNV-1a is the answer.
use Rattle.std.proofs.Common.{sym, ◌∙◌, arith}
use Rattle.names.specs.Laws.Fingerprint.{fnv_more, fnv_end}
use Rattle.names.proofs.fingerprint.fnv_from.Goals as goal

pub loop-b-preserved : goal.loop-b-preserved
loop-b-preserved c = fnv_more _ _ _ _ c.loop-b-test.true c.fnv_step-h.ensures ∙ c.loop-b.invariant

pub returns : goal.returns
returns c = sym (fnv_end c.args.s.now c.loop-b.b-index c.loop-b.h (omega arith)) ∙ c.loop-b.invariant
