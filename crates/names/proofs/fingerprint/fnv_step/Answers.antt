-- The machine's xor with a byte changes the lowest eight digits alone.
use Rattle.std.proofs.Common.{◌∙◌, arith}
use Rattle.names.specs.Laws.Fingerprint.{stepped_xor}
use Rattle.names.proofs.fingerprint.fnv_step.Goals as goal

pub returns : goal.returns
returns c = rw c.from.ensures at c.wrapping_mul.ensures ∙ stepped_xor _ _ (omega arith)
