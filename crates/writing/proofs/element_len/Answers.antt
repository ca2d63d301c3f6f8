-- `element_len` meets its contract: an element has the widths of its type and of its length, and its value.
use native.Mathlib.Omega.{arith}
use mathlib.Core.Path.{◌∙◌}
use Rattle.writing.specs.Laws.Size.{length_written}
use Rattle.wire.specs.Laws.Write.{width_most}
use Rattle.writing.proofs.element_len.Goals as goal

pub overflow_add-result : goal.overflow_add-result
overflow_add-result c = omega (arith, width_most c.args.typ, width_most c.args.len)

pub overflow_add-result-2 : goal.overflow_add-result-2
overflow_add-result-2 c = omega (arith, width_most c.args.typ, width_most c.args.len)

pub returns : goal.returns
returns c = λ v e. length_written c.args.typ v ∙ rw e (omega arith)
