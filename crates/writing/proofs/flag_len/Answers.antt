-- `flag_len` meets its contract: a flag that is set is an element without a value.
use mathlib.Core.Path.{refl}
use Rattle.writing.specs.Written.{flag}
use Rattle.laws.specs.Pick.{pick}
use mathlib.Core.List.{[]}
use Rattle.writing.proofs.flag_len.Goals as goal

pub returns-then-on : goal.returns-then-on
unfolding flag pick
returns-then-on c = rw c.if-on.true (c.element_len.ensures [] refl)

pub returns-else-on : goal.returns-else-on
unfolding flag pick
returns-else-on c = rw c.if-on.false
