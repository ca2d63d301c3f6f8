-- One law for each outcome: no number, its shortest form, a longer one.
use Rattle.std.proofs.Common.{sym, ◌∙◌, arith}
use Rattle.wire.specs.Laws.Read.{number_none, number_short, number_wider}
use Rattle.wire.specs.Laws.Within.{any_number_is}
use Rattle.wire.proofs.read.Cursor.number.Goals as goal

pub returns-in_err-v : goal.returns-in_err-v
returns-in_err-v c = c.from_residual.ensures ∙ sym (number_none _ _ (sym c.in_err-v.ensures))

pub overflow_sub-next : goal.overflow_sub-next
overflow_sub-next c = omega (arith, (any_number_is _ _ _ _ (sym c.in_ok-v.ensures)).early)

pub returns-then-next-self : goal.returns-then-next-self
returns-then-next-self c = sym (number_short _ _ _ _ (sym c.in_ok-v.ensures) (c.if-next-self.true ∙ c.width_of.ensures))

pub returns-else-next-self : goal.returns-else-next-self
returns-else-next-self c = sym (number_wider _ _ _ _ (sym c.in_ok-v.ensures) (λ q. c.if-next-self.false (q ∙ sym c.width_of.ensures)))
