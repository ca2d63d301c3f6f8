-- One law for each outcome.
use Rattle.std.proofs.Common.{sym, ◌∙◌, arith}
use Rattle.wire.specs.Laws.Read.{element_untyped, element_zero, element_large, element_unsized, element_long, element_is}
use Rattle.wire.specs.Laws.Within.{number_is}
use Rattle.wire.proofs.read.Cursor.long_element.Goals as goal
use Rattle.wire.proofs.read.Cursor.long_element.Goals.{then-typ-lt1-via-then-typ-lt1, then-typ-lt1-via-else-typ-lt1+then-typ-gt-HIGHEST_TYPE}

pub returns-in_err-typ : goal.returns-in_err-typ
returns-in_err-typ c = c.from_residual.ensures ∙ sym (element_untyped _ _ (sym c.in_err-typ.ensures))

pub returns-then-typ-lt1 : goal.returns-then-typ-lt1
returns-then-typ-lt1 c =
    elim c.then-typ-lt1.branch [
      | then-typ-lt1-via-then-typ-lt1 w ↦ sym (element_zero _ _ _ _ (sym c.in_ok-typ.ensures) w.if-typ-lt1.true)
      | then-typ-lt1-via-else-typ-lt1+then-typ-gt-HIGHEST_TYPE w ↦ sym (element_large _ _ _ _ (sym c.in_ok-typ.ensures) w.if-typ-lt1.false w.if-typ-gt-HIGHEST_TYPE.true)
    ]

pub returns-in_err-n : goal.returns-in_err-n
returns-in_err-n c =
    c.from_residual-in_err-n.ensures ∙ sym (element_unsized _ _ _ _ (sym c.in_ok-typ.ensures) c.if-typ-lt1.false c.if-typ-gt-HIGHEST_TYPE.false (sym c.in_err-n.ensures))

pub overflow_sub-s : goal.overflow_sub-s
overflow_sub-s c = omega (arith, (number_is _ _ _ _ (sym c.in_ok-n.ensures)).inside)

pub returns-then-s-d : goal.returns-then-s-d
returns-then-s-d c =
    sym (element_long _ _ _ _ (sym c.in_ok-typ.ensures) c.if-typ-lt1.false c.if-typ-gt-HIGHEST_TYPE.false _ _ (sym c.in_ok-n.ensures) c.if-s-d.true)

pub returns : goal.returns
returns c =
    sym (element_is _ _ _ _ (sym c.in_ok-typ.ensures) c.if-typ-lt1.false c.if-typ-gt-HIGHEST_TYPE.false _ _ (sym c.in_ok-n.ensures) c.if-s-d.false)
