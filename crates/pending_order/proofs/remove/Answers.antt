-- A row that is in the set loses its power of 2; anything else changes nothing.
use native.Mathlib.Omega.{arith}
use mathlib.Core.Path.{sym, ◌∙◌}
use Rattle.laws.specs.Laws.Digits.{digit_pow_le, shl_one, member_yes, removed_present, removed_absent}
use Rattle.pending_order.specs.Laws.Walk.{member_within}
use Rattle.pending_order.proofs.remove.Goals as goal

pub overflow_shl-result : goal.overflow_shl-result
overflow_shl-result c = member_within 64 c.args.row c.args.set (omega arith) (sym c.has.ensures ∙ c.if-has.true)

pub overflow_sub-result : goal.overflow_sub-result
overflow_sub-result c =
    let a = c.args in
    let m = sym c.has.ensures ∙ c.if-has.true in
    rw (shl_one 64 a.row (member_within 64 a.row a.set (omega arith) m)) (digit_pow_le a.row a.set ((member_yes _ _).0 m))

pub returns-then-has : goal.returns-then-has
returns-then-has c =
    let a = c.args in
    let m = sym c.has.ensures ∙ c.if-has.true in
    rw (shl_one 64 a.row (member_within 64 a.row a.set (omega arith) m)) (sym (removed_present a.row a.set m))

pub returns-else-has : goal.returns-else-has
returns-else-has c = sym (removed_absent c.args.row c.args.set (sym c.has.ensures ∙ c.if-has.false))
