-- The first Name from the place on is the first of all: that is the invariant, and each arm of a turn is one law.
use Rattle.std.proofs.Common.{sym, ◌∙◌, arith}
use Rattle.std.proofs.Math.Nat.{add-sub_cancel_left}
use Rattle.packethead.specs.Laws.Find.{finding_start, finding_end, finding_bad, finding_name, finding_more}
use Rattle.wire.specs.Laws.Within.{read_is}
use Rattle.packethead.proofs.name.name_in.Goals as goal

pub loop-cursor-init : goal.loop-cursor-init
loop-cursor-init c = finding_start _

pub returns-in_default : goal.returns-in_default
returns-in_default c = finding_bad _ _ c.loop-cursor.invariant (sym c.in_default.ensures)

pub overflow_add-result : goal.overflow_add-result
overflow_add-result c =
    let n = read_is _ _ _ _ (sym c.in-Some.ensures) in
    omega (arith, n.early, n.value, n.inside)

pub slice_bounds-result-end-then-e-from : goal.slice_bounds-result-end-then-e-from
slice_bounds-result-end-then-e-from c =
    let n = read_is _ _ _ _ (sym c.in-Some.ensures) in
    omega (arith, n.value, n.inside)

pub returns-then-e-from : goal.returns-then-e-from
returns-then-e-from c =
    rw add-sub_cancel_left
    (finding_name _ _ c.loop-cursor.invariant _ _ (sym c.in-Some.ensures) (c.if-e-from.true ∙ c.from.ensures))

pub loop-cursor-smaller : goal.loop-cursor-smaller
loop-cursor-smaller c =
    let n = read_is _ _ _ _ (sym c.in-Some.ensures) in
    omega (arith, n.early, n.value, n.inside)

pub loop-cursor-preserved : goal.loop-cursor-preserved
loop-cursor-preserved c =
    finding_more _ _ c.loop-cursor.invariant _ _ (sym c.in-Some.ensures) (λ e. c.if-e-from.false (e ∙ sym c.from.ensures))

pub returns : goal.returns
returns c = finding_end _ _ c.loop-cursor.invariant c.loop-cursor-test.false
