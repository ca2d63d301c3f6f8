-- One law for each way that a turn ends.
use Rattle.std.proofs.Common.{◌≡◌, ◌||◌, nat_lt, sym, ◌∙◌, arith, rules}
use Rattle.names.specs.Laws.Name.{judged_first, judged_end, judged_fault, judged_high, judged_more}
use Rattle.laws.specs.Pick.{pick}
use Rattle.wire.specs.Laws.Within.{read_is}
use Rattle.names.proofs.component.count_components.Goals as goal
use Rattle.names.proofs.component.count_components.Goals.{then-met, else-met}

pub loop-place-init : goal.loop-place-init
loop-place-init c = (search rules, search rules, judged_first _)

pub returns-in_default : goal.returns-in_default
returns-in_default c = sym (judged_fault _ _ _ _ c.loop-place-test.true (sym c.in_default.ensures)) ∙ c.loop-place.invariant.2

pub returns-then-e-gt-HIGHEST_TYPE : goal.returns-then-e-gt-HIGHEST_TYPE
returns-then-e-gt-HIGHEST_TYPE c =
    sym (judged_high _ _ _ _ _ _ (sym c.in-Some.ensures) c.if-e-gt-HIGHEST_TYPE.true) ∙ c.loop-place.invariant.2

pub loop-place-smaller : goal.loop-place-smaller
loop-place-smaller c = omega (arith, read_is _ _ _ _ (sym c.in-Some.ensures))

pub loop-place-preserved : goal.loop-place-preserved
loop-place-preserved c =
    let i = sym c.in-Some.ensures in
    let f = read_is _ _ _ _ i in
    let met : c.if-met.met ≡ (c.loop-place.met || nat_lt c.in-Some.e.typ 3) =
    elim c.if-met.branch [
      | then-met w ↦ rw (w.met-is, w.if-met.true)
      | else-met w ↦ rw (w.met-is, w.if-met.false) w.is_marked-met.ensures
    ] in
    (omega arith, omega arith, rw met (sym (judged_more _ _ _ _ _ _ i c.if-e-gt-HIGHEST_TYPE.false) ∙ c.loop-place.invariant.2))

pub returns-then-met-2 : goal.returns-then-met-2
unfolding pick
returns-then-met-2 c = sym (judged_end _ _ _ _ c.loop-place-test.false ∙ rw c.if-met-2.true) ∙ c.loop-place.invariant.2

pub returns-else-met-2 : goal.returns-else-met-2
unfolding pick
returns-else-met-2 c = sym (judged_end _ _ _ _ c.loop-place-test.false ∙ rw c.if-met-2.false) ∙ c.loop-place.invariant.2
