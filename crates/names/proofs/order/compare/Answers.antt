-- The components that are left of both decide: one law for each pair of answers of the cursor.
use Rattle.std.proofs.Common.{sym, refl, ◌∙◌, arith}
use Rattle.names.specs.Order.{canonical_order, and_then}
use Rattle.names.specs.Laws.Order.{components_from, both_end, first_ends, second_ends, both_go_on, then_decided}
use Rattle.wire.specs.Laws.Within.{read_is}
use Rattle.names.proofs.order.compare.Goals as goal

pub loop-x-init : goal.loop-x-init
unfolding components_from canonical_order
loop-x-init c = refl

pub returns-in-None-None : goal.returns-in-None-None
returns-in-None-None c =
    let w = c.in-None-None in
    sym (both_end _ _ _ _ (sym c.element.ensures ∙ w.is-0) (sym c.element-in-loop-x.ensures ∙ w.is-1)) ∙ c.loop-x.invariant

pub returns-in-None-Some : goal.returns-in-None-Some
returns-in-None-Some c =
    let w = c.in-None-Some in
    sym (first_ends _ _ _ _ w.field-0-1.0 w.field-0-1.1 (sym c.element.ensures ∙ w.is-0) (sym c.element-in-loop-x.ensures ∙ w.is-1)) ∙ c.loop-x.invariant

pub returns-in-Some-None : goal.returns-in-Some-None
returns-in-Some-None c =
    let w = c.in-Some-None in
    sym (second_ends _ _ _ _ w.field-0-0.0 w.field-0-0.1 (sym c.element.ensures ∙ w.is-0) (sym c.element-in-loop-x.ensures ∙ w.is-1)) ∙ c.loop-x.invariant

pub compare_components-requires : goal.compare_components-requires
compare_components-requires c =
    let x = read_is _ _ _ _ (sym c.in-Some-Some.ensures) in
    let y = read_is _ _ _ _ (sym c.in-Some-Some.ensures') in
    (omega (arith, x.value, x.inside), omega (arith, y.value, y.inside))

pub loop-x-smaller : goal.loop-x-smaller
loop-x-smaller c = let x = read_is _ _ _ _ (sym c.in-Some-Some.ensures) in omega (arith, x.early, x.value, x.inside)

pub returns-in_default : goal.returns-in_default
returns-in_default c =
    let w = c.in-Some-Some in
    sym (then_decided _ _ c.in_default.not-Equal)
    ∙ sym (both_go_on _ _ _ _ _ _ _ _ _ (sym w.ensures) (sym w.ensures') (sym c.compare_components.ensures))
    ∙ c.loop-x.invariant

pub loop-x-preserved : goal.loop-x-preserved
unfolding and_then
loop-x-preserved c =
    let w = c.in-Some-Some in
    sym (both_go_on _ _ _ _ _ _ _ _ _ (sym w.ensures) (sym w.ensures') (sym c.in-Equal.ensures)) ∙ c.loop-x.invariant
