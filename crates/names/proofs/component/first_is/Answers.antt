-- One law for each outcome; the value that the element names lies within the name.
use Rattle.std.proofs.Common.{sym, ◌∙◌, arith, ne_eqb}
use native.Mathlib.Nat.{add-sub_cancel_left}
use Rattle.names.specs.Laws.Name.{first_none, first_other, first_word}
use Rattle.wire.specs.Laws.Within.{read_is}
use Rattle.names.proofs.component.first_is.Goals as goal

pub returns-in_default : goal.returns-in_default
returns-in_default c = sym (first_none _ _ (sym c.in_default.ensures))

pub overflow_add-e : goal.overflow_add-e
overflow_add-e c = let r = read_is _ _ _ _ (sym c.in-Some.ensures) in omega (arith, r.value, r.inside)

pub slice_bounds-same-end : goal.slice_bounds-same-end
slice_bounds-same-end c = let r = read_is _ _ _ _ (sym c.in-Some.ensures) in omega (arith, r.value, r.inside)

pub returns-then-e-eq-GENERIC_TYPE : goal.returns-then-e-eq-GENERIC_TYPE
returns-then-e-eq-GENERIC_TYPE c =
    c.same.ensures ∙ rw add-sub_cancel_left (sym (first_word _ _ _ _ (sym c.in-Some.ensures) c.if-e-eq-GENERIC_TYPE.true))

pub returns-else-e-eq-GENERIC_TYPE : goal.returns-else-e-eq-GENERIC_TYPE
returns-else-e-eq-GENERIC_TYPE c =
    ne_eqb _ _ c.if-e-eq-GENERIC_TYPE.false ∙ sym (first_other _ _ _ _ (sym c.in-Some.ensures) c.if-e-eq-GENERIC_TYPE.false)
