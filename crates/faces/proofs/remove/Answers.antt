-- What is in the set loses its power of 2, which is at most the set; anything else changes nothing.
use Rattle.std.proofs.Common.{arith, sym, ◌∙◌, ◌-◌}
use Rattle.faces.specs.Laws.Set.{has_face_lem, has_member, without_present, without_absent}
use Rattle.laws.specs.Laws.Digits.{shl_one, digit_pow_le, member_yes}
use Rattle.faces.proofs.remove.Goals as goal

pub overflow_sub-result : goal.overflow_sub-result
overflow_sub-result c = let h = has_face_lem _ _ _ (sym c.has.ensures ∙ c.if-has.true) in omega arith

pub overflow_shl-result : goal.overflow_shl-result
overflow_shl-result c = let h = has_face_lem _ _ _ (sym c.has.ensures ∙ c.if-has.true) in omega arith

pub overflow_sub-result-then-has : goal.overflow_sub-result-then-has
overflow_sub-result-then-has c =
    let e = sym c.has.ensures ∙ c.if-has.true in
    let h = has_face_lem _ _ _ e in
    rw (shl_one 64 (c.args.face - 1) (omega arith)) (digit_pow_le _ _ ((member_yes _ _).0 (has_member _ _ _ e)))

pub returns-then-has : goal.returns-then-has
returns-then-has c =
    let e = sym c.has.ensures ∙ c.if-has.true in
    let h = has_face_lem _ _ _ e in
    rw (shl_one 64 (c.args.face - 1) (omega arith)) (sym (without_present _ _ _ e))

pub returns-else-has : goal.returns-else-has
returns-else-has c = sym (without_absent _ _ _ (sym c.has.ensures ∙ c.if-has.false))
