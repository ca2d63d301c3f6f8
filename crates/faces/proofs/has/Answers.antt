-- A number that is no face is in no set; of a face the shift gives the digit.
use Rattle.std.proofs.Common.{arith, sym, ◌∙◌, ◌-◌}
use Rattle.records.specs.Laws.Face.{face_yes}
use Rattle.sizes.specs.Sizes.{most_faces}
use Rattle.faces.specs.Set.{has_face}
use Rattle.laws.specs.Digits.{member}
use Rattle.laws.specs.Laws.Digits.{digit_shift}
use Rattle.faces.proofs.has.Goals as goal

pub overflow_sub-result : goal.overflow_sub-result
overflow_sub-result c = ((face_yes most_faces c.args.face).0 (sym c.is_face.ensures ∙ c.if-is_face.true)).0

pub overflow_shr-result : goal.overflow_shr-result
overflow_shr-result c = omega (arith, (face_yes most_faces c.args.face).0 (sym c.is_face.ensures ∙ c.if-is_face.true))

pub returns-then-is_face : goal.returns-then-is_face
unfolding has_face member
returns-then-is_face c = rw (sym c.is_face.ensures ∙ c.if-is_face.true, ← (digit_shift (c.args.face - 1) _))

pub returns-else-is_face : goal.returns-else-is_face
unfolding has_face
returns-else-is_face c = rw (← c.is_face.ensures, c.if-is_face.false)
