-- A number that is no face changes nothing; for a face the machine's `or` adds its digit.
use Rattle.std.proofs.Common.{arith, sym, ◌∙◌, ◌-◌}
use Rattle.records.specs.Laws.Face.{face_yes}
use Rattle.sizes.specs.Sizes.{most_faces}
use Rattle.faces.specs.Set.{with_face}
use Rattle.laws.specs.Laws.Digits.{or_added}
use Rattle.laws.specs.Pick.{pick}
use Rattle.faces.proofs.add.Goals as goal

pub overflow_sub-result : goal.overflow_sub-result
overflow_sub-result c = ((face_yes most_faces c.args.face).0 (sym c.is_face.ensures ∙ c.if-is_face.true)).0

pub overflow_shl-result : goal.overflow_shl-result
overflow_shl-result c = omega (arith, (face_yes most_faces c.args.face).0 (sym c.is_face.ensures ∙ c.if-is_face.true))

pub returns-then-is_face : goal.returns-then-is_face
unfolding with_face pick
returns-then-is_face c =
    let e = sym c.is_face.ensures ∙ c.if-is_face.true in
    let h = (face_yes most_faces c.args.face).0 e in
    rw e (or_added 64 (c.args.face - 1) c.args.set (omega (arith, h)))

pub returns-else-is_face : goal.returns-else-is_face
unfolding with_face pick
returns-else-is_face c = rw (← c.is_face.ensures, c.if-is_face.false)
