-- The face joins the set and its cost stands at its place.
use native.Mathlib.Omega.{arith}
use Prim.Native.Nat.{◌-◌}
use lib.Seq.{get_or-set_same, get_or-set_other}
use Rattle.std.proofs.Common.{rules, length, ◌≡◌}
use Rattle.sizes.specs.Sizes.{most_faces}
use Rattle.records.specs.Laws.Face.{face_yes}
use Rattle.routes.specs.Laws.Hop.{row_put}
use Rattle.routes.proofs.put_hop.Goals as goal

pub returns : goal.returns
returns c =
    let a = c.args in
    let n : length a.costs.now ≡ most_faces = search rules in
    λ name.
    rw c.add-row.ensures
    (row_put most_faces a.face name a.row.now a.costs.now a.cost _ ((face_yes most_faces a.face).1 (omega arith, omega arith))
    (get_or-set_same a.costs.now (a.face - 1) a.cost 0 (omega arith))
    (λ i d. get_or-set_other a.costs.now (a.face - 1) i a.cost 0 d))
