-- The hops are the faces of the row's set; past the last route there are none.
use Rattle.std.proofs.Common.{rules, ℕ, MatchOption, ◌≡◌}
use Rattle.sizes.specs.Sizes.{most_faces}
use Rattle.routes.proofs.Found.{answer_found}
use mathlib.Core.Path.{sym}
use Rattle.faces.specs.Set.{has_face, faces_where}
use Rattle.records.specs.Slots.{given}
use Rattle.routes.specs.Operations.{hops_of}
use Rattle.routes.specs.declared.Row.{Row}
use Rattle.routes.specs.Laws.Hop.{row_hops}
use Rattle.routes.proofs.Known.hops_of.Goals as goal

pub returns : goal.returns
unfolding given
returns c =
    let g : Row → ℕ = λ r. faces_where most_faces (has_face most_faces r.hops) in
    let k : MatchOption c.row_of.result (c.map_or.result ≡ 0) (λ r. c.map_or.result ≡ g r.now) = search rules in
    answer_found (given 0 (hops_of most_faces)) g _ _ c.row_of.result _ c.map_or.result (λ r. sym (row_hops most_faces _ r _))
    (c.row_of.ensures _ _) k
