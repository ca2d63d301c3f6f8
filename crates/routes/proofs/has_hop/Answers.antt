-- A face is a hop where it is in the row's set; past the last route there is none.
use Rattle.std.proofs.Common.{rules, MatchOption, ◌≡◌, Bool, false}
use Rattle.sizes.specs.Sizes.{most_faces}
use Rattle.routes.proofs.Found.{answer_found}
use mathlib.Core.Option.{none}
use Rattle.faces.specs.Set.{has_face}
use Rattle.records.specs.Slots.{given, is_some, slot}
use Rattle.records.specs.Route.{hop_at}
use Rattle.routes.specs.declared.Row.{Row}
use Rattle.routes.specs.Laws.Hop.{row_has}
use Rattle.routes.proofs.has_hop.Goals as goal

pub returns : goal.returns
unfolding hop_at given is_some
returns c =
    let a = c.args in
    let g : Row → Bool = λ r. has_face most_faces r.hops a.face in
    let k : MatchOption c.row_of.result (c.is_some_and.result ≡ false) (λ r. c.is_some_and.result ≡ g r.now) = search rules in
    λ p q.
    answer_found (λ o. is_some (given none (λ r. slot a.face r.hops) o)) g _ _ c.row_of.result _ c.is_some_and.result
    (λ r. row_has most_faces a.face _ r _) (c.row_of.ensures p q) k
