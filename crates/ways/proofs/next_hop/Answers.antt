-- By whether the entry was sent under 100 ms ago, and then by what is chosen.
use Rattle.faces.specs.Found.{face_in}
use Rattle.ways.specs.Laws.Next.{resends_none, resends_next}
use Rattle.rules.specs.Interest.{eligible}
use Rattle.ways.proofs.next_hop.Goals as goal

pub returns-then-is_suppressed : goal.returns-then-is_suppressed
unfolding face_in
returns-then-is_suppressed c = λ n a x u y v z. resends_none _ n a _ _ c.is_suppressed.ensures c.if-is_suppressed.true

pub returns : goal.returns
returns c =
    λ n a x u y v z.
    resends_next _ n a _ _ c.is_suppressed.ensures _ _ _ _ u v
    c.if-is_suppressed.false (c.is_from_local-local.ensures n x)
    (c.choose.ensures (eligible n a _) (c.eligible-may.ensures n a x y z v))
