-- The request is stored and noted, and sent on where there is a hop.
use Rattle.std.proofs.Math.Path.{refl}
use Rattle.event.specs.declared.Memory.{Memory}
use Rattle.coming.specs.Laws.Goes.{goes_is}
use Rattle.faces.specs.Found.{face_in}
use Rattle.ways.specs.Laws.Own.{next_hop_own}
use Rattle.on_interest.specs.Laws.Again.{facts_class, again_quiet, again_sends}
use Rattle.routes.specs.Places.Parts.{known_routes}
use Rattle.on_interest.proofs.ask_again.Goals as goal

pub returns-in_default : goal.returns-in_default
unfolding face_in
returns-in_default c s d e at =
    let a = c.args in
    let m : Memory = record { time = a.time; faces = a.faces; routes = known_routes a.known; pending = a.p.now; store = s; dead = d } in
    let class_is = facts_class _ e _ at (c.facts_of-class.ensures _ _ _) in
    let next = next_hop_own _ _ _ _ _ _ _ _ c.in_default.ensures in
    goes_is _ _ _ _ _ _ _ c.quiet.ensures
    (again_quiet m a.made a.face a.bare.now a.name.now a.i _ _ e _ _ _ _ _ _ _ c.requires at
    c.expiry_of-expiry.ensures (c.renew.ensures _ _) refl next
    (c.note_opening-noted.ensures _ e at class_is) _ refl)

pub returns : goal.returns
unfolding face_in
returns c s d e at =
    let a = c.args in
    let m : Memory = record { time = a.time; faces = a.faces; routes = known_routes a.known; pending = a.p.now; store = s; dead = d } in
    let class_is = facts_class _ e _ at (c.facts_of-class.ensures _ _ _) in
    let next = next_hop_own _ _ _ _ _ _ _ _ c.in-Some.ensures in
    again_sends m a.made a.face a.bare.now a.name.now a.i _ _ e _ _ _ _ _ _ _ c.requires at
    c.expiry_of-expiry.ensures (c.renew.ensures _ _) refl next
    (c.note_opening-noted.ensures _ e at class_is) _ _ _ _ _ _ _ refl
    class_is (c.send.ensures _ _) c.send_interest.ensures
