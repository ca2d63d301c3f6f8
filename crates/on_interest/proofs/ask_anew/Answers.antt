-- By the store.
use Rattle.event.specs.declared.Memory.{Memory}
use Rattle.on_interest.specs.Laws.Anew.{anew_serves, anew_routes}
use Rattle.routes.specs.Places.Parts.{known_routes}
use Rattle.on_interest.proofs.ask_anew.Goals as goal

pub returns-in-Some : goal.returns-in-Some
returns-in-Some c d =
    let a = c.args in
    let m : Memory =
    record { time = a.time; faces = a.faces; routes = known_routes a.known; pending = a.p.now; store = a.stored.now; dead = d } in
    anew_serves m a.made a.face a.bare.now a.name.now a.i c.requires.own _ c.look.ensures _ _ _ _ _
    c.in-Some.is (c.serve.ensures a.time a.faces a.p.now d a.rows.now)

pub returns-in-None : goal.returns-in-None
returns-in-None c d =
    let a = c.args in
    let m : Memory =
    record { time = a.time; faces = a.faces; routes = known_routes a.known; pending = a.p.now; store = a.stored.now; dead = d } in
    anew_routes m a.made a.face a.bare.now a.name.now a.i c.requires.own _ c.look.ensures _ _ _ _
    c.in-None.is c.requires (c.route.ensures a.stored.now d)
