-- By what is asked again, then by the hop, and then by the room.
use Rattle.pending_table.specs.Places.View.{view}
use Rattle.event.specs.declared.Memory.{Memory}
use Rattle.coming.specs.Laws.Goes.{goes_is}
use Rattle.opening.specs.Laws.Checks.{sized_passed, guard_passes, guard_refuses}
use Rattle.opening.specs.Laws.Refused.{refused_goes}
use Rattle.opening.specs.Laws.Routed.{routes_none, routes_room, routes_full, row_free}
use Rattle.routes.specs.Places.Parts.{known_routes}
use Rattle.opening.proofs.route.Goals as goal

pub returns-in-Err : goal.returns-in-Err
returns-in-Err c s d =
    let a = c.args in
    let m : Memory = record { time = a.time; faces = a.faces; routes = known_routes a.known; pending = a.p.now; store = s; dead = d } in
    goes_is _ _ _ _ _ _ _ c.quiet.ensures (guard_refuses m _ _ _ _ _ _ c.guard.ensures _ _ c.in-Err.is)

pub returns-in_default-way : goal.returns-in_default-way
returns-in_default-way c s d =
    let a = c.args in
    let m : Memory = record { time = a.time; faces = a.faces; routes = known_routes a.known; pending = a.p.now; store = s; dead = d } in
    let sized = sized_passed _ _ _ _ _ _ c.guard.ensures c.in_default.is in
    let said = c.refused.ensures in
    guard_passes m _ _ _ a.made _ _ c.guard.ensures _ _ _ _ _ c.in_default.is
    (routes_none m a.face a.bare.now a.name.now a.i _ _ _ c.is_local-local.ensures
    c.eligible-may.ensures c.way.ensures a.made _ _ _ _ c.in_default-way.is
    (refused_goes m a.made _ _ a.face a.name.now a.i _ _ _ _ _ _ sized.short sized.roomy said.answers said.packs))

pub open-requires : goal.open-requires
open-requires c =
    let p = c.args.p.now in
    record {
      sized = sized_passed _ _ _ _ _ _ c.guard.ensures c.in_default.is;
      has_room = row_free (view p) c.in-Some.class _ (c.has_room.ensures p.names p.recs p.numbers) c.if-has_room.true;
    }

pub returns-then-has_room : goal.returns-then-has_room
returns-then-has_room c s d =
    let a = c.args in
    let p = a.p.now in
    let m : Memory = record { time = a.time; faces = a.faces; routes = known_routes a.known; pending = a.p.now; store = s; dead = d } in
    guard_passes m _ _ _ a.made _ _ c.guard.ensures _ _ _ _ _ c.in_default.is
    (routes_room m a.face a.bare.now a.name.now a.i _ _ _ c.is_local-local.ensures
    c.eligible-may.ensures c.way.ensures a.made _ _ _ _ _ _ c.in-Some.is _ (c.has_room.ensures p.names p.recs p.numbers) c.if-has_room.true
    (c.open.ensures a.faces (known_routes a.known) s d))

pub returns-else-has_room : goal.returns-else-has_room
returns-else-has_room c s d =
    let a = c.args in
    let p = a.p.now in
    let m : Memory = record { time = a.time; faces = a.faces; routes = known_routes a.known; pending = a.p.now; store = s; dead = d } in
    let sized = sized_passed _ _ _ _ _ _ c.guard.ensures c.in_default.is in
    let said = c.refused-else-has_room.ensures in
    guard_passes m _ _ _ a.made _ _ c.guard.ensures _ _ _ _ _ c.in_default.is
    (routes_full m a.face a.bare.now a.name.now a.i _ _ _ c.is_local-local.ensures
    c.eligible-may.ensures c.way.ensures a.made _ _ _ _ _ _ c.in-Some.is _ (c.has_room.ensures p.names p.recs p.numbers) c.if-has_room.false
    (refused_goes m a.made _ _ a.face a.name.now a.i _ _ _ _ _ _ sized.short sized.roomy said.answers said.packs))
