-- By what is asked before the tables, then by the loop, and then by the entry.
use mathlib.Core.Path.{refl}
use Rattle.std.proofs.lemmas.Option.{MatchOption-at_none, MatchOption-at_some}
use Rattle.event.specs.declared.Memory.{Memory}
use Rattle.coming.specs.Laws.Goes.{goes_is}
use Rattle.opening.specs.Laws.Refused.{refused_goes}
use Rattle.on_interest.specs.Laws.Checks.{checks_off, checks_hold, checks_on}
use Rattle.on_interest.specs.Laws.Sought.{sought_loop, sought_again, sought_anew}
use Rattle.routes.specs.Places.Parts.{known_routes}
use Rattle.on_interest.proofs.interest.Goals as goal

pub returns-in-Err : goal.returns-in-Err
returns-in-Err c =
    let a = c.args in
    let m : Memory =
    record { time = a.time; faces = a.faces; routes = known_routes a.known; pending = a.p.now; store = a.stored.now; dead = a.nonces.now } in
    goes_is _ _ _ _ _ _ _ c.quiet.ensures
    (checks_off m a.made _ a.face a.bare.now _ a.i c.find_name-name.ensures _ c.check.ensures _ _ c.in-Err.is)

pub returns-then-seen : goal.returns-then-seen
returns-then-seen c =
    let a = c.args in
    let m : Memory =
    record { time = a.time; faces = a.faces; routes = known_routes a.known; pending = a.p.now; store = a.stored.now; dead = a.nonces.now } in
    let own = c.find_name-name.ensures in
    let seen = c.see-seen.ensures in
    let said = c.refused.ensures in
    let sized = checks_hold m a.made _ a.face a.bare.now _ a.i own _ c.check.ensures _ c.in_default.is in
    checks_on m a.made _ a.face a.bare.now _ a.i own _ c.check.ensures _ c.in_default.is _ _ _ _
    (sought_loop m a.made a.face a.bare.now _ a.i _ own refl _ seen.looping _ _ _ _ c.if-seen.true
    (refused_goes m a.made _ _ a.face _ a.i _ _ _ _ _ _ sized.short sized.roomy said.answers said.packs))

pub ask_again-requires : goal.ask_again-requires
ask_again-requires c =
    let a = c.args in
    let m : Memory =
    record { time = a.time; faces = a.faces; routes = known_routes a.known; pending = a.p.now; store = a.stored.now; dead = a.nonces.now } in
    checks_hold m a.made _ a.face a.bare.now _ a.i c.find_name-name.ensures _ c.check.ensures _ c.in_default.is

pub returns-in-Some : goal.returns-in-Some
returns-in-Some c =
    let a = c.args in
    let m : Memory =
    record { time = a.time; faces = a.faces; routes = known_routes a.known; pending = a.p.now; store = a.stored.now; dead = a.nonces.now } in
    let own = c.find_name-name.ensures in
    let seen = c.see-seen.ensures in
    let met = MatchOption-at_some _ _ _ c.in-Some.is seen.met in
    checks_on m a.made _ a.face a.bare.now _ a.i own _ c.check.ensures _ c.in_default.is _ _ _ _
    (sought_again m a.made a.face a.bare.now _ a.i _ own met.1 _ seen.looping _ _ _ _ c.if-seen.false met.0
    (c.ask_again.ensures a.stored.now a.nonces.now))

pub ask_anew-requires : goal.ask_anew-requires
ask_anew-requires c =
    let a = c.args in
    let m : Memory =
    record { time = a.time; faces = a.faces; routes = known_routes a.known; pending = a.p.now; store = a.stored.now; dead = a.nonces.now } in
    checks_hold m a.made _ a.face a.bare.now _ a.i c.find_name-name.ensures _ c.check.ensures _ c.in_default.is

pub returns-in-None : goal.returns-in-None
returns-in-None c =
    let a = c.args in
    let m : Memory =
    record { time = a.time; faces = a.faces; routes = known_routes a.known; pending = a.p.now; store = a.stored.now; dead = a.nonces.now } in
    let own = c.find_name-name.ensures in
    let seen = c.see-seen.ensures in
    checks_on m a.made _ a.face a.bare.now _ a.i own _ c.check.ensures _ c.in_default.is _ _ _ _
    (sought_anew m a.made a.face a.bare.now _ a.i _ own refl _ seen.looping _ _ _ _ c.if-seen.false
    (MatchOption-at_none _ _ c.in-None.is seen.met) (c.ask_anew.ensures a.nonces.now))
