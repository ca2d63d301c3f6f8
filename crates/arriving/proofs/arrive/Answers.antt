-- By what the guard says, and then by what the reader found.
use mathlib.Core.Path.{refl, sym, ◌∙◌}
use Rattle.event.specs.declared.Memory.{Memory}
use Rattle.event.specs.Memory.{node_of}
use Rattle.event.specs.Laws.Allowed.{allowed_err, allowed_refuses, allowed_zero}
use Rattle.coming.specs.Laws.Goes.{goes_is}
use Rattle.arriving.specs.Laws.Arrives.{arrive_stops, arrive_refused, arrive_asks, arrive_brings, arrive_nacks}
use Rattle.routes.specs.Places.Parts.{known_routes}
use Rattle.arriving.proofs.arrive.Goals as goal

pub returns-in-Err : goal.returns-in-Err
unfolding node_of
returns-in-Err c =
    let a = c.args in
    let m : Memory =
    record { time = a.time; faces = a.faces; routes = known_routes a.known; pending = a.p.now; store = a.stored.now; dead = a.nonces.now } in
    let e = sym c.guard.ensures ∙ c.in-Err.is in
    goes_is _ _ _ _ _ _ _ c.quiet.ensures
    (arrive_stops (node_of m) _ _ _ _ _ _ _ (allowed_err _ _ e) _ _
    (rw (allowed_err _ _ e) (allowed_refuses _ _ e)) refl refl refl)

pub returns-in-Err-read_bare : goal.returns-in-Err-read_bare
unfolding node_of
returns-in-Err-read_bare c =
    let a = c.args in
    let m : Memory =
    record { time = a.time; faces = a.faces; routes = known_routes a.known; pending = a.p.now; store = a.stored.now; dead = a.nonces.now } in
    goes_is _ _ _ _ _ _ _ c.quiet-in-Err-read_bare.ensures
    (arrive_refused (node_of m) _ _ _ _ _ _ _ refl (allowed_zero _ _ (sym c.guard.ensures ∙ c.in_default.is)) _
    c.read_bare.ensures _ c.in-Err-read_bare.is _ _ refl refl refl)

pub returns-in-Ok-Interest : goal.returns-in-Ok-Interest
unfolding node_of
returns-in-Ok-Interest c =
    let a = c.args in
    let m : Memory =
    record { time = a.time; faces = a.faces; routes = known_routes a.known; pending = a.p.now; store = a.stored.now; dead = a.nonces.now } in
    arrive_asks (node_of m) _ _ _ _ _ _ _ refl (allowed_zero _ _ (sym c.guard.ensures ∙ c.in_default.is)) _
    c.read_bare.ensures _ _ _ _ _ (rw c.in-Ok-Interest.field-0-is at c.in-Ok-Interest.is) c.interest.ensures

pub returns-in-Ok-Data : goal.returns-in-Ok-Data
unfolding node_of
returns-in-Ok-Data c =
    let a = c.args in
    let m : Memory =
    record { time = a.time; faces = a.faces; routes = known_routes a.known; pending = a.p.now; store = a.stored.now; dead = a.nonces.now } in
    arrive_brings (node_of m) _ _ _ _ _ _ _ refl (allowed_zero _ _ (sym c.guard.ensures ∙ c.in_default.is)) _
    c.read_bare.ensures _ _ _ _ _ (rw c.in-Ok-Data.field-0-is at c.in-Ok-Data.is) (c.data.ensures (known_routes a.known))

pub returns-in-Ok-Nack : goal.returns-in-Ok-Nack
unfolding node_of
returns-in-Ok-Nack c =
    let a = c.args in
    let m : Memory =
    record { time = a.time; faces = a.faces; routes = known_routes a.known; pending = a.p.now; store = a.stored.now; dead = a.nonces.now } in
    arrive_nacks (node_of m) _ _ _ _ _ _ _ refl (allowed_zero _ _ (sym c.guard.ensures ∙ c.in_default.is)) _
    c.read_bare.ensures _ _ _ _ _ _ (rw c.in-Ok-Nack.field-0-is at c.in-Ok-Nack.is) (c.nack.ensures (known_routes a.known) a.stored.now)
