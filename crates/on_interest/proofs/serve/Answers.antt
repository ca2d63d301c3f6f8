-- The Data that is packed is that of the hit.
use Rattle.event.specs.declared.Memory.{Memory}
use Rattle.on_interest.specs.Laws.Served.{served_goes}
use Rattle.routes.specs.Places.Parts.{known_routes}
use Rattle.on_interest.proofs.serve.Goals as goal

pub returns : goal.returns
returns c t f p d rows a h ef ej e =
    let m : Memory = record { time = t; faces = f; routes = known_routes c.args.known; pending = p; store = c.args.stored.now; dead = d } in
    served_goes m _ _ a h _ _ _ _ _ _ _ _ _ _ _ ef ej e c.bytes_of-bytes.ensures.fits c.requires
    c.bytes_of-bytes.ensures.bytes c.find_name.ensures c.class_for-class.ensures c.send_data-sent.ensures c.touch.ensures.touched
