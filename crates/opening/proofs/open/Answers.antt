-- The entry that is stored, noted and sent is the rules' new entry.
use Rattle.event.specs.declared.Memory.{Memory}
use Rattle.pending_table.specs.Laws.Same.{stands_parts}
use Rattle.opening.specs.Laws.Opened.{expiry_is, opens_goes}
use Rattle.opening.proofs.open.Goals as goal

pub returns : goal.returns
returns c f r s d =
    let a = c.requires in
    let m : Memory = record { time = c.args.time; faces = f; routes = r; pending = c.args.p.now; store = s; dead = d } in
    opens_goes m _ _ _ _ _ _ _ _ _ _ _ _ _ _ _ _ _ _ _ _ a.sized (expiry_is _ _ a.sized c.expiry_of-expiry.ensures) a.has_room
    (c.open-h.ensures c.args.p.now.recs) (c.renew.ensures _ _) (stands_parts _ _ _ _ _ _ _ _) (c.send.ensures _ _) c.note_fate-noted.ensures
    c.send_interest.ensures
