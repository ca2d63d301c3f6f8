-- Where the whole Nack fits it is stored, and else nothing is.
use native.Mathlib.Omega.{arith}
use Rattle.writing.specs.Places.Stored.{Room}
use Rattle.writing.specs.Written.{nack_bytes}
use Rattle.writing.specs.Laws.Stored.{room_fits, room_short, next_put}
use Rattle.writing.specs.Laws.Written.{nack_most}
use Rattle.writing.specs.Laws.Size.{nack_is}
use Rattle.writing.proofs.write_nack.Goals as goal
use Rattle.writing.proofs.write_nack.Goals.{Else-not-fits}

pub element_len-len-requires : goal.element_len-len-requires
element_len-len-requires c =
    let r = c.args.request in
    omega (arith, c.nack_len.ensures, nack_most r.name.now r.prefix r.fresh r.nonce c.args.reason)

pub returns-then-not-fits : goal.returns-then-not-fits
returns-then-not-fits c =
    rw nack_is (room_short _ _ _ (c.element_len-len.ensures _ c.nack_len.ensures) c.fits.ensures c.if-not-fits.true)

-- there is room for it
room : (c : Else-not-fits)
    → let r = c.args.request in Room c.args.buf.now c.args.at (nack_bytes c.args.reason r.name.now r.prefix r.fresh r.nonce)
room c = rw nack_is (room_fits _ _ _ (c.element_len-len.ensures _ c.nack_len.ensures) c.fits.ensures c.if-not-fits.false)

pub store_nack-requires : goal.store_nack-requires
store_nack-requires c = room (goal.at.store_nack-requires c).Else-not-fits

pub returns : goal.returns
returns c = next_put _ _ _ _ (room (goal.at.returns c).Else-not-fits) c.store_nack.ensures
