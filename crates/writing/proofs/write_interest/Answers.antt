-- The bytes are stored as they came if they fit, and then one of them is replaced.
use native.Mathlib.Omega.{arith}
use Rattle.writing.specs.Laws.Stored.{put_next, put_full, next_put, full_put, stored_set, stored_length}
use Rattle.writing.specs.Laws.Written.{length_lowered}
use Rattle.packets.specs.Places.View.{lowered}
use Rattle.writing.proofs.write_interest.Goals as goal

pub returns-in_err-end : goal.returns-in_err-end
returns-in_err-end c =
    let put = put_full _ _ _ _ c.put_bytes.ensures c.in_err-end.was in
    rw c.from_residual.ensures (full_put _ _ _ _ (rw length_lowered put.0) put.1)

pub lower-requires : goal.lower-requires
lower-requires c =
    let put = put_next _ _ _ _ c.put_bytes.ensures c.in_ok-end.was in
    omega (arith, put.0.fits, stored_length put.1)

pub returns-in-Some : goal.returns-in-Some
unfolding lowered
returns-in-Some c =
    let put = put_next _ _ _ _ c.put_bytes.ensures c.in_ok-end.was in
    let stored = stored_set _ _ _ _ _ _ _ _ put.1 c.lower.ensures in
    next_put _ _ _ _ (record { fits = rw length_lowered put.0.fits }) (rw c.in-Some.is stored)

pub returns-in_default : goal.returns-in_default
unfolding lowered
returns-in_default c = rw c.in_default.is c.in_ok-end.ensures
