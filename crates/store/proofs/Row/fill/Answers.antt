-- The packet has room for the bytes, so they are written whole.
use Rattle.std.proofs.Math.Seq.{take-append_seam}
use Rattle.store.specs.Places.View.{stored_of, data_of}
use Rattle.store.proofs.Row.fill.Goals as goal

pub returns : goal.returns
unfolding stored_of data_of
returns c = rw (c.copy_from_slice.ensures.after, take-append_seam)
