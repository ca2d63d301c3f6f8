-- The first bytes of a packet, which are no more than it has.
use Rattle.std.proofs.Common.{rules, arith, ◌≡◌, length, length-take}
use Rattle.sizes.specs.Sizes.{most_packet}
use Rattle.store.specs.Places.View.{stored_of, data_of}
use Rattle.store.proofs.Row.bytes.Goals as goal

pub returns-clause-bytes : goal.returns-clause-bytes
unfolding stored_of data_of
returns-clause-bytes c = c.part.ensures

pub returns-clause-fits : goal.returns-clause-fits
returns-clause-fits c =
    let n : length c.args.packet.now ≡ most_packet = search rules in
    rw c.part.ensures (omega (arith, length-take c.args.self.now.len c.args.packet.now))
