-- The name of the bytes that the length cuts off the packet.
use Rattle.std.proofs.Common.{ap, ◌∙◌}
use Rattle.packethead.specs.Name.{name_of}
use Rattle.store.specs.Places.View.{stored_of, data_of}
use Rattle.store.proofs.Row.name.Goals as goal

pub returns : goal.returns
unfolding stored_of data_of
returns c = c.find_name.ensures ∙ ap name_of c.bytes.ensures.bytes
