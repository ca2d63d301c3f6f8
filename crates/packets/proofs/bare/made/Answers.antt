-- The Interest that is made of the places is that of the fields, and each place fits a word.
use Rattle.std.proofs.Common.{sym}
use Rattle.packets.specs.Laws.Bare.{name_fits, found_hop_fits, interest_found}
use Rattle.packets.proofs.bare.made.Goals as goal

pub shifted-requires : goal.shifted-requires
shifted-requires c = name_fits c.requires

pub hop_of-requires : goal.hop_of-requires
hop_of-requires c = found_hop_fits c.requires 7

pub returns : goal.returns
returns c =
    rw (c.shifted.ensures, c.is_some.ensures, c.is_some-2.ensures, c.whole_of.ensures, c.bytes_at.ensures, c.lifetime_of.ensures, c.hop_of.ensures)
    (sym (interest_found c.requires))
