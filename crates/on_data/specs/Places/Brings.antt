-- A Data past ageing, and past the checks of size and scope, as the rules have it.
-- Assumes nothing.
use Rattle.std.specs.Prelude.{ℕ, ◌≤◌, ◌≡◌, List, length}
use Rattle.answers.specs.declared.Answer.{Answer}
use Rattle.laws.specs.Pick.{pick}
use Rattle.sizes.specs.Sizes.{most_packet, least_buffer}
use Rattle.packethead.specs.Name.{name_of}
use Rattle.packets.specs.Meaning.{Offer}
use Rattle.packets.specs.declared.bare.Data.{Data}
use Rattle.records.specs.Slots.{only, is_empty}
use Rattle.records.specs.Entry.{matches}
use Rattle.rules.specs.Node.{Node}
use Rattle.rules.specs.Outcome.{Outcome, quiet}
use Rattle.rules.specs.Data.{satisfies, data_step}
use Rattle.event.specs.Memory.{Output}
use Rattle.coming.specs.Goes.{guarded}
use Rattle.coming.specs.Places.Found.{offer_found}

-- what a Data on a face comes to, by the output and the node, past ageing
abbrev pub data_on : ℕ → List ℕ → Data → Output → Node → Outcome
data_on f bare d o n =
    guarded (length o.buffer) (length bare) (length (name_of bare)) n (data_step n.time n f (offer_found bare d) bare)

-- "Data matching no entry" is 12; else it is stored and ends the requests of the matched entries
unfoldable pub brings : ℕ → Offer → List ℕ → Node → Outcome
brings f d bytes n =
    pick (is_empty (only (matches d.name) n.pending)) (quiet Answer.Unsolicited n) (satisfies n.time n f d bytes)

-- a name that is the packet's, a packet not over its size, and a buffer as long as an event asks for
pub record Fits (name bare buffer : List ℕ) : Type 0 where
  pub name_is : name ≡ name_of bare
  pub packet : length bare ≤ most_packet
  pub room : least_buffer ≤ length buffer
