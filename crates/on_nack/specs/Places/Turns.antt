-- What a Nack on a face comes to.
-- Assumes nothing.
use Rattle.std.specs.Prelude.{ℕ, List, length}
use Rattle.packethead.specs.Name.{name_of}
use Rattle.packets.specs.declared.bare.Interest.{Interest}
use Rattle.records.specs.Entry.{Entry}
use Rattle.records.specs.Line.{Line}
use Rattle.rules.specs.Node.{Node}
use Rattle.rules.specs.Outcome.{Outcome}
use Rattle.rules.specs.Nack.{nack_step}
use Rattle.event.specs.Memory.{Output}
use Rattle.coming.specs.Goes.{guarded}
use Rattle.coming.specs.Places.Found.{ask_found}

-- what a Nack on a face comes to, by its reason, its Interest, the output and the node, past ageing
abbrev pub nack_on : ℕ → ℕ → List ℕ → Interest → Output → Node → Outcome
nack_on f reason bare i o n =
    guarded (length o.buffer) (length bare) (length (name_of bare)) n (nack_step n.time n f reason (ask_found bare i))

-- a node whose pending entries and dead nonce list are others
abbrev pub left_with : Node → List Entry → List Line → Node
left_with n es ls = record { time = n.time; faces = n.faces; routes = n.routes; pending = es; store = n.store; dead = ls }
