-- Document 01, "Answer numbers": what a refusal leaves. The check that refuses says which packets are sent, what happens to requests, and
-- what the node holds afterwards. It goes by the check and not by its number: two checks of one number may stand on either side of ageing
-- (document 02, request 8).
-- Assumes nothing.
use Rattle.std.specs.Prelude.{ℕ, List, [], Bool, ltb}
use Rattle.std.proofs.Math.Option.{Option, none, some}
use Rattle.laws.specs.Pick.{pick}
use Rattle.packethead.specs.Header.{Came}
use Rattle.packets.specs.Meaning.{Heard, refused, asks, brings, nacks, came_means}
use Rattle.records.specs.Slots.{given, Held}
use Rattle.rules.specs.Node.{Node, What, Event}
use Rattle.rules.specs.Outcome.{Send, Outcome, quiet, nacks_to}
use Rattle.rules.specs.Ageing.{aged, ageing}
use Rattle.incoming.specs.Incoming.{came_in}
use Rattle.refusals.specs.Refusals.{Check, Clock, SmallBuffer, BadFace, FaceOpen, PacketSize, Malformed, Unsupported, NameSize, BadSetting, HopLimit, Scope, Loop, NoRoute, NoRoom, Unsolicited, StaleNack, TableFull, place, answer_of}

-- "Checks run in this order: 1, 2, 3, ageing": whether a check comes before ageing
unfoldable pub is_early : Check → Bool
is_early c = ltb (place c) (place FaceOpen)

-- the column "Sends": the reason of the Nack that a check sends to an Interest's face, LOOP, NO_ROUTE and NO_ROOM alone
unfoldable pub nack_reason : Check → Option ℕ
nack_reason Clock = none
nack_reason SmallBuffer = none
nack_reason BadFace = none
nack_reason FaceOpen = none
nack_reason PacketSize = none
nack_reason Malformed = none
nack_reason Unsupported = none
nack_reason NameSize = none
nack_reason BadSetting = none
nack_reason HopLimit = none
nack_reason Scope = none
nack_reason Loop = some 100
nack_reason NoRoute = some 150
nack_reason NoRoom = some 50
nack_reason Unsolicited = none
nack_reason StaleNack = none
nack_reason TableFull = none

-- "for an Interest": what a refusal sends of a packet that came in on face f, with a Nack's reason or none
unfoldable pub sends_for : Node → ℕ → Option ℕ → Heard → List Send
sends_for n f r (asks i bytes) = given [] (nacks_to n f i) r
sends_for n f r (refused a) = []
sends_for n f r (brings d bytes) = []
sends_for n f r (nacks reason i) = []

-- what a refusal by a check sends
unfoldable pub refusal_sends : Node → What → Check → List Send
refusal_sends n w c = given [] (λ (h : Held Came). sends_for n h.face (nack_reason c) (came_means h.what)) (came_in n w)

-- "Answers 1 to 3 change nothing. Every other answer first moves the last time and ages the tables; a refusal changes nothing more."
unfoldable pub refusal : Event → Node → Check → Outcome
refusal e n c =
    let m = aged e.time n in
    pick (is_early c) (quiet (answer_of c) n)
    (record { answer = answer_of c; node = m; sends = refusal_sends m e.what c; happenings = ageing e.time n })
