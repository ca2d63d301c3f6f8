-- By the tests in order.
use borrow.Author.Rules.{rules}
use borrow.Author.Tests.{lt-ltb, le-ltb}
use Rattle.laws.specs.Pick.{pick}
use Rattle.event.specs.Places.Begins as begins
use Rattle.coming.specs.Goes.{guard_says}
use Rattle.coming.proofs.guard.Goals as goal
use Rattle.coming.proofs.guard.Goals.{then-packet-gt-PACKET-via-then-packet-gt-PACKET, then-packet-gt-PACKET-via-else-packet-gt-PACKET+then-name-gt-NAME}

ruleset tests = (lt-ltb, le-ltb)

pub returns-then-time-gt-MOST_TIME : goal.returns-then-time-gt-MOST_TIME
unfolding pick guard_says begins.allowed
returns-then-time-gt-MOST_TIME c = search (rules, tests)

pub returns-then-room-lt-LEAST_BUFFER : goal.returns-then-room-lt-LEAST_BUFFER
unfolding pick guard_says begins.allowed
returns-then-room-lt-LEAST_BUFFER c = search (rules, tests)

pub returns-then-packet-gt-PACKET : goal.returns-then-packet-gt-PACKET
unfolding pick guard_says begins.allowed
returns-then-packet-gt-PACKET c = elim c.then-packet-gt-PACKET.branch [
  | then-packet-gt-PACKET-via-then-packet-gt-PACKET w ↦ search (rules, tests)
  | then-packet-gt-PACKET-via-else-packet-gt-PACKET+then-name-gt-NAME w ↦ search (rules, tests)
]

pub returns : goal.returns
unfolding pick guard_says begins.allowed
returns c = search (rules, tests)
