-- By the tests in order.
use borrow.Author.Rules.{rules}
use borrow.Author.Tests.{lt-ltb, le-ltb}
use Rattle.laws.specs.Pick.{pick}
use Rattle.event.specs.Places.Begins as begins
use Rattle.event.proofs.check.Goals as goal
use Rattle.event.proofs.check.Goals.{then-time-last-via-then-time-last, then-time-last-via-else-time-last+then-time-gt-MOST_TIME}

ruleset tests = (lt-ltb, le-ltb)

pub returns-then-time-last : goal.returns-then-time-last
unfolding pick begins.refusal begins.allowed
returns-then-time-last c = elim c.then-time-last.branch [
  | then-time-last-via-then-time-last w ↦ search (rules, tests)
  | then-time-last-via-else-time-last+then-time-gt-MOST_TIME w ↦ search (rules, tests)
]

pub returns-then-room-lt-LEAST_BUFFER : goal.returns-then-room-lt-LEAST_BUFFER
unfolding pick begins.refusal begins.allowed
returns-then-room-lt-LEAST_BUFFER c = search (rules, tests)

pub returns-then-bad : goal.returns-then-bad
unfolding pick begins.refusal begins.allowed
returns-then-bad c = rw c.if-bad.true (search (rules, tests))

pub returns : goal.returns
unfolding pick begins.refusal begins.allowed
returns c = rw c.if-bad.false (search (rules, tests))
