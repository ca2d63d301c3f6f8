-- Each return is what the tests say. A line later than the time has age 0, which is under 6,000.
use borrow.Author.Rules.{rules}
use native.Mathlib.Omega.{arith}
use borrow.Author.Tests.{lt-ltb, le-ltb, le-leb, lt-leb, eq-eqb, ne_eqb}
use mathlib.Core.Path.{◌≡◌}
use Prim.Native.Nat.{ℕ, ◌-◌, ◌<◌}
use Rattle.records.specs.Line.{counts}
use lib.Dec.{ltb}
use mathlib.Core.Bool.{true}
use Rattle.dead.proofs.Row.is_live.Goals as goal

ruleset tests = (lt-ltb, le-ltb, le-leb, lt-leb, eq-eqb, ne_eqb)

-- a line later than the time counts
young : (now t : ℕ) → now < t → ltb (now - t) 6000 ≡ true
young now t h = lt-ltb (now - t) 6000 (omega arith)

pub returns-then-time-self : goal.returns-then-time-self
unfolding counts
returns-then-time-self c = search (rules, tests, young)

pub returns-else-time-self : goal.returns-else-time-self
unfolding counts
returns-else-time-self c = search (rules, tests)

pub returns-else-self-print : goal.returns-else-self-print
unfolding counts
returns-else-self-print c = search (rules, tests)
