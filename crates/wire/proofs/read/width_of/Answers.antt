-- Each return is the test that leads there.
use borrow.Author.Rules.{rules}
use borrow.Author.Tests.{lt-ltb, le-ltb, le-leb, lt-leb, eq-eqb, ne_eqb}
use Rattle.laws.specs.Pick.{pick}
use Rattle.wire.specs.Number.{width_of}
use Rattle.wire.proofs.read.width_of.Goals as goal

ruleset tests = (lt-ltb, le-ltb, le-leb, lt-leb, eq-eqb, ne_eqb)

pub returns-in-0-to-252 : goal.returns-in-0-to-252
unfolding width_of pick
returns-in-0-to-252 c = search (rules, tests)

pub returns-in-253-to-65535 : goal.returns-in-253-to-65535
unfolding width_of pick
returns-in-253-to-65535 c = search (rules, tests)

pub returns-in-65536-to-4294967295 : goal.returns-in-65536-to-4294967295
unfolding width_of pick
returns-in-65536-to-4294967295 c = search (rules, tests)

pub returns-in_default : goal.returns-in_default
unfolding width_of pick
returns-in_default c = search (rules, tests)
