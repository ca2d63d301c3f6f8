-- The arm that a number takes says which number it is.
use borrow.Author.Rules.{rules}
use borrow.Author.Tests.{ne_eqb}
use Rattle.std.proofs.Math.Path.{refl}
use Rattle.laws.specs.Pick.{pick}
use Rattle.tapes.specs.Places.Event.{kind_numbered}
use Rattle.tapes.proofs.KindTryFromU64.try_from.Goals as goal

pub returns-in-1 : goal.returns-in-1
unfolding kind_numbered pick
returns-in-1 c = rw c.in-1.is refl

pub returns-in-2 : goal.returns-in-2
unfolding kind_numbered pick
returns-in-2 c = rw c.in-2.is refl

pub returns-in-3 : goal.returns-in-3
unfolding kind_numbered pick
returns-in-3 c = rw c.in-3.is refl

pub returns-in-4 : goal.returns-in-4
unfolding kind_numbered pick
returns-in-4 c = rw c.in-4.is refl

pub returns-in-5 : goal.returns-in-5
unfolding kind_numbered pick
returns-in-5 c = rw c.in-5.is refl

pub returns-in-6 : goal.returns-in-6
unfolding kind_numbered pick
returns-in-6 c = rw c.in-6.is refl

pub returns-in-7 : goal.returns-in-7
unfolding kind_numbered pick
returns-in-7 c = rw c.in-7.is refl

pub returns-in-8 : goal.returns-in-8
unfolding kind_numbered pick
returns-in-8 c = rw c.in-8.is refl

pub returns-in_default : goal.returns-in_default
unfolding kind_numbered pick
returns-in_default c = search (rules, ne_eqb)
