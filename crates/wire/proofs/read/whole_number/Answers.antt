-- A length is one of the four, or it is none of them.
use Rattle.std.proofs.Common.{refl, arith, rules}
use Rattle.wire.specs.Laws.Read.{whole_is, whole_not}
use Rattle.wire.specs.Number.{is_whole}
use Rattle.std.proofs.lemmas.Bool.Decides.{nat_tests}
use Rattle.wire.proofs.read.whole_number.Goals as goal

pub returns-in_default : goal.returns-in_default
returns-in_default c = whole_not _ (omega arith) (omega arith) (omega arith) (omega arith)

pub returns-in_default-2 : goal.returns-in_default-2
returns-in_default-2 c = whole_not _ (omega arith) (omega arith) (search rules) (grind arith)

pub returns-in-1 : goal.returns-in-1
unfolding is_whole
returns-in-1 c = whole_is _ _ refl (grind (arith, nat_tests)) _ c.big_of.ensures
