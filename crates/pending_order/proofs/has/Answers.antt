-- Of a row the shift gives the digit; a number that is no row is in no set.
use native.Mathlib.Omega.{arith}
use borrow.Author.Tests.{le-ltb}
use mathlib.Core.Path.{sym}
use lib.Pow.{pow_mono}
use Rattle.laws.specs.Digits.{member}
use Rattle.laws.specs.Laws.Digits.{digit_shift, digit_high, member_no}
use Rattle.pending_order.proofs.has.Goals as goal

pub returns-then-row-lt-ENTRIES : goal.returns-then-row-lt-ENTRIES
unfolding member
returns-then-row-lt-ENTRIES c = rw (← (digit_shift c.args.row c.args.set))

pub returns-else-row-lt-ENTRIES : goal.returns-else-row-lt-ENTRIES
returns-else-row-lt-ENTRIES c =
    let a = c.args in
    rw (le-ltb a.row 64 (omega arith))
    (sym ((member_no a.row a.set).1 (digit_high a.row a.set (omega (arith, pow_mono {i = 64} {j = a.row} (omega arith))))))
