-- The next number is above all, and so is the number of rows once these are numbered anew.
use native.Mathlib.Omega.{arith}
use borrow.Author.Rules.{rules}
use mathlib.Core.Path.{◌≡◌}
use Rattle.std.proofs.Math.ListN.{length}
use Rattle.sizes.specs.Sizes.{most_entries}
use Rattle.pending_order.specs.Laws.Free.{fresh_next, fresh_renumbered}
use Rattle.pending_order.proofs.fresh_number.Goals as goal

pub returns-in-Some : goal.returns-in-Some
returns-in-Some c =
    let a = c.args in
    fresh_next most_entries a.numbers.now a.used _ c.in-Some.ensures

pub returns-in-None : goal.returns-in-None
returns-in-None c =
    let a = c.args in
    let n : length a.numbers.now ≡ most_entries = search rules in
    rw c.renumber.ensures (fresh_renumbered most_entries a.numbers.now a.used (omega arith))
