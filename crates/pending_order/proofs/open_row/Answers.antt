-- The lowest free row is given a number above all others.
use native.Mathlib.Omega.{arith}
use borrow.Author.Rules.{rules}
use mathlib.Core.Path.{◌≡◌}
use Rattle.std.proofs.Math.ListN.{length}
use Rattle.laws.specs.Laws.Digits.{or_added}
use Rattle.sizes.specs.Sizes.{most_entries}
use Rattle.pending_order.specs.Laws.Free.{opens_free}
use Rattle.pending_order.proofs.open_row.Goals as goal

pub returns-then-row-lt-ENTRIES : goal.returns-then-row-lt-ENTRIES
returns-then-row-lt-ENTRIES c =
    let a = c.args in
    let n : length c.fresh_number.new.numbers ≡ most_entries = search rules in
    opens_free most_entries a.numbers.now _ a.used _ _ _ c.free-row.ensures (omega arith) (omega arith)
    c.fresh_number.ensures
    (or_added 64 c.free-row.result a.used (omega arith))
