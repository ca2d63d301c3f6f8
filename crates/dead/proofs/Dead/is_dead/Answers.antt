-- The chain asks the lines at their places, the oldest first.
use Rattle.std.proofs.Common.{rules, arith, ◌∙◌, ◌%◌, refl}
use Rattle.std.proofs.lemmas.Iterator.{YieldsList-from_range}
use Rattle.std.proofs.lemmas.Iterator.Search.{any_from_yields_List}
use borrow.Author.Tests.{tests}
use Rattle.sizes.specs.Sizes.{most_dead}
use Rattle.records.specs.Line.{counts}
use Rattle.dead.specs.Places.View.{line_at, view_any}
use Rattle.dead.proofs.Dead.is_dead.Goals as goal

pub returns : goal.returns
unfolding line_at
returns c =
    let a = c.args in
    let s = a.self.now in
    any_from_yields_List (λ k. counts a.time a.print (line_at s.lines (s.at % most_dead) k)) _ _ c.any.result c.any.ensures.ran
    (YieldsList-from_range 0 c.min.result c.min.result refl (omega arith))
    (λ x b q k. search (rules, tests))
    ∙ rw c.min.ensures (view_any a.time a.print s)
