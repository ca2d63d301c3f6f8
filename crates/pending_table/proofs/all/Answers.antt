-- Each used row is chosen.
use mathlib.Core.Path.{sym}
use mathlib.Core.Bool.{true, and-true}
use Rattle.laws.specs.Digits.{member}
use Rattle.sizes.specs.Sizes.{most_faces}
use Rattle.pending_table.specs.Places.View.{marks_where}
use Rattle.pending_table.proofs.all.Goals as goal

pub returns : goal.returns
returns c =
    let u = c.args.used in
    λ n hs r k. marks_where most_faces n hs r k (record { used = u }) _ (λ _. true) (λ t _. sym (and-true (member t u)))
