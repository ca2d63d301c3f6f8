-- The empty set has no digit.
use Rattle.faces.specs.Places.View.{view_none}
use Rattle.laws.specs.Laws.Digits.{member_no, digit_zero}
use Rattle.faces.proofs.Faces.none.Goals as goal

pub returns : goal.returns
returns c = view_none _ _ (λ i _. (member_no i 0).1 (digit_zero i))
