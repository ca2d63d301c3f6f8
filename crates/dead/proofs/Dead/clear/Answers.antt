-- A ring that counts no lines has none.
use Rattle.std.specs.Prelude.{refl}
use Rattle.dead.specs.Places.View.{count_is, view_empty}
use Rattle.dead.proofs.Dead.clear.Goals as goal

pub returns-clause-no_lines : goal.returns-clause-no_lines
returns-clause-no_lines c = view_empty _ refl

pub returns-clause-none_counted : goal.returns-clause-none_counted
returns-clause-none_counted c = count_is _

pub returns-clause-lines : goal.returns-clause-lines
returns-clause-lines c = record { lines = refl }
