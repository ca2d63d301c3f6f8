-- By the comparison with `localhost`, and then by the face's scope.
use borrow.Author.Rules.{rules}
use Rattle.coming.specs.Laws.Scope.{scope_elsewhere, scope_asked}
use Rattle.coming.proofs.is_out_of_scope.Goals as goal

pub returns-then-under_localhost : goal.returns-then-under_localhost
returns-then-under_localhost c n e = search (rules, scope_asked n)

pub returns-else-under_localhost : goal.returns-else-under_localhost
returns-else-under_localhost c n e = search (rules, scope_elsewhere n)
