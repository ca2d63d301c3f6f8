-- By the tests in order.
use borrow.Author.Rules.{rules}
use Rattle.on_route.specs.Laws.Prefix.{says_malformed, says_unsupported, says_long, says_many, says_done}
use Rattle.on_route.proofs.check.Goals as goal
use Rattle.on_route.proofs.check.Goals.{then-prefix-gt-NAME-via-then-prefix-gt-NAME}
use Rattle.on_route.proofs.check.Goals.{then-prefix-gt-NAME-via-else-prefix-gt-NAME+then-c-gt-COMPONENTS}

pub returns-then-is_malformed : goal.returns-then-is_malformed
returns-then-is_malformed c = search (rules, says_malformed)

pub returns-then-is_unsupported : goal.returns-then-is_unsupported
returns-then-is_unsupported c = search (rules, says_unsupported)

pub returns-then-prefix-gt-NAME : goal.returns-then-prefix-gt-NAME
returns-then-prefix-gt-NAME c = elim c.then-prefix-gt-NAME.branch [
  | then-prefix-gt-NAME-via-then-prefix-gt-NAME w ↦ search (rules, says_long)
  | then-prefix-gt-NAME-via-else-prefix-gt-NAME+then-c-gt-COMPONENTS w ↦ search (rules, says_many)
]

pub returns : goal.returns
returns c = search (rules, says_done)
