-- A ring that counts no lines has none.
use Rattle.std.proofs.Common.{◌∙◌}
use Rattle.dead.specs.Places.View.{count_is, view_empty}
use Rattle.dead.proofs.none.Goals as goal

pub returns : goal.returns
returns c = record {
  no_lines = λ d e. view_empty d e;
  none_counted = λ d e. count_is d ∙ e;
}
