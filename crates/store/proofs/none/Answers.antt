-- A store that counts no Data has none.
use Rattle.std.proofs.Common.{◌∙◌}
use Rattle.store.specs.Places.View.{count_is, view_empty}
use Rattle.store.proofs.none.Goals as goal

pub returns : goal.returns
returns c = record {
  no_data = λ s e. view_empty s e;
  counted = λ s e. count_is s ∙ e;
}
