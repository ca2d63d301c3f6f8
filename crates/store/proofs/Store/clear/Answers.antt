-- None counted is none.
use Rattle.std.specs.Prelude.{refl}
use Rattle.store.specs.Places.View.{view_empty, count_empty}
use Rattle.store.proofs.Store.clear.Goals as goal

pub returns-clause-no_data : goal.returns-clause-no_data
returns-clause-no_data c = view_empty _ refl

pub returns-clause-counted : goal.returns-clause-counted
returns-clause-counted c = count_empty _ refl

pub returns-clause-rows : goal.returns-clause-rows
returns-clause-rows c = record { packets = refl; rows = refl }
