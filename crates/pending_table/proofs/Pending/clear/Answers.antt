-- No row is used, and nothing else is written.
use mathlib.Core.Path.{refl}
use Rattle.sizes.specs.Sizes.{most_faces}
use Rattle.pending_table.specs.Places.View.{view_empty}
use Rattle.pending_table.proofs.Pending.clear.Goals as goal

pub returns : goal.returns
returns c = record {
  empty = view_empty most_faces _ _ _ _;
  rows = record { names = refl; numbers = refl; records = refl; heads = refl };
}
