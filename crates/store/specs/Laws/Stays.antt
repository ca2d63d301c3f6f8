-- What stays of the packets and the rows where nothing is done, and where one thing is done after another.
-- Assumes nothing.
use Rattle.std.proofs.Math.Path.{refl}
use Rattle.std.proofs.Common.{◌∙◌}
use Rattle.store.specs.declared.Store.{Store}
use Rattle.store.specs.Places.Stays.{RowsStay}

-- the packets and the rows of a store stay where nothing is done
pub rows_stayed : (s : Store) → RowsStay s s
rows_stayed s = record { packets = refl; rows = refl }

-- they stay where two things are done that each leave them
pub rows_then : (s t u : Store) → RowsStay s t → RowsStay t u → RowsStay s u
rows_then s t u a b = record { packets = b.packets ∙ a.packets; rows = b.rows ∙ a.rows }
