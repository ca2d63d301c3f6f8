-- What an operation leaves as it was of a store's memory: its packets and its rows, however many of them count.
-- Assumes nothing.
use Rattle.std.specs.Prelude.{◌≡◌}
use Rattle.store.specs.declared.Store.{Store}

-- the packets and the rows stay
pub record RowsStay (s t : Store) : Type 0 where
  pub packets : t.packets ≡ s.packets
  pub rows : t.rows ≡ s.rows
