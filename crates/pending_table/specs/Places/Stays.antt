-- What of a table's memory a function leaves as it was, byte for byte, from the table before it to the table after.
-- Assumes nothing.
use Rattle.std.specs.Prelude.{◌≡◌}
use Rattle.pending_table.specs.declared.Pending.{Pending}

-- the names and the numbers of opening stay
pub record NamesStay (p q : Pending) : Type 0 where
  pub names : q.names ≡ p.names
  pub numbers : q.numbers ≡ p.numbers

-- with them the records stay
pub record RecordsStay (p q : Pending) : Type 0 where
  pub names : q.names ≡ p.names
  pub numbers : q.numbers ≡ p.numbers
  pub records : q.recs ≡ p.recs

-- all but which rows are used stays
pub record RowsStay (p q : Pending) : Type 0 where
  pub names : q.names ≡ p.names
  pub numbers : q.numbers ≡ p.numbers
  pub records : q.recs ≡ p.recs
  pub heads : q.heads ≡ p.heads
