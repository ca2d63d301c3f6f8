-- What stays of a table's memory where nothing is done, and where one thing is done after another.
-- Assumes nothing.
use Rattle.std.proofs.Math.Path.{refl}
use Rattle.std.proofs.Common.{◌∙◌}
use Rattle.pending_table.specs.declared.Pending.{Pending}
use Rattle.pending_table.specs.Places.Stays.{NamesStay, RecordsStay, RowsStay}

-- names and numbers stay where nothing is done
pub names_stayed : (p : Pending) → NamesStay p p
names_stayed p = record { names = refl; numbers = refl }

-- so do the records
pub records_stayed : (p : Pending) → RecordsStay p p
records_stayed p = record { names = refl; numbers = refl; records = refl }

-- and all but which rows are used
pub rows_stayed : (p : Pending) → RowsStay p p
rows_stayed p = record { names = refl; numbers = refl; records = refl; heads = refl }

module _ {p q r : Pending} where
  -- what one leaves and the next leaves stays: names and numbers
  pub names_then : NamesStay p q → NamesStay q r → NamesStay p r
  names_then a b = record { names = b.names ∙ a.names; numbers = b.numbers ∙ a.numbers }

  -- with the records
  pub records_then : RecordsStay p q → RecordsStay q r → RecordsStay p r
  records_then a b =
      record { names = b.names ∙ a.names; numbers = b.numbers ∙ a.numbers; records = b.records ∙ a.records }

  -- all but which rows are used
  pub rows_then : RowsStay p q → RowsStay q r → RowsStay p r
  rows_then a b = record {
    names = b.names ∙ a.names;
    numbers = b.numbers ∙ a.numbers;
    records = b.records ∙ a.records;
    heads = b.heads ∙ a.heads;
  }

module _ {p q : Pending} where
  -- where all but which rows are used stays the records stay
  pub rows_records : RowsStay p q → RecordsStay p q
  rows_records a = record { names = a.names; numbers = a.numbers; records = a.records }

  -- and where the records stay names and numbers do
  pub records_names : RecordsStay p q → NamesStay p q
  records_names a = record { names = a.names; numbers = a.numbers }
