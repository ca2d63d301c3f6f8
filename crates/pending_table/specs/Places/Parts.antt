-- The table that its parts make, where a function is lent them apart.
-- Assumes nothing.
use Rattle.std.specs.Prelude.{ℕ, List}
use Rattle.pending_table.specs.declared.Pending.{Pending}
use Rattle.pending_table.specs.declared.Shown.{Shown}

-- the table of these names, heads, records, numbers and used rows
abbrev pub table : List (List ℕ) → List (List ℕ) → List (List (List ℕ)) → List ℕ → ℕ → Pending
table n h r k u = record { names = n; heads = h; recs = r; numbers = k; used = u }

-- a table that is lent to be read
abbrev pub seen : Shown → Pending
seen t = table t.names.now t.heads.now t.recs.now t.numbers.now t.used
