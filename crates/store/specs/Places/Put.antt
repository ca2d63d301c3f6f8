-- Storing a Data and making one the most recent: what the steps on rows come to.
-- Assumes nothing.
use Rattle.std.specs.Prelude.{ℕ, Bool, List, ltb}
use Rattle.sizes.specs.Sizes.{most_stored}
use Rattle.laws.specs.Pick.{pick}
use Rattle.laws.specs.Lists.{index_of}
use Rattle.names.specs.Name.{same_bytes}
use Rattle.records.specs.Stored.{Stored}

-- whether a Data has a name
abbrev pub is_named : List ℕ → Stored → Bool
is_named name d = same_bytes name d.name

-- the place of the Data that gives way to a new one of a name: that of the equal name, else, where the store is full, the first; else
-- the number of Data
unfoldable pub leaver : List ℕ → List Stored → ℕ
leaver name ds = pick (ltb (index_of (is_named name) ds) most_stored) (index_of (is_named name) ds) 0
