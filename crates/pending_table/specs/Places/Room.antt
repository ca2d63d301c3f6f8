-- Room in numbers: how many entries each class has, one more counted, and the places that they take.
-- Assumes nothing.
use Rattle.std.specs.Prelude.{ℕ, ◌+◌, max}
use Rattle.records.specs.Class.{Class, alarm, monitoring, bulk, no_class, reserve}
use Rattle.pending_table.specs.declared.Uses.{Uses}

-- the uses with an entry of a class more; a word that is no class counts as such, and as no class
unfoldable pub counting : Class → Uses → Uses
counting alarm u = record { alarm = u.alarm + 1; monitoring = u.monitoring; bulk = u.bulk; other = u.other }
counting monitoring u = record { alarm = u.alarm; monitoring = u.monitoring + 1; bulk = u.bulk; other = u.other }
counting bulk u = record { alarm = u.alarm; monitoring = u.monitoring; bulk = u.bulk + 1; other = u.other }
counting (no_class n) u = record { alarm = u.alarm; monitoring = u.monitoring; bulk = u.bulk; other = u.other + 1 }

-- the uses of two lists of entries
unfoldable pub both : Uses → Uses → Uses
both u v = record {
  alarm = u.alarm + v.alarm;
  monitoring = u.monitoring + v.monitoring;
  bulk = u.bulk + v.bulk;
  other = u.other + v.other;
}

-- how many entries were counted
abbrev pub all_of : Uses → ℕ
all_of u = u.alarm + u.monitoring + u.bulk + u.other

-- "the sum over the classes of the larger of reserve and use"; what is no class counts in full
unfoldable pub room_of : Uses → ℕ
room_of u = max (reserve alarm) u.alarm + max (reserve monitoring) u.monitoring + max (reserve bulk) u.bulk + u.other
