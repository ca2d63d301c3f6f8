-- The entries that ageing concerns.
-- Assumes nothing.
use Rattle.std.specs.Prelude.{ℕ, Bool, ◌||◌, not}
use Rattle.records.specs.Slots.{held, any_of}
use Rattle.records.specs.Entry.{Entry, is_idle, is_live}

-- whether an entry has no requests, or one that is over
unfoldable pub is_due : ℕ → Entry → Bool
is_due now e = is_idle e || any_of (λ h. not (is_live now h.what)) (held e.requests)
