-- Document 01, "Ageing", of entries: the requests that end, the entries that stay, and what an entry buries when it leaves.
-- Assumes nothing.
use Rattle.std.specs.Prelude.{ℕ, not, List, [], map}
use Rattle.laws.specs.Pick.{pick}
use Rattle.laws.specs.Lists.{on_at, without}
use Rattle.records.specs.Slots.{held, only, each}
use Rattle.records.specs.Entry.{Entry, is_idle, is_live, aged_entry}
use Rattle.records.specs.Line.{Line}
use Rattle.records.specs.Happening.{Happening, expired, happens}

-- the line of each out-record of an entry, by face, with the fingerprint of its name and nonce, and the time now
unfoldable pub buried_by : (List ℕ → ℕ → ℕ) → ℕ → Entry → List Line
buried_by print now e = map (λ h. record { print = print e.name h.what.nonce; time = now }) (held e.sent)

-- "the rest end as expired": the requests of an entry that do, by face
unfoldable pub expiries : ℕ → Entry → List Happening
expiries now e = map (happens expired now e) (only (λ h. not (is_live now h.what)) (held e.requests))

-- "An entry without requests leaves.": the entries that stay
unfoldable pub staying : List Entry → List Entry
staying es = only (λ e. not (is_idle e)) es

-- "An entry without requests leaves.": the entries when that at place i is now e
unfoldable pub becoming : ℕ → Entry → List Entry → List Entry
becoming i e es = pick (is_idle e) (without i es) (on_at i (λ _. e) es)

-- what an entry buries if it leaves
unfoldable pub leaving : (List ℕ → ℕ → ℕ) → ℕ → Entry → List Line
leaving print now e = pick (is_idle e) (buried_by print now e) []

-- the entries that stay, with the requests that live
unfoldable pub aged_pending : ℕ → List Entry → List Entry
aged_pending now es = staying (map (aged_entry now) es)

-- what the entries that leave bury, "oldest opening first", by a fingerprint
unfoldable pub aged_lines_by : (List ℕ → ℕ → ℕ) → ℕ → List Entry → List Line
aged_lines_by print now es = each (λ e. leaving print now (aged_entry now e)) es
