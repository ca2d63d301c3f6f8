-- What happened to a request, as an event notes it: a row of numbers.
-- Assumes nothing.
use Rattle.std.specs.Prelude.{ℕ, List, [], ◌∷◌}
use Rattle.records.specs.Class.{class_number}
use Rattle.records.specs.Happening.{Fate, opened, answered, nacked, expired, closed, self_met, Happening}

-- the number of a fate, by the order of the total's line: "opened, answered, Nacked, expired, closed, self-met"
unfoldable pub fate_number : Fate → ℕ
fate_number opened = 1
fate_number answered = 2
fate_number nacked = 3
fate_number expired = 4
fate_number closed = 5
fate_number self_met = 6

-- a happening as the event notes it: face, class, fate, nonce and expiry
unfoldable pub row_of : Happening → List ℕ
row_of h = h.face ∷ class_number h.cls ∷ fate_number h.fate ∷ h.nonce ∷ h.expiry ∷ []
