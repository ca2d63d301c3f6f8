-- Document 01, "Faces and routes", of one entry: what closing a face makes of it, what joins the dead nonce list, and what ends.
-- Assumes nothing.
use Rattle.std.specs.Prelude.{ℕ, List, [], ◌∷◌, ◌++◌}
use Rattle.records.specs.Slots.{slot, given}
use Rattle.records.specs.Entry.{Request, Entry, not_asking, not_sent}
use Rattle.records.specs.Line.{Line}
use Rattle.records.specs.Happening.{closed, Happening, happens}
use Rattle.records.specs.Ageing.{leaving}

-- the entry without a face's request and out-record
abbrev pub without_face : ℕ → Entry → Entry
without_face f e = not_asking f (not_sent f e)

-- "the face's out-record goes, its fingerprint joining the dead list": its line, if there is one, by a fingerprint
unfoldable pub own_line_by : (List ℕ → ℕ → ℕ) → ℕ → ℕ → Entry → List Line
own_line_by print now f e = given [] (λ s. record { print = print e.name s.nonce; time = now } ∷ []) (slot f e.sent)

-- the lines that closing a face makes of an entry: its own first, then those of an entry that leaves
unfoldable pub closing_lines_by : (List ℕ → ℕ → ℕ) → ℕ → ℕ → Entry → List Line
closing_lines_by print now f e = own_line_by print now f e ++ leaving print now (without_face f e)

-- "its request ends"
unfoldable pub closing_ends : ℕ → ℕ → Entry → List Happening
closing_ends now f e = given [] (λ (r : Request). happens closed now e (record { face = f; what = r }) ∷ []) (slot f e.requests)
