-- What the walks over an entry's records have so far, and what is left, as the code has it.
-- Assumes nothing.
use Rattle.std.specs.declared.option.Option as code
use Rattle.std.specs.Prelude.{ℕ, ◌-◌, max, Bool, not, List, [], map, get_or, ltb, None, Some}
use Rattle.std.proofs.Math.Option.{Option, none, some}
use Rattle.laws.specs.Lists.{any_of}
use Rattle.laws.specs.Pick.{pick}
use Rattle.records.specs.Slots.{Held, held}
use Rattle.records.specs.Entry.{Request, Sent, was_nacked, lesser_reason, smallest_reason}
use Rattle.records.specs.Line.{Line}
use Rattle.faces.specs.Slots.{slots_of}
use Rattle.happenings.specs.Noted.{note_of}
use Rattle.pending_entry.specs.Places.View.{request_at, sent_at}

-- a word of the records of a face
abbrev pub word : List (List ℕ) → ℕ → ℕ → ℕ
word recs f k = get_or (get_or recs (f - 1) []) k 0

-- a column of the records, by a face's digit
unfoldable pub column_at : List (List ℕ) → ℕ → ℕ → ℕ
column_at recs k i = get_or (get_or recs i []) k 0

-- the out-records of the faces of a set, by face
abbrev pub sent_in : ℕ → ℕ → List (List ℕ) → List (Held Sent)
sent_in n s recs = held (slots_of n s (sent_at recs))

-- whether the request of a face is over
unfoldable pub is_over : ℕ → List (List ℕ) → ℕ → Bool
is_over now recs f = not (ltb now (word recs f 1))

-- the time that an answer tells
unfoldable pub newest_in : code.Option ℕ → Option ℕ
newest_in None = none
newest_in (Some t) = some t

-- the newest of a time and of those after it
unfoldable pub newer : ℕ → Option ℕ → Option ℕ
newer t none = some t
newer t (some u) = some (max t u)

-- the newest of a time that may be none and of those after it
unfoldable pub newer_of : Option ℕ → Option ℕ → Option ℕ
newer_of none o = o
newer_of (some t) o = newer t o

-- the time of an out-record that is held
abbrev pub time_of : Held Sent → ℕ
time_of h = h.what.time

-- the smallest of a reason and of those held, where all are Nacked
unfoldable pub nacks_from : ℕ → List (Held Sent) → Option ℕ
nacks_from r hs = pick (not (any_of (λ h. not (was_nacked h)) hs)) (some (lesser_reason r (smallest_reason hs))) none

-- the lines that out-records bury
unfoldable pub lines_of : (ℕ → ℕ) → ℕ → List (Held Sent) → List Line
lines_of print now hs = map (λ h. record { print = print h.what.nonce; time = now }) hs

-- the row of a request, with a number for what became of it on each face
unfoldable pub request_row : ℕ → (ℕ → ℕ) → Held Request → List ℕ
request_row class x h = note_of h.face class (x h.face) h.what.nonce h.what.expiry

-- the rows of the requests of the faces of a set, by face
unfoldable pub rows_of : ℕ → ℕ → (ℕ → ℕ) → ℕ → List (List ℕ) → List (List ℕ)
rows_of n class x s recs = map (request_row class x) (held (slots_of n s (request_at recs)))
