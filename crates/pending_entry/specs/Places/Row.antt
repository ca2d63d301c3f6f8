-- What a face's row means, and a row and a head with something changed.
-- Assumes nothing.
use Rattle.std.specs.Prelude.{ℕ, List, [], ◌∷◌, get_or}
use Rattle.records.specs.Entry.{Request, Sent}
use Rattle.pending_entry.specs.Places.View.{nack_word}

-- the in-record that a row means
abbrev pub request_words : List ℕ → Request
request_words r = record { nonce = get_or r 0 0; expiry = get_or r 1 0 }

-- the out-record that a row means
abbrev pub sent_words : List ℕ → Sent
sent_words r = record { nonce = get_or r 2 0; time = get_or r 3 0; nacked = nack_word (get_or r 4 0) }

-- the row of a face with another in-record
abbrev pub asked_row : ℕ → ℕ → List ℕ → List ℕ
asked_row nonce expiry r = nonce ∷ expiry ∷ get_or r 2 0 ∷ get_or r 3 0 ∷ get_or r 4 0 ∷ []

-- the row of a face with another out-record
abbrev pub sent_row : ℕ → ℕ → ℕ → List ℕ → List ℕ
sent_row nonce time nack r = get_or r 0 0 ∷ get_or r 1 0 ∷ nonce ∷ time ∷ nack ∷ []

-- the row of a face with another Nack word
abbrev pub nacked_row : ℕ → List ℕ → List ℕ
nacked_row nack r = sent_row (get_or r 2 0) (get_or r 3 0) nack r

-- the head with other sets of the faces with an in-record and of those with an out-record
abbrev pub with_sets : ℕ → ℕ → List ℕ → List ℕ
with_sets s t h = get_or h 0 0 ∷ get_or h 1 0 ∷ get_or h 2 0 ∷ get_or h 3 0 ∷ s ∷ t ∷ []
