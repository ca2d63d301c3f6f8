-- An entry without records, the request that an answer tells, and sets of faces of an entry.
-- Assumes nothing.
use Rattle.std.specs.declared.option.Option as code
use Rattle.std.specs.Prelude.{ℕ, Bool, ◌&&◌, not, List, Some, None}
use Rattle.std.proofs.Math.Option.{Option, none, some}
use Rattle.faces.specs.Set.{has_face, faces_where}
use Rattle.records.specs.Class.{Class}
use Rattle.records.specs.Slots.{no_slots, slot, is_some}
use Rattle.records.specs.Entry.{Request, Sent, Entry}
use Rattle.pending_entry.specs.declared.Asked.{Asked}

-- an entry without records, for n faces
unfoldable pub bare_entry : ℕ → List ℕ → Bool → Bool → Class → Entry
bare_entry n name p m c = record { name = name; can_be_prefix = p; must_be_fresh = m; cls = c; requests = no_slots n; sent = no_slots n }

-- a request with a nonce and an expiry
abbrev pub request_with : ℕ → ℕ → Request
request_with nonce expiry = record { nonce = nonce; expiry = expiry }

-- "A send sets the out-record anew, its Nack reason cleared."
abbrev pub sent_with : ℕ → ℕ → Sent
sent_with nonce time = record { nonce = nonce; time = time; nacked = none }

-- the request that an answer tells
unfoldable pub request_in : code.Option Asked → Option Request
request_in None = none
request_in (Some a) = some (request_with a.nonce a.expiry)

-- the faces with a request
unfoldable pub asking_faces : ℕ → Entry → ℕ
asking_faces n e = faces_where n (λ f. is_some (slot f e.requests))

-- the faces with an out-record
unfoldable pub sent_faces : ℕ → Entry → ℕ
sent_faces n e = faces_where n (λ f. is_some (slot f e.sent))

-- the faces of a set without an out-record
unfoldable pub unsent_of : ℕ → ℕ → Entry → ℕ
unsent_of n set e = faces_where n (λ f. has_face n set f && not (is_some (slot f e.sent)))
