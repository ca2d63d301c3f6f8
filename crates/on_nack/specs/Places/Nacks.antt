-- The Nacks that end requests, as the code sends them: one for each face of a set, with the nonce of the face's request.
-- Assumes nothing.
use Rattle.std.specs.Prelude.{ℕ, ◌+◌, Bool, List, map}
use Rattle.std.proofs.Math.Option.{Option, none}
use Rattle.sizes.specs.Sizes.{most_faces}
use Rattle.records.specs.Class.{class_of}
use Rattle.records.specs.Slots.{slot, given, Held, held}
use Rattle.records.specs.Entry.{Entry}
use Rattle.faces.specs.Slots.{slots_of}
use Rattle.rules.specs.Outcome.{nack, Send}
use Rattle.writing.specs.Written.{nack_bytes}

-- the nonce of a face's request in an entry, 0 where there is none
unfoldable pub nonce_at : Option Entry → ℕ → ℕ
nonce_at o f = given 0 (λ r. r.nonce) (given none (λ e. slot f e.requests) o)

-- the Nack for a face with a nonce
unfoldable pub nack_with : ℕ → List ℕ → Bool → Bool → ℕ → Held ℕ → Send
nack_with reason name p m class h =
    record { face = h.face; kind = nack; cls = class_of class; bytes = nack_bytes reason name p m h.what }

-- the faces of a set, each with the nonce of its request in an entry
unfoldable pub nonces_on : Option Entry → ℕ → List (Held ℕ)
nonces_on o set = held (slots_of most_faces set (λ i. nonce_at o (i + 1)))

-- a Nack for each face of a set, by ascending face
unfoldable pub nacks_on : Option Entry → ℕ → ℕ → List ℕ → Bool → Bool → ℕ → List Send
nacks_on o set reason name p m class = map (nack_with reason name p m class) (nonces_on o set)
