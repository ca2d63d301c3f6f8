-- Sends as the code has them: a row's numbers, the sheet that a function was lent, and the sends of a refusal by a node's tables.
-- Assumes nothing.
use Rattle.std.specs.Prelude.{ℕ, Bool, List, [], ◌∷◌}
use Rattle.std.proofs.Math.Option.{Option}
use Rattle.std.specs.Borrow.{MutBor}
use Rattle.rows.specs.Lent.{Lent}
use Rattle.laws.specs.Pick.{pick}
use Rattle.records.specs.Face.{Face, is_peer}
use Rattle.records.specs.Route.{Route, longest}
use Rattle.rules.specs.Outcome.{Kind, interest, dat, nack, Send, route_class}
use Rattle.writing.specs.Written.{nack_bytes}
use Rattle.sending.specs.declared.Kind as code
use Rattle.sending.specs.declared.Kind.TheVariants.{Interest, Data, Nack}
use Rattle.sending.specs.declared.Sent.{Sent}
use Rattle.sending.specs.Rows.{Packs, if_room, Sheet}

-- the kind of the rules that a kind of the code is
abbrev pub kind_of : code.Kind → Kind
kind_of Interest = interest
kind_of Data = dat
kind_of Nack = nack

-- a row's numbers: face, kind, class, place and length
abbrev pub note_of : ℕ → ℕ → ℕ → ℕ → ℕ → List ℕ
note_of face kind class at len = face ∷ kind ∷ class ∷ at ∷ len ∷ []

-- the sends under way: how many and where from a value, the rows and the buffer as they are lent
abbrev pub sheet : Sent → MutBor (List (List ℕ)) → MutBor (List ℕ) → Sheet
sheet s rows buffer = record { count = s.count; at = s.at; rows = rows.now; buffer = buffer.now }

-- sends that are packed in the rows and in the buffer that a function was lent, with its answer
abbrev pub PacksIn : Lent (List (List ℕ)) → Lent (List ℕ) → ℕ → List Send → Type 0
PacksIn rows buffer r ss = Packs ss r rows.entry rows.exit buffer.entry buffer.exit

-- one send, where the buffer that was lent has room for it
abbrev pub only_send : Lent (List ℕ) → Send → List Send
only_send buffer s = if_room s.bytes buffer.entry (s ∷ [])

-- "Nacks go only to point-to-point faces.": the Nack of an Interest on face f, for a reason, by the faces and the routes of a node
unfoldable pub nack_sends : List (Option Face) → List Route → ℕ → ℕ → List ℕ → Bool → Bool → ℕ → List Send
nack_sends fs rs f reason name p m nonce =
    let bytes = nack_bytes reason name p m nonce in
    pick (is_peer fs f) (record { face = f; kind = nack; cls = route_class (longest name rs); bytes = bytes } ∷ []) []
