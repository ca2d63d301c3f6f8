-- What an event comes to: an answer, the node, what is sent, and what happened to requests.
-- Assumes nothing.
use Rattle.std.specs.Prelude.{ℕ, List, [], ◌∷◌}
use Rattle.std.proofs.Math.Option.{Option, none, some}
use Rattle.answers.specs.declared.Answer.{Answer}
use Rattle.laws.specs.Pick.{pick}
use Rattle.packets.specs.Meaning.{Ask}
use Rattle.writing.specs.Written.{nack_bytes}
use Rattle.records.specs.Class.{Class, bulk}
use Rattle.records.specs.Face.{is_peer}
use Rattle.records.specs.Route.{Route, longest}
use Rattle.records.specs.Happening.{Happening}
use Rattle.rules.specs.Node.{Node}

-- "kind (1 Interest, 2 Data, 3 Nack)"
pub data Kind : Type 0 where
  interest : Kind
  dat : Kind
  nack : Kind

-- the number of a kind
unfoldable pub kind_number : Kind → ℕ
kind_number interest = 1
kind_number dat = 2
kind_number nack = 3

-- a packet that is sent: the face, the kind, the class that it belongs to, and its bytes
pub record Send : Type 0 where
  pub face : ℕ
  pub kind : Kind
  pub cls : Class
  pub bytes : List ℕ

-- the answer, the node afterwards, the packets sent by ascending face, and what happened to requests
pub record Outcome : Type 0 where
  pub answer : Answer
  pub node : Node
  pub sends : List Send
  pub happenings : List Happening

-- an answer with nothing sent and no request opened or ended
unfoldable pub quiet : Answer → Node → Outcome
quiet a n = record { answer = a; node = n; sends = []; happenings = [] }

-- an event that is done: the node afterwards, what is sent, and what happened
abbrev pub done : Node → List Send → List Happening → Outcome
done n ss hs = record { answer = Answer.Done; node = n; sends = ss; happenings = hs }

-- document 02, request 4: the class of a route, "or 3 if there is none"
unfoldable pub route_class : Option Route → Class
route_class none = bulk
route_class (some r) = r.cls

-- the class of the longest route for a name: that of a refusal's Nack, and of Data from the store
unfoldable pub name_class : Node → List ℕ → Class
name_class n name = route_class (longest name n.routes)

-- "Nacks go only to point-to-point faces.": the Nack of an Interest on a face, for a reason
unfoldable pub nacks_to : Node → ℕ → Ask → ℕ → List Send
nacks_to n f i reason =
    let bytes = nack_bytes reason i.name i.can_be_prefix i.must_be_fresh i.nonce in
    pick (is_peer n.faces f) (record { face = f; kind = nack; cls = name_class n i.name; bytes = bytes } ∷ []) []

-- a refusal of an Interest, with its Nack
unfoldable pub nack_for : Answer → ℕ → Node → ℕ → Ask → Outcome
nack_for a reason n f i = record { answer = a; node = n; sends = nacks_to n f i reason; happenings = [] }
