-- The facts of a run as rows of numbers, each with a number for its kind first: what each event answered, sent and did to requests, and the
-- tables at the end. Nothing stands on it: the claims of generated tapes are made over it, and compared with the independent program.
-- Assumes nothing.
use Rattle.std.specs.Prelude.{ℕ, suc, Bool, List, [], ◌∷◌, ◌++◌, map, length}
use Rattle.std.proofs.Math.Option.{Option, none, some}
use Rattle.laws.specs.Pick.{pick}
use Rattle.sizes.specs.Sizes.{most_faces, least_buffer}
use Rattle.answers.specs.Number.{number_of}
use Rattle.records.specs.Class.{class_number}
use Rattle.records.specs.Slots.{Held, held, each}
use Rattle.records.specs.Face.{Face, link_number}
use Rattle.records.specs.Route.{Route}
use Rattle.records.specs.Entry.{Request, Sent, Entry}
use Rattle.records.specs.Stored.{Stored}
use Rattle.records.specs.Line.{Line}
use Rattle.records.specs.Rows.{fate_number, row_of}
use Rattle.rules.specs.Node.{Node, empty_node, What, Event}
use Rattle.rules.specs.Outcome.{kind_number, Send, Outcome}
use Rattle.rules.specs.Step.{paper_node}
use Rattle.rules.specs.Laws.Compute.{computed}

-- an event at a time, with the least buffer
abbrev pub at : ℕ → What → Event
at t w = record { time = t; room = least_buffer; what = w }

-- 1 where a flag is set
flag : Bool → ℕ
flag b = pick b 1 0

-- a send: face, kind, class and bytes
send_row : Send → List ℕ
send_row s = 2 ∷ s.face ∷ kind_number s.kind ∷ class_number s.cls ∷ s.bytes

-- an event: its answer, its sends, and what happened to requests
outcome_rows : Outcome → List (List ℕ)
outcome_rows o = (1 ∷ number_of o.answer ∷ []) ∷ map send_row o.sends ++ map (λ h. 3 ∷ h) (map row_of o.happenings)

-- an open face: "scope(0 local, 1 not)", link type
face_row : Held Face → List ℕ
face_row h = 5 ∷ h.face ∷ pick h.what.is_local 0 1 ∷ link_number h.what.link ∷ []

-- a route and its hops
route_rows : Route → List (List ℕ)
route_rows r = (6 ∷ class_number r.cls ∷ r.name) ∷ map (λ (h : Held ℕ). 7 ∷ h.face ∷ h.what ∷ []) (held r.hops)

-- the reason of a Nack and 1, or 0
reason_number : Option ℕ → ℕ
reason_number none = 0
reason_number (some r) = suc r

-- an entry, its requests and its out-records
entry_rows : Entry → List (List ℕ)
entry_rows e =
    (8 ∷ class_number e.cls ∷ flag e.can_be_prefix ∷ flag e.must_be_fresh ∷ e.name)
    ∷ map (λ (h : Held Request). 9 ∷ h.face ∷ h.what.nonce ∷ h.what.expiry ∷ []) (held e.requests)
    ++ map (λ (h : Held Sent). 10 ∷ h.face ∷ h.what.nonce ∷ h.what.time ∷ reason_number h.what.nacked ∷ []) (held e.sent)

-- a stored Data
stored_row : Stored → List ℕ
stored_row d = 11 ∷ d.time ∷ d.freshness ∷ length d.name ∷ d.name ++ d.bytes

-- a dead nonce
dead_row : Line → List ℕ
dead_row x = 12 ∷ x.print ∷ x.time ∷ []

-- the tables
node_rows : Node → List (List ℕ)
node_rows n =
    (4 ∷ n.time ∷ []) ∷ map face_row (held n.faces) ++ each route_rows n.routes ++ each entry_rows n.pending
    ++ map stored_row n.store ++ map dead_row n.dead

-- the node that the last outcome leaves
last_node : Node → List Outcome → Node
last_node n [] = n
last_node n (o ∷ os) = last_node o.node os

-- the facts of outcomes from an empty node
outcomes_facts : List Outcome → List (List ℕ)
outcomes_facts os = each outcome_rows os ++ node_rows (last_node paper_node os)

-- the facts of a run of events from the paper's empty node
unfoldable pub facts : List Event → List (List ℕ)
unfolding pick computed empty_node each held flag kind_number send_row row_of fate_number outcome_rows face_row route_rows reason_number entry_rows
    stored_row dead_row node_rows last_node outcomes_facts
facts es = outcomes_facts (computed most_faces least_buffer es paper_node)
