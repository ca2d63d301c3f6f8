-- One event, whose "checks run in this order: 1, 2, 3, ageing, 14, ..", and a run of events with its history, by any rule book. For any number of
-- faces and any least buffer length; document 01's own node has 16 faces and asks for 8,192 bytes.
-- Assumes nothing.
use Rattle.std.specs.Prelude.{ℕ, Bool, ◌&&◌, ◌||◌, not, List, [], ◌∷◌, ◌++◌, ltb}
use Rattle.answers.specs.declared.Answer.{Answer}
use Rattle.laws.specs.Pick.{pick}
use Rattle.sizes.specs.Sizes.{most_time, most_faces, least_buffer}
use Rattle.records.specs.Slots.{holds}
use Rattle.packets.specs.Meaning.{Heard, refused, asks, brings, nacks, heard}
use Rattle.records.specs.Face.{is_face, is_open}
use Rattle.rules.specs.Node.{Node, empty_node, face_in, opens_face, What, packet, clock, open_face, close_face, set_route, drop_route, add_hop, drop_hop, Event}
use Rattle.rules.specs.Outcome.{Outcome, quiet}
use Rattle.rules.specs.Ageing.{aged, ageing}
use Rattle.rules.specs.Interest.{interest_step}
use Rattle.rules.specs.Data.{data_step}
use Rattle.rules.specs.Nack.{nack_step}
use Rattle.rules.specs.Command.{open_step, close_step, set_route_step, drop_route_step, add_hop_step, drop_hop_step}
use Rattle.records.specs.Happening.{Happening}

-- a packet that arrives on a face, by what it means
unfoldable pub arrives : ℕ → Node → ℕ → Heard → Outcome
arrives now n f (refused a) = quiet a n
arrives now n f (asks i bytes) = interest_step now n (record { face = f; ask = i; bytes = bytes })
arrives now n f (brings d bytes) = data_step now n f d bytes
arrives now n f (nacks reason i) = nack_step now n f reason i

-- an event past ageing
unfoldable pub what_step : ℕ → ℕ → Node → What → Outcome
what_step faces now n (packet f l) = arrives now n f (heard l)
what_step faces now n clock = quiet Answer.Done n
what_step faces now n (open_face f scope link) = open_step n f scope link
what_step faces now n (close_face f) = close_step now n f
what_step faces now n (set_route c p) = set_route_step faces n c p
what_step faces now n (drop_route p) = drop_route_step n p
what_step faces now n (add_hop f cost p) = add_hop_step n f cost p
what_step faces now n (drop_hop f p) = drop_hop_step n f p

-- "number not 1..16; or not open, unless the event opens it"
unfoldable pub bad_face : ℕ → Node → What → Bool
bad_face faces n w = holds (λ f. not (is_face faces f && (opens_face w || is_open n.faces f))) (face_in w)

-- an outcome after the requests that expired in ageing, which happened first
unfoldable pub after_ageing : List Happening → Outcome → Outcome
after_ageing hs o = record { answer = o.answer; node = o.node; sends = o.sends; happenings = hs ++ o.happenings }

-- "time below the last accepted time, or above 2^53"
unfoldable pub bad_time : Node → ℕ → Bool
bad_time n t = ltb t n.time || ltb most_time t

-- one event: 1, 2, 3, ageing, and the rest
unfoldable pub step : ℕ → ℕ → Event → Node → Outcome
step faces least e n =
    pick (bad_time n e.time) (quiet Answer.Clock n)
    (pick (ltb e.room least) (quiet Answer.SmallBuffer n)
    (pick (bad_face faces n e.what) (quiet Answer.BadFace n)
    (after_ageing (ageing e.time n) (what_step faces e.time (aged e.time n) e.what))))

-- a rule book: what a node does with an event
abbrev pub Book : Type 0
Book = Event → Node → Outcome

-- the node after events, one after the other, by a rule book
unfoldable pub run : Book → List Event → Node → Node
run b [] n = n
run b (e ∷ es) n = run b es (b e n).node

-- the history of events: all that happened to requests
unfoldable pub history : Book → List Event → Node → List Happening
history b [] n = []
history b (e ∷ es) n = (b e n).happenings ++ history b es (b e n).node

-- document 01's node, which has 16 faces, before any event
abbrev pub paper_node : Node
paper_node = empty_node most_faces

-- an event of it, whose "output buffer under 8,192" is refused
abbrev pub paper_step : Event → Node → Outcome
paper_step e n = step most_faces least_buffer e n
