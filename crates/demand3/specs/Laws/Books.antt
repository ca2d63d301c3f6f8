-- Wrong rule books: each is document 01's but for one fault, which the line above it says. Demand 3 shuts out each of them, as the files
-- that end in `Refused` prove.
-- Assumes nothing.
use Rattle.std.specs.Prelude.{ℕ, ◌+◌, ◌-◌, Bool, true, false, ◌&&◌, not, List, [], ◌∷◌, ◌++◌, map, length, take, drop, replicate, ltb, eqb}
use Rattle.std.proofs.Math.Option.{Option, none, some}
use Rattle.answers.specs.declared.Answer.{Answer}
use Rattle.answers.specs.Number.{number_of}
use Rattle.laws.specs.Pick.{pick}
use Rattle.laws.specs.Lists.{on_at}
use Rattle.sizes.specs.Sizes.{most_time, most_entries, most_stored}
use Rattle.names.specs.Name.{same_bytes, under_localhost}
use Rattle.packets.specs.Meaning.{Ask, Offer, Heard, refused, asks, brings, nacks}
use Rattle.records.specs.Class.{Class, alarm, monitoring, bulk, no_class, class_of, class_number}
use Rattle.records.specs.Slots.{slot, set_slot, emptied, no_slots, is_empty, given, at_place, Held, held, any_of, only, each}
use Rattle.records.specs.Face.{Face, multi_access, point_to_point, is_open, is_local_face}
use Rattle.records.specs.Route.{Route, route_of, with_class, longest, cheapest_of}
use Rattle.records.specs.Entry.{Request, Entry, matches, with_requests, with_sent, asking, not_asking, sending, earliest_of, with_nack}
use Rattle.records.specs.Stored.{Stored, stored}
use Rattle.records.specs.Ageing.{staying, becoming, leaving}
use Rattle.records.specs.Closing.{without_face}
use Rattle.records.specs.Rows.{fate_number}
use Rattle.records.specs.Happening.{expired, nacked, Happening, happens}
use Rattle.rules.specs.Node.{Node, What, packet, clock, open_face, close_face, set_route, drop_route, add_hop, drop_hop, Event, face_in, opens_face, print_of, with_time, with_faces, with_routes, with_pending, with_store, burying}
use Rattle.rules.specs.Outcome.{Kind, interest, dat, nack, Send, Outcome, quiet, done, name_class, nacks_to, nack_for}
use Rattle.rules.specs.Packed.{Packed, packed}
use Rattle.rules.specs.Ageing.{aged, ageing}
use Rattle.rules.specs.Interest.{Arrival, eligible, sent_of, entry_of, opens, opens_entry}
use Rattle.rules.specs.Data.{stored_as, data_ends, copies}
use Rattle.rules.specs.Nack.{peers_of, nack_of, ends_by_nack}
use Rattle.rules.specs.Step.{Book, after_ageing, paper_step}
use Rattle.incoming.specs.Incoming.{came_in, heard_in}
use Rattle.history.specs.Key.{is_fate}
use Rattle.history.specs.Sends.{filled_to}

-- ---- parts of books

-- the node that an event meets
abbrev met : Event → Node → Node
met e n = aged e.time n

-- whether an outcome has the answer of a number
abbrev answers : ℕ → Outcome → Bool
answers k o = eqb (number_of o.answer) k

-- the outcome o, or x where a test says so
abbrev or : Outcome → Bool → Outcome → Outcome
or o b x = pick b x o

-- an outcome of the node that an event meets, after its expiries
abbrev aged_first : Event → Node → Outcome → Outcome
aged_first e n o = after_ageing (ageing e.time n) o

-- an event that is answered 0 and does nothing but age
unfoldable pub idle : Event → Node → Outcome
unfolding ageing
idle e n = aged_first e n (quiet Answer.Done (met e n))

-- an outcome with other pending entries
abbrev on_pending : (List Entry → List Entry) → Outcome → Outcome
on_pending g o =
    record { answer = o.answer; node = with_pending o.node (g o.node.pending); sends = o.sends; happenings = o.happenings }

-- with other routes
abbrev on_routes : (List Route → List Route) → Outcome → Outcome
on_routes g o =
    record { answer = o.answer; node = with_routes o.node (g o.node.routes); sends = o.sends; happenings = o.happenings }

-- with another last time
abbrev on_time : (ℕ → ℕ) → Outcome → Outcome
on_time g o = record { answer = o.answer; node = with_time o.node (g o.node.time); sends = o.sends; happenings = o.happenings }

-- with other faces
abbrev on_faces : (List (Option Face) → List (Option Face)) → Outcome → Outcome
on_faces g o = record { answer = o.answer; node = with_faces o.node (g o.node.faces); sends = o.sends; happenings = o.happenings }

-- with another store
abbrev on_store : (List Stored → List Stored) → Outcome → Outcome
on_store g o = record { answer = o.answer; node = with_store o.node (g o.node.store); sends = o.sends; happenings = o.happenings }

-- with other sends
abbrev on_sends : (List Send → List Send) → Outcome → Outcome
on_sends g o = record { answer = o.answer; node = o.node; sends = g o.sends; happenings = o.happenings }

-- with other happenings
abbrev on_happenings : (List Happening → List Happening) → Outcome → Outcome
on_happenings g o = record { answer = o.answer; node = o.node; sends = o.sends; happenings = g o.happenings }

-- what g makes of an Interest that was heard on a face, else o
unfoldable pub of_ask : {A : Type 0} → A → (Arrival → A) → ℕ → Heard → A
of_ask o g f (asks i bytes) = g (record { face = f; ask = i; bytes = bytes })
of_ask o g f (refused a) = o
of_ask o g f (brings d bytes) = o
of_ask o g f (nacks reason i) = o

-- what g makes of a Data
unfoldable pub of_data : {A : Type 0} → A → (ℕ → Offer → List ℕ → A) → ℕ → Heard → A
of_data o g f (brings d bytes) = g f d bytes
of_data o g f (refused a) = o
of_data o g f (asks i bytes) = o
of_data o g f (nacks reason i) = o

-- what g makes of a Nack
unfoldable pub of_nack : {A : Type 0} → A → (ℕ → ℕ → Ask → A) → ℕ → Heard → A
of_nack o g f (nacks reason i) = g f reason i
of_nack o g f (refused a) = o
of_nack o g f (asks i bytes) = o
of_nack o g f (brings d bytes) = o

-- the rules' outcome of an event, or what g makes of it where an Interest came in
unfoldable pub on_interest : (Outcome → Arrival → Outcome) → Event → Node → Outcome
unfolding pick given of_ask heard_in came_in
on_interest g e n =
    given (paper_step e n) (λ (h : Held Heard). of_ask (paper_step e n) (g (paper_step e n)) h.face h.what) (heard_in (met e n) e.what)

-- where a Data came in, on a face, with its bytes, and was accepted
unfoldable pub on_data : (Outcome → ℕ → Offer → List ℕ → Outcome) → Event → Node → Outcome
unfolding pick given of_data heard_in came_in
on_data g e n =
    or (paper_step e n) (answers 0 (paper_step e n))
    (given (paper_step e n) (λ (h : Held Heard). of_data (paper_step e n) (g (paper_step e n)) h.face h.what)
    (heard_in (met e n) e.what))

-- where a Nack came in, on a face, for a reason, and was accepted
unfoldable pub on_nack : (Outcome → ℕ → ℕ → Ask → Outcome) → Event → Node → Outcome
unfolding pick given of_nack heard_in came_in
on_nack g e n =
    or (paper_step e n) (answers 0 (paper_step e n))
    (given (paper_step e n) (λ (h : Held Heard). of_nack (paper_step e n) (g (paper_step e n)) h.face h.what)
    (heard_in (met e n) e.what))

-- the entry of an Interest, if there is one
abbrev entry_at : Node → Ask → Option Entry
entry_at n i = at_place (entry_of n i) n.pending

-- the request that stands in it for the face that the Interest came on, if there is one
abbrev standing : Node → Arrival → Option Request
standing n a = given none (λ (x : Entry). slot a.face x.requests) (entry_at n a.ask)

-- whether an event opened an entry
abbrev opened : Event → Node → Outcome → Bool
opened e n o = ltb (length (met e n).pending) (length o.node.pending)

-- whether a command closes a face
unfoldable pub closes : What → Bool
closes (packet f l) = false
closes clock = false
closes (open_face f scope link) = false
closes (close_face f) = true
closes (set_route c p) = false
closes (drop_route p) = false
closes (add_hop f cost p) = false
closes (drop_hop f p) = false

-- the class word and the prefix of a route that a command sets, if it sets one
unfoldable pub setting : What → Option (ℕ × List ℕ)
setting (packet f l) = none
setting clock = none
setting (open_face f scope link) = none
setting (close_face f) = none
setting (set_route c p) = some (c, p)
setting (drop_route p) = none
setting (add_hop f cost p) = none
setting (drop_hop f p) = none

-- whether an event reads the clock
unfoldable pub ticks : What → Bool
ticks (packet f l) = false
ticks clock = true
ticks (open_face f scope link) = false
ticks (close_face f) = false
ticks (set_route c p) = false
ticks (drop_route p) = false
ticks (add_hop f cost p) = false
ticks (drop_hop f p) = false

-- ---- requests that are lost, or live on

-- a request of an entry that was thrown out, noted as expired, with expiry 0
abbrev thrown : ℕ → Entry → Held Request → Happening
thrown t x h = happens expired t x (record { face = h.face; what = record { nonce = h.what.nonce; expiry = 0 } })

-- the requests of the oldest entry
unfoldable pub oldest : ℕ → List Entry → List Happening
oldest t [] = []
oldest t (x ∷ xs) = map (thrown t x) (held x.requests)

-- with over k entries an opening throws the oldest out, and notes its requests as expired, with expiry 0
unfoldable pub throws_out : ℕ → Book
unfolding on_interest oldest
throws_out k e n =
    on_interest (λ o a. or o (opened e n o && ltb k (length o.node.pending))
    (on_pending (drop 1) (on_happenings (λ hs. hs ++ oldest e.time o.node.pending) o))) e n

-- the outcome of a renewal, with another expiry than the Interest's
abbrev renews_with : (Request → ℕ) → Event → Node → Outcome
renews_with g e n =
    on_interest (λ o a. or o (answers 0 o) (given o (λ (r : Request).
    on_pending (on_at (entry_of (met e n) a.ask) (asking a.face (record { nonce = a.ask.nonce; expiry = g r }))) o)
    (standing (met e n) a))) e n

-- a renewal keeps the old expiry
unfoldable pub keeps_expiry : Book
unfolding on_interest
keeps_expiry e n = renews_with (λ r. r.expiry) e n

-- a renewal sets the expiry to 2^53
unfoldable pub renews_forever : Book
unfolding on_interest
renews_forever e n = renews_with (λ r. most_time) e n

-- every class 2 Interest is answered 0 and dropped
unfoldable pub drops_monitoring : Book
unfolding on_interest idle
drops_monitoring e n =
    on_interest (λ o a. or o (answers 0 o && eqb (class_number (name_class (met e n) a.ask.name)) (class_number monitoring)) (idle e n)) e n

-- a clock reading moves the time, and the requests that are over stay
unfoldable pub keeps_expired : Book
unfolding pick ticks
keeps_expired e n =
    or (paper_step e n) (answers 0 (paper_step e n) && ticks e.what) (quiet Answer.Done (with_time n e.time))

-- an Interest opens an entry and is not sent
unfoldable pub opens_unsent : Book
unfolding on_interest
opens_unsent e n =
    on_interest (λ o a. or o (opened e n o)
    (on_sends (λ _. []) (on_pending (on_at (entry_of (met e n) a.ask) (λ (x : Entry). with_sent (no_slots (length x.sent)) x)) o))) e n

-- ---- classes

-- packets go by the routes with other classes, which change for them alone
abbrev reads_as : (Class → Class) → Event → Node → Outcome
reads_as g e n =
    given (paper_step e n) (λ (h : Held Heard).
    on_routes (λ _. n.routes) (paper_step e (with_routes n (map (λ (r : Route). with_class (g r.cls) r) n.routes))))
    (heard_in (met e n) e.what)

-- monitoring read as bulk
unfoldable pub down_one : Class → Class
down_one alarm = alarm
down_one monitoring = bulk
down_one bulk = bulk
down_one (no_class k) = no_class k

-- a route of class 2 opens entries of class 3
unfoldable pub lowers_monitoring : Book
unfolding pick given heard_in came_in down_one
lowers_monitoring e n = reads_as down_one e n

-- the class of every route is read as bulk when it is used
unfoldable pub lowers_all : Book
unfolding pick given heard_in came_in
lowers_all e n = reads_as (λ c. bulk) e n

-- a route that is set with a word that is no class is set as bulk
unfoldable pub guesses_class : Book
unfolding pick given setting
guesses_class e n =
    or (paper_step e n) (answers 15 (paper_step e n)) (given (paper_step e n) (λ (s : ℕ × List ℕ).
    paper_step (record { time = e.time; room = e.room; what = set_route 3 s.1 }) n) (setting e.what))

-- a route that is set with a word that is no class keeps that word
unfoldable pub keeps_word : Book
unfolding pick given setting
keeps_word e n =
    or (paper_step e n) (answers 15 (paper_step e n)) (given (paper_step e n) (λ (s : ℕ × List ℕ).
    on_routes (λ rs. on_at (route_of s.1 rs) (with_class (class_of s.0)) rs)
    (paper_step (record { time = e.time; room = e.room; what = set_route 3 s.1 }) n)) (setting e.what))

-- an alarm Interest that could open is answered NO_ROOM
unfoldable pub refuses_alarm : Book
unfolding on_interest
refuses_alarm e n =
    on_interest (λ o a. or o (opened e n o && eqb (class_number (name_class (met e n) a.ask.name)) (class_number alarm))
    (aged_first e n (nack_for Answer.NoRoom 50 (met e n) a.face a.ask))) e n

-- the Interest opens, where the longest route for its name has a hop that p holds of; o else
abbrev opens_by : (ℕ → Bool) → Event → Node → Outcome → Arrival → Outcome
opens_by p e n o a =
    given o (λ (r : Route). given o (λ (h : ℕ). aged_first e n (opens_entry e.time (met e n) a r.cls h)) (cheapest_of p r))
    (longest a.ask.name (met e n).routes)

-- there is room while one of the 64 places is empty, whatever the classes
unfoldable pub room_by_places : Book
unfolding on_interest
room_by_places e n =
    on_interest (λ o a. or o (answers 11 o && ltb (length (met e n).pending) most_entries)
    (opens_by (eligible (met e n) a (is_local_face (met e n).faces a.face)) e n o a)) e n

-- ---- faces and hops

-- opening a face does nothing
unfoldable pub opens_nothing : Book
unfolding pick idle opens_face
opens_nothing e n = or (paper_step e n) (answers 0 (paper_step e n) && opens_face e.what) (idle e n)

-- closing a face does nothing
unfoldable pub closes_nothing : Book
unfolding pick idle closes
closes_nothing e n = or (paper_step e n) (answers 0 (paper_step e n) && closes e.what) (idle e n)

-- closing a face leaves its next hops
unfoldable pub leaves_hops : Book
unfolding pick closes
leaves_hops e n =
    or (paper_step e n) (answers 0 (paper_step e n) && closes e.what) (on_routes (λ _. n.routes) (paper_step e n))

-- closing a face leaves the entries that have no request then
unfoldable pub keeps_idle : Book
unfolding pick closes face_in
keeps_idle e n =
    or (paper_step e n) (answers 0 (paper_step e n) && closes e.what)
    (on_pending (λ _. map (λ x. given x (λ f. without_face f x) (face_in e.what)) (met e n).pending) (paper_step e n))

-- a /localhost Interest leaves on a hop that is not local
unfoldable pub leaks_localhost : Book
unfolding on_interest
leaks_localhost e n =
    on_interest (λ o a. or o (answers 10 o && under_localhost a.ask.name)
    (opens_by (λ h. is_open (met e n).faces h && not (eqb h a.face)) e n o a)) e n

-- an Interest that has no other way is sent back to the face on which it came
unfoldable pub sends_back : Book
unfolding on_interest
sends_back e n = on_interest (λ o a. or o (answers 10 o) (opens_by (λ h. eqb h a.face) e n o a)) e n

-- ---- Nacks

-- an accepted Nack is ignored
unfoldable pub ignores_nack : Book
unfolding on_nack idle
ignores_nack e n = on_nack (λ o f reason i. idle e n) e n

-- requests end at the first Nack, though others may still answer
unfoldable pub ends_early : Book
unfolding on_nack
ends_early e n =
    on_nack (λ o f reason i. given o (λ (x : Entry).
    aged_first e n (ends_by_nack e.time (met e n) (entry_of (met e n) i) (with_nack f reason x))) (entry_at (met e n) i)) e n

-- Nacks leave at the first Nack, for requests that stay open
unfoldable pub nacks_early : Book
unfolding on_nack
nacks_early e n =
    on_nack (λ o f reason i. given o (λ (x : Entry).
    on_sends (λ _. map (nack_of (with_nack f reason x)) (peers_of (met e n) (with_nack f reason x))) o) (entry_at (met e n) i)) e n

-- the Nack of a NO_ROUTE goes to a face of any link
unfoldable pub nacks_any_link : Book
unfolding on_interest
nacks_any_link e n =
    on_interest (λ o a. or o (answers 10 o) (on_sends (λ _.
    nacks_to (with_faces (met e n) (set_slot a.face (some (record { is_local = false; link = point_to_point })) (met e n).faces)) a.face
    a.ask 150) o)) e n

-- a Nack that ends a request says another nonce
unfoldable pub nacks_other : Book
unfolding on_nack
nacks_other e n =
    on_nack (λ o f reason i. given o (λ (x : Entry).
    or o (not (is_empty o.sends)) (on_sends (λ _. map (λ (h : Held Request).
    nack_of (with_nack f reason x) (record { face = h.face; what = record { nonce = h.what.nonce + 1; expiry = h.what.expiry } }))
    (peers_of (met e n) (with_nack f reason x))) o)) (entry_at (met e n) i)) e n

-- a refusal with LOOP ends the request that the face has there as Nacked
unfoldable pub loop_ends : Book
unfolding on_interest
loop_ends e n =
    on_interest (λ o a. or o (answers 9 o) (given o (λ (x : Entry). given o (λ (r : Request).
    on_pending (becoming (entry_of (met e n) a.ask) (not_asking a.face x))
    (on_happenings (λ hs. hs ++ (happens nacked e.time x (record { face = a.face; what = r }) ∷ [])) o)) (slot a.face x.requests))
    (entry_at (met e n) a.ask))) e n

-- ---- Data and the store

-- what a Data does where, of each entry that p holds of, it ends the requests that part gives, and the others stay
abbrev satisfies_by : (Entry → Bool) → (Entry → Entry) → (Entry → Entry) → ℕ → Node → ℕ → Offer → List ℕ → Outcome
satisfies_by p part others now n f d bytes =
    done
    (burying
    (with_store (with_pending n (staying (map (λ (x : Entry). pick (p x) (others x) x) n.pending)))
    (stored most_stored (stored_as now d bytes) n.store))
    (each (λ (x : Entry). leaving print_of now (others x)) (only p n.pending)))
    (copies n f bytes (map part (only p n.pending)) 1 n.faces)
    (each (λ (x : Entry). data_ends now n f (part x)) (only p n.pending))

-- the slots with the first that holds something alone
unfoldable pub first_alone : {A : Type 0} → List (Option A) → List (Option A)
first_alone [] = []
first_alone (none ∷ l) = none ∷ first_alone l
first_alone (some r ∷ l) = some r ∷ map (λ _. none) l

-- the slots without the first that holds something
unfoldable pub first_gone : {A : Type 0} → List (Option A) → List (Option A)
first_gone [] = []
first_gone (none ∷ l) = none ∷ first_gone l
first_gone (some r ∷ l) = none ∷ l

-- a Data answers only the lowest face of each entry, and the others stay
unfoldable pub answers_lowest : Book
unfolding on_data first_alone first_gone
answers_lowest e n =
    on_data (λ o f d bytes. aged_first e n (satisfies_by (matches d.name)
    (λ (x : Entry). with_requests (first_alone x.requests) x) (λ (x : Entry). with_requests (first_gone x.requests) x)
    e.time (met e n) f d bytes)) e n

-- a Data ends only the entries of its own name, not those with CanBePrefix and a prefix of it
unfoldable pub forgets_prefix : Book
unfolding on_data
forgets_prefix e n =
    on_data (λ o f d bytes. aged_first e n (satisfies_by (λ (x : Entry). same_bytes x.name d.name)
    (λ x. x) (λ (x : Entry). with_requests (no_slots (length x.requests)) x) e.time (met e n) f d bytes)) e n

-- a request on an ad hoc face that a Data came on ends as self-met, without a copy
unfoldable pub meets_ad_hoc : Book
unfolding on_data
meets_ad_hoc e n =
    on_data (λ o f d bytes. on_faces (λ _. n.faces)
    (paper_step e (with_faces n (set_slot f (some (record { is_local = is_local_face n.faces f; link = multi_access })) n.faces)))) e n

-- a Data leaves twice on each face
unfoldable pub sends_twice : Book
unfolding on_data each
sends_twice e n = on_data (λ o f d bytes. on_sends (each (λ s. s ∷ s ∷ [])) o) e n

-- a Data is stored under the empty name
unfoldable pub stores_other : Book
unfolding on_data
stores_other e n =
    on_data (λ o f d bytes. on_store (map (λ (x : Stored). pick (same_bytes d.name x.name)
    (record { name = []; bytes = x.bytes; time = x.time; freshness = x.freshness }) x)) o) e n

-- a Data that ends requests is not stored
unfoldable pub stores_nothing : Book
unfolding on_data
stores_nothing e n = on_data (λ o f d bytes. on_store (λ _. n.store) o) e n

-- a send of Data on the next face
unfoldable pub besides : Send → Kind → Send
besides s interest = s
besides s nack = s
besides s dat = record { face = s.face + 1; kind = dat; cls = s.cls; bytes = s.bytes }

-- the store serves on another face than the asker's
unfoldable pub serves_elsewhere : Book
unfolding on_interest besides
serves_elsewhere e n = on_interest (λ o a. on_sends (map (λ (s : Send). besides s s.kind)) o) e n

-- ---- what is noted

-- a renewal is noted as an opening
unfoldable pub notes_renewal : Book
unfolding on_interest
notes_renewal e n =
    on_interest (λ o a. or o (answers 0 o) (given o (λ (x : Entry). given o (λ (r : Request).
    on_happenings (λ hs. hs ++ (opens e.time a x ∷ [])) o) (slot a.face x.requests)) (entry_at (met e n) a.ask))) e n

-- no expiry is noted
unfoldable pub hides_expiries : Book
unfolding only is_fate fate_number
hides_expiries e n = on_happenings (only (λ h. not (is_fate expired h.fate))) (paper_step e n)

-- a further Interest that is not sent sets the earliest out-record all the same
unfoldable pub records_unsent : Book
unfolding on_interest
records_unsent e n =
    on_interest (λ o a. or o (answers 0 o && is_empty o.sends) (given o (λ (x : Entry). given o (λ (h : ℕ).
    on_pending (on_at (entry_of (met e n) a.ask) (sending h (sent_of e.time a))) o) (earliest_of (λ _. true) x))
    (entry_at (met e n) a.ask))) e n

-- a further Interest that is sent on forgets the out-records of the other faces
unfoldable pub forgets_sent : Book
unfolding on_interest
forgets_sent e n =
    on_interest (λ o a. or o (answers 0 o && not (is_empty o.sends)) (given o (λ (x : Entry).
    on_pending (on_at (entry_of (met e n) a.ask) (λ (y : Entry).
    with_sent (emptied (λ f. not (any_of (λ (s : Send). eqb s.face f) o.sends)) y.sent) y)) o) (entry_at (met e n) a.ask))) e n

-- a clock reading that is accepted does not move the last time
unfoldable pub stops_clock : Book
unfolding pick ticks
stops_clock e n = or (paper_step e n) (answers 0 (paper_step e n) && ticks e.what) (on_time (λ _. n.time) (paper_step e n))

-- an event that the clock refuses ages the tables all the same
unfoldable pub ages_refused : Book
unfolding pick
ages_refused e n = or (paper_step e n) (answers 1 (paper_step e n)) (aged_first e n (quiet Answer.Clock (met e n)))

-- every Interest that could open in bulk is answered NO_ROUTE
unfoldable pub refuses_bulk : Book
unfolding on_interest
refuses_bulk e n =
    on_interest (λ o a. or o (opened e n o && eqb (class_number (name_class (met e n) a.ask.name)) (class_number bulk))
    (aged_first e n (nack_for Answer.NoRoute 150 (met e n) a.face a.ask))) e n

-- ---- the output buffer

-- the sends stand where they belong, and the buffer behind them is zeroed
unfoldable pub zeroing : List Send → List ℕ → Packed
zeroing ss b =
    let p = packed ss b in
    record {
      places = p.places;
      buffer = take (filled_to p.places) p.buffer ++ replicate (length b - filled_to p.places) 0;
    }
