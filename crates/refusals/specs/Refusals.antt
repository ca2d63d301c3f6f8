-- Document 01's table of answers, in its own words: the checks, their order, and when each applies. Nothing here is a test that
-- computes: `exactly` proves that the rules give each answer exactly so.
-- Assumes nothing.
use Rattle.std.specs.Prelude.{ℕ, ◌+◌, ◌-◌, ◌≤◌, ◌<◌, max, ◌≡◌, ◌⊎◌, ◌≢◌, Bool, true, false, not, length}
use mathlib.Core.List.{List, [], ◌∷◌, ◌++◌, Memᴰ}
use Rattle.std.proofs.Math.Option.{Option, none, some}
use Rattle.answers.specs.declared.Answer.{Answer}
use Rattle.laws.specs.Pick.{pick}
use Rattle.sizes.specs.Sizes.{most_packet, most_components, most_name}
use Rattle.wire.specs.declared.verdict.Verdict.{Verdict}
use Rattle.names.specs.Name.{counted, under_localhost, under_localhop}
use Rattle.packethead.specs.Name.{name_came}
use Rattle.packets.specs.Meaning.{Ask, Offer, Heard, refused, asks, brings, nacks}
use Rattle.sizes.specs.Sizes.{most_routes, most_entries, most_packet, most_name, most_components, most_cost, most_time, dead_time}
use Rattle.records.specs.Class.{Class, alarm, monitoring, bulk, is_class, reserve, is_of}
use Rattle.records.specs.Slots.{slot}
use Rattle.records.specs.Face.{Face, point_to_point, ad_hoc}
use Rattle.records.specs.Route.{Route}
use Rattle.records.specs.Entry.{Request, Sent, Entry, used_by}
use Rattle.records.specs.Stored.{Stored}
use Rattle.records.specs.Line.{Line}
use Rattle.rules.specs.Node.{Node, What, packet, open_face, close_face, set_route, drop_route, add_hop, drop_hop, Event, face_in, opens_face, print_of}
use Rattle.rules.specs.Ageing.{aged}
use Rattle.incoming.specs.Incoming.{Hears}

-- ---- the checks

-- a check for each answer but 0, and two for 4: "packet or name over its size"
pub data Check : Type 0 where
  Clock : Check
  SmallBuffer : Check
  BadFace : Check
  FaceOpen : Check
  PacketSize : Check
  Malformed : Check
  Unsupported : Check
  NameSize : Check
  BadSetting : Check
  HopLimit : Check
  Scope : Check
  Loop : Check
  NoRoute : Check
  NoRoom : Check
  Unsolicited : Check
  StaleNack : Check
  TableFull : Check

-- "Checks run in this order: 1, 2, 3, ageing, 14, packet over 1,500 (4), 5, 6, name size (4), 15, then 7 to 13 and 16 as listed": a check's
-- place in that order, from 0
abbrev pub place : Check → ℕ
place Clock = 0
place SmallBuffer = 1
place BadFace = 2
place FaceOpen = 3
place PacketSize = 4
place Malformed = 5
place Unsupported = 6
place NameSize = 7
place BadSetting = 8
place HopLimit = 9
place Scope = 10
place Loop = 11
place NoRoute = 12
place NoRoom = 13
place Unsolicited = 14
place StaleNack = 15
place TableFull = 16

-- the answer that a check gives
abbrev pub answer_of : Check → Answer
answer_of Clock = Answer.Clock
answer_of SmallBuffer = Answer.SmallBuffer
answer_of BadFace = Answer.BadFace
answer_of FaceOpen = Answer.FaceOpen
answer_of PacketSize = Answer.TooLong
answer_of Malformed = Answer.Malformed
answer_of Unsupported = Answer.Unsupported
answer_of NameSize = Answer.TooLong
answer_of BadSetting = Answer.BadSetting
answer_of HopLimit = Answer.HopLimit
answer_of Scope = Answer.Scope
answer_of Loop = Answer.Loop
answer_of NoRoute = Answer.NoRoute
answer_of NoRoom = Answer.NoRoom
answer_of Unsolicited = Answer.Unsolicited
answer_of StaleNack = Answer.StaleNack
answer_of TableFull = Answer.TableFull

-- ---- words about lists

-- x is the first element of a list that P holds of
abbrev pub First : {A : Type 0} → (A → Type 0) → A → List A → Type 0
First P x [] = ⊥
First P x (a ∷ l) = (P a × (a ≡ x)) ⊎ ((¬ P a) × First P x l)

-- P holds of no element of a list
abbrev pub NoneOf : {A : Type 0} → (A → Type 0) → List A → Type 0
NoneOf {A} P l = (a : A) → Memᴰ a l → ¬ P a

-- a name is a prefix of another
abbrev pub Prefix : List ℕ → List ℕ → Type 0
Prefix a b = (rest : List ℕ) × (b ≡ a ++ rest)

-- ---- words about faces

-- a face is open
abbrev pub Open : Node → ℕ → Type 0
Open n f = (x : Face) × (slot f n.faces ≡ some x)

-- it is local
abbrev pub Local : Node → ℕ → Type 0
Local n f = (x : Face) × (slot f n.faces ≡ some x) × (x.is_local ≡ true)

-- it is point-to-point
abbrev pub PointToPoint : Node → ℕ → Type 0
PointToPoint n f = (x : Face) × (slot f n.faces ≡ some x) × (x.link ≡ point_to_point)

-- it is ad hoc
abbrev pub AdHoc : Node → ℕ → Type 0
AdHoc n f = (x : Face) × (slot f n.faces ≡ some x) × (x.link ≡ ad_hoc)

-- ---- words about events

-- the prefix that it names
unfoldable pub prefix_in : What → Option (List ℕ)
prefix_in (packet f l) = none
prefix_in What.clock = none
prefix_in (open_face f scope link) = none
prefix_in (close_face f) = none
prefix_in (set_route c p) = some p
prefix_in (drop_route p) = some p
prefix_in (add_hop f cost p) = some p
prefix_in (drop_hop f p) = some p

-- an Interest comes in, whatever its bytes are as it leaves
abbrev pub Asks : Node → What → ℕ → Ask → Type 0
Asks n w f i = (bytes : List ℕ) × Hears n w f (asks i bytes)

-- a Data comes in
abbrev pub Brings : Node → What → ℕ → Offer → Type 0
Brings n w f d = (bytes : List ℕ) × Hears n w f (brings d bytes)

-- the name of an Interest, a Data or a Nack
unfoldable pub name_in : Heard → Option (List ℕ)
name_in (refused a) = none
name_in (asks i bytes) = some i.name
name_in (brings d bytes) = some d.name
name_in (nacks reason i) = some i.name

-- ---- words about entries and routes

-- "An entry is known by name and both flags."
pub record Known (i : Ask) (x : Entry) : Type 0 where
  pub name : i.name ≡ x.name
  pub prefix : i.can_be_prefix ≡ x.can_be_prefix
  pub fresh : i.must_be_fresh ≡ x.must_be_fresh

-- x is the entry of an Interest
abbrev pub EntryOf : Node → Ask → Entry → Type 0
EntryOf n i x = First (Known i) x n.pending

-- a face's in-record in an entry has a nonce
abbrev pub InRecord : Entry → ℕ → ℕ → Type 0
InRecord x f nonce = (r : Request) × (slot f x.requests ≡ some r) × (r.nonce ≡ nonce)

-- a face's out-record in an entry has a nonce
abbrev pub OutRecord : Entry → ℕ → ℕ → Type 0
OutRecord x f nonce = (s : Sent) × (slot f x.sent ≡ some s) × (s.nonce ≡ nonce)

-- no route has a prefix
abbrev pub NoPrefix : Node → List ℕ → Type 0
NoPrefix n p = NoneOf (λ (r : Route). p ≡ r.name) n.routes

-- the route of a prefix has no next hop on a face, or there is no such route
abbrev pub NoHop : Node → ℕ → List ℕ → Type 0
NoHop n f p = (r : Route) → First (λ (x : Route). p ≡ x.name) r n.routes → slot f r.hops ≡ none

-- a route matches a name
abbrev pub Fits : List ℕ → Route → Type 0
Fits name r = Prefix r.name name

-- no route of some that matches a name is longer
abbrev pub Longest : List ℕ → List Route → Route → Type 0
Longest name rs r = Fits name r × NoneOf (λ (x : Route). Fits name x × (length r.name < length x.name)) rs

-- r is "the longest matching route" for a name
abbrev pub RouteOf : Node → List ℕ → Route → Type 0
RouteOf n name r = First (Longest name n.routes) r n.routes

-- a face is a next hop of a route
abbrev pub NextHop : Route → ℕ → Type 0
NextHop r h = (cost : ℕ) × (slot h r.hops ≡ some cost)

-- ---- LOOP

-- "a live fingerprint equals this one"; "A line counts while now minus its time is under 6,000."
abbrev pub DeadNonce : ℕ → Node → Ask → Type 0
DeadNonce now n i =
    (d : Line) × Memᴰ d n.dead × (d.print ≡ print_of i.name i.nonce) × (now - d.time < dead_time)

-- "the entry has the nonce in another face's in-record, in any out-record, or in this face's in-record"
abbrev pub HasNonce : ℕ → Ask → Entry → Type 0
HasNonce f i x =
    ((g : ℕ) × (g ≢ f) × InRecord x g i.nonce) ⊎ ((g : ℕ) × OutRecord x g i.nonce) ⊎ InRecord x f i.nonce

-- "The entry does not count if the face is point-to-point and its own in-record has this nonce."
abbrev pub EntryLoops : Node → ℕ → Ask → Type 0
EntryLoops n f i = (x : Entry) × EntryOf n i x × HasNonce f i x × (¬ (PointToPoint n f × InRecord x f i.nonce))

-- ---- NO_ROUTE and NO_ROOM

-- "A lookup may take an equal name, with CanBePrefix also any name extending it, and with MustBeFresh only while now < storing time +
-- freshness"
abbrev pub Serves : ℕ → Ask → Stored → Type 0
Serves now i d =
    ((i.name ≡ d.name) ⊎ ((i.can_be_prefix ≡ true) × Prefix i.name d.name))
    × (i.must_be_fresh ≡ true → now < d.time + d.freshness)

-- "No entry: look in the store": there is none, and the store has no hit
abbrev pub AsksAnew : ℕ → Node → Ask → Type 0
AsksAnew now n i = NoneOf (Known i) n.pending × NoneOf (Serves now i) n.store

-- "Eligible": an Interest that came on face f and has no entry may leave on face h
pub record Eligible (n : Node) (f : ℕ) (i : Ask) (h : ℕ) : Type 0 where
  pub there : Open n h
  pub other : h ≡ f → AdHoc n f
  pub spent : (k : ℕ) → i.hop ≡ some k → k - 1 ≡ 0 → Local n h
  pub localhost : under_localhost i.name ≡ true → Local n h
  pub localhop : under_localhop i.name ≡ true → ¬ Local n f → Local n h

-- "there is none or no next hop of it is eligible": of the longest matching route
abbrev pub NoWay : Node → ℕ → Ask → Type 0
NoWay n f i =
    NoneOf (Fits i.name) n.routes ⊎ ((r : Route) × RouteOf n i.name r × ((h : ℕ) → NextHop r h → ¬ Eligible n f i h))

-- the use of a class, "counting the new entry", which has class c
abbrev pub use_with : (Class → Bool) → Class → List Entry → ℕ
use_with p c es = used_by p es + pick (p c) 1 0

-- "the sum over the classes of the larger of reserve and use, counting the new entry"; what is no class has no reserve
abbrev pub room_with : Class → List Entry → ℕ
room_with c es =
    max (reserve alarm) (use_with (is_of alarm) c es) + max (reserve monitoring) (use_with (is_of monitoring) c es)
    + max (reserve bulk) (use_with (is_of bulk) c es) + use_with (λ d. not (is_class d)) c es

-- "exceeds 64", for the class of the longest matching route
abbrev pub Full : Node → Ask → Type 0
Full n i = (r : Route) × RouteOf n i.name r × (most_entries < room_with r.cls n.pending)

-- ---- Data

-- "Data matches an entry of equal name, or with CanBePrefix and a name that is its prefix."
abbrev pub Matches : Offer → Entry → Type 0
Matches d x = (x.name ≡ d.name) ⊎ ((x.can_be_prefix ≡ true) × Prefix x.name d.name)

-- ---- when each check applies

-- 3: "number not 1..16; or not open, unless the event opens it"
abbrev pub WrongFace : ℕ → Node → What → Type 0
WrongFace faces n w =
    (f : ℕ) × (face_in w ≡ some f) × ((f < 1) ⊎ (faces < f) ⊎ ((opens_face w ≡ false) × (¬ Open n f)))

-- 14: "opening an open face"
abbrev pub OpensOpen : Node → What → Type 0
OpensOpen n w = (f : ℕ) × (scope : ℕ) × (link : ℕ) × (w ≡ open_face f scope link) × Open n f

-- 4: "packet .. over its size"
abbrev pub LongPacket : What → Type 0
LongPacket w = (f : ℕ) × (l : List ℕ) × (w ≡ packet f l) × (most_packet < length l)

-- a packet that its reading refuses by an answer: the words for a packet's 5 and 6 are the reader itself
abbrev pub Unread : Node → Answer → What → Type 0
Unread n a w = (f : ℕ) × Hears n w f (refused a)

-- 5: "bytes break the grammar", those of a packet or of a prefix
abbrev pub BrokenBytes : Node → What → Type 0
BrokenBytes n w = Unread n Answer.Malformed w ⊎ ((p : List ℕ) × (prefix_in w ≡ some p) × ((counted p).said ≡ Verdict.Malformed))

-- 6: "marked so below"
abbrev pub MarkedBytes : Node → What → Type 0
MarkedBytes n w = Unread n Answer.Unsupported w ⊎ ((p : List ℕ) × (prefix_in w ≡ some p) × ((counted p).said ≡ Verdict.Unsupported))

-- "Name at most 16 components and 255 bytes": a name is over its size
abbrev pub OverSize : List ℕ → Type 0
OverSize name = ((counted name).said ≡ Verdict.Fine) × ((most_name < length name) ⊎ (most_components < (counted name).count))

-- 4: "name over its size", that of a packet or of a command
abbrev pub LongName : What → Type 0
LongName w =
    ((f : ℕ) × (l : List ℕ) × (w ≡ packet f l) × OverSize (name_came l))
    ⊎ ((p : List ℕ) × (prefix_in w ≡ some p) × OverSize p)

-- 15: "class not 1..3, scope, link type or cost out of range"
abbrev pub WrongSetting : What → Type 0
WrongSetting w =
    ((f : ℕ) × (scope : ℕ) × (link : ℕ) × (w ≡ open_face f scope link) × ((1 < scope) ⊎ (2 < link)))
    ⊎ ((c : ℕ) × (p : List ℕ) × (w ≡ set_route c p) × ((c < 1) ⊎ (3 < c)))
    ⊎ ((f : ℕ) × (cost : ℕ) × (p : List ℕ) × (w ≡ add_hop f cost p) × (most_cost < cost))

-- 7: "Interest with HopLimit 0, not inside a Nack"
abbrev pub NoHopsLeft : Node → What → Type 0
NoHopsLeft n w = (f : ℕ) × (i : Ask) × Asks n w f i × (i.hop ≡ some 0)

-- 8: "Interest, Data or Nack under /localhost from a non-local face"
abbrev pub OutOfScope : Node → What → Type 0
OutOfScope n w =
    (f : ℕ) × (h : Heard) × Hears n w f h × ((name : List ℕ) × (name_in h ≡ some name) × (under_localhost name ≡ true)) × (¬ Local n f)

-- 9: "LOOP: a live fingerprint equals this one; or the entry has the nonce .."
abbrev pub Loops : ℕ → Node → What → Type 0
Loops now n w = (f : ℕ) × (i : Ask) × Asks n w f i × (DeadNonce now n i ⊎ EntryLoops n f i)

-- 10, for an Interest: "NO_ROUTE exactly when there is none or no next hop of it is eligible."
abbrev pub Unrouted : ℕ → Node → What → Type 0
Unrouted now n w = (f : ℕ) × (i : Ask) × Asks n w f i × AsksAnew now n i × NoWay n f i

-- 10, for a command: "A hop or drop on something absent is 10."
abbrev pub Absent : Node → What → Type 0
Absent n w =
    ((p : List ℕ) × (w ≡ drop_route p) × NoPrefix n p)
    ⊎ ((f : ℕ) × (cost : ℕ) × (p : List ℕ) × (w ≡ add_hop f cost p) × NoPrefix n p)
    ⊎ ((f : ℕ) × (p : List ℕ) × (w ≡ drop_hop f p) × NoHop n f p)

-- 11: "NO_ROOM exactly when the sum over the classes of the larger of reserve and use, counting the new entry, exceeds 64."
abbrev pub Crowded : ℕ → Node → What → Type 0
Crowded now n w = (f : ℕ) × (i : Ask) × Asks n w f i × AsksAnew now n i × Full n i

-- 12: "Data matching no entry"
abbrev pub Unasked : Node → What → Type 0
Unasked n w = (f : ℕ) × (d : Offer) × Brings n w f d × NoneOf (Matches d) n.pending

-- 13: "STALE_NACK exactly when the face is not point-to-point, or has no out-record with this nonce in that entry."
abbrev pub Stale : Node → What → Type 0
Stale n w =
    (f : ℕ) × (reason : ℕ) × (i : Ask) × Hears n w f (nacks reason i)
    × ((¬ PointToPoint n f) ⊎ ((x : Entry) → EntryOf n i x → ¬ OutRecord x f i.nonce))

-- 16: "a 33rd route"
abbrev pub NoPlace : Node → What → Type 0
NoPlace n w = (c : ℕ) × (p : List ℕ) × (w ≡ set_route c p) × NoPrefix n p × (most_routes ≤ length n.routes)

module _ (faces least : ℕ) (e : Event) (n : Node) where
  -- "Given exactly when": what a check asks of an event; from 14 on, of the node as ageing leaves it
  abbrev pub Applies : Check → Type 0
  Applies Clock = (e.time < n.time) ⊎ (most_time < e.time)
  Applies SmallBuffer = e.room < least
  Applies BadFace = WrongFace faces n e.what
  Applies FaceOpen = OpensOpen (aged e.time n) e.what
  Applies PacketSize = LongPacket e.what
  Applies Malformed = BrokenBytes (aged e.time n) e.what
  Applies Unsupported = MarkedBytes (aged e.time n) e.what
  Applies NameSize = LongName e.what
  Applies BadSetting = WrongSetting e.what
  Applies HopLimit = NoHopsLeft (aged e.time n) e.what
  Applies Scope = OutOfScope (aged e.time n) e.what
  Applies Loop = Loops e.time (aged e.time n) e.what
  Applies NoRoute = Unrouted e.time (aged e.time n) e.what ⊎ Absent (aged e.time n) e.what
  Applies NoRoom = Crowded e.time (aged e.time n) e.what
  Applies Unsolicited = Unasked (aged e.time n) e.what
  Applies StaleNack = Stale (aged e.time n) e.what
  Applies TableFull = NoPlace (aged e.time n) e.what

  -- a check decides where it applies and no check before it does
  pub record Decides (c : Check) : Type 0 where
    pub applies : Applies c
    pub earlier : (d : Check) → place d < place c → ¬ Applies d

  -- when an answer is given: where a check of that answer decides; 0 where none applies
  abbrev pub Given : Answer → Type 0
  Given a = ((c : Check) × (answer_of c ≡ a) × Decides c) ⊎ ((a ≡ Answer.Done) × ((d : Check) → ¬ Applies d))
